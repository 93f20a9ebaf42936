-- Bytes may be cut anywhere.
use Rattle.std.proofs.Common.{◌≡◌, ℕ, List, [], ◌∷◌, ◌++◌, refl, sym, ap, ◌∙◌, append_assoc}
use Rattle.std.proofs.lemmas.List.Sums.{fold-append}
use Rattle.vt_syntax.specs.declared.event.Event.{Event}
use Rattle.vt_syntax.specs.Held.{events_from, held_from}
use Rattle.vt_syntax.specs.Laws.{SplitLaw}
use Rattle.vt_term.specs.State.{Display, State}
use Rattle.vt_term.specs.Sound.{IsSoundSized}
use Rattle.vt_term.specs.Functions.{effect}
use Rattle.vt_term.specs.Reports.{report}
use Rattle.vt_term.specs.Play.{Played, after_events, reports_of, play, both, play_all, joined}

pub after_events-append : (xs ys : List Event) (s : Display)
    → after_events (xs ++ ys) s ≡ after_events ys (after_events xs s)
after_events-append xs ys s = fold-append (λ t event. effect event t) s xs ys

pub reports_of-append : (xs ys : List Event) (s : Display)
    → reports_of (xs ++ ys) s ≡ reports_of xs s ++ reports_of ys (after_events xs s)
reports_of-append [] ys s = refl
reports_of-append (x ∷ xs) ys s =
    ap (λ (t : List ℕ). report x s ++ t) (reports_of-append xs ys (effect x s))
    ∙ sym (append_assoc (report x s) (reports_of xs (effect x s)) (reports_of ys (after_events xs (effect x s))))

module _ (split : SplitLaw) where
  pub play-append : (s : State) (a b : List ℕ) → play s (a ++ b) ≡ both (play s a) (play (play s a).state b)
  unfolding play
  play-append s a b =
      let first = events_from s.held a in
      let second = events_from (held_from s.held a) b in
      rw (
        split.events_append s.held a b,
        split.held_append s.held a b,
        after_events-append first second s.display,
        reports_of-append first second s.display,
      ) refl

  pub play-nothing : (s : State) → IsSoundSized s → play s [] ≡ record { state = s; reports = [] }
  unfolding play
  play-nothing s sound = rw (split.events_nil s.held sound.held, split.held_nil s.held sound.held) refl

  pub play_all-joined : ((s : State) (bytes : List ℕ) → IsSoundSized s → IsSoundSized (play s bytes).state)
      → (s : State) (pieces : List (List ℕ)) → IsSoundSized s → play_all s pieces ≡ play s (joined pieces)
  play_all-joined keeps s [] sound = sym (play-nothing s sound)
  play_all-joined keeps s (piece ∷ pieces) sound =
      ap (λ (t : Played). both (play s piece) t)
      (play_all-joined keeps (play s piece).state pieces (keeps s piece sound))
      ∙ sym (play-append s piece (joined pieces))
