-- What happens at bytes: in parts, how much, and what it gives all in all.
use Rattle.std.proofs.Common.{◌≡◌, ℕ, suc, List, [], ◌∷◌, ◌++◌, length, sym, ap, refl, ◌∙◌}
use Rattle.std.specs.List.{flat_map}
use Rattle.vt_syntax.specs.Held.{events_from, spell, IsHeldPart}
use Rattle.vt_syntax.specs.Laws.{SplitLaw}
use Rattle.vt_term.specs.State.{State}
use Rattle.vt_term.specs.Sound.{IsSoundSized}
use Rattle.vt_term.specs.Play.{Played, play}
use Rattle.vt_term.specs.Scrolling.{scrolled_off}
use Rattle.vt_term.specs.Happenings.{Happening, happening, happenings, events_in, lines_in}
use Rattle.vt_term.specs.Observers.{scrolled-append, scrolled-none}
use Rattle.vt_term.proofs.Cuts.{play-append, play-nothing}

pub length-happenings : (s : State) (bytes : List ℕ) → length (happenings s bytes) ≡ length bytes
length-happenings s [] = refl
length-happenings s (b ∷ bytes) = ap suc (length-happenings (play s (b ∷ [])).state bytes)

module _ (split : SplitLaw) where
  -- from a state that no bytes change
  parts : (s : State) (a b : List ℕ) → (play s []).state ≡ s
      → happenings s (a ++ b) ≡ happenings s a ++ happenings (play s a).state b
  parts s [] b same = ap (λ (t : State). happenings t b) (sym same)
  parts s (x ∷ a) b same =
      let next : State = (play s (x ∷ [])).state in
      let still : (play next []).state ≡ next = sym (ap (λ (p : Played). p.state) (play-append split s (x ∷ []) [])) in
      let after : (play next a).state ≡ (play s (x ∷ a)).state =
      sym (ap (λ (p : Played). p.state) (play-append split s (x ∷ []) a)) in
      ap (λ (hs : List Happening). happening s x ∷ hs)
      (parts next a b still ∙ ap (λ (t : State). happenings next a ++ happenings t b) after)

  pub happenings-append : (s : State) (a b : List ℕ) → IsSoundSized s
      → happenings s (a ++ b) ≡ happenings s a ++ happenings (play s a).state b
  happenings-append s a b sound = parts s a b (ap (λ (p : Played). p.state) (play-nothing split s sound))

  -- what bytes give in parts, they give by their happenings
  pub happened : {A : Type 0} (f : Happening → List A) (all : State → List ℕ → List A)
      → ((s : State) → IsHeldPart s.held → all s [] ≡ [])
      → ((s : State) (a b : List ℕ) → all s (a ++ b) ≡ all s a ++ all (play s a).state b)
      → ((s : State) (b : ℕ) → all s (b ∷ []) ≡ f (happening s b))
      → (s : State) (bytes : List ℕ) → IsHeldPart s.held → flat_map f (happenings s bytes) ≡ all s bytes
  unfolding play
  happened f all none two one s [] part = sym (none s part)
  happened f all none two one s (b ∷ bytes) part =
      let next : State = (play s (b ∷ [])).state in
      ap (λ t. f (happening s b) ++ t)
      (happened f all none two one next bytes (split.held_part (spell s.held ++ b ∷ [])))
      ∙ sym (two s (b ∷ []) bytes ∙ ap (λ t. t ++ all next bytes) (one s b))

  pub events-happened : (s : State) (bytes : List ℕ) → IsHeldPart s.held
      → events_in (happenings s bytes) ≡ events_from s.held bytes
  unfolding play
  events-happened = happened (λ h. h.events) (λ s bytes. events_from s.held bytes) (λ s part. split.events_nil s.held part)
      (λ s a b. split.events_append s.held a b) (λ s b. refl)

  pub lines-happened : (s : State) (bytes : List ℕ) → IsHeldPart s.held → lines_in (happenings s bytes) ≡ scrolled_off s bytes
  lines-happened = happened (λ h. h.lines) scrolled_off (scrolled-none split) (scrolled-append split) (λ s b. refl)
