-- The law of a repaint: its bytes are read as its actions, which make the state on any session.
use Rattle.std.proofs.Common.{◌≡◌, ◌⊎◌, inl, inr, ℕ, List, [], ◌∷◌, ◌++◌, All, drop, refl, sym, ap, ◌∙◌, append-nil}
use Rattle.std.specs.Prelude.{◌↔◌}
use Rattle.bstr.specs.Utf8.{replacement}
use Rattle.vt_syntax.specs.declared.held.Held.TheVariants.{Nothing}
use Rattle.vt_feed.specs.Actions.{Action, Character, actions, read_after, state_after, reports}
use Rattle.vt_feed.specs.Languages.{Reading, reading, utf8}
use Rattle.vt_feed.specs.Spelled.{spell, IsSpelled, IsReading, given_up_at_escape}
use Rattle.vt_feed.proofs.Playing.{reports-append}
use Rattle.vt_xterm_display.specs.Functions.{xterm}
use Rattle.vt_xterm_display.specs.State.{XtermState}
use Rattle.vt_xterm_repaint.specs.Repaint.{repaint_actions, repaint}
use Rattle.vt_xterm_repaint.specs.Makeable.{CanBeMade, Rebuilds}
use Rattle.vt_xterm_repaint.proofs.Parts.{has-parts}
use Rattle.vt_xterm_repaint.proofs.Rows.{after-append}
use Rattle.vt_xterm_repaint.proofs.Rebuilt.{repaint-made}
use Rattle.vt_xterm_repaint.proofs.Sendable.{sends-silent, sends-spelled, repaint-sent}
use Rattle.vt_xterm_repaint.proofs.Sizes.{size-kept}

-- the first byte is ESC
starts : (w : XtermState) → spell (repaint_actions w) ≡ 0x1B ∷ drop 1 (spell (repaint_actions w))
unfolding repaint_actions
starts w = refl

-- at most a character comes before
record IsBefore (xs : List Action) (s : XtermState) : Type 0 where
  size : (state_after xterm xs s).shown.grid.size ≡ s.shown.grid.size
  silent : reports xterm xs s ≡ []

before-is : (xs : List Action) (s : XtermState) → (xs ≡ []) ⊎ (xs ≡ Character replacement ∷ []) → IsBefore xs s
before-is xs s (inl is) = rw is (record { size = refl; silent = refl })
before-is xs s (inr is) = rw is (record { size = size-kept replacement s; silent = refl })

module _
    (asked : (r : Reading) (xs : List Action) (more : List ℕ) → IsReading r → All IsSpelled xs → spell xs ≡ 0x1B ∷ more
    → actions utf8 r (spell xs) ≡ given_up_at_escape r ++ xs)
    (left : (r : Reading) (xs : List Action) (more : List ℕ) → IsReading r → All IsSpelled xs → spell xs ≡ 0x1B ∷ more
    → read_after utf8 r (spell xs) ≡ reading Nothing [])
    (gives_up : (r : Reading) → (given_up_at_escape r ≡ []) ⊎ (given_up_at_escape r ≡ Character replacement ∷ [])) where
  pub repaint-rebuilds : (w : XtermState) → CanBeMade w → Rebuilds w
  unfolding repaint
  repaint-rebuilds w can u before is size =
      let r = u.reading in
      let s = u.screen in
      let given = given_up_at_escape r in
      let xs = repaint_actions w in
      let more = drop 1 (spell (repaint_actions w)) in
      let sent = repaint-sent w (has-parts w can) in
      let spelled = sends-spelled xs sent in
      let first = before-is given s (gives_up r) in
      let acts : actions utf8 r (spell xs) ≡ given ++ xs = asked r xs more is spelled (starts w) in
      record {
        state = sym (ap (λ (ys : List Action). state_after xterm ys s) acts ∙ after-append given xs s
            ∙ repaint-made w (has-parts w can) (state_after xterm given s) (first.size ∙ size));
        read = sym (left r xs more is spelled (starts w));
        reports_are = sym (ap (λ (out : List ℕ). before ++ out)
            (ap (λ (ys : List Action). reports xterm ys s) acts ∙ reports-append xterm given xs s
            ∙ ap (λ (out : List ℕ). out ++ reports xterm xs (state_after xterm given s)) first.silent
            ∙ sends-silent xs sent (state_after xterm given s))
            ∙ append-nil before);
      }

-- two states of one size with the same repaint are the same: both are made from the first one
pub repaint-canonical : ((xs : List Action) → All IsSpelled xs → actions utf8 (reading Nothing []) (spell xs) ≡ xs)
    → (v w : XtermState) → CanBeMade v → CanBeMade w → v.shown.grid.size ≡ w.shown.grid.size → (v ≡ w) ↔ (repaint v ≡ repaint w)
unfolding repaint
repaint-canonical asked v w can_v can_w size = (
  λ is. ap (λ (s : XtermState). spell (repaint_actions s)) is,
  λ is.
      let first : actions utf8 (reading Nothing []) (spell (repaint_actions v)) ≡ repaint_actions v =
      asked (repaint_actions v) (sends-spelled _ (repaint-sent v (has-parts v can_v))) in
      let second : actions utf8 (reading Nothing []) (spell (repaint_actions w)) ≡ repaint_actions w =
      asked (repaint_actions w) (sends-spelled _ (repaint-sent w (has-parts w can_w))) in
      let same : repaint_actions v ≡ repaint_actions w =
      sym first ∙ ap (λ (bytes : List ℕ). actions utf8 (reading Nothing []) bytes) is ∙ second in
      sym (repaint-made v (has-parts v can_v) v refl) ∙ ap (λ (xs : List Action). state_after xterm xs v) same ∙ repaint-made w (has-parts w can_w) v size,
)
