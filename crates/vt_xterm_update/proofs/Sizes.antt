-- Bytes keep an xterm's size, since each action does.
use Rattle.std.proofs.Common.{◌≡◌, ◌∙◌, ℕ, List, [], ◌∷◌, refl, sym, ap}
use Rattle.vt_screen.specs.declared.size.Size.{Size}
use Rattle.vt_feed.specs.Actions.{Action, actions, state_after}
use Rattle.vt_feed.specs.Languages.{utf8}
use Rattle.vt_xterm_display.specs.Functions.{xterm}
use Rattle.vt_xterm_display.specs.State.{XtermState}
use Rattle.vt_xterm_display.specs.Session.{Session, PlaysXterm}

abbrev Kept : (XtermState → Size) → Type 0
Kept size = (a : Action) (s : XtermState) → s.other.grid.size ≡ s.shown.grid.size → size (xterm.effect a s) ≡ s.shown.grid.size

module _ (shown : Kept (λ s. s.shown.grid.size)) (other : Kept (λ s. s.other.grid.size)) where
  actions-kept : (xs : List Action) (s : XtermState) → s.other.grid.size ≡ s.shown.grid.size
      → (state_after xterm xs s).shown.grid.size ≡ s.shown.grid.size
  actions-kept [] s one = refl
  actions-kept (a ∷ xs) s one =
      actions-kept xs (xterm.effect a s) (other a s one ∙ sym (shown a s one)) ∙ shown a s one

  pub size-kept : (s t : Session) (bytes before out : List ℕ) → s.screen.other.grid.size ≡ s.screen.shown.grid.size
      → PlaysXterm s bytes t before out → t.screen.shown.grid.size ≡ s.screen.shown.grid.size
  size-kept s t bytes before out one p =
      ap (λ (x : XtermState). x.shown.grid.size) p.state ∙ actions-kept (actions utf8 s.reading bytes) s.screen one
