-- What a profile feeds keeps the screens of one size.
use Rattle.std.proofs.Common.{◌≡◌, ◌∙◌, ℕ, List, [], ◌∷◌, ap, refl, sym, subst}
use Rattle.vt_syntax.specs.declared.event.Event.{Event}
use Rattle.vt_syntax.specs.Held.{events_from}
use Rattle.vt_term.specs.State.{Display, State}
use Rattle.vt_term.specs.Machines.{Machine, KeepsSize, PrintsAlike, screens_after}
use Rattle.vt_term.specs.Observing.{Feeds}

module _ {S K : Type 0} (m : Machine S) (screens : Display → K → S) (OneSize : S → Type 0) (keeps : KeepsSize m OneSize) where
  after-one : (events : List Event) (s : S) → OneSize s → OneSize (screens_after m events s)
  after-one [] s one = one
  after-one (event ∷ events) s one = after-one events (m.effect event s) (keeps.one_size event s one)

  after-size : (events : List Event) (s : S) → OneSize s
      → (m.display (screens_after m events s)).grid.size ≡ (m.display s).grid.size
  after-size [] s one = refl
  after-size (event ∷ events) s one =
      after-size events (m.effect event s) (keeps.one_size event s one) ∙ keeps.size event s one

  pub feeds-one : (s : State) (k : K) (bytes : List ℕ) (t : State) (l : K) (before after : List ℕ)
      → Feeds m screens s k bytes t l before after → OneSize (screens s.display k) → OneSize (screens t.display l)
  feeds-one s k bytes t l before after fed one =
      subst OneSize (sym fed.screens_are) (after-one (events_from s.held bytes) (screens s.display k) one)

  pub feeds-size : PrintsAlike m screens → (s : State) (k : K) (bytes : List ℕ) (t : State) (l : K) (before after : List ℕ)
      → Feeds m screens s k bytes t l before after → OneSize (screens s.display k)
      → t.display.grid.size ≡ s.display.grid.size
  feeds-size prints s k bytes t l before after fed one =
      ap (λ (d : Display). d.grid.size) (sym (prints.display t.display l))
      ∙ ap (λ x. (m.display x).grid.size) fed.screens_are
      ∙ after-size (events_from s.held bytes) (screens s.display k) one
      ∙ ap (λ (d : Display). d.grid.size) (prints.display s.display k)
