-- Machines: what events do to the screens of a terminal. A VT220's screens are its display; another terminal's may have more, as a
-- page that isn't shown. (this profile)
use Rattle.std.specs.Prelude.{◌≡◌, ℕ, List, [], ◌∷◌, ◌++◌, fold}
use Rattle.vt_syntax.specs.declared.event.Event.{Event}
use Rattle.vt_syntax.specs.declared.event.Event.TheVariants.{Print}
use Rattle.vt_syntax.specs.declared.held.Held.{Held}
use Rattle.vt_term.specs.State.{Display}
use Rattle.vt_term.specs.Functions.{effect}
use Rattle.vt_term.specs.Reports.{report}

-- a machine over screens of a type: the display in them, the effect of each event, and its report in the screens before
-- it
pub record Machine (S : Type 0) : Type 0 where
  pub display : S → Display
  pub effect : Event → S → S
  pub report : Event → S → List ℕ

-- the screens after events
abbrev pub screens_after : {S : Type 0} → Machine S → List Event → S → S
screens_after m events s = fold (λ s event. m.effect event s) s events

-- the reports of events, each in the screens before its event
abbrev pub reports_after : {S : Type 0} → Machine S → List Event → S → List ℕ
reports_after m [] s = []
reports_after m (event ∷ events) s = m.report event s ++ reports_after m events (m.effect event s)

-- a VT220
abbrev pub vt220 : Machine Display
vt220 = record { display = λ s. s; effect = effect; report = report }

-- events keep the size of the screen, and what is of its size in the screens
pub record KeepsSize {S : Type 0} (m : Machine S) (OneSize : S → Type 0) : Type 0 where
  pub one_size : (event : Event) (s : S) → OneSize s → OneSize (m.effect event s)
  pub size : (event : Event) (s : S) → OneSize s → (m.display (m.effect event s)).grid.size ≡ (m.display s).grid.size

-- screens are a display and what else a terminal keeps; a graphic byte has a VT220's effect on the display, and no report
pub record PrintsAlike {S K : Type 0} (m : Machine S) (screens : Display → K → S) : Type 0 where
  pub display : (d : Display) (k : K) → m.display (screens d k) ≡ d
  pub effect : (b : ℕ) (d : Display) (k : K) → m.effect (Print b) (screens d k) ≡ screens (effect (Print b) d) k
  pub report : (b : ℕ) (s : S) → m.report (Print b) s ≡ []
