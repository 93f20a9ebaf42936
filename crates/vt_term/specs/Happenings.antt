-- What happens at the bytes of a feed, as its observers are told of it. Contracts of `Observer` and of
-- `Terminal::feed_observed` cite this, and no other public clause does. (this profile)
use Rattle.std.specs.Prelude.{ℕ, List, [], ◌∷◌, flat_map}
use Rattle.vt_syntax.specs.declared.event.Event.{Event}
use Rattle.vt_syntax.specs.declared.held.Held.{Held}
use Rattle.vt_syntax.specs.Held.{events_from, held_from}
use Rattle.vt_screen.specs.declared.cell.Cell.{Cell}
use Rattle.vt_term.specs.State.{Display, State}
use Rattle.vt_term.specs.Machines.{Machine, screens_after}
use Rattle.vt_term.specs.Play.{play}
use Rattle.vt_term.specs.Scrolling.{lines_off, scrolled_off}

-- a byte with what is held before it, the display before it, its events, and the lines that they scroll off
pub record Happening : Type 0 where
  pub held : Held
  pub byte : ℕ
  pub before : Display
  pub events : List Event
  pub lines : List (List Cell)

abbrev pub happening : State → ℕ → Happening
happening s b = record {
  held = s.held;
  byte = b;
  before = s.display;
  events = events_from s.held (b ∷ []);
  lines = scrolled_off s (b ∷ []);
}

-- the happenings of bytes: one for each byte, so the place of a byte is that of its happening
abbrev pub happenings : State → List ℕ → List Happening
happenings s [] = []
happenings s (b ∷ bytes) = happening s b ∷ happenings (play s (b ∷ [])).state bytes

-- the happenings of bytes on a machine: the lines are those that a VT220 scrolls off the display at these events
abbrev pub happenings_on : {S : Type 0} → Machine S → S → Held → List ℕ → List Happening
happenings_on m s held [] = []
happenings_on m s held (b ∷ bytes) = record {
  held = held;
  byte = b;
  before = m.display s;
  events = events_from held (b ∷ []);
  lines = lines_off (events_from held (b ∷ [])) (m.display s);
} ∷ happenings_on m (screens_after m (events_from held (b ∷ [])) s) (held_from held (b ∷ [])) bytes

-- all their events, and all their lines
abbrev pub events_in : List Happening → List Event
events_in hs = flat_map (λ h. h.events) hs

abbrev pub lines_in : List Happening → List (List Cell)
lines_in hs = flat_map (λ h. h.lines) hs
