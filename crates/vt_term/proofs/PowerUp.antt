-- The state at power-up is sound.
use Rattle.std.proofs.Common.{◌≡◌, ℕ, ◌≤◌, false, length, rules, arith, refl, IsTrue}
use Rattle.vt_glyph.specs.GraphicSets.{AreSoundSets}
use Rattle.vt_glyph.specs.Invocation.{sets_at_power_up}
use Rattle.vt_screen.specs.Sizes.{vt220_size, IsSize}
use Rattle.vt_screen.specs.declared.size.Size.{Size}
use Rattle.vt_screen.specs.Shown.{blank_is_shown}
use Rattle.vt_screen.specs.Grid.{IsSoundGridOf, blank_any}
use Rattle.vt_screen.proofs.SoundGrids.{blank_grid-sound}
use Rattle.vt_term.specs.State.{display_of, display_any, stops_of, is_stop_at_power_up}
use Rattle.vt_term.specs.Kinds.{KindOf}
use Rattle.vt_term.specs.Rendition.{vt220_kind}
use Rattle.vt_term.specs.Sound.{IsSoundDisplayAt, IsSoundDisplayOf}
use Rattle.vt_term.proofs.Stops.{length-stops_where}

length-stops_of : (columns : ℕ) → length (stops_of columns) ≡ columns
unfolding stops_of
length-stops_of columns = length-stops_where columns is_stop_at_power_up

sets_sound : AreSoundSets sets_at_power_up
sets_sound = search rules

pub vt220-is : IsSize vt220_size
vt220-is = record { rows = (omega arith, omega arith); narrow = omega arith; wide = omega arith; columns = omega arith }

pub display_any-sound : {C B : Type 0} (k : KindOf C B) → IsTrue (k.cells.shown k.cells.blank) → (size : Size) → IsSize size
    → IsSoundDisplayOf k.cells.shown size (display_any k size)
display_any-sound k shown size sized =
    let grid : IsSoundGridOf k.cells.shown (blank_any k.cells.blank size false) =
    blank_grid-sound k.cells.blank size false shown sized in
    let stops = length-stops_of size.wide in
    let two : 2 ≤ size.rows = sized.rows.0 in
    let some : 1 ≤ size.narrow = omega (arith, sized.narrow) in
    search (rules, grid, sets_sound, stops, two, some)

pub display_of-sound : (size : Size) → IsSize size → IsSoundDisplayAt size (display_of size)
display_of-sound size sized = display_any-sound vt220_kind blank_is_shown size sized
