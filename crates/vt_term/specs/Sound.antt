-- The facts that hold of each state that bytes leave. (this profile)
use Rattle.std.specs.Prelude.{◌≡◌, ℕ, ◌≤◌, ◌<◌, length, Bool, true}
use Rattle.vt_syntax.specs.Held.{IsHeldPart}
use Rattle.vt_glyph.specs.GraphicSets.{AreSoundSets}
use Rattle.vt_screen.specs.declared.size.Size.{Size}
use Rattle.vt_screen.specs.Sizes.{vt220_size}
use Rattle.vt_screen.specs.Grid.{IsSoundGrid}
use Rattle.vt_term.specs.declared.state.Margins.{Margins}
use Rattle.vt_screen.specs.Grid.{IsSoundGridOf}
use Rattle.vt_screen.specs.Kinds.{vt220_cells}
use Rattle.vt_term.specs.State.{DisplayOf, Display, State, last_column, saved_sets}

-- margins of at least two rows, on a screen of so many
pub record AreSoundMargins (rows : ℕ) (m : Margins) : Type 0 where
  pub from_row_1 : 1 ≤ m.top
  pub two_rows : m.top < m.bottom
  pub to_last_row : m.bottom ≤ rows

-- a place of a screen of so many rows and of this width, and the wrap flag in the last column only
pub record IsPlace (rows width row col : ℕ) (wrap : Bool) : Type 0 where
  pub row_1 : 1 ≤ row
  pub row_last : row ≤ rows
  pub col_1 : 1 ≤ col
  pub col_last : col ≤ width
  pub wrap_last : wrap ≡ true → col ≡ width

-- all but the held part is sound, on a screen of this size
pub record IsSoundDisplayOf {C B : Type 0} (shown : C → Bool) (size : Size) (s : DisplayOf C B) : Type 0 where
  pub of_size : s.grid.size ≡ size
  pub grid : IsSoundGridOf shown s.grid
  pub cursor : IsPlace size.rows (last_column s) s.cursor.row s.cursor.col s.cursor.wrap
  -- the wrap flag is set under DECAWM only
  pub wrap : s.cursor.wrap ≡ true → s.modes.decawm ≡ true
  -- under DECOM the cursor is inside the margins
  pub origin : s.modes.decom ≡ true → (s.margins.top ≤ s.cursor.row) × (s.cursor.row ≤ s.margins.bottom)
  pub sets : AreSoundSets s.sets
  pub margins : AreSoundMargins size.rows s.margins
  pub stops : length s.stops ≡ size.wide
  -- the saved row may lie outside the margins
  pub saved : IsPlace size.rows (last_column s) s.saved.row s.saved.col s.saved.wrap
  pub saved_sets : AreSoundSets (saved_sets s.saved)

-- on a VT220
abbrev pub IsSoundDisplayAt : Size → Display → Type 0
IsSoundDisplayAt size s = IsSoundDisplayOf vt220_cells.shown size s

pub record IsSoundAt (size : Size) (s : State) : Type 0 where
  pub display : IsSoundDisplayAt size s.display
  pub held : IsHeldPart s.held

-- the display is sound at its own size
abbrev pub IsSoundSizedDisplay : Display → Type 0
IsSoundSizedDisplay s = IsSoundDisplayAt s.grid.size s

abbrev pub IsSoundSized : State → Type 0
IsSoundSized s = IsSoundAt s.display.grid.size s

-- the display is sound at a VT220's size
abbrev pub IsSoundDisplay : Display → Type 0
IsSoundDisplay s = IsSoundDisplayAt vt220_size s

abbrev pub IsSound : State → Type 0
IsSound s = IsSoundAt vt220_size s
