-- The state of a terminal. (EK-VT220-RM, chapter 4, for the parts; the values at power-up are this profile's)
use Rattle.std.specs.Prelude.{ℕ, ◌-◌, ◌%◌, List, map, Bool, true, false, None, ◌==◌, ◌&&◌, nat_lt, slice_index_or}
use Rattle.std.specs.List.{range_with_len}
use Rattle.vt_syntax.specs.declared.held.Held.{Held}
use Rattle.vt_syntax.specs.declared.held.Held.TheVariants.{Nothing}
use Rattle.vt_glyph.specs.GraphicSets.{GraphicSets}
use Rattle.vt_glyph.specs.Invocation.{sets_at_power_up}
use Rattle.vt_screen.specs.declared.cell.Brush.{Brush}
use Rattle.vt_screen.specs.Cells.{plain_brush}
use Rattle.vt_screen.specs.Grid.{GridOf, blank_grid, blank_any}
use Rattle.vt_screen.specs.Sizes.{vt220_size}
use Rattle.vt_screen.specs.declared.size.Size.{Size}
use Rattle.vt_term.specs.declared.state.Cursor.{Cursor}
use Rattle.vt_term.specs.declared.state.Margins.{Margins}
use Rattle.vt_term.specs.declared.state.Modes.{Modes}
use Rattle.vt_term.specs.declared.state.SavedOf.{SavedOf}
use Rattle.vt_term.specs.Kinds.{KindOf}
use Rattle.vt_screen.specs.declared.cell.Cell.{Cell}

-- all but the held part: what events change
pub record DisplayOf (C B : Type 0) : Type 0 where
  pub grid : GridOf C
  pub cursor : Cursor
  pub brush : B
  pub sets : GraphicSets
  pub margins : Margins
  pub stops : List Bool
  pub modes : Modes
  pub saved : SavedOf B

-- those of a VT220
abbrev pub Saved : Type 0
Saved = SavedOf Brush

abbrev pub Display : Type 0
Display = DisplayOf Cell Brush

-- the whole state: the display, and what of an unfinished sequence is held
pub record State : Type 0 where
  pub display : Display
  pub held : Held

-- the number of rows of the screen
abbrev pub bottom_row : {C B : Type 0} → DisplayOf C B → ℕ
bottom_row s = s.grid.size.rows

-- the width of the screen, that of a narrow or of a wide one
abbrev pub last_column : {C B : Type 0} → DisplayOf C B → ℕ
last_column s = s.grid.width

-- ---- the values at power-up

-- the cursor at a place, the wrap flag reset
abbrev pub at_place : ℕ → ℕ → Cursor
at_place row col = record { row = row; col = col; wrap = false }

-- the margins of all rows
abbrev pub margins_of : Size → Margins
margins_of size = record { top = 1; bottom = size.rows }

-- one truth value for each of these columns, as many as the wide screen has, whatever the width
abbrev pub stops_where : ℕ → (ℕ → Bool) → List Bool
stops_where columns has_stop = map has_stop (range_with_len 1 columns)

-- columns 9, 17, 25 ..
abbrev pub is_stop_at_power_up : ℕ → Bool
is_stop_at_power_up c = nat_lt 1 c && c % 8 == 1

unfoldable pub stops_of : ℕ → List Bool
stops_of columns = stops_where columns is_stop_at_power_up

abbrev pub has_stop_at : List Bool → ℕ → Bool
has_stop_at stops c = slice_index_or stops (c - 1) false

-- SRM, DECAWM, DECARM and DECTCEM are set
abbrev pub modes_at_power_up : Modes
modes_at_power_up = record {
  kam = false;
  irm = false;
  srm = true;
  lnm = false;
  decckm = false;
  decsclm = false;
  decscnm = false;
  decom = false;
  decawm = true;
  decarm = true;
  dectcem = true;
  keypad_application = false;
  reports_8bit = false;
}

-- what DECSC saves (EK-VT220-RM, chapter 4; the wrap flag is this profile's)
abbrev pub saved_of : {B : Type 0} → Cursor → B → GraphicSets → Bool → SavedOf B
saved_of cursor brush sets origin = record {
  row = cursor.row;
  col = cursor.col;
  wrap = cursor.wrap;
  brush = brush;
  g = sets.g;
  gl = sets.left;
  gr = sets.right;
  origin = origin;
}

abbrev pub saved_at_power_up : Saved
saved_at_power_up = saved_of (at_place 1 1) plain_brush sets_at_power_up false

-- what a kind has saved at power-up
abbrev pub saved_any : {C B : Type 0} → KindOf C B → SavedOf B
saved_any k = saved_of (at_place 1 1) k.own.plain sets_at_power_up false

-- the saved sets; a single shift isn't saved
abbrev pub saved_sets : {B : Type 0} → SavedOf B → GraphicSets
saved_sets saved = record { g = saved.g; left = saved.gl; right = saved.gr; pending = None }

-- the display of a kind at power-up
abbrev pub display_any : {C B : Type 0} → KindOf C B → Size → DisplayOf C B
display_any k size = record {
  grid = blank_any k.cells.blank size false;
  cursor = at_place 1 1;
  brush = k.own.plain;
  sets = sets_at_power_up;
  margins = margins_of size;
  stops = stops_of size.wide;
  modes = modes_at_power_up;
  saved = saved_any k;
}

abbrev pub display_of : Size → Display
display_of size = record {
  grid = blank_grid size false;
  cursor = at_place 1 1;
  brush = plain_brush;
  sets = sets_at_power_up;
  margins = margins_of size;
  stops = stops_of size.wide;
  modes = modes_at_power_up;
  saved = saved_at_power_up;
}

abbrev pub state_of : Size → State
state_of size = record { display = display_of size; held = Nothing }

-- ---- the values of a VT220 at power-up

abbrev pub full_margins : Margins
full_margins = margins_of vt220_size

abbrev pub display_at_power_up : Display
display_at_power_up = display_of vt220_size

abbrev pub power_up : State
power_up = state_of vt220_size
