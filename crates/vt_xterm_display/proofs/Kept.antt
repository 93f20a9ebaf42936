-- Each edit of a page keeps wide characters whole.
use Rattle.std.proofs.Common.{◌≡◌, ℕ, ◌+◌, List, length, All, ◌≤◌, ◌<◌, Bool, true, false, ◌==◌, if◌then◌else◌, arith, refl, sym, subst, ◌∙◌}
use Rattle.vt_screen.specs.declared.size.Size.{Size}
use Rattle.vt_screen.specs.Kinds.{erased_any}
use Rattle.vt_screen.specs.Sizes.{width_of}
use Rattle.vt_screen.specs.Grid.{at_or, grid_of, blank_any}
use Rattle.vt_wide.specs.Kinds.{IsNarrow, IsLetter}
use Rattle.vt_wide.specs.Edits.{columns, erased, erased_span, inserted, deleted, moved_up, moved_down}
use Rattle.vt_wide.specs.Edits.{written, written_inserting, written_bytes}
use Rattle.vt_wide.specs.Edits.{joined_column, joined}
use Rattle.vt_wide.specs.Whole.{IsWhole, AreIn}
use Rattle.vt_wide.proofs.Wholes.{keeps_erased, filled_whole, erased_whole, erased_span_whole, inserted_whole, deleted_whole, moved_up_whole}
use Rattle.vt_wide.proofs.Wholes.{moved_down_whole, written_whole, written_inserting_whole, written_bytes_whole, joined_whole, joined_first}
use Rattle.vt_xterm_cell.specs.Words.{CellParts}
use Rattle.vt_xterm_cell.specs.Cells.{blank_cell, erased_cell, is_second}
use Rattle.vt_xterm_cell.specs.Kinds.{xterm_cells}
use Rattle.vt_xterm_cell.specs.Wide.{xterm_wide, xterm_halves, xterm_blank_narrow, xterm_erased_whole}
use Rattle.vt_term.specs.declared.state.SavedOf.{SavedOf}
use Rattle.vt_xterm_cell.specs.declared.look.Look.{Look}
use Rattle.vt_xterm_display.specs.declared.display.XtermDisplay.TheInside.{Inside}
use Rattle.vt_xterm_display.specs.State.{Grid, PageState, XtermState}
use Rattle.vt_xterm_display.specs.Sound.{IsSoundXterm}
use Rattle.vt_xterm_display.specs.Pages.{fitted}

abbrev pub Whole : Grid → Type 0
Whole g = IsWhole xterm_wide blank_cell g

-- a state, and what it is known to be once its display is read
abbrev pub state_of : Inside → XtermState
state_of i = record {
  shown = i.shown;
  other = i.other;
  sides = i.sides;
  bounded = i.bounded;
  waits = i.waits;
  alternate = i.alternate;
  resizes = i.resizes;
  settings = i.settings;
}

pub of_view : {x i : Inside} → x ≡ i → IsSoundXterm (state_of i) → IsSoundXterm (state_of x)
of_view is sound = subst (λ (i : Inside). IsSoundXterm (state_of i)) (sym is) sound

-- ---- pages of one cell

pub blank_kept : (g : Grid) (size : Size) (wide : Bool) → g ≡ blank_any blank_cell size wide → Whole g
blank_kept g size wide is = rw is (filled_whole xterm_wide blank_cell size (width_of size wide) blank_cell xterm_blank_narrow xterm_blank_narrow)

pub filled_kept : (size : Size) (width : ℕ) (h : Grid) (cell : CellParts) → cell.wide ≡ false → is_second cell ≡ false
    → h ≡ grid_of size width (λ r c. cell) → Whole h
filled_kept size width h cell wide second is =
    rw is (filled_whole xterm_wide blank_cell size width cell xterm_blank_narrow (record { wide = wide; second = second }))

chosen : (x : Bool) (page : PageState) (grid : Grid) (saved : SavedOf Look) → Whole page.grid → Whole grid
    → Whole (if x then page else record { grid = grid; saved = saved }).grid
chosen true page grid saved whole other = whole
chosen false page grid saved whole other = other

pub fitted_kept : (width : ℕ) (page : PageState) → Whole page.grid → Whole (fitted width page).grid
fitted_kept width page whole =
    chosen (page.grid.width == width) page _ _ whole (blank_kept _ page.grid.size (width == page.grid.size.wide) refl)

-- ---- edits

pub erased_kept : (selective : Bool) (empty : CellParts) (g h : Grid) (row from to : ℕ) → IsNarrow xterm_wide empty
    → h ≡ erased xterm_wide blank_cell (erased_any xterm_cells selective empty) g row from to
    → (1 ≤ row) × (row ≤ g.size.rows) → (1 ≤ from) × (from ≤ to) × (to ≤ g.width) → Whole g → Whole h
erased_kept selective empty g h row from to is e inside some whole =
    rw e (erased_whole xterm_wide blank_cell (erased_any xterm_cells selective empty) g row from to xterm_halves xterm_blank_narrow
    (keeps_erased xterm_wide xterm_cells xterm_erased_whole selective empty is) (record { inside = inside; some = some }) whole)

pub span_kept : (selective : Bool) (empty : CellParts) (g h : Grid) (row col to_row to_col : ℕ) → IsNarrow xterm_wide empty
    → h ≡ erased_span xterm_wide blank_cell (erased_any xterm_cells selective empty) g row col to_row to_col → 1 ≤ col → 1 ≤ to_col → Whole g → Whole h
span_kept selective empty g h row col to_row to_col is e col1 end1 whole =
    rw e (erased_span_whole xterm_wide blank_cell (erased_any xterm_cells selective empty) g row col to_row to_col xterm_halves xterm_blank_narrow
    (keeps_erased xterm_wide xterm_cells xterm_erased_whole selective empty is) col1 end1 whole)

pub inserted_kept : (empty : CellParts) (g h : Grid) (row col right n : ℕ) → IsNarrow xterm_wide empty
    → h ≡ inserted xterm_wide blank_cell empty g row col right n → (1 ≤ row) × (row ≤ g.size.rows) → (1 ≤ col) × (col ≤ right) × (right ≤ g.width)
    → Whole g → Whole h
inserted_kept empty g h row col right n is e inside some whole =
    rw e (inserted_whole xterm_wide blank_cell empty g row col right n xterm_halves xterm_blank_narrow is
    (record { inside = inside; some = some }) whole)

pub deleted_kept : (empty : CellParts) (g h : Grid) (row col right n : ℕ) → IsNarrow xterm_wide empty
    → h ≡ deleted xterm_wide blank_cell empty g row col right n → (1 ≤ row) × (row ≤ g.size.rows) → (1 ≤ col) × (col ≤ right) × (right ≤ g.width)
    → Whole g → Whole h
deleted_kept empty g h row col right n is e inside some whole =
    rw e (deleted_whole xterm_wide blank_cell empty g row col right n xterm_halves xterm_blank_narrow is
    (record { inside = inside; some = some }) whole)

-- rows that move between the margins, and the cell in the right margin's column of a row
pub up_kept : (empty : CellParts) (g h : Grid) (top bottom left right n : ℕ) → IsNarrow xterm_wide empty
    → h ≡ moved_up xterm_wide blank_cell empty g top bottom left right n → (1 ≤ left) × (left ≤ right) × (right ≤ g.width) → bottom ≤ g.size.rows
    → Whole g → Whole h
up_kept empty g h top bottom left right n is e columns low whole =
    rw e (moved_up_whole xterm_wide blank_cell empty g top bottom left right n xterm_halves xterm_blank_narrow is columns.0 columns.1 columns.2 low whole)

pub down_kept : (empty : CellParts) (g h : Grid) (top bottom left right n : ℕ) → IsNarrow xterm_wide empty
    → h ≡ moved_down xterm_wide blank_cell empty g top bottom left right n → (1 ≤ left) × (left ≤ right) × (right ≤ g.width) → 1 ≤ top
    → Whole g → Whole h
down_kept empty g h top bottom left right n is e columns low whole =
    rw e (moved_down_whole xterm_wide blank_cell empty g top bottom left right n xterm_halves xterm_blank_narrow is columns.0 columns.1 columns.2 low whole)

-- a mark
pub joined_kept : (g h : Grid) (row col at mark : ℕ) (wrap : Bool) → at ≡ joined_column xterm_wide blank_cell g row col wrap
    → h ≡ joined xterm_wide blank_cell g row at mark → (1 ≤ row) × (row ≤ g.size.rows) → 1 ≤ col → col ≤ g.width → Whole g → Whole h
joined_kept g h row col at mark wrap is e inside col1 high whole =
    rw (e, is) (joined_whole xterm_wide blank_cell g row col wrap mark xterm_halves xterm_blank_narrow
    (record { inside = inside; some = (col1, omega arith, high) }) whole)

-- ---- writing

pub written_kept : (empty cell : CellParts) (g h : Grid) (row col : ℕ) → IsNarrow xterm_wide empty → is_second cell ≡ false
    → h ≡ written xterm_wide blank_cell empty g row col cell → (1 ≤ row) × (row ≤ g.size.rows)
    → (1 ≤ col) × (col + columns xterm_wide cell ≤ g.width + 1) → Whole g → Whole h
written_kept empty cell g h row col is first e inside fits whole =
    rw e (written_whole xterm_wide blank_cell empty g row col cell xterm_halves xterm_blank_narrow is first
    (record { inside = inside; some = (fits.0, omega (arith, some cell.wide), omega (arith, fits, some cell.wide)) }) whole)
  where
    some : (x : Bool) → 1 ≤ (if x then 2 else 1)
    some true = omega arith
    some false = omega arith

pub pushed_kept : (empty cell : CellParts) (g h : Grid) (row col right : ℕ) → IsNarrow xterm_wide empty → is_second cell ≡ false
    → h ≡ written_inserting xterm_wide blank_cell empty g row col right cell → (1 ≤ row) × (row ≤ g.size.rows)
    → (1 ≤ col) × (col + columns xterm_wide cell ≤ right + 1) × (right ≤ g.width) → Whole g → Whole h
pushed_kept empty cell g h row col right is first e inside fits whole =
    rw e (written_inserting_whole xterm_wide blank_cell empty g row col right cell xterm_halves xterm_blank_narrow is first
    (record { inside = inside; some = (fits.0, omega (arith, fits, some cell.wide), fits.2) }) fits.1 whole)
  where
    some : (x : Bool) → 1 ≤ (if x then 2 else 1)
    some true = omega arith
    some false = omega arith

pub letters_kept : (empty pen : CellParts) (g h : Grid) (row col : ℕ) (bytes : List ℕ) → IsNarrow xterm_wide empty → All IsLetter bytes
    → h ≡ written_bytes xterm_wide blank_cell empty g row col bytes pen → (1 ≤ row) × (row ≤ g.size.rows) → 1 ≤ length bytes
    → (1 ≤ col) × (col + length bytes ≤ g.width + 1) → Whole g → Whole h
letters_kept empty pen g h row col bytes is letters e inside some fits whole =
    rw e (written_bytes_whole xterm_wide blank_cell empty g row col bytes pen xterm_halves xterm_blank_narrow is letters
    (record { inside = inside; some = (fits.0, omega (arith, some), omega (arith, fits, some)) }) whole)

-- the cell that REP repeats
pub repeated_first : (g : Grid) (row col : ℕ) (wrap : Bool) → (1 ≤ row) × (row ≤ g.size.rows) → 1 ≤ col → col ≤ g.width → Whole g
    → is_second (at_or blank_cell g row (joined_column xterm_wide blank_cell g row col wrap)) ≡ false
repeated_first g row col wrap inside col1 high whole =
    joined_first xterm_wide blank_cell g row col wrap xterm_halves xterm_blank_narrow (record { inside = inside; some = (col1, omega arith, high) }) whole
