-- An xterm on a screen of another size is sound.
use Rattle.std.proofs.Common.{◌≡◌, ℕ, ◌+◌, ◌≤◌, Bool, true, false, ◌==◌, ◌&&◌, ◌||◌, min, if◌then◌else◌, inl, inr, refl, sym, ap, ◌∙◌, subst, arith}
use Rattle.std.specs.Prelude.{nat_le}
use Rattle.std.proofs.lemmas.Bool.{and_parts, false≢true}
use Rattle.std.proofs.lemmas.Bool.Decides.{eqb_tells}
use Rattle.vt_screen.specs.declared.size.Size.{Size}
use Rattle.vt_screen.specs.Sizes.{IsSize}
use Rattle.vt_screen.specs.Grid.{width_on_any}
use Rattle.vt_screen.proofs.Places.{width-bounds}
use Rattle.vt_term.specs.Sound.{IsSoundDisplayOf}
use Rattle.vt_term.specs.State.{last_column}
use Rattle.vt_term.specs.Resizing.{col_on, wrap_on, is_as_large, count_off}
use Rattle.vt_wide.specs.Whole.{beside}
use Rattle.vt_xterm_cell.specs.Cells.{blank_cell, is_second}
use Rattle.vt_xterm_cell.specs.Kinds.{xterm_cells}
use Rattle.vt_xterm_display.specs.declared.sides.Sides.{Sides}
use Rattle.vt_xterm_display.specs.State.{Shown, XtermState, full_sides}
use Rattle.vt_xterm_display.specs.Sound.{AreSides, IsSoundXterm}
use Rattle.vt_xterm_display.specs.Whole.{parts_none}
use Rattle.vt_xterm_display.specs.Tabs.{is_pending}
use Rattle.vt_xterm_display.specs.Resizing.{xterm_grid_on, xterm_off, xterm_on}
use Rattle.vt_xterm_display.proofs.Cut.{on_whole, on_first}
use Rattle.vt_xterm_display.proofs.Fits.{none_of, of_none, edge_none}

-- margins of a screen that is as large, or full ones
sides-sound : (large : Bool) (width other : ℕ) (m : Sides) → (large ≡ true → width ≡ other) → 2 ≤ other → AreSides width m
    → AreSides other (if large then m else full_sides other)
sides-sound true width other m same two sound = subst (λ (w : ℕ). AreSides w m) (same refl) sound
sides-sound false width other m same two sound = record { from_column_1 = omega arith; two_columns = omega (arith, two); to_last_column = omega arith }

sides-full : (large : Bool) (width other : ℕ) (m : Sides) → (large ≡ true → width ≡ other) → m ≡ full_sides width
    → (if large then m else full_sides other) ≡ full_sides other
sides-full true width other m same is = is ∙ ap full_sides (same refl)
sides-full false width other m same is = refl

columns-equal : (size : Size) (s : Shown) → is_as_large size s ≡ true → last_column s ≡ width_on_any size s.grid
columns-equal size s h = elim (eqb_tells s.grid.width (width_on_any size s.grid)) [
  | inl e ↦ e.1
  | inr e ↦ absurd (false≢true (sym e.0 ∙ (and_parts _ _ h).1))
]

-- a column of a screen that is as large
column-stays : (wrap : Bool) (width other col : ℕ) → width ≡ other → col ≤ width → (wrap ≡ true → col ≡ width)
    → col_on other col wrap ≡ col
column-stays true width other col same within last = omega (arith, same, last refl)
column-stays false width other col same within last = omega (arith, same, within)

other_some : (size : Size) (s : XtermState) → IsSize size → 1 ≤ width_on_any size s.other.grid
other_some size s sized =
    let two = width-bounds size (width_on_any size s.other.grid) sized (s.other.grid.width == s.other.grid.size.wide, refl) in
    omega (arith, two.0)

rows-equal : (size : Size) (s : Shown) → is_as_large size s ≡ true → s.grid.size.rows ≡ size.rows
rows-equal size s h = elim (eqb_tells s.grid.size.rows size.rows) [
  | inl e ↦ e.1
  | inr e ↦ absurd (false≢true (sym e.0 ∙ (and_parts _ _ h).0))
]

-- the margins and the rows of a screen that is as large stay, and full margins part nothing
resized_fits : (size : Size) (s : XtermState) → IsSize size → IsSoundXterm s
    → IsSoundDisplayOf xterm_cells.shown s.shown.grid.size s.shown → is_pending (xterm_on size s) ≡ true
    → (xterm_on size s).shown.cursor.col ≤ (xterm_on size s).sides.right + 1
    → parts_none (xterm_on size s).shown.grid (xterm_on size s).shown.cursor.row (xterm_on size s).sides.right ≡ true
resized_fits size s sized own shown pending near = go (is_as_large size s.shown) refl pending near
  where
    d : Shown
    d = s.shown

    other : ℕ
    other = width_on_any size d.grid

    before : (a b c : Bool) → (a && true || (b && c)) ≡ true → (a || b) ≡ true
    before true b c is = refl
    before false true c is = refl
    before false false c is = is

    go : (large : Bool) → is_as_large size d ≡ large
        → (s.waits && large || wrap_on other d.cursor.col d.cursor.wrap) ≡ true
        → col_on other d.cursor.col d.cursor.wrap ≤ (if large then s.sides else full_sides other).right + 1
        → parts_none (xterm_grid_on size (count_off size d) d.grid) (min d.cursor.row size.rows) (if large then s.sides else full_sides other).right ≡ true
    go false is pending near = edge_none _ _ other other refl refl
    go true is pending near =
        let rows : d.grid.size.rows ≡ size.rows = rows-equal size d is in
        let same : last_column d ≡ other = columns-equal size d is in
        let stays : col_on other d.cursor.col d.cursor.wrap ≡ d.cursor.col =
        column-stays d.cursor.wrap (last_column d) other d.cursor.col same shown.cursor.col_last shown.cursor.wrap_last in
        let wide : (2 ≤ other) × (other ≤ size.wide) = width-bounds size other sized (d.grid.width == d.grid.size.wide, refl) in
        let was : parts_none d.grid d.cursor.row s.sides.right ≡ true =
        own.fits (before s.waits d.cursor.wrap (nat_le other d.cursor.col) pending) (omega (arith, near, stays)) in
        let row : min d.cursor.row size.rows ≡ d.cursor.row = omega (arith, shown.cursor.row_last, rows) in
        let off : d.cursor.row + count_off size d ≡ d.cursor.row = omega (arith, shown.cursor.row_last, rows) in
        let low : 1 ≤ s.sides.right = omega (arith, own.sides.from_column_1, own.sides.two_columns) in
        rw row (none_of _ d.cursor.row s.sides.right (on_first size (count_off size d) d.grid own.kept.shown_whole (omega (arith, wide.0))
        d.cursor.row (s.sides.right + 1) shown.cursor.row_1 (omega (arith, shown.cursor.row_last, rows)) (omega (arith, off, shown.cursor.row_last))
        (ap (λ r. is_second (beside blank_cell d.grid r (s.sides.right + 1))) off ∙ of_none d.grid d.cursor.row s.sides.right low was)))

pub xterm_on-sound : (size : Size) (s : XtermState) → IsSize size → IsSoundXterm s
    → IsSoundDisplayOf xterm_cells.shown s.shown.grid.size s.shown → IsSoundXterm (xterm_on size s)
xterm_on-sound size s sized own shown =
    let d : Shown = s.shown in
    let width : ℕ = d.grid.width in
    let other : ℕ = width_on_any size d.grid in
    let large : Bool = is_as_large size d in
    let wide : (2 ≤ other) × (other ≤ size.wide) = width-bounds size other sized (d.grid.width == d.grid.size.wide, refl) in
    let stays : large ≡ true → col_on other d.cursor.col d.cursor.wrap ≡ d.cursor.col =
    λ h. column-stays d.cursor.wrap width other d.cursor.col (columns-equal size d h) shown.cursor.col_last shown.cursor.wrap_last in
    record {
      kept = record {
        shown_whole = on_whole size (count_off size d) d.grid own.kept.shown_whole (omega (arith, wide.0));
        other_whole = on_whole size (xterm_off size s) s.other.grid own.kept.other_whole (other_some size s sized);
      };
      one_size = refl;
      sides = sides-sound large width other s.sides (columns-equal size d) wide.0 own.sides;
      full = λ h. sides-full large width other s.sides (columns-equal size d) (own.full h);
      fits = λ pending near. resized_fits size s sized own shown pending near;
      waiting = λ h.
          let parts = and_parts s.waits large h in
          let was = own.waiting parts.0 in
          let same : width ≡ other = columns-equal size d parts.1 in
          record {
            wraps = was.wraps;
            at_margin = rw parts.1 (stays parts.1 ∙ was.at_margin);
            before_last = rw parts.1 (omega (arith, was.before_last, same));
          };
      origin = λ h.
          let parts = and_parts d.modes.decom large h in
          let was = own.origin parts.0 in
          let same : col_on other d.cursor.col d.cursor.wrap ≡ d.cursor.col = stays parts.1 in
          rw parts.1 (omega (arith, was.0, same), omega (arith, was.1, same));
    }
