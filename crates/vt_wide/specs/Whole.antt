-- Wide characters are whole, and each edit keeps them so. (this profile)
use Rattle.std.specs.Prelude.{◌≡◌, ℕ, ◌+◌, ◌-◌, ◌≤◌, List, length, All, Bool, true, false, if◌then◌else◌}
use Rattle.vt_screen.specs.declared.size.Size.{Size}
use Rattle.vt_screen.specs.Kinds.{CellsOf, erased_any}
use Rattle.vt_screen.specs.Grid.{GridOf, at_or, is_within, scroll_up_any, scroll_down_any, fill_any, blank_any}
use Rattle.vt_wide.specs.Kinds.{WideOf, IsLetter, IsNarrow, KeepsWhole}
use Rattle.vt_wide.specs.Edits.{erased, erased_span, inserted, deleted, moved_up, moved_down}
use Rattle.vt_wide.specs.Edits.{columns, written, written_inserting, written_bytes, joined_column, joined}

-- the cell of a column; before the first one and after the last one are blanks
abbrev pub beside : {C : Type 0} → C → GridOf C → ℕ → ℕ → C
beside z g r c = if is_within 1 g.width c then at_or z g r c else z

-- of two cells next to each other, the first one is wide exactly if the other one is its second cell
pub record Fit {C : Type 0} (k : WideOf C) (a b : C) : Type 0 where
  pub wide : k.is_wide a ≡ k.is_second b
  pub second : k.is_wide a ≡ true → b ≡ k.second a

-- no row parts a character
pub record IsWhole {C : Type 0} (k : WideOf C) (z : C) (g : GridOf C) : Type 0 where
  pub fit : (r c : ℕ) → 1 ≤ r → r ≤ g.size.rows → c ≤ g.width → Fit k (beside z g r c) (beside z g r (c + 1))

-- columns of a row
pub record AreIn {C : Type 0} (g : GridOf C) (row from to : ℕ) : Type 0 where
  pub inside : (1 ≤ row) × (row ≤ g.size.rows)
  pub some : (1 ≤ from) × (from ≤ to) × (to ≤ g.width)

-- each edit keeps wide characters whole
pub record WholeLaws {C : Type 0} (k : WideOf C) (cells : CellsOf C) : Type 0 where
  pub changes : (selective : Bool) (empty : C) → IsNarrow k empty → KeepsWhole k (erased_any cells selective empty)
  pub blank : (s : Size) (wide : Bool) (cell : C) → IsNarrow k cell → IsWhole k cells.blank (blank_any cell s wide)
  pub fill : (g : GridOf C) (cell : C) → IsNarrow k cell → IsWhole k cells.blank (fill_any g cell)
  pub erased : (change : C → C) (g : GridOf C) (row from to : ℕ) → KeepsWhole k change → AreIn g row from to
      → IsWhole k cells.blank g → IsWhole k cells.blank (erased k cells.blank change g row from to)
  pub erased_span : (change : C → C) (g : GridOf C) (row col to_row to_col : ℕ) → KeepsWhole k change → 1 ≤ col → 1 ≤ to_col
      → IsWhole k cells.blank g → IsWhole k cells.blank (erased_span k cells.blank change g row col to_row to_col)
  pub inserted : (empty : C) (g : GridOf C) (row col right n : ℕ) → IsNarrow k empty → AreIn g row col right
      → IsWhole k cells.blank g → IsWhole k cells.blank (inserted k cells.blank empty g row col right n)
  pub deleted : (empty : C) (g : GridOf C) (row col right n : ℕ) → IsNarrow k empty → AreIn g row col right
      → IsWhole k cells.blank g → IsWhole k cells.blank (deleted k cells.blank empty g row col right n)
  pub moved_up : (empty : C) (g : GridOf C) (top bottom left right n : ℕ) → IsNarrow k empty → 1 ≤ left → left ≤ right → right ≤ g.width
      → bottom ≤ g.size.rows
      → IsWhole k cells.blank g → IsWhole k cells.blank (moved_up k cells.blank empty g top bottom left right n)
  pub moved_down : (empty : C) (g : GridOf C) (top bottom left right n : ℕ) → IsNarrow k empty → 1 ≤ left → left ≤ right → right ≤ g.width → 1 ≤ top
      → IsWhole k cells.blank g → IsWhole k cells.blank (moved_down k cells.blank empty g top bottom left right n)
  pub scroll_up : (empty : C) (g : GridOf C) (top bottom n : ℕ) → IsNarrow k empty → bottom ≤ g.size.rows → 1 ≤ g.width
      → IsWhole k cells.blank g → IsWhole k cells.blank (scroll_up_any cells.blank empty g top bottom n)
  pub scroll_down : (empty : C) (g : GridOf C) (top bottom n : ℕ) → IsNarrow k empty → 1 ≤ top → 1 ≤ g.width
      → IsWhole k cells.blank g → IsWhole k cells.blank (scroll_down_any cells.blank empty g top bottom n)
  pub written : (empty : C) (g : GridOf C) (row col : ℕ) (cell : C) → IsNarrow k empty → k.is_second cell ≡ false
      → AreIn g row col (col + columns k cell - 1)
      → IsWhole k cells.blank g → IsWhole k cells.blank (written k cells.blank empty g row col cell)
  pub written_inserting : (empty : C) (g : GridOf C) (row col right : ℕ) (cell : C) → IsNarrow k empty → k.is_second cell ≡ false
      → AreIn g row col right → col + columns k cell ≤ right + 1
      → IsWhole k cells.blank g → IsWhole k cells.blank (written_inserting k cells.blank empty g row col right cell)
  pub written_bytes : (empty : C) (g : GridOf C) (row col : ℕ) (bytes : List ℕ) (pen : C) → IsNarrow k empty → All IsLetter bytes
      → AreIn g row col (col + length bytes - 1)
      → IsWhole k cells.blank g → IsWhole k cells.blank (written_bytes k cells.blank empty g row col bytes pen)
  pub joined : (g : GridOf C) (row col : ℕ) (wrap : Bool) (mark : ℕ) → AreIn g row col col
      → IsWhole k cells.blank g
      → IsWhole k cells.blank (joined k cells.blank g row (joined_column k cells.blank g row col wrap) mark)
