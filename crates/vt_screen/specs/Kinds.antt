-- Kinds of cells: what is done to a cell of a type.
use Rattle.std.specs.Prelude.{Bool, if◌then◌else◌}
use Rattle.vt_glyph.specs.Tables.{is_glyph}
use Rattle.vt_screen.specs.declared.cell.Cell.{Cell}
use Rattle.vt_screen.specs.Cells.{blank, selectively_erased}

-- the cell that nothing was written to, what a selective erase makes of a cell, and a test that each cell passes
pub record CellsOf (C : Type 0) : Type 0 where
  pub blank : C
  pub selectively_erased : C → C
  pub shown : C → Bool

abbrev pub erased_any : {C : Type 0} → CellsOf C → Bool → C → C → C
erased_any k selective empty cell = if selective then k.selectively_erased cell else empty

-- the cells of a VT220
abbrev pub vt220_cells : CellsOf Cell
vt220_cells = record {
  blank = blank;
  selectively_erased = selectively_erased;
  shown = λ cell. is_glyph cell.glyph;
}
