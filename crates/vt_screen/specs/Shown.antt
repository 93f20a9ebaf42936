-- Each cell of a VT220 shows a glyph.
use Rattle.std.specs.Prelude.{◌≡◌, Bool, true, false, refl, IsTrue}
use Rattle.vt_glyph.specs.Tables.{is_glyph}
use Rattle.vt_screen.specs.declared.cell.Cell.{Cell}
use Rattle.vt_screen.specs.Kinds.{vt220_cells}

pub blank_is_shown : IsTrue (vt220_cells.shown vt220_cells.blank)
unfolding is_glyph
blank_is_shown = refl

erased_by : (protected : Bool) (cell : Cell) → protected ≡ cell.protected → IsTrue (is_glyph cell.glyph) → IsTrue (is_glyph (vt220_cells.selectively_erased cell).glyph)
unfolding is_glyph
erased_by true cell is h = rw (← is) h
erased_by false cell is h = rw (← is) refl

pub erased_is_shown : (c : Cell) → IsTrue (vt220_cells.shown c) → IsTrue (vt220_cells.shown (vt220_cells.selectively_erased c))
erased_is_shown c h = erased_by c.protected c refl h
