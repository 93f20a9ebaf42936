-- The xterm's kind of cells, for screens and terminals.
use Rattle.std.specs.Prelude.{◌≡◌, refl, Bool, true, false, IsTrue}
use Rattle.std.proofs.lemmas.Bool.{and_parts}
use Rattle.vt_screen.specs.Kinds.{CellsOf}
use Rattle.vt_term.specs.Kinds.{OwnOf}
use Rattle.vt_xterm_cell.specs.declared.look.Look.{Look}
use Rattle.vt_xterm_cell.specs.Look.{plain_look}
use Rattle.vt_xterm_cell.specs.Characters.{is_shown, has_columns, is_mark_or_none}
use Rattle.vt_xterm_cell.specs.Words.{CellParts, is_writable, has_colours, is_sound_cell}
use Rattle.vt_xterm_cell.specs.Cells.{written_cell, blank_cell, erased_cell, selectively_erased_cell}
use Rattle.vt_xterm_cell.specs.Rendition.{rendered, attribute_numbers}

abbrev pub xterm_cells : CellsOf CellParts
xterm_cells = record { blank = blank_cell; selectively_erased = selectively_erased_cell; shown = is_sound_cell }

abbrev pub xterm_own : OwnOf CellParts Look
xterm_own = record {
  brush_of = λ cell. cell.look;
  plain = plain_look;
  written = λ look glyph. written_cell look glyph false;
  emptied = erased_cell;
  attributes = rendered;
  attribute_numbers = attribute_numbers;
  protection = λ on look. record look { protected = on };
}

-- for screens: a blank cell is sound
pub blank_cell_shown : IsTrue (xterm_cells.shown xterm_cells.blank)
unfolding is_shown has_columns is_mark_or_none
blank_cell_shown = refl

erased_by : (protected : Bool) (cell : CellParts) → protected ≡ cell.look.protected → IsTrue (is_sound_cell cell)
    → IsTrue (is_sound_cell (selectively_erased_cell cell))
unfolding is_shown has_columns is_mark_or_none
erased_by true cell is h = rw (← is) h
erased_by false cell is h = rw (← is) (and_parts (is_writable cell) (has_colours cell.look) h).1

-- for screens: a selective erase leaves a sound cell
pub erased_cell_shown : (c : CellParts) → IsTrue (xterm_cells.shown c) → IsTrue (xterm_cells.shown (xterm_cells.selectively_erased c))
erased_cell_shown c h = erased_by c.look.protected c refl h
