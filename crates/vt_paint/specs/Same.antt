-- Tests whether two parts of a state are equal. (this profile)
use Rattle.std.specs.Prelude.{Bool, ◌==◌, ◌&&◌}
use Rattle.std.specs.Cmp.Lexicographic.{pointwise}
use Rattle.vt_glyph.specs.declared.set.Set.{Set}
use Rattle.vt_glyph.specs.Designation.{final_of}
use Rattle.vt_screen.specs.declared.cell.Cell.{Cell}
use Rattle.vt_screen.specs.Cells.{blank, brush_of}
use Rattle.vt_screen.specs.Same.{same_bool, same_brush}
use Rattle.vt_term.specs.State.{Saved}

abbrev pub is_blank : Cell → Bool
is_blank cell = cell.glyph == blank.glyph && same_brush (brush_of cell) (brush_of blank)

-- two sets are equal if their final bytes are
abbrev pub same_set : Set → Set → Bool
same_set a b = final_of a == final_of b

abbrev pub same_saved : Saved → Saved → Bool
same_saved a b =
    a.row == b.row && (a.col == b.col && (same_bool a.wrap b.wrap && (same_brush a.brush b.brush
    && (pointwise same_set a.g b.g && (a.gl == b.gl && (a.gr == b.gr && same_bool a.origin b.origin))))))
