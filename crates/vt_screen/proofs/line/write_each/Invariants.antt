use Rattle.std.proofs.Common.{◌≡◌, ℕ, ◌<◌, get_or}
use Rattle.vt_glyph.specs.Encoding.{encoded_glyph}
use Rattle.vt_screen.specs.Cells.{blank, cell_like}
use Rattle.vt_screen.proofs.line.write_each.Given as goal

-- the cells before this one are written
abbrev pub invariant-loop-i : goal.invariant-loop-i
invariant-loop-i l = (k : ℕ) → k < l.i → get_or l.cells k blank ≡ cell_like l.like (encoded_glyph (get_or l.codes k 0))
