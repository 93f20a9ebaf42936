use Rattle.std.proofs.Common.{◌≡◌, ℕ, ◌<◌, ◌≤◌, ◌-◌, length, get_or}
use Rattle.vt_glyph.specs.Encoding.{encoded_glyph}
use Rattle.vt_screen.specs.Cells.{blank, cell_like}
use Rattle.vt_screen.proofs.line.write_blocks.Given as goal

-- the cells before the place are written
abbrev pub invariant-loop-at : goal.invariant-loop-at
invariant-loop-at l = record {
  within : l.at ≤ length l.codes;
  written : (k : ℕ) → k < l.at → get_or l.cells k blank ≡ cell_like l.like (encoded_glyph (get_or l.codes k 0));
}

abbrev pub decreases-loop-at : goal.decreases-loop-at
decreases-loop-at l = length l.codes - l.at
