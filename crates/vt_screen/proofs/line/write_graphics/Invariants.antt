use Rattle.std.proofs.Common.{◌≡◌, ℕ, ◌<◌, ◌≤◌, ◌-◌, length, get_or}
use Rattle.vt_glyph.specs.Invocation.{glyph_in_use}
use Rattle.vt_screen.specs.Cells.{blank, cell_like}
use Rattle.vt_screen.proofs.line.write_graphics.Given as goal

-- the cells before the place are written
abbrev pub invariant-loop-at : goal.invariant-loop-at
invariant-loop-at l = record {
  within : l.at ≤ length l.bytes;
  written : (k : ℕ) → k < l.at → get_or l.cells k blank ≡ cell_like l.fn.like
      (glyph_in_use l.table (get_or l.bytes k 0));
}

abbrev pub decreases-loop-at : goal.decreases-loop-at
decreases-loop-at l = length l.bytes - l.at

abbrev pub invariant-loop-at-2 : goal.invariant-loop-at-2
invariant-loop-at-2 l = record {
  within : l.at ≤ length l.bytes;
  written : (k : ℕ) → k < l.at → get_or l.cells k blank ≡ cell_like l.fn.like
      (glyph_in_use l.table (get_or l.bytes k 0));
}

abbrev pub decreases-loop-at-2 : goal.decreases-loop-at-2
decreases-loop-at-2 l = length l.bytes - l.at
