use Rattle.std.proofs.Common.{◌≡◌, ◌+◌, ◌-◌, ◌≤◌, drop, length}
use Rattle.vt_picture.specs.Picture.{run_length}
use Rattle.vt_picture.proofs.runs.run_length.Given as goal

abbrev pub invariant-loop-i : goal.invariant-loop-i
invariant-loop-i l = record {
  run : l.i + run_length l.look (drop l.i l.cells) ≡ run_length l.look l.cells;
  within : l.i ≤ length l.cells;
}

abbrev pub decreases-loop-i : goal.decreases-loop-i
decreases-loop-i l = length l.cells - l.i
