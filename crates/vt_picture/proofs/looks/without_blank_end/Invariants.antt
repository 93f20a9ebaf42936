use Rattle.std.proofs.Common.{◌≡◌, ◌≤◌, length, take}
use Rattle.vt_picture.specs.Looks.{trimmed}
use Rattle.vt_picture.proofs.looks.without_blank_end.Given as goal

abbrev pub invariant-loop-end : goal.invariant-loop-end
invariant-loop-end l = record {
  within : l.end ≤ length l.cells;
  same : trimmed l.cells ≡ trimmed (take l.end l.cells);
}

abbrev pub decreases-loop-end : goal.decreases-loop-end
decreases-loop-end l = l.end
