-- The first value and those before the place are written.
use Rattle.std.proofs.Common.{◌≡◌, ◌+◌, ◌*◌, ◌≤◌, ◌++◌, take}
use Rattle.std.specs.List.{flat_map}
use Rattle.vt_trace.specs.Lines.{further}
use Rattle.vt_trace.proofs.buffer.put_values.Given as goal

abbrev pub invariant-loop-value : goal.invariant-loop-value
invariant-loop-value l = record {
  items : take l.end l.buffer ≡ take l.initial.end l.initial.buffer ++ flat_map further (take l.value-index l.others);
  bounded : l.end ≤ l.initial.end + 6 * l.value-index;
}
