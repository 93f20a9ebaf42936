-- The bytes before the place are written.
use Rattle.std.proofs.Common.{◌≡◌, ◌+◌, ◌*◌, ◌≤◌, ◌++◌, take, vec_len, vec_capacity}
use Rattle.vt_trace.specs.Lines.{shown}
use Rattle.vt_trace.proofs.bytes.push_all_shown.Given as goal

abbrev pub invariant-loop-b : goal.invariant-loop-b
invariant-loop-b l = record {
  items : l.out.items ≡ l.initial.out.items ++ shown (take l.b-index l.bytes);
  bounded : vec_len l.out ≤ vec_len l.initial.out + 4 * l.b-index;
  capacity : vec_capacity l.initial.out ≤ vec_capacity l.out;
}
