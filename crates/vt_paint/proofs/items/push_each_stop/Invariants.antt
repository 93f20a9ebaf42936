use Rattle.std.proofs.Common.{◌≡◌, ◌+◌, ◌*◌, ◌≤◌, ◌++◌, vec_len, vec_capacity}
use Rattle.vt_syntax.specs.Spelling.{spell_events}
use Rattle.vt_paint.specs.Private.Parts.{stops_from}
use Rattle.vt_paint.proofs.items.push_each_stop.Given as goal

abbrev pub invariant-loop-i : goal.invariant-loop-i
invariant-loop-i l = record {
  items : l.out.items ≡ l.fn.out.items ++ spell_events (stops_from l.stops 1 l.i);
  bounded : vec_len l.out ≤ vec_len l.fn.out + 10 * l.i;
  capacity : vec_capacity l.fn.out ≤ vec_capacity l.out;
}
