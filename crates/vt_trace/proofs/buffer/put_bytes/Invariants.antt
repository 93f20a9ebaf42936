-- The bytes before the place are written.
use Rattle.std.proofs.Common.{◌≡◌, ◌+◌, ◌++◌, take}
use Rattle.vt_trace.proofs.buffer.put_bytes.Given as goal

abbrev pub invariant-loop-i : goal.invariant-loop-i
invariant-loop-i l = record {
  items : take (l.at + l.i) l.buffer ≡ take l.at l.fn.buffer ++ take l.i l.bytes;
}
