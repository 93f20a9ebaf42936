-- The bytes before the place are taken, and what is written of them is written.
use Rattle.std.proofs.Common.{◌≡◌, ◌+◌, ◌-◌, ◌*◌, ◌≤◌, length, take, false, vec_capacity}
use Rattle.std.specs.Io.KnownBytes.{Appends}
use Rattle.vt_device.specs.Output.{IsAfter}
use Rattle.vt_device.proofs.output.write_chunk.Given as goal

abbrev pub invariant-loop-at : goal.invariant-loop-at
invariant-loop-at g l = record {
  within : l.at ≤ length l.chunk;
  after : IsAfter (g.O.Output.written l.initial.output) (g.O.Output.ending l.initial.output)
      (g.O.Output.there l.initial.output) (take l.at l.chunk) (g.O.Output.written l.output) (g.O.Output.ending l.output)
      (g.O.Output.there l.output);
  given : Appends (g.W.Write.contents l.initial.writer.device) (g.W.Write.contents l.writer.device)
      (g.O.Output.written l.initial.output (take l.at l.chunk));
  works : l.writer.failed ≡ false;
  ended : l.writer.ended ≡ l.initial.writer.ended;
  most : g.O.Output.most l.initial.output ≤ g.O.Output.most l.output;
  counted : g.O.Output.counted l.output ≤ g.O.Output.counted l.initial.output + 10 * l.at;
  reserve : g.O.Output.reserve l.output ≡ g.O.Output.reserve l.initial.output;
  capacity : vec_capacity l.initial.out ≤ vec_capacity l.out;
}

abbrev pub decreases-loop-at : goal.decreases-loop-at
decreases-loop-at g l = length l.chunk - l.at
