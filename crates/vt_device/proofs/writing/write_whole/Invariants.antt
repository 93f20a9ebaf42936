use Rattle.std.proofs.Common.{length, ◌-◌, ◌≡◌, ◌≤◌, take, false}
use Rattle.std.specs.Io.KnownBytes.{Appends}
use Rattle.vt_device.proofs.writing.write_whole.Given as goal

abbrev pub invariant-loop-at : goal.invariant-loop-at
invariant-loop-at g l = record {
  within : l.at ≤ length l.piece;
  given : Appends (g.W.Write.contents l.initial.writer.device) (g.W.Write.contents l.writer.device) (take l.at l.piece);
  failed : l.writer.failed ≡ false;
  ended : l.writer.ended ≡ l.initial.writer.ended;
}

abbrev pub decreases-loop-at : goal.decreases-loop-at
decreases-loop-at g l = length l.piece - l.at
