use Rattle.std.proofs.Common.{◌≡◌, ◌+◌, false, length}
use Rattle.std.specs.Io.KnownBytes.{Consumes}
use Rattle.vt_recording.proofs.reading.read_whole.Given as goal

abbrev pub invariant-loop-left : goal.invariant-loop-left
invariant-loop-left g l = record {
  taken : Consumes (g.R.Read.remaining l.initial.reader.device) (g.R.Read.remaining l.reader.device) l.bytes.items;
  total : length l.bytes.items + l.left ≡ l.limit + 1;
  works : l.reader.failed ≡ false;
  goes_on : l.reader.ended ≡ false;
}

abbrev pub decreases-loop-left : goal.decreases-loop-left
decreases-loop-left g l = l.left
