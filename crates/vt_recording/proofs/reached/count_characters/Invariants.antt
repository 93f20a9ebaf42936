use Rattle.std.proofs.Common.{◌≡◌, ◌≤◌, take, true}
use Rattle.vt_recording.specs.Reached.{length_of}
use Rattle.vt_recording.proofs.reached.count_characters.Given as goal

abbrev pub invariant-loop-byte : goal.invariant-loop-byte
invariant-loop-byte l = record {
  so_far : l.count ≡ length_of true (take l.byte-index l.text);
  small : l.count ≤ l.byte-index;
}
