-- The bytes before the place are read.
use Rattle.std.proofs.Common.{◌≤◌, ◌-◌, length, take}
use Rattle.arrayvec.specs.ArrayVec.{array_vec_len}
use Rattle.vt_utf8.specs.Text.{ReadsText}
use Rattle.vt_utf8.proofs.text.read_text.Given as goal

abbrev pub invariant-loop-at : goal.invariant-loop-at
invariant-loop-at l = record {
  within : l.at ≤ length l.piece;
  room : array_vec_len l.text ≤ l.room;
  read : ReadsText l.ascii (take l.at l.piece) l.initial.text.items l.text.items;
}

abbrev pub decreases-loop-at : goal.decreases-loop-at
decreases-loop-at l = length l.piece - l.at
