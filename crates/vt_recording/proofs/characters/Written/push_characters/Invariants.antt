use Rattle.std.proofs.Common.{◌≤◌, ◌++◌, ℕ, List, length, true}
use Rattle.vt_recording.specs.Characters.{AreWritten}
use Rattle.vt_recording.proofs.characters.Written.push_characters.Given as goal

abbrev pub invariant-loop-c : goal.invariant-loop-c
invariant-loop-c l = record {
  bound : l.self.replaced ≤ length l.self.bytes.items;
  written : (front : List ℕ) → AreWritten true l.most front l.initial.self.bytes.items l.initial.self.replaced
      → AreWritten true l.most (front ++ l.yielded) l.self.bytes.items l.self.replaced;
}
