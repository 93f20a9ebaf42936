-- The bytes before the place are content.
use Rattle.std.proofs.Common.{◌≡◌, ◌≤◌, ◌-◌, take, length, true}
use Rattle.std.specs.Prelude.{All}
use Rattle.vt_syntax.specs.Content.{goes_on}
use Rattle.vt_trace.proofs.skipped.content_len.Given as goal

abbrev pub invariant-loop-at : goal.invariant-loop-at
invariant-loop-at l = record {
  within : l.at ≤ length l.bytes;
  content : All (λ b. goes_on b ≡ true) (take l.at l.bytes);
}

abbrev pub decreases-loop-at : goal.decreases-loop-at
decreases-loop-at l = length l.bytes - l.at
