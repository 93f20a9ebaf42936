use Rattle.std.proofs.Common.{◌≡◌, ◌≤◌, ◌<◌, ◌↔◌, ◌-◌, ℕ, false, length, slice_index_or}
use Rattle.vt220_c.specs.Changed.{IsKept}
use Rattle.vt220_c.proofs.copying.mark_changes.Given as goal

abbrev pub invariant-loop-at : goal.invariant-loop-at
invariant-loop-at l = record {
  within : l.at ≤ length l.to;
  kept : (i : ℕ) → i < l.at → (slice_index_or l.changed i false ≡ false) ↔ IsKept l.shown l.to i;
  len : length l.changed ≡ length l.initial.changed;
}

abbrev pub decreases-loop-at : goal.decreases-loop-at
decreases-loop-at l = length l.to - l.at
