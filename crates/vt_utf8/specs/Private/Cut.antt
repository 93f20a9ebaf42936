-- A pending part that a byte cuts off: one byte beyond ASCII, which this byte doesn't continue.
use Rattle.std.specs.Prelude.{◌≡◌, ◌≤◌, ℕ, List, length, slice_index, false}
use Rattle.bstr.specs.Utf8.{continues}

pub record IsCut (pending : List ℕ) (b : ℕ) : Type 0 where
  pub one : length pending ≡ 1
  pub beyond : 0x80 ≤ slice_index pending 0
  pub apart : continues b ≡ false
