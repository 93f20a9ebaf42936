use Rattle.std.proofs.Common.{◌≡◌, ◌+◌, ◌-◌, ◌≤◌, ◌<◌, ◌⊎◌, ℕ}
use Rattle.vt_screen.specs.Order.{start_of}
use Rattle.vt_screen.proofs.order.RowOrder.move_down.Given as goal

abbrev pub invariant-loop : goal.invariant-loop
invariant-loop l = record {
  size : l.self.size ≡ l.initial.self.size;
  moved : (r : ℕ) → l.top + l.counter ≤ r → r ≤ l.bottom → start_of l.self r ≡ start_of l.initial.self (r - l.counter);
  outside : (r : ℕ) → 1 ≤ r → (r < l.top) ⊎ (l.bottom < r) → start_of l.self r ≡ start_of l.initial.self r;
}
