use Rattle.std.proofs.Common.{◌≡◌, ℕ, ◌<◌, ◌*◌, length, get_or}
use Rattle.vt_screen.proofs.order.RowOrder.new.Given as goal

-- the rows before this one have their starts
abbrev pub invariant-loop-k : goal.invariant-loop-k
invariant-loop-k l = record {
  long : length l.rows ≡ 255;
  start : l.start ≡ l.k * l.fn.size.wide;
  done : (i : ℕ) → i < l.k → get_or l.rows i 0 ≡ i * l.fn.size.wide;
}
