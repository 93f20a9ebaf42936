use Rattle.std.proofs.Common.{◌≤◌, ℕ, length, subst}
use Rattle.vt_xterm_paint.specs.Repaint.{xterm_repaint}
use Rattle.vt_screen.specs.Sizes.{vt220_size}
use Rattle.vt_xterm_paint.proofs.laws.bounded.Goals as goal

pub returns : goal.returns
returns c = record {
  len = λ w i.
      subst (λ (n : ℕ). length (xterm_repaint w) ≤ n) c.vt220_limit.ensures (c.sized_bounded.ensures.len vt220_size w i);
  ascii = c.sized_bounded.ensures.ascii vt220_size;
}
