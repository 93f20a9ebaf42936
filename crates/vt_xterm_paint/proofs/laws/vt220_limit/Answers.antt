use Rattle.std.proofs.Common.{ℕ, ◌+◌, ◌*◌, ap}
use Rattle.vt_xterm_paint.proofs.laws.vt220_limit.Goals as goal

pub returns : goal.returns
returns c = ap (λ (n : ℕ). 2 * n + 52) c.vt220_limit.ensures
