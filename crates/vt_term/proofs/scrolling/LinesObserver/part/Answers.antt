use Rattle.std.proofs.Common.{refl, arith}
use Rattle.vt_term.proofs.Scrolled.{logs-none}
use Rattle.vt_term.proofs.scrolling.LinesObserver.part.Goals as goal

pub returns : goal.returns
returns g c = λ s sound none. (
  (
    refl,
    refl,
    refl,
    logs-none c.one_split.ensures c.args.self.now.limit s c.args.bytes.now c.args.self.now.lines.now.items sound none,
    omega arith,
    λ fits. fits,
  ),
  c.part.ensures s sound none,
)
