use Rattle.std.proofs.Common.{◌∙◌, arith}
use Rattle.vt_paint.proofs.Spelled.{mode_spelled, mode_speaks}
use Rattle.vt_paint.proofs.function.Function.mode.Goals as goal

pub of-requires-clause-speaks : goal.of-requires-clause-speaks
of-requires-clause-speaks c =
    rw c.last_of.ensures (mode_speaks c.args.index c.args.on (omega (arith, c.requires)))

pub returns-clause-value : goal.returns-clause-value
returns-clause-value c =
    c.of.ensures ∙ rw c.last_of.ensures (mode_spelled c.args.index c.args.on (omega (arith, c.requires)))
