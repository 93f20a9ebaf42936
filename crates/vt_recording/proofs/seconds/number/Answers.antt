use Rattle.std.proofs.Common.{arith, length}
use Rattle.vt_recording.proofs.Powers.{below}
use Rattle.vt_recording.proofs.seconds.number.Goals as goal

pub returns-clause-small : goal.returns-clause-small
returns-clause-small c =
    below c.value.result (length c.args.digits.now) c.args.most (omega (arith, c.if-most-digits.false))
    c.value.ensures.small
