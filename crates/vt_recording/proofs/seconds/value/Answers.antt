use Rattle.std.proofs.Common.{arith}
use Rattle.vt_recording.proofs.Powers.{fourteen}
use Rattle.vt_recording.proofs.seconds.value.Goals as goal

pub overflow_mul-n : goal.overflow_mul-n
overflow_mul-n c =
    let few = fourteen c.loop-digit.n c.loop-digit.digit-index (omega (arith, c.loop-digit-test.true, c.requires.few))
    c.loop-digit.invariant.small in
    omega (arith, few)

pub overflow_add-n : goal.overflow_add-n
overflow_add-n c =
    let few = fourteen c.loop-digit.n c.loop-digit.digit-index (omega (arith, c.loop-digit-test.true, c.requires.few))
    c.loop-digit.invariant.small in
    omega (arith, few)
