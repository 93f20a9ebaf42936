-- The run goes through the vector, or ends at its first stop.
use Rattle.std.proofs.Common.{arith}
use Rattle.vt_syntax.proofs.Runs.{run_from}
use Rattle.vt_syntax.proofs.lanes.end_from.Goals as goal

pub returns-then-ends-ne0 : goal.returns-then-ends-ne0
returns-then-ends-ne0 g c =
    let run = run_from g.C.ByteClass.ends c.args.piece.now c.loop-at.at 16 (omega arith) (omega arith)
    c.ends_16-ends.ensures in
    omega (arith, c.loop-at.invariant.so_far)

pub loop-at-preserved : goal.loop-at-preserved
loop-at-preserved g c =
    let run = run_from g.C.ByteClass.ends c.args.piece.now c.loop-at.at 16 (omega arith) (omega arith)
    c.ends_16-ends.ensures in
    record { within = omega arith; so_far = omega (arith, c.loop-at.invariant.so_far) }
