-- The run goes through the vector, or ends at its first stop.
use Rattle.std.proofs.Common.{arith}
use Rattle.vt_syntax.proofs.Runs.{run_from}
use Rattle.vt_syntax.proofs.lanes.end_of_8.Goals as goal

pub returns-then-ends-ne0 : goal.returns-then-ends-ne0
returns-then-ends-ne0 g c =
    let run = run_from g.C.ByteClass.ends c.args.piece.now c.args.at 8 (omega arith) (omega arith)
    c.ends_8-ends.ensures in
    omega arith

pub returns : goal.returns
returns g c =
    let run = run_from g.C.ByteClass.ends c.args.piece.now c.args.at 8 (omega arith) (omega arith)
    c.ends_8-ends.ensures in
    omega arith
