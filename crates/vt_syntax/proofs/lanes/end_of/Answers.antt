-- The run goes through the first vector, or ends at its first stop.
use Rattle.std.proofs.Common.{arith}
use Rattle.vt_syntax.proofs.Runs.{run_from}
use Rattle.vt_syntax.proofs.lanes.end_of.Goals as goal

pub returns-then-ends-ne0 : goal.returns-then-ends-ne0
returns-then-ends-ne0 g c =
    let run = run_from g.C.ByteClass.ends c.args.piece.now 0 16 (omega arith) (omega arith)
    c.ends_16-ends.ensures in
    omega arith

pub returns : goal.returns
returns g c =
    let run = run_from g.C.ByteClass.ends c.args.piece.now 0 16 (omega arith) (omega arith)
    c.ends_16-ends.ensures in
    omega (arith, c.end_from.ensures)
