-- The run goes through the vector.
use Rattle.std.proofs.Common.{arith, not}
use Rattle.vt_syntax.specs.Class.{is_of_lines}
use Rattle.vt_syntax.proofs.Runs.{run_from}
use Rattle.vt_syntax.proofs.lines.end_of_lines.Goals as goal

pub loop-at-preserved : goal.loop-at-preserved
loop-at-preserved c =
    let run = run_from (λ b. not (is_of_lines b)) c.args.piece.now c.loop-at.at 64 (omega arith) (omega arith)
    c.ends_64.ensures in
    record { within = omega arith; so_far = omega (arith, c.loop-at.invariant.so_far) }
