-- The run goes through the vector, or ends at its first stop.
use Rattle.std.proofs.Common.{arith}
use Rattle.vt_syntax.proofs.Runs.{run_from}
use Rattle.vt_utf8.specs.Private.Ascii.{is_beyond}
use Rattle.vt_utf8.proofs.ascii.end_of.Goals as goal

pub returns-then-beyond-ne0 : goal.returns-then-beyond-ne0
returns-then-beyond-ne0 c =
    let run = run_from is_beyond c.args.piece.now c.loop-at.at 16 (omega arith) (omega arith)
    c.beyond_ascii-beyond.ensures in
    omega (arith, c.loop-at.invariant.so_far)

pub loop-at-preserved : goal.loop-at-preserved
loop-at-preserved c =
    let run = run_from is_beyond c.args.piece.now c.loop-at.at 16 (omega arith) (omega arith)
    c.beyond_ascii-beyond.ensures in
    record { within = omega arith; so_far = omega (arith, c.loop-at.invariant.so_far) }
