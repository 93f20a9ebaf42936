use Rattle.vt_trace.proofs.Traces.{rest-of}
use Rattle.vt_trace.proofs.Beyond.{front_ascii, run_front}
use Rattle.vt_trace.proofs.utf8.trace_ascii.Goals as goal

pub trace_ascii-requires-clause-ascii : goal.trace_ascii-requires-clause-ascii
trace_ascii-requires-clause-ascii g c =
    front_ascii c.args.piece.now c.ascii_run-run.result c.requires.some c.requires.first
    (rw (rest-of c.args.piece.now 1) at c.ascii_run-run.ensures.ascii)

pub returns-clause-traced : goal.returns-clause-traced
returns-clause-traced g c =
    let made = c.trace_ascii.ensures in
    rw (c.requires.nothing, ← run_front c.args.piece.now _ c.trace_ascii.result made.within) made.traced
