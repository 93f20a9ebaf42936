use Rattle.std.proofs.lemmas.Result.{err_from_is_err_and}
use Rattle.vt_device.proofs.Steps.{without_memory}
use Rattle.vt_replay.proofs.Unchanged.{of_trace}
use Rattle.vt_replay.proofs.tracing.write_trace_by.Goals as goal

pub returns-clause-answer : goal.returns-clause-answer
returns-clause-answer g c =
    let start = c.in_ok-output.ensures in
    of_trace g.P.Player.session _ _ c.args.resizes.now _ _ _ _ _ _ _ _ _ (λ ι. record { kept = start.kept ι; tracer = start.tracer ι })
    start.changes c.write_output_from.ensures.answer

pub returns-in_err-output-clause-answer : goal.returns-in_err-output-clause-answer
returns-in_err-output-clause-answer g c =
    let fault = err_from_is_err_and c.from_residual.result c.from_residual.ensures.1 in
    rw (fault.1, fault.2)
    (without_memory _ _ _ (record {
      reader_failed = c.requires.reader_works;
      reader_ended = c.requires.reader_goes_on;
      writer_failed = c.requires.writer_works;
    }))
