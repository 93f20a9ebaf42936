use Rattle.std.proofs.lemmas.Result.{err_from_is_err_and}
use Rattle.vt_device.proofs.Steps.{without_memory}
use Rattle.vt_replay.specs.Log.{lines_on}
use Rattle.vt_replay.specs.Resizes.{played_on}
use Rattle.vt_replay.proofs.Unchanged.{of_log}
use Rattle.vt_replay.proofs.logging.write_log_by.Goals as goal

pub returns-clause-answer : goal.returns-clause-answer
returns-clause-answer g c =
    of_log _ (λ bytes. lines_on g.P.Player.session (g.P.Player.begun c.args.size) c.args.resizes.now bytes) _
    (λ bytes. played_on g.P.Player.session (g.P.Player.begun c.args.size) c.args.resizes.now bytes) _ _ _ _ _ _ _ _
    c.in_ok-output.ensures.lines c.in_ok-output.ensures.played c.write_output_from.ensures.answer

pub returns-in_err-output-clause-answer : goal.returns-in_err-output-clause-answer
returns-in_err-output-clause-answer g c =
    let fault = err_from_is_err_and c.from_residual.result c.from_residual.ensures.1 in
    rw (fault.1, fault.2)
    (without_memory _ _ _ (record {
      reader_failed = c.requires.reader_works;
      reader_ended = c.requires.reader_goes_on;
      writer_failed = c.requires.writer_works;
    }))
