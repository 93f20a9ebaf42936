use Rattle.std.proofs.lemmas.Result.{err_from_is_err_and}
use Rattle.vt_device.proofs.Steps.{without_memory}
use Rattle.vt_replay.specs.Resizes.{played_on, due, coming}
use Rattle.vt_replay.proofs.Unchanged.{of_player}
use Rattle.vt_replay.proofs.engine.run_by.Goals as goal

pub returns-in_err-new-clause-answer : goal.returns-in_err-new-clause-answer
returns-in_err-new-clause-answer g c =
    let fault = err_from_is_err_and c.from_residual.result c.from_residual.ensures.1 in
    rw (fault.1, fault.2)
    (without_memory _ _ _ (record {
      reader_failed = c.requires.reader_works;
      reader_ended = c.requires.reader_goes_on;
      writer_failed = c.requires.writer_works;
    }))

pub returns-clause-answer : goal.returns-clause-answer
returns-clause-answer g c =
    of_player _ c.in_ok-new.field-0
    (λ r bytes. played_on g.P.Player.session (g.P.Player.kept r.player) (due r.left (coming r.later.items (λ l. l.after) (λ l. g.P.Player.screen l.target))) bytes)
    (λ bytes. played_on g.P.Player.session (g.P.Player.begun c.args.size) c.args.resizes.now bytes) _ c.args.what _ _ _ _ _ _ _ _ _
    c.new-output.ensures.player c.in_ok-new.ensures.played c.new-output.ensures.what c.new-output.ensures.reported c.write_output_from.ensures.answer
