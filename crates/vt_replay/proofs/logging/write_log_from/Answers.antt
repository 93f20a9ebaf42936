use Rattle.vt_replay.proofs.Unchanged.{log_as_before}
use Rattle.vt_replay.proofs.logging.write_log_from.Goals as goal

pub returns-clause-answer : goal.returns-clause-answer
returns-clause-answer g c =
    log_as_before _ _ _ _ c.vt220-size.result c.args.language _ _ _ _ c.vt220-size.ensures c.write_log_at.ensures.answer
