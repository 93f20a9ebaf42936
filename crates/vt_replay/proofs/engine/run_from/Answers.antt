use Rattle.vt_replay.proofs.Unchanged.{as_before}
use Rattle.vt_replay.proofs.engine.run_from.Goals as goal

pub returns-clause-answer : goal.returns-clause-answer
returns-clause-answer g c =
    as_before _ _ _ _ c.vt220-size.result c.args.language c.args.what _ _ _ _ c.vt220-size.ensures c.run_at.ensures.answer
