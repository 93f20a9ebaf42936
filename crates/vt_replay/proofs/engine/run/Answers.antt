use Rattle.vt_replay.proofs.Apart.{dec_replay}
use Rattle.vt_replay.proofs.engine.run.Goals as goal

pub returns-clause-answer : goal.returns-clause-answer
returns-clause-answer g c = dec_replay _ _ _ _ c.args.what _ _ _ _ c.run_from.ensures.answer
