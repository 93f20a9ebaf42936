use Rattle.vt_replay.proofs.logging.write_log.Goals as goal

pub returns-clause-answer : goal.returns-clause-answer
returns-clause-answer g c = c.write_log_from.ensures.answer
