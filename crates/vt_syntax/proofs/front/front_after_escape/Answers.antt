use Rattle.vt_syntax.proofs.front.front_after_escape.Goals as goal

pub returns-in-Some : goal.returns-in-Some
returns-in-Some c = c.in-Some.ensures.front c.args.values.now
