use Rattle.std.proofs.Common.{arith}
use Rattle.vt_syntax.proofs.Fronts.{front_short}
use Rattle.vt_syntax.proofs.front.front_short_escape.Goals as goal

pub returns-clause-front : goal.returns-clause-front
returns-clause-front c = λ values.
    front_short c.args.piece.now c.plain_escape.result values (omega arith) c.if-piece-ne27.false
    c.if-not-ends_escape.ensures.ends c.plain_escape.ensures
