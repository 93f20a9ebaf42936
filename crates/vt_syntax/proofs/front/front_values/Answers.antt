-- One, two or three values and the byte after them.
use Rattle.std.proofs.Common.{[], ◌∷◌, None, arith}
use Rattle.vt_syntax.proofs.Fronts.{first_value, next_value, front_control}
use Rattle.vt_syntax.proofs.front.front_values.Goals as goal

pub returns-then-last-ne59-clause-front : goal.returns-then-last-ne59-clause-front
returns-then-last-ne59-clause-front c = λ final.
    let one = first_value c.args.piece.now c.read_value-first.result.1 c.read_value-first.result.0 (omega arith)
    c.if-not-is_introducer.ensures.introducer c.read_value-first.ensures.reads in
    front_control c.args.piece.now _ None c.read_value-first.result.1 one (omega arith) final.0 final.1

pub returns-then-last-ne59-2-clause-front : goal.returns-then-last-ne59-2-clause-front
returns-then-last-ne59-2-clause-front c = λ final.
    let one = first_value c.args.piece.now c.read_value-first.result.1 c.read_value-first.result.0 (omega arith)
    c.if-not-is_introducer.ensures.introducer c.read_value-first.ensures.reads in
    let two = next_value c.args.piece.now c.read_value-first.result.1 c.read_value-second.result.1 []
    c.read_value-first.result.0 c.read_value-second.result.0 one (omega arith) c.if-last-ne59.false (omega arith)
    c.read_value-second.ensures.reads in
    front_control c.args.piece.now _ None c.read_value-second.result.1 two (omega arith) final.0 final.1

pub returns-clause-front : goal.returns-clause-front
returns-clause-front c = λ final.
    let one = first_value c.args.piece.now c.read_value-first.result.1 c.read_value-first.result.0 (omega arith)
    c.if-not-is_introducer.ensures.introducer c.read_value-first.ensures.reads in
    let two = next_value c.args.piece.now c.read_value-first.result.1 c.read_value-second.result.1 []
    c.read_value-first.result.0 c.read_value-second.result.0 one (omega arith) c.if-last-ne59.false (omega arith)
    c.read_value-second.ensures.reads in
    let three = next_value c.args.piece.now c.read_value-second.result.1 c.read_value-third.result.1
    (c.read_value-first.result.0 ∷ []) c.read_value-second.result.0 c.read_value-third.result.0 two (omega arith)
    c.if-last-ne59-2.false (omega arith) c.read_value-third.ensures.reads in
    front_control c.args.piece.now _ None c.read_value-third.result.1 three (omega arith) final.0 final.1
