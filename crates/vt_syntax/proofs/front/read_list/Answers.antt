use Rattle.std.proofs.Common.{take, arith, length-take}
use Rattle.std.proofs.lemmas.List.{take_more_set}
use Rattle.vt_syntax.proofs.Fronts.{read_separator}
use Rattle.vt_syntax.proofs.front.read_list.Goals as goal

pub loop-at-preserved : goal.loop-at-preserved
loop-at-preserved c =
    let front = take c.loop-at.count c.loop-at.list in
    let more = take_more_set c.loop-at.list c.loop-at.count c.read_value-value.result.0 (omega arith) in
    record {
      within = omega arith;
      few = omega arith;
      reads = λ few.
          rw more (read_separator c.args.piece.now c.read_value-value.result.1 c.args.marker front
          c.read_value-value.result.0
          (c.read_value-value.ensures.reads c.args.marker front (c.loop-at.invariant.reads (omega arith)))
          (omega arith) c.if-piece-end-ne59.false (omega (arith, length-take c.loop-at.count c.loop-at.list)));
    }
