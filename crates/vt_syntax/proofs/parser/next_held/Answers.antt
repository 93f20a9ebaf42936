-- One more byte, and the content after it.
use Rattle.std.proofs.Common.{◌∙◌, ◌+◌, length-drop, arith}
use Rattle.vt_syntax.proofs.Steps.{steps_more, steps_part, rest_of}
use Rattle.vt_syntax.proofs.parser.next_held.Goals as goal

pub returns-in-Some-clause-reads : goal.returns-in-Some-clause-reads
returns-in-Some-clause-reads c =
    steps_more c.args.held.now c.loop-bytes.held c.args.piece.now c.loop-bytes.bytes c.loop-bytes-test.true
    c.loop-bytes.invariant.holds
    ∙ c.in-Some.ensures

pub loop-bytes-preserved : goal.loop-bytes-preserved
loop-bytes-preserved c =
    let byte = steps_more c.args.held.now c.loop-bytes.held c.args.piece.now c.loop-bytes.bytes
    c.loop-bytes-test.true c.loop-bytes.invariant.holds
    ∙ c.in_default.ensures in
    let rest = rest_of c.args.piece.now (c.loop-bytes.bytes + 1) in
    let fits = rw rest at c.hold_content-bytes.ensures.within in
    let within = simp length-drop at fits in
    record {
      within = omega (arith, within);
      holds = steps_part c.args.held.now c.step.new.held c.args.piece.now (c.loop-bytes.bytes + 1)
          c.hold_content-bytes.result byte c.hold_content-bytes.ensures.holds;
    }
