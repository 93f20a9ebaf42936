use Rattle.std.proofs.Common.{◌≡◌, ◌+◌, ◌∙◌, ap, drop, arith, length-drop}
use Rattle.std.proofs.lemmas.List.{drop-drop}
use Rattle.vt_trace.proofs.Traces.{rest-of}
use Rattle.vt_trace.proofs.TracedBytes.{no_items}
use Rattle.vt_trace.proofs.Contents.{one_more, all_read}
use Rattle.vt_trace.proofs.skipped.skip_all.Goals as goal

-- one byte more, and those that go on a string
pub loop-at-preserved : goal.loop-at-preserved
loop-at-preserved c =
    let a = c.args in
    let l = c.loop-at in
    let was = l.invariant in
    let bytes = a.bytes.now in
    let low = c.loop-at-test.true in
    let one = c.skip.ensures in
    let passed = c.pass_content-at.ensures in
    let n = c.pass_content-at.result in
    let rest = rest-of bytes (l.at + 1) in
    let inside = simp length-drop at (rw rest at passed.within) in
    let next : drop n (drop (l.at + 1) bytes) ≡ drop (l.at + 1 + n) bytes = drop-drop n (l.at + 1) bytes ∙ ap (λ k. drop k bytes) (omega arith) in
    record {
      within = omega (arith, inside, low);
      gives = one_more a.parser.now l.parser c.skip.new.parser a.tracer.now l.tracer c.skip.new.tracer c.pass_content-at.new.tracer
          bytes a.out.now.items l.out.items c.skip.new.out.items l.at n (drop (l.at + 1 + n) bytes) low was.gives
          one.lines one.tracer one.held (rw c.held-in-loop-at.ensures.value at (rw next at (rw rest at passed.passed)));
      place = search (arith, was.place, one.tracer, passed.place);
      bounded = omega (arith, was.bounded, one.bounded);
      capacity = omega (arith, was.capacity, one.capacity);
    }

pub returns-clause-read : goal.returns-clause-read
returns-clause-read c =
    let a = c.args in
    let l = c.loop-at in
    let rest = drop l.at a.bytes.now in
    let none = no_items rest (length-drop l.at a.bytes.now ∙ omega arith) in
    all_read c.one_split.ensures a.parser.now l.parser a.tracer.now l.tracer a.bytes.now rest a.out.now.items l.out.items none
    c.held.ensures.held_part l.invariant.gives
