use Rattle.std.proofs.Common.{◌∙◌, arith, length-drop}
use Rattle.std.proofs.KnownBytes.{Appends-trans}
use Rattle.vt_device.proofs.OutputSteps.{rest-of, next_turn, taken_all, turn_written, turn_cut}
use Rattle.vt_device.proofs.output.write_chunk.Goals as goal

pub loop-at-preserved : goal.loop-at-preserved
loop-at-preserved g c =
    let gives = c.if-not-write_whole.ensures.gives in
    let feed = rw (rest-of c.args.chunk.now c.loop-at.at) at c.feed-at.ensures in
    let inside = simp length-drop at feed.within in
    let writes = gives.holds.1 ∙ c.deref.ensures.value ∙ feed.written in
    let before = c.loop-at.invariant in
    record {
      within = omega (arith, inside);
      after = next_turn _ _ _ _ _ _ _ _ _ _ _ _ before.after feed.after;
      given = rw (← turn_written _ _ _ _ _ c.feed-at.result _ _ _ before.after)
          (rw writes at (Appends-trans _ _ _ _ _ before.given gives.given));
      works = gives.holds.0;
      ended = c.if-not-write_whole.ensures.ended ∙ before.ended;
      most = omega (arith, feed.most, before.most);
      counted = omega (arith, feed.counted, before.counted);
      reserve = feed.reserve ∙ before.reserve;
      capacity = omega (arith, c.clear.ensures.capacity, feed.capacity, before.capacity);
    }

pub returns-then-not-write_whole-clause-gives : goal.returns-then-not-write_whole-clause-gives
returns-then-not-write_whole-clause-gives g c =
    let gives = c.if-not-write_whole.ensures.gives in
    let feed = rw (rest-of c.args.chunk.now c.loop-at.at) at c.feed-at.ensures in
    let part = rw (c.deref.ensures.value ∙ feed.written) at gives.holds.1 in
    let before = c.loop-at.invariant in
    record {
      w = _;
      given = Appends-trans _ _ _ _ _ before.given gives.given;
      holds = (gives.holds.0, turn_cut _ _ _ _ gives.w _ _ _ _ _ _ _ _ before.after feed.after part);
    }

pub returns-clause-after : goal.returns-clause-after
returns-clause-after g c =
    rw (taken_all c.args.chunk.now c.loop-at.at c.loop-at.invariant.within (omega (arith, c.loop-at-test.false)))
    at c.loop-at.invariant.after
