use Rattle.std.proofs.Common.{◌∙◌, sym}
use Rattle.vt_recording.proofs.Frames.{item_at, frame_gathered, gathering_breaks, gathering_ends}
use Rattle.vt_recording.proofs.casting.gather_frames.Goals as goal

pub returns-in-None-clause-broken : goal.returns-in-None-clause-broken
returns-in-None-clause-broken c =
    let frame = item_at c.args.frames.now c.loop-i.i c.index-frames-i.result c.loop-i-test.true c.index-frames-i.is in
    let time = sym c.in-None.is ∙ c.in_ok-now.ensures.time in
    (gathering_breaks c.args.frames.now _ c.loop-i.i _ _ _ c.loop-i.invariant.gathered c.index-frames-i.result _ _ frame (rw c.frame_of.ensures at time)
    (rw c.frame_of.ensures at c.in_ok-now.ensures.gathered)).0

pub returns-in-None-clause-gathered : goal.returns-in-None-clause-gathered
returns-in-None-clause-gathered c =
    let frame = item_at c.args.frames.now c.loop-i.i c.index-frames-i.result c.loop-i-test.true c.index-frames-i.is in
    let time = sym c.in-None.is ∙ c.in_ok-now.ensures.time in
    (gathering_breaks c.args.frames.now _ c.loop-i.i _ _ _ c.loop-i.invariant.gathered c.index-frames-i.result _ _ frame (rw c.frame_of.ensures at time)
    (rw c.frame_of.ensures at c.in_ok-now.ensures.gathered)).1

pub loop-i-preserved : goal.loop-i-preserved
loop-i-preserved c =
    let frame = item_at c.args.frames.now c.loop-i.i c.index-frames-i.result c.loop-i-test.true c.index-frames-i.is in
    let time = sym c.in-Some.is ∙ c.in_ok-now.ensures.time in
    record {
      gathered =
          frame_gathered c.args.frames.now _ c.loop-i.i _ _ _ c.loop-i.invariant.gathered c.index-frames-i.result _ _ _ frame (rw c.frame_of.ensures at time)
          (rw c.frame_of.ensures at c.in_ok-now.ensures.gathered);
    }

pub returns-clause-broken : goal.returns-clause-broken
returns-clause-broken c = (gathering_ends c.args.frames.now _ c.loop-i.i _ _ _ c.loop-i.invariant.gathered c.loop-i-test.false).0

pub returns-clause-gathered : goal.returns-clause-gathered
returns-clause-gathered c = (gathering_ends c.args.frames.now _ c.loop-i.i _ _ _ c.loop-i.invariant.gathered c.loop-i-test.false).1
