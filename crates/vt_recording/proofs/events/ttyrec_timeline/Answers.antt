use Rattle.std.proofs.Common.{◌≡◌, ◌+◌, ◌-◌, ◌∙◌, Some, refl, arith, drop, length-drop}
use Rattle.std.proofs.lemmas.List.{take_rest}
use Rattle.vt_recording.specs.Seconds.{risen}
use Rattle.vt_recording.specs.Ttyrec.{time_of}
use Rattle.vt_recording.proofs.Pieces.{framed_first, framed_more, framed_all}
use Rattle.vt_recording.proofs.events.ttyrec_timeline.Goals as goal

pub loop-at-init : goal.loop-at-init
loop-at-init c = record { within = omega arith; front = framed_first _ _ _ c.in_ok-gathered.ensures }

pub returns-in_default : goal.returns-in_default
returns-in_default c =
    let made = c.timeline.ensures in
    framed_all c.args.bytes.now c.loop-at.at c.loop-at.clock (Some c.loop-at.at) _ c.loop-at.invariant.within
    (refl, rw length-drop (omega (arith, c.loop-at-test.true)), rw take_rest at c.in_default.ensures.cut)
    (made.broken ∙ c.in_recording.ensures) (rw (made.events, made.text) c.loop-at.invariant.front)

pub loop-at-preserved : goal.loop-at-preserved
loop-at-preserved c =
    let fits = rw take_rest at c.in-Some.ensures.whole in
    let room = simp length-drop at fits in
    let size = rw take_rest at c.in-Some.ensures.size in
    let time = rw take_rest at c.in-Some.ensures.time in
    let rises : c.risen-clock.result ≡ risen c.loop-at.clock (time_of (drop c.loop-at.at c.args.bytes.now) - time_of c.args.bytes.now) =
    rw (← time, ← c.time_of.ensures, ← c.saturating_sub.ensures) c.risen-clock.ensures in
    let part : (c.loop-at.at + 12 + c.in-Some.piece.size) - (c.loop-at.at + 12) ≡ c.in-Some.piece.size = omega arith in
    record {
      within = omega (arith, room);
      front =
          framed_more c.args.bytes.now _ _ _ _ _ _ _ _ fits size rises c.loop-at.invariant.front
          (rw part at c.in_ok-push.ensures);
    }
