use Rattle.std.proofs.Common.{[], refl, arith}
use Rattle.vt_recording.proofs.Marks.{at_mark, none_left, still_within}
use Rattle.vt_recording.proofs.Writing.{event_written, none_written}
use Rattle.vt_recording.proofs.taking.push_all_heard.Goals as goal

pub loop-i-init : goal.loop-i-init
loop-i-init c = record {
  within = omega arith;
  bound = c.requires.bound;
  written = record { front = []; ahead = refl; written = c.requires.none };
}

pub loop-i-preserved : goal.loop-i-preserved
loop-i-preserved c =
    let text = c.args.text.now in
    let kept = c.loop-i.invariant in
    let mark = at_mark c.loop-i.i c.loop-i.at _ c.event_at-event.result c.args.events.now text kept.within c.event_at-event.ensures (rw c.min.ensures refl) in
    record {
      within = rw c.min.ensures (still_within c.event_at-event.result.length c.loop-i.at text kept.within);
      bound = c.in_ok-push_heard.ensures.bound;
      written = event_written _ _ _ _ _ _ _ _ _ _ mark kept.written c.in_ok-push_heard.ensures.written;
    }

pub returns : goal.returns
returns c = none_written _ _ _ _ _ _ (none_left c.loop-i.i c.args.events.now _ c.loop-i-test.false) c.loop-i.invariant.written
