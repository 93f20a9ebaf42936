use Rattle.std.proofs.Common.{[], sym, refl}
use Rattle.vt_recording.specs.Timeline.{at_once}
use Rattle.vt_recording.proofs.Fronts.{is_read}
use Rattle.vt_recording.proofs.timeline.at_once.Goals as goal

pub returns : goal.returns
returns c =
    let made = c.timeline.ensures in
    is_read _ (at_once c.args.content.now c.args.broken) _ refl (rw c.in_recording.ensures at (sym made.broken))
    (rw (made.events, made.text) (c.in_ok-push.ensures [] c.in_ok-gathered.ensures))
