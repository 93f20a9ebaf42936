use Rattle.vt_replay.proofs.Recorded.{passed_over, used}
use Rattle.vt_replay.proofs.changes.push_resize.Goals as goal

pub returns-in_default-clause-ahead : goal.returns-in_default-clause-ahead
returns-in_default-clause-ahead c =
    passed_over c.args.spot.before c.args.spot.at c.args.change c.args.resizes.now.items c.in_default.ensures.value

pub returns-clause-ahead : goal.returns-clause-ahead
returns-clause-ahead c =
    used c.args.spot.before c.args.spot.at _ c.in-Some.size c.args.change c.args.resizes.now.items _ c.in-Some.ensures.value
    (rw c.saturating_sub-more.ensures at c.saturating_add-after.ensures) c.in_ok-push.ensures.items
