use Rattle.std.proofs.Common.{None}
use Rattle.vt_glyph.specs.GraphicSets.{GraphicSets}
use Rattle.vt_glyph.specs.Invocation.{set_at}
use Rattle.vt_paint.specs.Controls.{left_event, right_event}
use Rattle.vt_xterm_repaint.specs.Items.{sets_item}
use Rattle.vt_xterm_repaint.proofs.Written.{pushed_set, pushed_event_when, then_pushed}
use Rattle.vt_xterm_repaint.proofs.items.push_sets.Goals as goal

pub returns-clause-items : goal.returns-clause-items
unfolding sets_item
returns-clause-items c =
    let a : GraphicSets = record { g = c.args.old.now.g; left = c.args.old.now.left; right = c.args.old.now.right; pending = None } in
    let b : GraphicSets = record { g = c.args.new.now.g; left = c.args.new.now.left; right = c.args.new.now.right; pending = None } in
    (then_pushed (pushed_set 0 (set_at a 0) (set_at b 0) c.set_in.ensures c.set_in-2.ensures c.push_set.ensures.items)
    (then_pushed (pushed_set 1 (set_at a 1) (set_at b 1) c.set_in-3.ensures c.set_in-4.ensures c.push_set-2.ensures.items)
    (then_pushed (pushed_set 2 (set_at a 2) (set_at b 2) c.set_in-5.ensures c.set_in-6.ensures c.push_set-3.ensures.items)
    (then_pushed (pushed_set 3 (set_at a 3) (set_at b 3) c.set_in-7.ensures c.set_in-8.ensures c.push_set-4.ensures.items)
    (then_pushed (pushed_event_when _ (left_event b.left) c.lock_left.ensures.value c.push_function_when.ensures.items)
    (pushed_event_when _ (right_event b.right) c.lock_right.ensures.value c.push_function_when-2.ensures.items)))))).is
