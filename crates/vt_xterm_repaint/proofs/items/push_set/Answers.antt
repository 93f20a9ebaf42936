use Rattle.vt_paint.specs.Controls.{designation_of}
use Rattle.vt_xterm_repaint.proofs.Written.{pushed_changed_set}
use Rattle.vt_xterm_repaint.proofs.items.push_set.Goals as goal

pub returns-clause-items : goal.returns-clause-items
returns-clause-items c =
    (pushed_changed_set c.args.slot c.args.old c.args.new c.last.ensures c.last-2.ensures c.designation.ensures.value c.push_function_when.ensures.items).is
