use Rattle.std.proofs.Common.{◌≡◌, false, get_or, arith}
use Rattle.std.specs.List.{flat_map}
use Rattle.vt_paint.specs.Controls.{mode_rows, mode_event}
use Rattle.vt_paint.specs.Items.{row_item}
use Rattle.vt_paint.proofs.Pushing.{mode_more, events, function}
use Rattle.vt_xterm_repaint.proofs.Written.{as_functions}
use Rattle.vt_xterm_repaint.proofs.modes.push_modes.Goals as goal

pub loop-i-preserved : goal.loop-i-preserved
loop-i-preserved c =
    let before = c.loop-i.invariant in
    let values = c.mode_values.result in
    let i = c.loop-i.i in
    record {
      items = mode_more false c.args.m values i c.args.out.now.items c.loop-i.out.items c.push.new.out.items (omega arith)
          c.mode_values.ensures before.items
          (function (mode_event i (get_or values i false)) c.mode.ensures.value c.push.ensures.items).is;
      bounded = omega (arith, before.bounded, c.push.ensures.bounded, c.mode.ensures.short);
      capacity = omega (arith, before.capacity, c.push.ensures.capacity);
    }

pub returns-clause-items : goal.returns-clause-items
returns-clause-items c =
    let all : c.loop-i.i ≡ 12 = omega (arith, c.loop-i.auto) in
    as_functions (events (flat_map (row_item false c.args.m) mode_rows) (rw all at c.loop-i.invariant.items))
