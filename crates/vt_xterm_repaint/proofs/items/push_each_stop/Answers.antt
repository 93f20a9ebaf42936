use Rattle.std.proofs.Common.{◌≡◌, ◌+◌, ◌-◌, false, get_or, arith, ap, ◌∷◌, []}
use Rattle.vt_screen.specs.Same.{when}
use Rattle.vt_paint.specs.Controls.{cursor_position, set_tab}
use Rattle.vt_xterm_repaint.specs.Items.{functions, stop_item}
use Rattle.vt_xterm_repaint.proofs.Written.{actions-more}
use Rattle.vt_xterm_repaint.proofs.items.push_each_stop.Goals as goal

pub loop-i-preserved : goal.loop-i-preserved
loop-i-preserved c =
    let stops = c.args.stops.now in
    let i = c.loop-i.i in
    let back : i ≡ i + 1 - 1 = omega arith in
    record {
      items =
          actions-more (λ n. stop_item stops n) 1 i (i + 1) (i + 1)
          (when (get_or stops i false) (functions (cursor_position 1 (i + 1) ∷ set_tab ∷ []))) c.args.out.now.items
          c.loop-i.out.items c.push_stop.new.out.items (omega arith) (omega arith) c.loop-i.invariant.items c.push_stop.ensures.items
          (ap (λ n. when (get_or stops n false) (functions (cursor_position 1 (i + 1) ∷ set_tab ∷ []))) back);
      bounded = omega (arith, c.loop-i.invariant.bounded, c.push_stop.ensures.bounded);
      capacity = omega (arith, c.loop-i.invariant.capacity, c.push_stop.ensures.capacity);
    }
