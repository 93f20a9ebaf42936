use Rattle.std.proofs.Common.{◌≡◌, ◌+◌, ◌-◌, false, get_or, arith, ap, ◌∷◌, []}
use Rattle.vt_screen.specs.Same.{when}
use Rattle.vt_paint.specs.Controls.{cursor_position, set_tab}
use Rattle.vt_paint.specs.Items.{stop_events}
use Rattle.vt_paint.proofs.Pushing.{appended-more}
use Rattle.vt_paint.proofs.items.push_each_stop.Goals as goal

pub loop-i-preserved : goal.loop-i-preserved
unfolding stop_events
loop-i-preserved c =
    let stops = c.args.stops.now in
    let i = c.loop-i.i in
    let back : i ≡ i + 1 - 1 = omega arith in
    record {
      items =
          appended-more (λ c. stop_events stops c) 1 i (i + 1) (i + 1)
          (when (get_or stops i false) (cursor_position 1 (i + 1) ∷ set_tab ∷ [])) c.args.out.now.items
          c.loop-i.out.items c.push_stop.new.out.items (omega arith) (omega arith)
          c.loop-i.invariant.items c.push_stop.ensures.items
          (ap (λ n. when (get_or stops n false) (cursor_position 1 (i + 1) ∷ set_tab ∷ [])) back);
      bounded = omega (arith, c.loop-i.invariant.bounded, c.push_stop.ensures.bounded);
      capacity = omega (arith, c.loop-i.invariant.capacity, c.push_stop.ensures.capacity);
    }
