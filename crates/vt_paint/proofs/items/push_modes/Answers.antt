use Rattle.std.proofs.Common.{◌≡◌, arith}
use Rattle.vt_paint.specs.Items.{modes_item}
use Rattle.vt_paint.proofs.Pushing.{mode_more}
use Rattle.vt_paint.proofs.items.push_modes.Goals as goal

pub loop-i-preserved : goal.loop-i-preserved
loop-i-preserved c =
    let before = c.loop-i.invariant in
    let step = c.push_mode_item.ensures in
    record {
      items = mode_more c.args.known c.args.m c.mode_values.result c.loop-i.i c.args.out.now.items c.loop-i.out.items
          c.push_mode_item.new.out.items (omega arith) c.mode_values.ensures before.items step.items;
      bounded = omega (arith, before.bounded, step.bounded);
      capacity = omega (arith, before.capacity, step.capacity);
    }

pub returns-clause-items : goal.returns-clause-items
unfolding modes_item
returns-clause-items c =
    let all : c.loop-i.i ≡ 12 = omega (arith, c.loop-i.auto) in
    rw all at c.loop-i.invariant.items
