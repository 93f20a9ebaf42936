use Rattle.std.proofs.Common.{arith, ℕ, ◌+◌, ◌-◌, ◌≡◌, ◌∙◌, ap}
use Rattle.vt_screen.specs.Order.{start_of}
use Rattle.vt_screen.proofs.order.RowOrder.move_down.Goals as goal

pub loop-preserved : goal.loop-preserved
loop-preserved c =
    let place : (r : ℕ) → r - 1 - c.loop.counter ≡ r - (c.loop.counter + 1) = λ r. omega arith in
    record {
      size = c.move_down_once.ensures.size ∙ c.loop.invariant.size;
      moved = λ r low high. c.move_down_once.ensures.moved r (omega arith) high
          ∙ c.loop.invariant.moved (r - 1) (omega arith) (omega arith)
          ∙ ap (λ k. start_of c.args.self.now k) (place r);
      outside = λ r r1 h. c.move_down_once.ensures.outside r r1 h ∙ c.loop.invariant.outside r r1 h;
    }
