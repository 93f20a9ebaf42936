use Rattle.std.proofs.Common.{arith, ◌≡◌, length, take, sym, subst, ◌∙◌}
use Rattle.std.specs.List.Sorted.{IsPermutation}
use Rattle.std.proofs.lemmas.List.Sorted.{IsPermutation-trans}
use borrow.Rule.Slice.PartMut.{post_of}
use Rattle.vt_screen.specs.Order.{starts}
use Rattle.vt_screen.proofs.Lists.{length-mid_of, take-front}
use Rattle.vt_screen.proofs.order.RowOrder.move_down_once.Goals as goal

pub invariant_of-self : goal.invariant_of-self
invariant_of-self c =
    let long : length c.move_part_down.new.rows ≡ c.self.inside.size.rows = c.move_part_down.auto.rows
    ∙ length-mid_of 0 c.self.inside.size.rows c.self.inside.rows (omega (arith, c.self.told, c.self.invariant.size.rows)) in
    let whole = take-front c.self.inside.size.rows c.move_part_down.new.rows
    (post_of 0 c.self.inside.size.rows c.self.inside.rows) long in
    record {
      size = c.self.invariant.size;
      rows = subst (λ ys. IsPermutation (starts c.self.inside.size) ys) (sym whole)
          (IsPermutation-trans (starts c.self.inside.size) (take c.self.inside.size.rows c.self.inside.rows)
          c.move_part_down.new.rows c.self.invariant.rows c.move_part_down.ensures.permutation);
    }
