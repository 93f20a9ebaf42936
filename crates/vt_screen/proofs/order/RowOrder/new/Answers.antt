use Rattle.std.proofs.Common.{◌≤◌, length, take, arith, rules, ◌≡◌, ◌<◌, inl, inr, sym, subst, ◌∙◌}
use Rattle.std.proofs.Common.{get_or-set_same, get_or-set_other}
use Rattle.std.specs.List.Sorted.{IsPermutation}
use Rattle.std.proofs.lemmas.Grind.{same_number_lists}
use Rattle.std.proofs.lemmas.Bool.Decides.{eqb_tells}
use Rattle.std.proofs.lemmas.List.Sorted.{IsPermutation-refl}
use Rattle.std.proofs.lemmas.List.{length-take, get_or-take}
use Rattle.vt_screen.specs.Order.{starts}
use Rattle.vt_screen.proofs.Orders.{next-row, room-fits, start-is, length-starts}
use Rattle.vt_screen.proofs.order.RowOrder.new.Goals as goal

pub loop-k-init : goal.loop-k-init
loop-k-init c = record {
  long = search rules;
  start = omega arith;
  done = λ i low. absurd (omega arith);
}

pub overflow_cast-rows : goal.overflow_cast-rows
overflow_cast-rows c = omega (
  arith,
  next-row c.args.size.wide c.loop-k.k c.args.size.rows c.loop-k-test.true,
  c.loop-k.invariant.start,
  room-fits c.args.size c.requires,
  c.requires.narrow,
  c.requires.wide,
)

pub overflow_add-start : goal.overflow_add-start
overflow_add-start c = omega (
  arith,
  next-row c.args.size.wide c.loop-k.k c.args.size.rows c.loop-k-test.true,
  c.loop-k.invariant.start,
  room-fits c.args.size c.requires,
)

pub loop-k-preserved : goal.loop-k-preserved
loop-k-preserved c = record {
  long = search rules;
  start = omega (arith, c.loop-k.invariant.start);
  done = λ i below. elim (eqb_tells i c.loop-k.k) [
    | inl e ↦ rw e.1 (get_or-set_same c.loop-k.rows c.loop-k.k c.loop-k.start 0
        (omega (arith, c.requires.rows, c.loop-k.invariant.long, c.loop-k-test.true)) ∙ c.loop-k.invariant.start)
    | inr e ↦ get_or-set_other c.loop-k.rows c.loop-k.k i c.loop-k.start 0 e.1
        ∙ c.loop-k.invariant.done i (omega (arith, e.1, below))
  ];
}

pub invariant_of-result : goal.invariant_of-result
invariant_of-result c =
    let fits : c.args.size.rows ≤ length c.loop-k.rows = omega (arith, c.requires.rows, c.loop-k.invariant.long) in
    let len : length (take c.args.size.rows c.loop-k.rows) ≡ c.args.size.rows = rw length-take (omega (arith, fits)) in
    let same : starts c.args.size ≡ take c.args.size.rows c.loop-k.rows =
    same_number_lists (starts c.args.size) (take c.args.size.rows c.loop-k.rows)
    (length-starts c.args.size ∙ sym len) (λ k h.
    let low : k < c.args.size.rows = omega (arith, h, length-starts c.args.size) in
    start-is c.args.size k 0 low
    ∙ sym (get_or-take c.args.size.rows c.loop-k.rows k 0 low
    ∙ c.loop-k.invariant.done k (omega (arith, low, c.loop-k-test.false)))) in
    record {
      size = c.requires;
      rows = subst (λ ys. IsPermutation (starts c.args.size) ys) same (IsPermutation-refl (starts c.args.size));
    }
