use Rattle.std.proofs.Common.{arith, ◌≡◌, ◌-◌, length, inl, inr, ◌∙◌}
use Rattle.std.proofs.lemmas.List.Sorted.{IsPermutation-put_mid}
use Rattle.vt_screen.proofs.Lists.{before-put_mid, after-put_mid, length-mid_of}
use Rattle.vt_screen.proofs.order.move_part_up.Goals as goal

pub returns-clause-outside : goal.returns-clause-outside
returns-clause-outside c = λ r r1 h.
    let len : length c.move_first_behind.new.rows ≡ c.args.bottom - (c.args.top - 1) = c.move_first_behind.auto.rows
    ∙ length-mid_of (c.args.top - 1) (c.args.bottom - (c.args.top - 1)) c.args.rows.now (omega arith) in
    elim h [
      | inl l ↦ before-put_mid (c.args.top - 1) (c.args.bottom - (c.args.top - 1)) c.args.rows.now
          c.move_first_behind.new.rows (r - 1) 0 (omega arith) (omega arith)
      | inr l ↦ after-put_mid (c.args.top - 1) (c.args.bottom - (c.args.top - 1)) c.args.rows.now
          c.move_first_behind.new.rows (r - 1) 0 (omega arith) len (omega arith)
    ]

pub returns-clause-permutation : goal.returns-clause-permutation
returns-clause-permutation c =
    IsPermutation-put_mid (c.args.top - 1) (c.args.bottom - (c.args.top - 1)) c.args.rows.now c.move_first_behind.new.rows
    c.move_first_behind.ensures.permutation
