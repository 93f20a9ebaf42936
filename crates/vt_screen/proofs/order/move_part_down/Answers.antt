use Rattle.std.proofs.Common.{arith, ◌≡◌, ◌+◌, ◌-◌, length, inl, inr, ap, get_or, ◌∙◌}
use Rattle.std.proofs.lemmas.List.Sorted.{IsPermutation-put_mid}
use borrow.Rule.Slice.PartMut.{mid_of}
use Rattle.vt_screen.proofs.Lists.{before-put_mid, within-put_mid, after-put_mid, length-mid_of, get_or-mid_of}
use Rattle.vt_screen.proofs.order.move_part_down.Goals as goal

pub returns-clause-outside : goal.returns-clause-outside
returns-clause-outside c = λ r r1 h.
    let len : length c.move_last_before.new.rows ≡ c.args.bottom - (c.args.top - 1) = c.move_last_before.auto.rows
    ∙ length-mid_of (c.args.top - 1) (c.args.bottom - (c.args.top - 1)) c.args.rows.now (omega arith) in
    elim h [
      | inl l ↦ before-put_mid (c.args.top - 1) (c.args.bottom - (c.args.top - 1)) c.args.rows.now
          c.move_last_before.new.rows (r - 1) 0 (omega arith) (omega arith)
      | inr l ↦ after-put_mid (c.args.top - 1) (c.args.bottom - (c.args.top - 1)) c.args.rows.now
          c.move_last_before.new.rows (r - 1) 0 (omega arith) len (omega arith)
    ]

pub returns-clause-moved : goal.returns-clause-moved
returns-clause-moved c = λ r low high.
    let mid : length (mid_of (c.args.top - 1) (c.args.bottom - (c.args.top - 1)) c.args.rows.now) ≡ c.args.bottom -
    (c.args.top - 1) = length-mid_of (c.args.top - 1) (c.args.bottom - (c.args.top - 1)) c.args.rows.now
    (omega arith) in
    let len : length c.move_last_before.new.rows ≡ c.args.bottom - (c.args.top - 1) = c.move_last_before.auto.rows
    ∙ mid in
    let place : c.args.top - 1 + (r - 1 - (c.args.top - 1) - 1) ≡ r - 1 - 1 = omega arith in
    within-put_mid (c.args.top - 1) (c.args.bottom - (c.args.top - 1)) c.args.rows.now c.move_last_before.new.rows
    (r - 1) 0 (omega arith) len (omega arith) (omega arith)
    ∙ c.move_last_before.ensures.moved (r - 1 - (c.args.top - 1)) (omega arith) (omega arith)
    ∙ get_or-mid_of (c.args.top - 1) (c.args.bottom - (c.args.top - 1)) c.args.rows.now
    (r - 1 - (c.args.top - 1) - 1) 0 (omega arith)
    ∙ ap (λ x. get_or c.args.rows.now x 0) place

pub returns-clause-permutation : goal.returns-clause-permutation
returns-clause-permutation c =
    IsPermutation-put_mid (c.args.top - 1) (c.args.bottom - (c.args.top - 1)) c.args.rows.now c.move_last_before.new.rows
    c.move_last_before.ensures.permutation
