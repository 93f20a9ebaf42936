use Rattle.std.proofs.Common.{◌∷◌, ◌++◌, [], sym, subst, refl, arith, decimal}
use Rattle.std.proofs.lemmas.Fmt.{length-decimal-le}
use Rattle.std.proofs.lemmas.List.{length-take}
use Rattle.vt_paint.specs.Spoken.{Sequence, Speaks}
use Rattle.vt_paint.proofs.Speech.{speaks-one, numbers_spoken, two_numbers_are}
use Rattle.vt_paint.proofs.Spelled.{two_numbers}
use Rattle.vt_paint.proofs.function.Function.numbered_twice.Goals as goal

pub invariant_of-result : goal.invariant_of-result
invariant_of-result c =
    let n = decimal c.args.n in
    let m = decimal c.args.m in
    let is = two_numbers_are c.args.n c.args.m (omega (arith, c.ranges.n.fits)) (omega (arith, c.ranges.m.fits)) in
    let spoken = speaks-one (Sequence (n ++ 0x3B ∷ m) (c.args.last ∷ []))
    (numbers_spoken (n ++ 0x3B ∷ m) c.args.last c.requires is) in
    let all = two_numbers [] n m _ _ _ _ _ c.args.last refl c.put_part-at.ensures.items c.put_number-at.ensures.items
    c.put_part-at-2.ensures.items c.put_number-at-2.ensures.items c.put_part-len.ensures.items in
    (omega arith, subst Speaks (sym all) spoken)

pub returns-clause-short : goal.returns-clause-short
returns-clause-short c = λ h.
    let first = length-decimal-le 2 c.args.n (omega arith) (omega arith) (omega arith) in
    rw length-take (omega (arith, first))

pub returns-clause-shorter : goal.returns-clause-shorter
returns-clause-shorter c = λ h k.
    let first = length-decimal-le 2 c.args.n (omega arith) (omega arith) (omega arith) in
    let second = length-decimal-le 2 c.args.m (omega arith) (omega arith) (omega arith) in
    rw length-take (omega (arith, first, second))

pub returns-clause-shortest : goal.returns-clause-shortest
returns-clause-shortest c = λ h.
    let first = length-decimal-le 1 c.args.n (omega arith) (omega arith) (omega arith) in
    rw length-take (omega (arith, first))
