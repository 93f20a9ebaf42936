use Rattle.std.proofs.Common.{◌∷◌, [], sym, subst, refl, arith, decimal}
use Rattle.vt_paint.specs.Spoken.{Sequence, Speaks}
use Rattle.vt_paint.proofs.Speech.{speaks-one, numbers_spoken, number_is}
use Rattle.vt_paint.proofs.Spelled.{three_parts}
use Rattle.vt_paint.proofs.function.Function.numbered.Goals as goal

pub invariant_of-result : goal.invariant_of-result
invariant_of-result c =
    let n = decimal c.args.n in
    let are = number_is c.args.n (omega (arith, c.ranges.n.fits)) in
    let spoken = speaks-one (Sequence n (c.args.last ∷ [])) (numbers_spoken n c.args.last c.requires are) in
    let all = three_parts [] (0x1B ∷ 0x5B ∷ []) n (c.args.last ∷ []) _ _ _ refl c.put_part-at.ensures.items
    c.put_number-at.ensures.items c.put_part-len.ensures.items in
    (omega arith, subst Speaks (sym all) spoken)
