use Rattle.std.proofs.Common.{◌+◌, ◌++◌, List, ℕ, length, take, sym, ap, ◌∙◌, arith}
use Rattle.std.proofs.lemmas.Fmt.{decimal_digit}
use Rattle.vt_paint.proofs.Digits.{two_digits, three_digits}
use Rattle.vt_paint.proofs.bytes.put_number.Goals as goal

pub returns-then-n-lt10-clause-items : goal.returns-then-n-lt10-clause-items
returns-then-n-lt10-clause-items g c =
    c.put_part.ensures.items ∙ ap (λ (xs : List ℕ). take c.args.at c.args.all.now ++ xs)
    (sym (decimal_digit c.args.n (omega (arith, c.if-n-lt10.true))))

pub returns-then-n-lt10-clause-next : goal.returns-then-n-lt10-clause-next
returns-then-n-lt10-clause-next g c =
    c.put_part.ensures.next ∙ ap (λ (xs : List ℕ). c.args.at + length xs)
    (sym (decimal_digit c.args.n (omega (arith, c.if-n-lt10.true))))

pub returns-then-n-lt100-clause-items : goal.returns-then-n-lt100-clause-items
returns-then-n-lt100-clause-items g c =
    c.put_part-then-n-lt100.ensures.items ∙ ap (λ (xs : List ℕ). take c.args.at c.args.all.now ++ xs)
    (two_digits c.args.n (omega (arith, c.if-n-lt10.false)) (omega (arith, c.if-n-lt100.true)))

pub returns-then-n-lt100-clause-next : goal.returns-then-n-lt100-clause-next
returns-then-n-lt100-clause-next g c =
    c.put_part-then-n-lt100.ensures.next ∙ ap (λ (xs : List ℕ). c.args.at + length xs)
    (two_digits c.args.n (omega (arith, c.if-n-lt10.false)) (omega (arith, c.if-n-lt100.true)))

pub returns-clause-items : goal.returns-clause-items
returns-clause-items g c =
    c.put_part-2.ensures.items ∙ ap (λ (xs : List ℕ). take c.args.at c.args.all.now ++ xs)
    (three_digits c.args.n (omega (arith, c.if-n-lt100.false)) (omega (arith, c.ranges.n.fits)))

pub returns-clause-next : goal.returns-clause-next
returns-clause-next g c =
    c.put_part-2.ensures.next ∙ ap (λ (xs : List ℕ). c.args.at + length xs)
    (three_digits c.args.n (omega (arith, c.if-n-lt100.false)) (omega (arith, c.ranges.n.fits)))
