use Rattle.std.proofs.Common.{arith, ℕ, ◌+◌, ◌*◌, ◌^◌, ◌<◌, ◌≤◌, Option, Some, None, IfSome}
use Rattle.vt_cli.proofs.moment.seconds.Goals as goal

-- what is below a bound is below a greater one
below : (o : Option ℕ) (less most : ℕ) → less ≤ most → IfSome o (λ n. n < less) → IfSome o (λ n. n < most)
below None less most bound small = tt
below (Some n) less most bound small = omega arith

-- a greater unit of up to nine digits, and so many of the next unit
module _ (greater : ℕ) (digits : greater < 10 ^ 9) where
  greater_small : greater < 10 ^ 11
  greater_small = omega arith

  next_bounded : 60 * greater + 60 ≤ 10 ^ 13
  next_bounded = omega arith

  next_small : (next : ℕ) → next < 60 * greater + 60 → next < 10 ^ 11
  next_small next small = omega arith

  last_bounded : (next : ℕ) → next < 60 * greater + 60 → 60 * next + 60 ≤ 10 ^ 13
  last_bounded next small = omega arith

pub returns-in_default-clause-small : goal.returns-in_default-clause-small
returns-in_default-clause-small c = below c.number.result (10 ^ 9) (10 ^ 13) (omega arith) c.number.ensures.small

pub returns-in-None-clause-small : goal.returns-in-None-clause-small
returns-in-None-clause-small c =
    below c.with_sixtieth.result _ (10 ^ 13) (next_bounded _ c.in_ok-greater.ensures.small) c.with_sixtieth.ensures.small

pub returns-in_ok-with_sixtieth-in-Some-place-clause-small : goal.returns-in_ok-with_sixtieth-in-Some-place-clause-small
returns-in_ok-with_sixtieth-in-Some-place-clause-small c =
    below c.with_sixtieth-in-Some-place-2.result _ (10 ^ 13)
    (last_bounded _ c.in_ok-greater.ensures.small _ c.in_ok-with_sixtieth-in-Some-place.ensures.small)
    c.with_sixtieth-in-Some-place-2.ensures.small

pub with_sixtieth-requires : goal.with_sixtieth-requires
with_sixtieth-requires c = greater_small _ c.in_ok-greater.ensures.small

pub with_sixtieth-requires-in-Some-place : goal.with_sixtieth-requires-in-Some-place
with_sixtieth-requires-in-Some-place c = greater_small _ c.in_ok-greater.ensures.small

pub with_sixtieth-requires-in-Some-place-2 : goal.with_sixtieth-requires-in-Some-place-2
with_sixtieth-requires-in-Some-place-2 c =
    next_small _ c.in_ok-greater.ensures.small _ c.in_ok-with_sixtieth-in-Some-place.ensures.small
