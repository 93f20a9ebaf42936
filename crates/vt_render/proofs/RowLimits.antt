-- The most bytes of all rows, a row at a time; and what is kept in front of what is appended.
use Rattle.std.proofs.Common.{ℕ, List, ◌≡◌, ◌∙◌, refl, sym, ap, ◌++◌, ◌+◌, ◌-◌, ◌*◌, ◌≤◌, length, take, take_at, take-take, length-take, arith}
use Rattle.std.proofs.lemmas.Nat.{mul-le}
use Rattle.vt_screen.specs.declared.size.Size.{Size}
use Rattle.vt_render.specs.Limits.{shown_row_limit, alternative_row_limit, picture_row_limit}

pub appended : (a m b : List ℕ) → b ≡ a ++ m → take (length a) b ≡ a
appended a m b is = ap (take (length a)) is ∙ take_at a m (length a) refl

pub then_kept : (a b c : List ℕ) → take (length a) b ≡ a → take (length b) c ≡ b → take (length a) c ≡ a
then_kept a b c h k =
    let few : length a ≤ length b = omega (arith, ap length h, length-take (length a) b) in
    sym (take-take (length a) (length b) c few) ∙ ap (λ (xs : List ℕ). take (length a) xs) k ∙ h

-- a row fits after those before it
pub row-fits : (limit row rows held before all need : ℕ) → 1 ≤ row → row ≤ rows → held ≤ before + (row - 1) * limit
    → before + rows * limit ≤ all → need ≤ limit → held + need ≤ all
row-fits limit row rows held before all need from_1 last is room few =
    let step : (row - 1 + 1) * limit ≤ rows * limit = mul-le (row - 1 + 1) limit rows limit (omega arith) (omega arith) in
    omega (arith, step, is, room, few)

-- after those before a row, that row
pub one_row : (limit row held before after : ℕ) → 1 ≤ row → held ≤ before + (row - 1) * limit → after ≤ held + limit
    → after ≤ before + (row + 1 - 1) * limit
one_row limit row held before after from_1 was is =
    let next : row + 1 - 1 ≡ row - 1 + 1 = omega arith in
    rw next (omega (arith, was, is))

-- ---- the cells of a row, of which there are at most as many as the wide screen has columns

pub shown-fits : (size : Size) (len : ℕ) → len ≤ size.wide → 73 * len + 62 ≤ shown_row_limit size
unfolding shown_row_limit
shown-fits size len few = omega (arith, few)

pub alternative-fits : (size : Size) (len : ℕ) → len ≤ size.wide → 15 * len + 1 ≤ alternative_row_limit size
unfolding alternative_row_limit
alternative-fits size len few = omega (arith, few)

pub picture-fits : (size : Size) (len : ℕ) → len ≤ size.wide → 287 * len ≤ picture_row_limit size
unfolding picture_row_limit
picture-fits size len few = omega (arith, few)
