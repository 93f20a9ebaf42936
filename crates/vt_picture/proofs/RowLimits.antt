-- The most bytes of all rows, a row at a time, and of a row by its cells.
use Rattle.std.proofs.Common.{ℕ, ◌≡◌, refl, ◌+◌, ◌-◌, ◌*◌, ◌≤◌, ◌⊎◌, arith}
use Rattle.std.proofs.lemmas.Nat.{mul-le}
use Rattle.vt_screen.specs.declared.size.Size.{Size}
use Rattle.vt_screen.specs.Sizes.{IsSize, vt220_size}
use Rattle.vt_paint.specs.Limits.{row_digits}
use Rattle.vt_paint.proofs.RowLimits.{digits-grow}
use Rattle.vt_picture.specs.Limits.{place_limit, places_limit, draw_limit}

-- one row more fits in all rows
pub one-more : (limit row rows : ℕ) → 1 ≤ row → row ≤ rows → (row - 1) * limit + limit ≤ rows * limit
one-more limit row rows some few =
    let step : (row - 1 + 1) * limit ≤ rows * limit = mul-le (row - 1 + 1) limit rows limit (omega arith) (omega arith) in
    omega (arith, step)

-- a row has at most as many cells as a row of the wide screen, and that has at most 255
pub few-cells : (size : Size) (len : ℕ) → IsSize size → (len ≡ size.narrow) ⊎ (len ≡ size.wide) → (len ≤ size.wide) × (size.wide ≤ 255)
few-cells size len sized is = (omega (arith, sized.wide, is), sized.columns)

-- after those before a row, that row
pub one_row : (row limit before held after : ℕ) → 1 ≤ row → held ≤ before + (row - 1) * limit → after ≤ held + limit
    → after ≤ before + (row + 1 - 1) * limit
one_row row limit before held after from_1 was is =
    let next : row + 1 - 1 ≡ row - 1 + 1 = omega arith in
    rw next (omega (arith, was, is))

-- some of the places of a row
pub some-places : (row i len : ℕ) → i ≤ len → place_limit row * i ≤ place_limit row * len
some-places row i len h = mul-le (place_limit row) i (place_limit row) len (omega arith) h

-- the places of a row
pub places-fit : (size : Size) (row len : ℕ) → row ≤ size.rows → len ≤ size.wide → place_limit row * len ≤ places_limit size
unfolding places_limit
places-fit size row len h k =
    mul-le (place_limit row) len (place_limit size.rows) size.wide (omega (arith, digits-grow row size.rows h)) k

-- the limit of a drawing of a VT220's size
pub vt220_drawn : (size : Size) → size ≡ vt220_size → draw_limit size ≡ 79270
unfolding places_limit row_digits
vt220_drawn size is = rw is refl
