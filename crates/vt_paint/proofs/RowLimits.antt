-- The most bytes of cells, of a row and of all rows.
use Rattle.std.proofs.Common.{◌≡◌, ◌+◌, ◌-◌, ◌*◌, ◌≤◌, ◌<◌, ◌⊎◌, ℕ, Bool, true, false, cond, ltb, refl, arith}
use Rattle.std.proofs.lemmas.Bool.{ltb-true, ltb-false}
use Rattle.std.proofs.lemmas.Nat.{mul-le}
use Rattle.vt_screen.specs.declared.size.Size.{Size}
use Rattle.vt_screen.specs.Sizes.{IsSize, vt220_size}
use Rattle.vt_paint.specs.Limits.{row_digits, cell_limit, row_limit, paint_limit, changes_limit}

pub three_digits : (rows : ℕ) → row_digits rows ≤ 3
unfolding row_digits
three_digits rows = go (ltb rows 100)
  where
    go : (b : Bool) → cond b 2 3 ≤ 3
    go true = omega arith
    go false = omega arith

-- the limit of a VT220's size
pub vt220_limited : (size : Size) → size ≡ vt220_size → paint_limit size ≡ 93512
unfolding row_limit row_digits
vt220_limited size is = rw is refl

-- some of the cells
pub some-cells : (row i len : ℕ) → i ≤ len → cell_limit row * i ≤ cell_limit row * len
some-cells row i len h = mul-le (cell_limit row) i (cell_limit row) len (omega arith) h

pub digits-grow : (row rows : ℕ) → row ≤ rows → row_digits row ≤ row_digits rows
unfolding row_digits
digits-grow row rows h = go (ltb row 100) (ltb rows 100) refl refl
  where
    go : (a b : Bool) → ltb row 100 ≡ a → ltb rows 100 ≡ b → cond a 2 3 ≤ cond b 2 3
    go true true e f = omega arith
    go true false e f = omega arith
    go false false e f = omega arith
    go false true e f =
        let few = ltb-true rows 100 f in
        let many = ltb-false row 100 e in
        absurd (omega arith)

-- a row has at most as many cells as a row of the wide screen, and that has at most 255
pub few-cells : (size : Size) (len : ℕ) → IsSize size → (len ≡ size.narrow) ⊎ (len ≡ size.wide)
    → (len ≤ size.wide) × (size.wide ≤ 255)
few-cells size len sized is = (omega (arith, sized.wide, is), sized.columns)

-- the cells of a row
pub row-fits : (size : Size) (row len : ℕ) → row ≤ size.rows → len ≤ size.wide → cell_limit row * len ≤ row_limit size
unfolding row_limit
row-fits size row len h k =
    mul-le (cell_limit row) len (cell_limit size.rows) size.wide (omega (arith, digits-grow row size.rows h)) k

-- one row more fits in all rows
pub one-more : (limit row rows : ℕ) → 1 ≤ row → row ≤ rows → (row - 1) * limit + limit ≤ rows * limit
one-more limit row rows some few =
    let step : (row - 1 + 1) * limit ≤ rows * limit = mul-le (row - 1 + 1) limit rows limit (omega arith) (omega arith) in
    omega (arith, step)

-- after those before a row, that row
pub one_row : (row limit before held after : ℕ) → 1 ≤ row → held ≤ before + (row - 1) * limit → after ≤ held + limit
    → after ≤ before + (row + 1 - 1) * limit
one_row row limit before held after from_1 was is =
    let next : row + 1 - 1 ≡ row - 1 + 1 = omega arith in
    rw next (omega (arith, was, is))

-- the same from none
pub rows-so-far : (row limit held after : ℕ) → 1 ≤ row → held ≤ (row - 1) * limit → after ≤ held + limit
    → after ≤ (row + 1 - 1) * limit
rows-so-far row limit held after from_1 was is =
    let next : row + 1 - 1 ≡ row - 1 + 1 = omega arith in
    rw next (omega (arith, was, is))

-- CUP with a row and a column
pub position-short : (row len : ℕ) → (row < 100 → len ≤ 9) → len ≤ 10 → len ≤ 7 + row_digits row
unfolding row_digits
position-short row len short bounded = go (ltb row 100) refl
  where
    go : (b : Bool) → ltb row 100 ≡ b → len ≤ 7 + cond b 2 3
    go true e = omega (arith, short (ltb-true row 100 e))
    go false e = omega arith

-- the limit of a repaint of any size
pub paint-small : (size : Size) → IsSize size → paint_limit size ≤ 1953620
unfolding row_limit
paint-small size sized =
    let row : row_limit size ≤ 7650 =
    mul-le (cell_limit size.rows) size.wide 30 255 (omega (arith, three_digits size.rows)) sized.columns in
    let all : size.rows * row_limit size ≤ 255 * 7650 = mul-le size.rows (row_limit size) 255 7650 sized.rows.1 row in
    omega (arith, all, sized.columns)

-- the limit of changes of a VT220's size
pub vt220_changes : (n : ℕ) → changes_limit vt220_size n ≡ 28 * n + 230
unfolding row_digits
vt220_changes n = refl
