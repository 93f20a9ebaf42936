-- The limits of lines: what fits in them.
use Rattle.std.proofs.Common.{ℕ, ◌≡◌, ◌≤◌, ◌+◌, ◌-◌, ◌*◌, ◌∙◌, ap, sym, max, arith}
use Rattle.std.proofs.lemmas.Nat.{mul-le}
use Rattle.vt_screen.specs.declared.size.Size.{Size}
use Rattle.vt_screen.specs.Sizes.{IsSize}
use Rattle.vt_term.specs.Text.{row_text_limit, text_limit}
use Rattle.vt_utf8.specs.Limits.{lines_limit as utf8_lines_limit}
use Rattle.vt_xterm.specs.Limits.{lines_limit, xterm_lines_limit}

left-max : (a b : ℕ) → a ≤ max a b
left-max a b = omega arith

right-max : (a b : ℕ) → b ≤ max a b
right-max a b = omega arith

-- the rows of a screen
pub screen-fits : (size : Size) → text_limit size ≤ lines_limit size
screen-fits size =
    mul-le size.rows (row_text_limit size) (max size.rows 22) (row_text_limit size) (left-max size.rows 22) (omega arith)

-- a character
pub character-fits : (size : Size) → utf8_lines_limit size ≤ lines_limit size
character-fits size =
    mul-le 22 (row_text_limit size) (max size.rows 22) (row_text_limit size) (right-max size.rows 22) (omega arith)

-- a limit that was computed before bytes were played
pub limit-stays : (s t : Size) (limit : ℕ) → t ≡ s → limit ≡ xterm_lines_limit s → limit ≡ xterm_lines_limit t
limit-stays s t limit same is = is ∙ ap xterm_lines_limit (sym same)

-- more, and what it leaves
pub before-more : (n a : ℕ) → n ≤ n + a
before-more n a = omega arith

pub more-fits : (n a b : ℕ) → a ≤ b → n + a ≤ n + b
more-fits n a b few = omega (arith, few)

-- a row
pub row-fits : (size : Size) → IsSize size → row_text_limit size ≤ text_limit size
row-fits size is =
    let one : 1 * row_text_limit size ≤ size.rows * row_text_limit size =
    mul-le 1 (row_text_limit size) size.rows (row_text_limit size) (omega (arith, is.rows.0)) (omega arith) in
    omega (arith, one)

-- at the greatest size
pub lines-few : (rows limit : ℕ) → rows ≤ 255 → limit ≤ 766 → rows * limit ≤ 195330
lines-few rows limit some few = mul-le rows limit 255 766 some few

-- a row more in a screen
pub one-more : (limit row rows : ℕ) → 1 ≤ row → row ≤ rows → (row - 1) * limit + limit ≤ rows * limit
one-more limit row rows some few =
    let step : (row - 1 + 1) * limit ≤ rows * limit = mul-le (row - 1 + 1) limit rows limit (omega arith) (omega arith) in
    omega (arith, step)

-- the first rows, so many
pub few-rows : (limit count rows : ℕ) → count ≤ rows → count * limit ≤ rows * limit
few-rows limit count rows few = mul-le count limit rows limit few (omega arith)
