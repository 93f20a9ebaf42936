-- The lines of a byte have room in a few texts of the largest screen, and so has a text.
use Rattle.std.proofs.Common.{ℕ, ◌*◌, ◌≤◌, max, arith}
use Rattle.std.proofs.lemmas.Nat.{mul-le}

pub text_room : (rows row : ℕ) → rows ≤ 255 → row ≤ 766 → rows * row ≤ 195330
text_room rows row few short =
    let most : rows * row ≤ 255 * 766 = mul-le rows row 255 766 few short in
    omega (arith, most)

-- the lines of a screen, or of a character
lines_room : (rows row : ℕ) → rows ≤ 255 → row ≤ 766 → max rows 22 * row ≤ 195330
lines_room rows row few short =
    let least : max rows 22 ≤ 255 = omega (arith, few) in
    let most : max rows 22 * row ≤ 255 * 766 = mul-le (max rows 22) row 255 766 least short in
    omega (arith, most)

-- twice as many
pub xterm_room : (rows row : ℕ) → rows ≤ 255 → row ≤ 766 → 2 * (max rows 22 * row) ≤ 390660
xterm_room rows row few short = omega (arith, lines_room rows row few short)
