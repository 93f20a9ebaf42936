-- One more row.
use Rattle.std.proofs.Common.{◌≡◌, ℕ, zero, suc, ◌+◌, ◌-◌, ◌≤◌, List, [], ◌∷◌, ◌++◌, ap, ◌∙◌, arith, append-nil}
use Rattle.std.proofs.Common.{append_assoc, sym}
use Rattle.std.specs.List.{range_with_len, flat_map}
use Rattle.std.proofs.lemmas.Grind.{flat_map-append}
use Rattle.vt_screen.specs.declared.cell.Cell.{Cell}
use Rattle.vt_screen.specs.Grid.{Grid, row_of}

range-suc : (a n : ℕ) → range_with_len a (suc n) ≡ range_with_len a n ++ (a + n) ∷ []
range-suc a zero = let e : a ≡ a + 0 = omega arith in ap (λ (m : ℕ). let ms : List ℕ = m ∷ [] in ms) e
range-suc a (suc n) =
    let e : a + 1 + n ≡ a + suc n = omega arith in
    ap (λ (ms : List ℕ). let all : List ℕ = a ∷ ms in
    all) (range-suc (a + 1) n ∙ ap (λ m. range_with_len (a + 1) n ++ m ∷ []) e)

-- what a function gives for the first rows, and for one more
pub rows-more : (f : ℕ → List ℕ) (n m : ℕ) → n + 1 ≡ m → flat_map f (range_with_len 1 (n + 1))
    ≡ flat_map f (range_with_len 1 n) ++ f m
rows-more f n m e =
    let one : n + 1 ≡ suc n = omega arith in
    let last : 1 + n ≡ m = omega (arith, e) in
    ap (λ k. flat_map f (range_with_len 1 k)) one
    ∙ ap (λ (rows : List ℕ). flat_map f rows) (range-suc 1 n ∙ ap (λ k. range_with_len 1 n ++ k ∷ []) last)
    ∙ flat_map-append f (range_with_len 1 n) (m ∷ [])
    ∙ ap (λ (t : List ℕ). flat_map f (range_with_len 1 n) ++ t) (append-nil (f m))

-- after what a function gives for those before a row, what it gives for that row
pub part_written : (f : ℕ → List ℕ) (row : ℕ) (before held after : List ℕ) → 1 ≤ row
    → held ≡ before ++ flat_map f (range_with_len 1 (row - 1)) → after ≡ held ++ f row
    → after ≡ before ++ flat_map f (range_with_len 1 (row + 1 - 1))
part_written f row before held after from_1 was is =
    let next : row - 1 + 1 ≡ row + 1 - 1 = omega arith in
    is ∙ ap (λ (t : List ℕ). t ++ f row) was ∙ append_assoc before (flat_map f (range_with_len 1 (row - 1))) (f row)
    ∙ ap (λ (t : List ℕ). before ++ t)
    (sym (rows-more f (row - 1) row (omega arith)) ∙ ap (λ n. flat_map f (range_with_len 1 n)) next)

-- what is written of the first rows of a grid, each by its number and its cells
abbrev of_rows : (ℕ → List Cell → List ℕ) → ℕ → Grid → List ℕ
of_rows f count g = flat_map (λ r. f r (row_of g r)) (range_with_len 1 count)

-- after those before a row, what is written of that row
pub row_written : (f : ℕ → List Cell → List ℕ) (g : Grid) (row : ℕ) (before held after : List ℕ) (cells : List Cell)
    → 1 ≤ row → cells ≡ row_of g row → held ≡ before ++ of_rows f (row - 1) g → after ≡ held ++ f row cells
    → after ≡ before ++ of_rows f (row + 1 - 1) g
row_written f g row before held after cells from_1 are was is =
    part_written (λ r. f r (row_of g r)) row before held after from_1 was (is ∙ ap (λ c. held ++ f row c) are)
