-- The blank cells at the end of a row.
use Rattle.std.proofs.Common.{◌≡◌, ℕ, ◌+◌, ◌<◌, List, [], ◌∷◌, ◌++◌, true, false, length, take, get_or, refl, sym, ap}
use Rattle.std.proofs.Common.{◌∙◌, add-one}
use Rattle.std.proofs.Math.Seq.{take-suc}
use Rattle.vt_screen.specs.declared.cell.Cell.{Cell}
use Rattle.vt_picture.specs.Looks.{is_blank, before_trimmed, trimmed}

-- a cell that isn't blank keeps what is before it
trimmed-shown : (cells : List Cell) (cell : Cell) → is_blank cell ≡ false
    → trimmed (cells ++ cell ∷ []) ≡ cells ++ cell ∷ []
trimmed-shown [] cell shown = rw shown refl
trimmed-shown (a ∷ []) cell shown = rw (trimmed-shown [] cell shown) refl
trimmed-shown (a ∷ b ∷ rest) cell shown = rw (trimmed-shown (b ∷ rest) cell shown) refl

-- a blank cell at the end is left out
trimmed-blank : (cells : List Cell) (cell : Cell) → is_blank cell ≡ true → trimmed (cells ++ cell ∷ []) ≡ trimmed cells
trimmed-blank [] cell blank = rw blank refl
trimmed-blank (a ∷ rest) cell blank = ap (λ (t : List Cell). before_trimmed a t) (trimmed-blank rest cell blank)

-- a front that ends with a blank cell
pub trimmed-take-blank : (cells : List Cell) (n : ℕ) (d : Cell) → n < length cells → is_blank (get_or cells n d) ≡ true
    → trimmed (take (n + 1) cells) ≡ trimmed (take n cells)
trimmed-take-blank cells n d below blank =
    ap trimmed (ap (λ k. take k cells) (add-one n) ∙ take-suc cells n d below)
    ∙ trimmed-blank (take n cells) (get_or cells n d) blank

-- a front that ends with another cell
pub trimmed-take-shown : (cells : List Cell) (n : ℕ) (d : Cell) → n < length cells → is_blank (get_or cells n d) ≡ false
    → trimmed (take (n + 1) cells) ≡ take (n + 1) cells
trimmed-take-shown cells n d below shown =
    let front : take (n + 1) cells ≡ take n cells ++ get_or cells n d ∷ [] =
    ap (λ k. take k cells) (add-one n) ∙ take-suc cells n d below in
    ap trimmed front ∙ trimmed-shown (take n cells) (get_or cells n d) shown ∙ sym front
