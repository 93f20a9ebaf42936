-- Rows that show the same.
use Rattle.std.proofs.Common.{◌≡◌, ℕ, ◌+◌, List, [], ◌∷◌, Bool, true, false, ◌==◌, refl, eq-eqb}
use Rattle.vt_screen.specs.declared.cell.Cell.{Cell}
use Rattle.vt_screen.specs.Same.{same_bool}
use Rattle.vt_picture.specs.declared.drawing.pen.Pen.{Pen}
use Rattle.vt_picture.specs.Draw.{same_look, row_bytes, row_pen}

same_number : (n : ℕ) → (n == n) ≡ true
same_number n = eq-eqb n n refl

same_bool-same : (b : Bool) → same_bool b b ≡ true
same_bool-same true = refl
same_bool-same false = refl

pub looks_like_itself : (cell : Cell) → same_look cell cell ≡ true
looks_like_itself cell =
    rw (
      same_number cell.glyph,
      same_bool-same cell.rendition.bold,
      same_bool-same cell.rendition.underline,
      same_bool-same cell.rendition.blink,
      same_bool-same cell.rendition.reverse,
    )
    refl

-- nothing is written of a row that shows the same
pub row-unwritten : (row col : ℕ) (cells : List Cell) (pen : Pen) → row_bytes row col cells cells pen ≡ []
row-unwritten row col [] pen = refl
row-unwritten row col (cell ∷ cells) pen = rw (looks_like_itself cell) (row-unwritten row (col + 1) cells pen)

pub row-pen_kept : (row col : ℕ) (cells : List Cell) (pen : Pen) → row_pen row col cells cells pen ≡ pen
row-pen_kept row col [] pen = refl
row-pen_kept row col (cell ∷ cells) pen = rw (looks_like_itself cell) (row-pen_kept row (col + 1) cells pen)
