-- One more row.
use Rattle.std.proofs.Common.{◌≡◌, ℕ, suc, List, ◌++◌, refl, append_assoc}
use Rattle.vt_screen.specs.declared.cell.Cell.{Cell}
use Rattle.vt_picture.specs.declared.drawing.pen.Pen.{Pen}
use Rattle.vt_picture.specs.Draw.{row_bytes, row_pen, rows_bytes, rows_pen}

-- after those of the rows before it, the bytes of a row
pub more_bytes : (olds news : ℕ → List Cell) (n row next : ℕ) (first pen : Pen) (before held after : List ℕ)
    (old new : List Cell) → row ≡ suc n → next ≡ suc n → old ≡ olds row → new ≡ news row → pen ≡ rows_pen olds news n first
    → held ≡ before ++ rows_bytes olds news n first → after ≡ held ++ row_bytes row 1 old new pen
    → after ≡ before ++ rows_bytes olds news next first
unfolding rows_bytes
more_bytes olds news n row next first pen before held after old new this then from to drawn was is =
    rw (is, was, drawn, from, to, this, then)
    (append_assoc before (rows_bytes olds news n first)
    (row_bytes (suc n) 1 (olds (suc n)) (news (suc n)) (rows_pen olds news n first)))

-- and the pen after it
pub more_pen : (olds news : ℕ → List Cell) (n row next : ℕ) (first pen after : Pen) (old new : List Cell) → row ≡ suc n
    → next ≡ suc n → old ≡ olds row → new ≡ news row → pen ≡ rows_pen olds news n first → after ≡ row_pen row 1 old new pen
    → after ≡ rows_pen olds news next first
unfolding rows_pen
more_pen olds news n row next first pen after old new this then from to drawn is =
    rw (is, drawn, from, to, this, then) refl
