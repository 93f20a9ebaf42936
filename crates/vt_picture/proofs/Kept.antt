-- Rows whose cells are the same, and are shown as before.
use Rattle.std.proofs.Common.{◌≡◌, ℕ, List, ◌++◌, Bool, true, false, not, refl, sym, ap, ◌∙◌, append-nil}
use Rattle.std.proofs.lemmas.Bool.{and_parts}
use Rattle.vt_screen.specs.declared.cell.Cell.{Cell}
use Rattle.vt_screen.specs.Same.{same_bool}
use Rattle.vt_picture.specs.declared.drawing.looks.Looks.{Looks}
use Rattle.vt_picture.specs.declared.drawing.pen.Pen.{Pen}
use Rattle.vt_picture.specs.Draw.{row_bytes, row_pen}
use Rattle.vt_picture.specs.Private.Looks.{former, keeps, latter}
use Rattle.vt_picture.proofs.Same.{row-unwritten, row-pen_kept}

not_true : (a : Bool) → not a ≡ true → a ≡ false
not_true false h = refl
not_true true h = absurd cc

same_bool-is : (a b : Bool) → same_bool a b ≡ true → a ≡ b
same_bool-is true true h = refl
same_bool-is true false h = absurd cc
same_bool-is false true h = absurd cc
same_bool-is false false h = refl

shown_as_before : (looks : Looks) (cells : List Cell) → keeps looks ≡ true → former looks cells ≡ latter looks cells
shown_as_before looks cells h =
    let parts = and_parts (not looks.erased) (same_bool looks.was_reversed looks.is_reversed) h in
    rw (not_true looks.erased parts.0, same_bool-is looks.was_reversed looks.is_reversed parts.1) refl

pub kept-bytes : (looks : Looks) (row : ℕ) (old new : List Cell) (pen : Pen) (out : List ℕ) → keeps looks ≡ true
    → old ≡ new → out ≡ out ++ row_bytes row 1 (former looks old) (latter looks new) pen
kept-bytes looks row old new pen out h e =
    sym (ap (λ (cells : List Cell). out ++ row_bytes row 1 (former looks cells) (latter looks new) pen) e
    ∙ ap (λ (cells : List Cell). out ++ row_bytes row 1 cells (latter looks new) pen) (shown_as_before looks new h)
    ∙ ap (λ (t : List ℕ). out ++ t) (row-unwritten row 1 (latter looks new) pen) ∙ append-nil out)

pub kept-pen : (looks : Looks) (row : ℕ) (old new : List Cell) (pen : Pen) → keeps looks ≡ true → old ≡ new
    → pen ≡ row_pen row 1 (former looks old) (latter looks new) pen
kept-pen looks row old new pen h e =
    sym (ap (λ (cells : List Cell). row_pen row 1 (former looks cells) (latter looks new) pen) e
    ∙ ap (λ (cells : List Cell). row_pen row 1 cells (latter looks new) pen) (shown_as_before looks new h)
    ∙ row-pen_kept row 1 (latter looks new) pen)
