-- The xterm's cells as halves of wide characters.
use Rattle.std.specs.Prelude.{◌≡◌, refl, ℕ, nat_le, ◌⊎◌, ◌==◌, ◌&&◌, ◌||◌, not, Bool, true, false, if◌then◌else◌}
use Rattle.std.proofs.Common.{sym, ap, ◌∙◌, inl, inr}
use Rattle.std.proofs.lemmas.Bool.{false≢true}
use Rattle.std.proofs.lemmas.Bool.Decides.{eqb_tells}
use Rattle.vt_wide.specs.Kinds.{WideOf, IsNarrow, AreHalves, KeepsWhole}
use Rattle.vt_xterm_cell.specs.Characters.{is_mark}
use Rattle.vt_xterm_cell.specs.Words.{CellParts}
use Rattle.vt_xterm_cell.specs.Cells.{written_cell, second_cell, is_second, blank_cell, space_with, selectively_erased_cell, marked}

abbrev pub xterm_wide : WideOf CellParts
xterm_wide = record {
  is_wide = λ cell. cell.wide;
  is_second = is_second;
  second = λ cell. second_cell cell.look;
  marked = marked;
  spaced = λ cell. space_with cell.look;
  with_byte = λ pen b. written_cell pen.look b false;
}

-- ---- for edits of rows with wide characters

spaced_narrow : (cell : CellParts) → IsNarrow xterm_wide (space_with cell.look)
spaced_narrow cell = record { wide = refl; second = refl }

pub xterm_blank_narrow : IsNarrow xterm_wide blank_cell
xterm_blank_narrow = record { wide = refl; second = refl }

wide_first : (cell : CellParts) (wide : Bool) → cell.wide ≡ wide → wide ≡ true → (not wide && cell.character == 0) ≡ false
wide_first cell true is on = refl
wide_first cell false is on = absurd (false≢true on)

-- a mark leaves character, width and look
record KeepsHalves (before after : CellParts) : Type 0 where
  wide : after.wide ≡ before.wide
  second : is_second after ≡ is_second before
  other : second_cell after.look ≡ second_cell before.look

marked_by : (cell : CellParts) (mark : ℕ) (stays none one : Bool) → KeepsHalves cell
    (if stays then cell else (if none then record cell { mark = mark } else (if one then record cell { other_mark = mark } else cell)))
marked_by cell mark true none one = record { wide = refl; second = refl; other = refl }
marked_by cell mark false true one = record { wide = refl; second = refl; other = refl }
marked_by cell mark false false true = record { wide = refl; second = refl; other = refl }
marked_by cell mark false false false = record { wide = refl; second = refl; other = refl }

marked_halves : (cell : CellParts) (mark : ℕ) → KeepsHalves cell (marked cell mark)
marked_halves cell mark =
    marked_by cell mark (is_second cell || not (is_mark mark)) (cell.mark == 0) (cell.other_mark == 0)

letter_narrow : (pen : CellParts) (b : ℕ) → nat_le 0x20 b ≡ true → IsNarrow xterm_wide (written_cell pen.look b false)
letter_narrow pen b is = record { wide = refl; second = shown b is }
  where
    shown : (b : ℕ) → nat_le 0x20 b ≡ true → (b == 0) ≡ false
    shown b low = elim (eqb_tells b 0) [ inl e ↦ absurd (false≢true (sym (ap (nat_le 0x20) e.1) ∙ low)) | inr e ↦ e.0 ]

pub xterm_halves : AreHalves xterm_wide
xterm_halves = record {
  first = λ cell is. wide_first cell cell.wide refl is;
  ends = λ cell. refl;
  second = λ cell. refl;
  marked_wide = λ cell mark. (marked_halves cell mark).wide;
  marked_first = λ cell mark. (marked_halves cell mark).second;
  marked_second = λ cell mark. (marked_halves cell mark).other;
  spaced = spaced_narrow;
  letter = letter_narrow;
}

abbrev erased_if : Bool → CellParts → CellParts
erased_if protected cell = if protected then cell else space_with cell.look

record ErasedAs (protected : Bool) (cell : CellParts) : Type 0 where
  first : cell.wide ≡ false → (erased_if protected cell).wide ≡ false
  second : is_second cell ≡ false → is_second (erased_if protected cell) ≡ false
  whole : ((erased_if protected cell ≡ cell) × (erased_if protected (second_cell cell.look) ≡ second_cell cell.look))
      ⊎ (IsNarrow xterm_wide (erased_if protected cell) × IsNarrow xterm_wide (erased_if protected (second_cell cell.look)))

erased_as : (cell : CellParts) (protected : Bool) → ErasedAs protected cell
erased_as cell true = record { first = λ h. h; second = λ h. h; whole = inl (refl, refl) }
erased_as cell false = record { first = λ h. refl; second = λ h. refl; whole = inr (spaced_narrow cell, spaced_narrow (second_cell cell.look)) }

pub xterm_erased_whole : KeepsWhole xterm_wide selectively_erased_cell
xterm_erased_whole = record {
  no_first = λ cell. (erased_as cell cell.look.protected).first;
  no_second = λ cell. (erased_as cell cell.look.protected).second;
  wide = λ cell is. (erased_as cell cell.look.protected).whole;
}
