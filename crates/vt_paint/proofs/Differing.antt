-- The places at which two screens differ: marks and counts, a place and a row more.
use Rattle.std.proofs.Common.{◌≡◌, inl, inr, ◌+◌, ◌-◌, ◌≤◌, ◌<◌, ℕ, List, [], Bool, true, false, not, eqb, length}
use Rattle.std.proofs.Common.{get_or, set, refl, ◌∙◌, arith, get_or-set_same, get_or-set_other, cond, sym, ap, zero}
use Rattle.std.proofs.Common.{suc}
use Rattle.std.proofs.lemmas.Bool.Decides.{eqb_tells, nat_tests}
use Rattle.std.proofs.lemmas.List.{get_or_default, get_or-replicate}
use Rattle.std.proofs.Math.ListN.{replicate}
use Rattle.vt_screen.specs.declared.cell.Cell.{Cell}
use Rattle.vt_screen.specs.Cells.{blank, brush_of}
use Rattle.vt_paint.proofs.Equality.{same_brush-same}
use Rattle.vt_screen.proofs.Places.{get_or-row_of, length-row_of}
use Rattle.vt_screen.specs.Grid.{Grid, row_of, cell_at}
use Rattle.vt_paint.specs.Changes.{same_cell, differs_at, is_marked, differing_from, differing_rows}
use Rattle.std.specs.List.{range_with_len}
use Rattle.std.proofs.lemmas.List.Sums.{sum_by_push}
use mir.Val.{bool_byte}
use Rattle.vt_paint.proofs.Pushing.{range-more}

-- two rows differ at an index
abbrev differs_in : List Cell → List Cell → ℕ → Bool
differs_in a b i = not (same_cell (get_or a i blank) (get_or b i blank))

pub mark_more : (a b : List Cell) (marks : List Bool) (k : ℕ) (x y : Cell) (v : Bool) → k < length a → k < length b
    → k < length marks → x ≡ get_or a k x → y ≡ get_or b k y → v ≡ not (same_cell x y)
    → ((i : ℕ) → i < k → get_or marks i false ≡ differs_in a b i) → (i : ℕ) → i < k + 1
    → get_or (set marks k v) i false ≡ differs_in a b i
mark_more a b marks k x y v in_a in_b inside at_x at_y is before i h =
    elim (eqb_tells i k) [
      | inl e ↦ rw (e.1, ← get_or_default a k x blank in_a, ← get_or_default b k y blank in_b, ← at_x, ← at_y)
          (get_or-set_same marks k v false inside ∙ is)
      | inr e ↦ get_or-set_other marks k i v false e.1 ∙ before i (omega (arith, e))
    ]

pub marks_more : (g h : Grid) (marks : List (List Bool)) (row : ℕ) (new : List Bool) (a b : List Cell)
    → g.width ≡ h.width
    → 1 ≤ row → row - 1 < length marks → a ≡ row_of g row → b ≡ row_of h row → length b ≡ h.width
    → ((i : ℕ) → i < length b → get_or new i false ≡ differs_in a b i)
    → ((r c : ℕ) → 1 ≤ r → r < row → 1 ≤ c → c ≤ h.width → is_marked marks r c ≡ differs_at g h r c)
    → (r c : ℕ) → 1 ≤ r → r < row + 1 → 1 ≤ c → c ≤ h.width
    → is_marked (set marks (row - 1) new) r c ≡ differs_at g h r c
marks_more g h marks row new a b same row1 inside is_a is_b long made before r c r1 rr c1 cw =
    elim (eqb_tells r row) [
      | inl e ↦ rw (
        e.1,
        get_or-set_same marks (row - 1) new [] inside,
        made (c - 1) (omega (arith, long)),
        is_a,
        is_b,
        get_or-row_of blank g row c blank c1 (omega (arith, same)),
        get_or-row_of blank h row c blank c1 cw,
      ) refl
      | inr e ↦ rw (get_or-set_other marks (row - 1) (r - 1) new [] (λ k. e.1 (omega (arith, k))))
          (before r c r1 (omega (arith, e)) c1 cw)
    ]

-- a cell is the same as itself, so no place of the same row is marked
same_cell-same : (x : Cell) → same_cell x x ≡ true
same_cell-same x =
    let glyph : eqb x.glyph x.glyph ≡ true = grind (arith, nat_tests) in
    rw (glyph, same_brush-same (brush_of x)) refl

pub unmarked : (a b : List Cell) (i n : ℕ) → a ≡ b → i < n
    → get_or (replicate n false) i false ≡ differs_in a b i
unmarked a b i n same inside =
    rw (get_or-replicate n i false false inside, same, same_cell-same (get_or b i blank)) refl

as_number : (b : Bool) → bool_byte b ≡ cond b 1 0
as_number true = refl
as_number false = refl

pub as_number-small : (b : Bool) → bool_byte b ≤ 1
as_number-small true = omega arith
as_number-small false = omega arith

pub place_more : (g h : Grid) (r i count : ℕ) (x y : Cell) (differ : Bool) → x ≡ cell_at g r (i + 1)
    → y ≡ cell_at h r (i + 1) → differ ≡ not (same_cell x y) → count ≡ differing_from g h r 1 i
    → count + bool_byte differ ≡ differing_from g h r 1 (i + 1)
place_more g h r i count x y differ at_x at_y is before =
    let told : differ ≡ differs_at g h r (i + 1) = rw (← at_x, ← at_y) is in
    rw (before, as_number differ, told, range-more 1 i (i + 1) (omega arith))
    (sym (sum_by_push (λ c. cond (differs_at g h r c) 1 0) (range_with_len 1 i) (i + 1)))

-- rows that are the same differ nowhere
none_before : (g h : Grid) (r : ℕ) → row_of g r ≡ row_of h r → (n : ℕ) → n ≤ h.width
    → 0 ≡ differing_from g h r 1 n
none_before g h r same zero inside = refl
none_before g h r same (suc n) inside =
    let more : n + 1 ≡ suc n = omega arith in
    let x = cell_at h r (n + 1) in
    let wide : g.width ≡ h.width = rw (← length-row_of blank g r, ← length-row_of blank h r, same) refl in
    let is : x ≡ cell_at g r (n + 1) =
    sym (get_or-row_of blank h r (n + 1) blank (omega arith) (omega arith))
    ∙ sym (ap (λ (xs : List Cell). get_or xs (n + 1 - 1) blank) same)
    ∙ get_or-row_of blank g r (n + 1) blank (omega arith) (omega (arith, wide)) in
    place_more g h r n 0 x x false is refl (sym (ap (λ t. not t) (same_cell-same x)))
    (none_before g h r same n (omega arith))
    ∙ ap (λ k. differing_from g h r 1 k) more

pub none_differ : (g h : Grid) (r : ℕ) (a b : List Cell) → a ≡ b → a ≡ row_of g r → b ≡ row_of h r
    → 0 ≡ differing_from g h r 1 (length b)
none_differ g h r a b same e f =
    let len : length b ≡ h.width = rw f (length-row_of blank h r) in
    none_before g h r (sym e ∙ same ∙ f) (length b) (omega (arith, len))

-- the count of one row more
pub counts_more : (g h : Grid) (counts : List ℕ) (row n : ℕ) → 1 ≤ row → row - 1 < length counts
    → n ≡ differing_from g h row 1 h.width
    → ((r : ℕ) → 1 ≤ r → r < row → get_or counts (r - 1) 0 ≡ differing_from g h r 1 h.width)
    → (r : ℕ) → 1 ≤ r → r < row + 1 → get_or (set counts (row - 1) n) (r - 1) 0 ≡ differing_from g h r 1 h.width
counts_more g h counts row n row1 inside is before r r1 rr =
    elim (eqb_tells r row) [
      | inl e ↦ rw e.1 (get_or-set_same counts (row - 1) n 0 inside ∙ is)
      | inr e ↦ get_or-set_other counts (row - 1) (r - 1) n 0 (λ k. e.1 (omega (arith, k))) ∙ before r r1 (omega (arith, e))
    ]

pub row_more : (g h : Grid) (n r k count more : ℕ) → 1 + n ≡ r → n + 1 ≡ k → count ≡ differing_rows g h 1 n
    → more ≡ differing_from g h r 1 h.width → count + more ≡ differing_rows g h 1 k
row_more g h n r k count more e next before is =
    rw (before, is, ← next, range-more 1 n r e)
    (sym (sum_by_push (λ r. differing_from g h r 1 h.width) (range_with_len 1 n) r))
