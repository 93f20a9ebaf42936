-- The text of a row: the spaces at its end may be cut from its characters, or from their bytes.
use Rattle.std.proofs.Common.{◌≡◌, inl, inr, ℕ, ◌+◌, ◌-◌, ◌/◌, ◌%◌, ◌<◌, ◌≤◌, List, [], ◌∷◌, ◌++◌, length, length-append, take, drop, get_or, refl, sym, ap, ◌∙◌, arith, append_assoc, append-nil, flat_map, encode_utf8, encode_utf8_all}
use Rattle.std.proofs.lemmas.Bool.Decides.{eqb_tells}
use Rattle.std.proofs.Math.Seq.{take-append-add, drop-append_seam, take-length}
use Rattle.std.proofs.lemmas.Grind.{flat_map-append}
use Rattle.std.proofs.lemmas.List.{take_more}
use Rattle.std.proofs.lemmas.Str.{encodes-append}
use Rattle.std.proofs.str.Laws.{one, two, three, four, order}
use Rattle.vt_glyph.specs.Tables.{space}
use Rattle.vt_term.specs.Text.{trimmed, before_trimmed}
use Rattle.vt_xterm_cell.specs.Words.{CellParts}
use Rattle.vt_xterm_cell.specs.Cells.{cell_text, row_text}

before-some : (x : ℕ) (l : List ℕ) → 1 ≤ length l → before_trimmed x l ≡ x ∷ l
before-some x [] some = absurd (omega arith)
before-some x (y ∷ l) some = refl

-- spaces after some numbers, and a last one that stays
trimmed-blank : (xs ys : List ℕ) → trimmed ys ≡ [] → trimmed (xs ++ ys) ≡ trimmed xs
trimmed-blank [] ys none = none
trimmed-blank (x ∷ xs) ys none = ap (λ (t : List ℕ). before_trimmed x t) (trimmed-blank xs ys none)

trimmed-some : (xs ys : List ℕ) → 1 ≤ length (trimmed ys) → trimmed (xs ++ ys) ≡ xs ++ trimmed ys
trimmed-some [] ys some = refl
trimmed-some (x ∷ xs) ys some =
    ap (λ (t : List ℕ). before_trimmed x t) (trimmed-some xs ys some)
    ∙ before-some x (xs ++ trimmed ys) (omega (arith, length-append xs (trimmed ys), some))

trimmed-last : (xs : List ℕ) (d : ℕ) → 128 ≤ d → trimmed (xs ++ d ∷ []) ≡ xs ++ d ∷ []
trimmed-last xs d high = elim (eqb_tells d space) [
  | inl e ↦ absurd (omega (arith, e.1))
  | inr e ↦
      let one : trimmed (d ∷ []) ≡ d ∷ [] = rw e.0 refl in
      trimmed-some xs (d ∷ []) (rw one (omega arith)) ∙ ap (λ (t : List ℕ). xs ++ t) one
]

-- the bytes of a character: if it is no space, none of them is cut
encoded-beyond : (c : ℕ) → 128 ≤ c → trimmed (encode_utf8 c) ≡ encode_utf8 c
encoded-beyond c high = elim (order c 2048) [
  | inl h ↦ rw (two c high h) (trimmed-last ((192 + c / 64) ∷ []) (128 + c % 64) (omega arith))
  | inr l ↦ elim (order c 65536) [
    | inl h ↦ rw (three c l h) (trimmed-last ((224 + c / 4096) ∷ (128 + c / 64 % 64) ∷ []) (128 + c % 64) (omega arith))
    | inr m ↦ rw (four c m) (trimmed-last ((240 + c / 262144) ∷ (128 + c / 4096 % 64) ∷ (128 + c / 64 % 64) ∷ []) (128 + c % 64) (omega arith))
  ]
]

encoded-some : (c : ℕ) → 1 ≤ length (encode_utf8 c)
encoded-some c = elim (order c 128) [
  | inl h ↦ rw (one c h) (omega arith)
  | inr l ↦ elim (order c 2048) [
    | inl h ↦ rw (two c l h) (omega arith)
    | inr m ↦ elim (order c 65536) [ inl h ↦ rw (three c m h) (omega arith) | inr n ↦ rw (four c n) (omega arith) ]
  ]
]

encoded-one : (c : ℕ) → trimmed (encode_utf8 c) ≡ encode_utf8_all (before_trimmed c [])
encoded-one c = elim (eqb_tells c space) [
  | inl e ↦ rw e.0 (ap trimmed (ap encode_utf8 e.1 ∙ one space (omega arith)))
  | inr e ↦ elim (order c 128) [
    | inl h ↦ rw (e.0, one c h) (rw e.0 refl)
    | inr l ↦ rw e.0 (encoded-beyond c l ∙ sym (append-nil (encode_utf8 c)))
  ]
]

-- the bytes of characters
pub encoded-trimmed : (cs : List ℕ) → trimmed (encode_utf8_all cs) ≡ encode_utf8_all (trimmed cs)
encoded-trimmed [] = refl
encoded-trimmed (c ∷ cs) = go (trimmed cs) (encoded-trimmed cs)
  where
    go : (ts : List ℕ) → trimmed (encode_utf8_all cs) ≡ encode_utf8_all ts
        → trimmed (encode_utf8 c ++ encode_utf8_all cs) ≡ encode_utf8_all (before_trimmed c ts)
    go [] is = trimmed-blank (encode_utf8 c) (encode_utf8_all cs) is ∙ encoded-one c
    go (t ∷ ts) is =
        let some : 1 ≤ length (trimmed (encode_utf8_all cs)) =
        rw is (omega (arith, length-append (encode_utf8 t) (encode_utf8_all ts), encoded-some t)) in
        trimmed-some (encode_utf8 c) (encode_utf8_all cs) some ∙ ap (λ (x : List ℕ). encode_utf8 c ++ x) is

-- ---- the bytes of a row

-- those of one cell more
pub cells-more : (cells : List CellParts) (n : ℕ) (cell : CellParts) (old was now : List ℕ) → n < length cells
    → cell ≡ get_or cells n cell → was ≡ old ++ encode_utf8_all (flat_map cell_text (take n cells))
    → now ≡ was ++ encode_utf8_all (cell_text cell) → now ≡ old ++ encode_utf8_all (flat_map cell_text (take (n + 1) cells))
cells-more cells n cell old was now low is first second =
    let front : List ℕ = flat_map cell_text (take n cells) in
    let one : List ℕ = cell_text cell in
    second
    ∙ ap (λ (t : List ℕ). t ++ encode_utf8_all one) first
    ∙ append_assoc old (encode_utf8_all front) (encode_utf8_all one)
    ∙ ap (λ (t : List ℕ). old ++ t)
    (sym (encodes-append front one)
    ∙ ap encode_utf8_all
    (ap (λ (t : List ℕ). front ++ t) (sym (append-nil one))
    ∙ sym (flat_map-append cell_text (take n cells) (cell ∷ []))
    ∙ ap (λ (t : List CellParts). flat_map cell_text t)
    (ap (λ (x : CellParts). take n cells ++ x ∷ []) is ∙ sym (take_more cells n cell low))))

-- the spaces at its end are cut, and LF comes after it
pub line-ended : (cells : List CellParts) (start end n : ℕ) (old items slice cut : List ℕ) → start ≡ length old → n ≡ length cells
    → items ≡ old ++ encode_utf8_all (flat_map cell_text (take n cells)) → slice ≡ drop start items
    → take end slice ≡ trimmed slice → cut ≡ take (start + end) items → cut ++ 0x0A ∷ [] ≡ old ++ row_text cells
line-ended cells start end n old items slice cut here all are is ends cuts =
    let shown : List ℕ = flat_map cell_text cells in
    let text : List ℕ = encode_utf8_all shown in
    let whole : items ≡ old ++ text =
    are ∙ ap (λ (t : List CellParts). old ++ encode_utf8_all (flat_map cell_text t)) (ap (λ k. take k cells) all ∙ take-length cells) in
    let back : slice ≡ text =
    is ∙ ap (λ k. drop k items) here ∙ ap (λ (t : List ℕ). drop (length old) t) whole ∙ drop-append_seam old text in
    let kept : take end text ≡ encode_utf8_all (trimmed shown) =
    ap (λ (t : List ℕ). take end t) (sym back) ∙ ends ∙ ap trimmed back ∙ encoded-trimmed shown in
    ap (λ (t : List ℕ). t ++ 0x0A ∷ [])
    (cuts ∙ ap (λ k. take (k + end) items) here ∙ ap (λ (t : List ℕ). take (length old + end) t) whole ∙ take-append-add old text end
    ∙ ap (λ (t : List ℕ). old ++ t) kept)
    ∙ append_assoc old (encode_utf8_all (trimmed shown)) (0x0A ∷ [])
