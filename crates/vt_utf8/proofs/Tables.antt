-- The codes of the tables encode the glyphs of the definition's charts and rows.
use Rattle.std.proofs.Common.{◌≡◌, ◌≢◌, inl, inr, ℕ, ◌+◌, ◌-◌, ◌≤◌, ◌<◌, Bool, true, false, List, [], ◌∷◌, map, refl, sym, ap, ◌∙◌, arith, ◌&&◌}
use Rattle.std.proofs.Common.{get_or}
use Rattle.std.specs.Prelude.{nat_lt, nat_le, if◌then◌else◌}
use Rattle.std.specs.List.{range_with_len}
use Rattle.std.proofs.lemmas.List.FromFn.{get_or-map-range_with_len}
use Rattle.std.proofs.Math.ListN.{get_or-map}
use Rattle.std.proofs.lemmas.Bool.{cases_lt}
use Rattle.std.proofs.lemmas.Bool.Decides.{nat_tests}
use Rattle.vt_glyph.specs.Tables.{glyph_of, substitute_glyph}
use Rattle.vt_glyph.specs.Spell.{spelling_of}
use Rattle.vt_glyph.specs.Encoding.{encoded_spelling, encoded_glyph}
use Rattle.vt_utf8.specs.Similar.{latin, lines, letters, signs, shown, in_rows, in_chart, ascii_of_fullwidth}
use Rattle.vt_utf8.specs.Private.Codes.{code_by, sign_of}
use Rattle.vt_utf8.specs.declared.similar.TheConstants.{SUBSTITUTE, LATIN, LINES, LETTERS, SIGNS}

-- a row with its entry changed
abbrev on_row : {A : Type 0} → (ℕ → A) → ℕ × ℕ × ℕ → ℕ × ℕ × A
on_row f row = (row.0, row.1, f row.2)

-- two tests of one truth value
either : {A : Type 0} (f g : ℕ → A) (b : Bool) (x y z w : ℕ) → (b ≡ true → f x ≡ g y) → (b ≡ false → f z ≡ g w)
    → f (if b then x else z) ≡ g (if b then y else w)
either f g true x y z w first second = first refl
either f g false x y z w first second = second refl

if-map : {A : Type 0} (f : ℕ → A) (b : Bool) (x y : ℕ) → f (if b then x else y) ≡ (if b then f x else f y)
if-map f true x y = refl
if-map f false x y = refl

in_rows-map : {A : Type 0} (f : ℕ → A) (d : ℕ) (rows : List (ℕ × ℕ × ℕ)) (c : ℕ)
    → f (in_rows d rows c) ≡ in_rows (f d) (map (on_row f) rows) c
in_rows-map f d [] c = refl
in_rows-map {A} f d (row ∷ rows) c =
    if-map f (nat_le row.0 c && nat_le c row.1) row.2 (in_rows d rows c)
    ∙ ap (λ (t : A). if nat_le row.0 c && nat_le c row.1 then f row.2 else t) (in_rows-map f d rows c)

rows : {A : Type 0} (f g : ℕ → A) (d e : ℕ) (xs ys : List (ℕ × ℕ × ℕ)) (c : ℕ) → f d ≡ g e
    → map (on_row f) xs ≡ map (on_row g) ys → f (in_rows d xs c) ≡ g (in_rows e ys c)
rows f g d e xs ys c other same =
    in_rows-map f d xs c ∙ rw (other, same) (sym (in_rows-map g e ys c))

chart : {A : Type 0} (f g : ℕ → A) (d e : ℕ) (xs ys : List ℕ) (first c : ℕ) → f d ≡ g e → map f xs ≡ map g ys
    → f (in_chart d xs first c) ≡ g (in_chart e ys first c)
chart f g d e xs ys first c other same =
    sym (get_or-map f xs (c - first) d) ∙ rw (other, same) (get_or-map g ys (c - first) e)

-- two functions that have the same values in a range
within : {A : Type 0} (f g : ℕ → A) (a n c : ℕ) → map f (range_with_len a n) ≡ map g (range_with_len a n) → a ≤ c → c < a + n
    → f c ≡ g c
within {A} f g a n c same low high =
    let fits : c - a < n = omega (arith, low, high) in
    let at : a + (c - a) ≡ c = omega (arith, low) in
    sym (get_or-map-range_with_len f a n (c - a) c (f c) fits at) ∙ ap (λ (xs : List A). get_or xs (c - a) (f c)) same
    ∙ get_or-map-range_with_len g a n (c - a) c (f c) fits at

-- ---- the tables, entry by entry, by computing

substitute : encoded_spelling SUBSTITUTE ≡ spelling_of substitute_glyph
unfolding spelling_of glyph_of
substitute = refl

latin-same : map encoded_spelling LATIN ≡ map spelling_of latin
unfolding spelling_of glyph_of latin
latin-same = refl

lines-same : map encoded_spelling LINES ≡ map spelling_of lines
unfolding spelling_of glyph_of lines
lines-same = refl

letters-same : map (on_row encoded_spelling) LETTERS ≡ map (on_row spelling_of) letters
unfolding spelling_of glyph_of letters
letters-same = refl

signs-same : map (λ c. encoded_spelling (sign_of c)) (range_with_len 0x2000 0x1100)
    ≡ map (λ c. spelling_of (in_rows substitute_glyph signs c)) (range_with_len 0x2000 0x1100)
unfolding spelling_of glyph_of signs sign_of
signs-same = refl

-- an ASCII code is its own spelling
fullwidth : (n : ℕ) → 0x20 ≤ n → n ≤ 0x7E → encoded_spelling n ≡ spelling_of n
unfolding spelling_of
fullwidth n low high = grind (arith, nat_tests)

-- ---- a character

pub code_by-shown : (c : ℕ) → encoded_spelling (code_by c) ≡ spelling_of (shown c)
unfolding shown
code_by-shown c =
    either encoded_spelling spelling_of (nat_lt c 0x180) _ _ _ _
    (λ _. chart encoded_spelling spelling_of SUBSTITUTE substitute_glyph LATIN latin 0xA0 c substitute latin-same)
    (λ _. either encoded_spelling spelling_of (nat_lt c 0x2000) _ _ _ _
    (λ _. rows encoded_spelling spelling_of SUBSTITUTE substitute_glyph LETTERS letters c substitute letters-same)
    (λ low. either encoded_spelling spelling_of (nat_le 0x2500 c && nat_le c 0x257F) _ _ _ _
    (λ _. chart encoded_spelling spelling_of SUBSTITUTE substitute_glyph LINES lines 0x2500 c substitute lines-same)
    (λ _. either encoded_spelling spelling_of (nat_lt c 0x3100) _ _ _ _
    (λ high. within (λ k. encoded_spelling (sign_of k)) (λ k. spelling_of (in_rows substitute_glyph signs k)) 0x2000 0x1100 c
    signs-same (grind (arith, nat_tests)) (grind (arith, nat_tests)))
    (λ _. either encoded_spelling spelling_of (nat_le 0xFF01 c && nat_le c 0xFF5E) _ _ _ _
    (λ is. fullwidth (ascii_of_fullwidth c) (grind (arith, nat_tests)) (grind (arith, nat_tests)))
    (λ _. substitute)))))

-- ---- the codes of some ranges

-- a sign's code, which isn't that of a line
code-sign : (c : ℕ) → 0x2580 ≤ c → c < 0x3100 → sign_of c ≡ code_by c
code-sign c low high =
    let no_latin : nat_lt c 0x180 ≡ false = grind (arith, nat_tests) in
    let no_letter : nat_lt c 0x2000 ≡ false = grind (arith, nat_tests) in
    let no_line : nat_le 0x2500 c && nat_le c 0x257F ≡ false = grind (arith, nat_tests) in
    let sign : nat_lt c 0x3100 ≡ true = grind (arith, nat_tests) in
    rw (no_latin, no_letter, no_line, sign) refl

elements-same : map (λ c. in_chart SUBSTITUTE SIGNS 0x2400 c) (range_with_len 0x2580 32) ≡ map sign_of (range_with_len 0x2580 32)
unfolding sign_of
elements-same = refl

pub element-code : (c : ℕ) → 0x2580 ≤ c → c ≤ 0x259F → in_chart SUBSTITUTE SIGNS 0x2400 c ≡ code_by c
element-code c low high =
    within (λ k. in_chart SUBSTITUTE SIGNS 0x2400 k) sign_of 0x2580 32 c elements-same low (omega (arith, high))
    ∙ code-sign c low (omega (arith, high))

braille-same : map (λ c. 0x3A) (range_with_len 0x2801 255) ≡ map sign_of (range_with_len 0x2801 255)
unfolding sign_of
braille-same = refl

pub braille-code : (c : ℕ) → 0x2801 ≤ c → c ≤ 0x28FF → 0x3A ≡ code_by c
braille-code c low high =
    within (λ k. 0x3A) sign_of 0x2801 255 c braille-same low (omega (arith, high))
    ∙ code-sign c (omega (arith, low)) (omega (arith, high))

pub blank-code : 0x20 ≡ code_by 0x2800
unfolding sign_of
blank-code = refl

kana-same : map (λ c. SUBSTITUTE) (range_with_len 0x3041 186) ≡ map sign_of (range_with_len 0x3041 186)
unfolding sign_of
kana-same = refl

kana-after-same : map (λ c. SUBSTITUTE) (range_with_len 0x30FC 4) ≡ map sign_of (range_with_len 0x30FC 4)
unfolding sign_of
kana-after-same = refl

pub middle-dot-code : 0xB7 ≡ code_by 0x30FB
unfolding sign_of
middle-dot-code = refl

-- a character beyond the charts, before the fullwidth forms
beyond-code : (c : ℕ) → 0x3100 ≤ c → c ≤ 0x9FFF → SUBSTITUTE ≡ code_by c
beyond-code c low high =
    let no_latin : nat_lt c 0x180 ≡ false = grind (arith, nat_tests) in
    let no_letter : nat_lt c 0x2000 ≡ false = grind (arith, nat_tests) in
    let no_line : nat_le 0x2500 c && nat_le c 0x257F ≡ false = grind (arith, nat_tests) in
    let no_sign : nat_lt c 0x3100 ≡ false = grind (arith, nat_tests) in
    let no_ascii : nat_le 0xFF01 c && nat_le c 0xFF5E ≡ false = grind (arith, nat_tests) in
    rw (no_latin, no_letter, no_line, no_sign, no_ascii) refl

pub kana-or-han-code : (c : ℕ) → 0x3041 ≤ c → c ≤ 0x9FFF → c ≢ 0x30FB → SUBSTITUTE ≡ code_by c
kana-or-han-code c low high other =
    elim (cases_lt c 0x30FB) [
      | inl before ↦ within (λ k. SUBSTITUTE) sign_of 0x3041 186 c kana-same low (omega (arith, before))
          ∙ code-sign c (omega (arith, low)) (omega (arith, before))
      | inr after ↦ elim (cases_lt c 0x3100) [
        | inl kana ↦ within (λ k. SUBSTITUTE) sign_of 0x30FC 4 c kana-after-same (omega (arith, after, other)) (omega (arith, kana))
            ∙ code-sign c (omega (arith, low)) (omega (arith, kana))
        | inr han ↦ beyond-code c (omega (arith, han)) high
      ]
    ]

-- ---- the glyphs of the codes

substitute-glyph : encoded_glyph SUBSTITUTE ≡ substitute_glyph
unfolding encoded_glyph glyph_of
substitute-glyph = refl

latin-glyph : map encoded_glyph LATIN ≡ map (λ n. n) latin
unfolding encoded_glyph glyph_of latin
latin-glyph = refl

lines-glyph : map encoded_glyph LINES ≡ map (λ n. n) lines
unfolding encoded_glyph glyph_of lines
lines-glyph = refl

letters-glyph : map (on_row encoded_glyph) LETTERS ≡ map (on_row (λ n. n)) letters
unfolding encoded_glyph glyph_of letters
letters-glyph = refl

signs-glyph : map (λ c. encoded_glyph (sign_of c)) (range_with_len 0x2000 0x1100)
    ≡ map (λ c. in_rows substitute_glyph signs c) (range_with_len 0x2000 0x1100)
unfolding encoded_glyph glyph_of signs sign_of
signs-glyph = refl

fullwidth-glyph : (n : ℕ) → 0x20 ≤ n → n ≤ 0x7E → encoded_glyph n ≡ n
unfolding encoded_glyph glyph_of
fullwidth-glyph n low high = grind (arith, nat_tests)

pub code_by-glyph : (c : ℕ) → encoded_glyph (code_by c) ≡ shown c
unfolding shown
code_by-glyph c =
    either encoded_glyph (λ n. n) (nat_lt c 0x180) _ _ _ _
    (λ _. chart encoded_glyph (λ n. n) SUBSTITUTE substitute_glyph LATIN latin 0xA0 c substitute-glyph latin-glyph)
    (λ _. either encoded_glyph (λ n. n) (nat_lt c 0x2000) _ _ _ _
    (λ _. rows encoded_glyph (λ n. n) SUBSTITUTE substitute_glyph LETTERS letters c substitute-glyph letters-glyph)
    (λ low. either encoded_glyph (λ n. n) (nat_le 0x2500 c && nat_le c 0x257F) _ _ _ _
    (λ _. chart encoded_glyph (λ n. n) SUBSTITUTE substitute_glyph LINES lines 0x2500 c substitute-glyph lines-glyph)
    (λ _. either encoded_glyph (λ n. n) (nat_lt c 0x3100) _ _ _ _
    (λ high. within (λ k. encoded_glyph (sign_of k)) (λ k. in_rows substitute_glyph signs k) 0x2000 0x1100 c signs-glyph
    (grind (arith, nat_tests)) (grind (arith, nat_tests)))
    (λ _. either encoded_glyph (λ n. n) (nat_le 0xFF01 c && nat_le c 0xFF5E) _ _ _ _
    (λ is. fullwidth-glyph (ascii_of_fullwidth c) (grind (arith, nat_tests)) (grind (arith, nat_tests)))
    (λ _. substitute-glyph)))))
