-- The text of a row.
use Rattle.std.proofs.Common.{◌≡◌, ◌≢◌, inl, inr, ℕ, zero, suc, ◌<◌, List, [], ◌∷◌, ◌++◌, length, take, get_or}
use Rattle.std.proofs.Common.{◌+◌, ◌≤◌, append_assoc, All, map, drop, set, subst, refl, sym, ap, ◌∙◌, arith, add-one}
use Rattle.std.proofs.Math.Seq.{take-suc}
use Rattle.std.proofs.lemmas.Bool.Decides.{eqb_tells, nat_tests}
use Rattle.std.proofs.lemmas.Grind.{same_number_lists}
use Rattle.std.proofs.lemmas.List.{length-take-le, length-map, get_or-map, get_or-take, take-map, take-append-drop, map-append, drop-drop, take_more_set, take-take}
use Rattle.std.proofs.lemmas.List.Elements.{All-get_or, All-head, All-tail, All-from_get_or}
use Rattle.std.proofs.lemmas.Str.{encode_ascii, encodes-append}
use Rattle.vt_syntax.specs.Class.{IsPlain}
use Rattle.vt_glyph.specs.Encoding.{encoded_glyph, encoding_of}
use Rattle.vt_screen.specs.Cells.{blank}
use Rattle.vt_glyph.specs.Spell.{spelling_of}
use Rattle.vt_glyph.specs.Tables.{space, glyph_of}
use Rattle.vt_term.specs.Text.{trimmed, before_trimmed, glyphs_of, line_text}
use Rattle.vt_screen.specs.declared.cell.Cell.{Cell}
use Rattle.std.specs.Prelude.{encode_utf8_all, encode_utf8}

-- a glyph that is no space keeps what is before it
trimmed-glyph : (xs : List ℕ) (x : ℕ) → x ≢ space → trimmed (xs ++ x ∷ []) ≡ xs ++ x ∷ []
trimmed-glyph [] x ne = elim (eqb_tells x space) [ inl e ↦ absurd (ne e.1) | inr e ↦ rw e.0 refl ]
trimmed-glyph (y ∷ []) x ne = rw (trimmed-glyph [] x ne) refl
trimmed-glyph (y ∷ z ∷ zs) x ne = rw (trimmed-glyph (z ∷ zs) x ne) refl

-- a space at the end is left out
trimmed-space : (xs : List ℕ) (x : ℕ) → x ≡ space → trimmed (xs ++ x ∷ []) ≡ trimmed xs
trimmed-space [] x is = rw is refl
trimmed-space (y ∷ ys) x is = ap (λ (t : List ℕ). before_trimmed y t) (trimmed-space ys x is)

module _ (xs : List ℕ) (n end : ℕ) (next : n + 1 ≡ end) (below : n < length xs) where
  front : take end xs ≡ take n xs ++ get_or xs n 0 ∷ []
  front = ap (λ k. take k xs) (sym next ∙ add-one n) ∙ take-suc xs n 0 below

  -- a front that ends with a space
  pub trimmed-take-space : get_or xs n 0 ≡ space → trimmed (take end xs) ≡ trimmed (take n xs)
  trimmed-take-space is = ap trimmed front ∙ trimmed-space (take n xs) (get_or xs n 0) is

  -- a front that ends with another glyph
  pub trimmed-take-glyph : get_or xs n 0 ≢ space → trimmed (take end xs) ≡ take end xs
  trimmed-take-glyph ne = ap trimmed front ∙ trimmed-glyph (take n xs) (get_or xs n 0) ne ∙ sym front

-- a front that ends with so many spaces
pub trimmed-take-spaces : (xs : List ℕ) (n k end : ℕ) → n + k ≡ end → end ≤ length xs
    → ((i : ℕ) → n ≤ i → i < n + k → get_or xs i 0 ≡ space) → trimmed (take end xs) ≡ trimmed (take n xs)
trimmed-take-spaces xs n zero end is within are =
    let none : end ≡ n = omega arith in
    ap (λ m. trimmed (take m xs)) none
trimmed-take-spaces xs n (suc k) end is within are =
    trimmed-take-space xs (n + k) end (omega arith) (omega arith) (are (n + k) (omega arith) (omega arith))
    ∙ trimmed-take-spaces xs n k (n + k) refl (omega arith) (λ i above below. are i above (omega arith))

-- ---- codes, and the glyphs that they encode

before-map : (f : ℕ → ℕ) (c : ℕ) (ts : List ℕ) → f space ≡ space → (f c ≡ space → c ≡ space)
    → before_trimmed (f c) (map f ts) ≡ map f (before_trimmed c ts)
before-map f c (t ∷ ts) same only = refl
before-map f c [] same only = elim (eqb_tells c space) [
  | inl e ↦ rw e.1 (rw same refl)
  | inr e ↦ elim (eqb_tells (f c) space) [ inl d ↦ absurd (e.1 (only d.1)) | inr d ↦ rw (e.0, d.0) refl ]
]

-- the spaces are left out before or after, if the space alone is mapped to the space
trimmed-map : (f : ℕ → ℕ) (cs : List ℕ) → f space ≡ space → All (λ c. f c ≡ space → c ≡ space) cs
    → trimmed (map f cs) ≡ map f (trimmed cs)
trimmed-map f [] same only = refl
trimmed-map f (c ∷ cs) same only =
    ap (λ (t : List ℕ). before_trimmed (f c) t)
    (trimmed-map f cs same (All-tail (λ c. f c ≡ space → c ≡ space) c cs only))
    ∙ before-map f c (trimmed cs) same (All-head (λ c. f c ≡ space → c ≡ space) c cs only)

space-code : encoding_of space ≡ space
unfolding encoding_of spelling_of
space-code = refl

space-glyph : encoded_glyph space ≡ space
unfolding encoded_glyph glyph_of
space-glyph = refl

-- the glyphs without the spaces at their end are those of the codes without the spaces at theirs
pub trimmed-glyphs : (cells : List Cell) (codes : List ℕ) (end : ℕ) → length cells ≤ length codes
    → ((k : ℕ) → k < length cells → encoded_glyph (get_or codes k 0) ≡ (get_or cells k blank).glyph)
    → ((k : ℕ) → k < length cells → get_or codes k 0 ≡ encoding_of (get_or cells k blank).glyph)
    → take end (take (length cells) codes) ≡ trimmed (take (length cells) codes)
    → glyphs_of (take end cells) ≡ trimmed (glyphs_of cells)
trimmed-glyphs cells codes end within glyphs are text =
    let front : List ℕ = take (length cells) codes in
    let long : length front ≡ length cells = length-take-le (length cells) codes within in
    let shown : glyphs_of cells ≡ map encoded_glyph front =
    same_number_lists (glyphs_of cells) (map encoded_glyph front)
    (length-map cells (λ (cell : Cell). cell.glyph) ∙ sym long ∙ sym (length-map front encoded_glyph))
    (λ k below.
    let inside : k < length cells = omega (arith, below, length-map cells (λ (cell : Cell). cell.glyph)) in
    get_or-map (λ (cell : Cell). cell.glyph) cells k blank 0 inside
    ∙ sym (glyphs k inside)
    ∙ ap encoded_glyph (sym (get_or-take (length cells) codes k 0 inside))
    ∙ sym (get_or-map encoded_glyph front k 0 0 (omega (arith, inside, long)))) in
    let only : All (λ c. encoded_glyph c ≡ space → c ≡ space) front =
    All-from_get_or (λ c. encoded_glyph c ≡ space → c ≡ space) front 0
    (λ k below e.
    let inside : k < length cells = omega (arith, below, long) in
    let here : get_or front k 0 ≡ get_or codes k 0 = get_or-take (length cells) codes k 0 inside in
    let blank_there : (get_or cells k blank).glyph ≡ space = sym (glyphs k inside) ∙ ap encoded_glyph (sym here) ∙ e in
    here ∙ are k inside ∙ ap encoding_of blank_there ∙ space-code) in
    sym (take-map (λ (cell : Cell). cell.glyph) end cells)
    ∙ ap (take end) shown
    ∙ take-map encoded_glyph end front
    ∙ ap (map encoded_glyph) text
    ∙ sym (trimmed-map encoded_glyph front space-glyph only)
    ∙ ap trimmed (sym shown)

-- ---- ASCII

-- a plain code is its glyph
plain-glyph : (b : ℕ) → IsPlain b → encoded_glyph b ≡ b
unfolding encoded_glyph glyph_of
plain-glyph b h = grind (arith, nat_tests)

-- the codes of cells, if each is plain
pub plain-codes : (cells : List Cell) (line : List ℕ) → length cells ≤ length line
    → All IsPlain (take (length cells) line)
    → ((k : ℕ) → k < length cells → encoded_glyph (get_or line k 0) ≡ (get_or cells k blank).glyph)
    → take (length cells) line ≡ glyphs_of cells
plain-codes cells line within plain are =
    same_number_lists (take (length cells) line) (glyphs_of cells)
    (length-take-le (length cells) line within ∙ sym (length-map cells (λ (cell : Cell). cell.glyph)))
    (λ k below.
    let inside : k < length cells = omega (arith, below, length-take-le (length cells) line within) in
    let here : get_or (take (length cells) line) k 0 ≡ get_or line k 0 = get_or-take (length cells) line k 0 inside in
    let code : IsPlain (get_or line k 0) = subst IsPlain here (All-get_or IsPlain (take (length cells) line) k 0 below plain) in
    here ∙ sym (plain-glyph (get_or line k 0) code) ∙ are k inside ∙ sym (get_or-map (λ (cell : Cell). cell.glyph) cells k blank 0 inside))

-- plain codes are their own UTF-8
pub plain-encoded : (xs : List ℕ) → All IsPlain xs → encode_utf8_all xs ≡ xs
plain-encoded [] plain = refl
plain-encoded (x ∷ xs) plain =
    let one : encode_utf8 x ≡ x ∷ [] = encode_ascii x (omega (arith, (All-head IsPlain x xs plain).1)) in
    rw one (ap (λ (t : List ℕ). x ∷ t) (plain-encoded xs (All-tail IsPlain x xs plain)))

-- the UTF-8 of the first cells, if their codes are plain
pub plain-front : (cells : List Cell) (codes : List ℕ) (run : ℕ) → length codes ≡ length cells → run ≤ length cells
    → All IsPlain (take run codes)
    → ((k : ℕ) → k < length cells → encoded_glyph (get_or codes k 0) ≡ (get_or cells k blank).glyph)
    → take run codes ≡ encode_utf8_all (glyphs_of (take run cells))
plain-front cells codes run long within plain are =
    let front : List Cell = take run cells in
    let short : length front ≡ run = length-take-le run cells within in
    let same : take run codes ≡ glyphs_of front =
    ap (λ n. take n codes) (sym short)
    ∙ plain-codes front codes (omega (arith, short, long, within)) (subst (λ n. All IsPlain (take n codes)) (sym short) plain)
    (λ k below.
    let inside : k < run = omega (arith, below, short) in
    are k (omega (arith, inside, within)) ∙ ap (λ (cell : Cell). cell.glyph) (sym (get_or-take run cells k blank inside))) in
    sym (plain-encoded (take run codes) plain) ∙ ap encode_utf8_all same

-- elements appended one after another
pub pushed-two : (o m n : List ℕ) (x y : ℕ) → m ≡ o ++ x ∷ [] → n ≡ m ++ y ∷ [] → n ≡ o ++ x ∷ y ∷ []
pushed-two o m n x y first second = second ∙ ap (λ (t : List ℕ). t ++ y ∷ []) first ∙ append_assoc o (x ∷ []) (y ∷ [])

pub pushed-three : (o l m n : List ℕ) (x y z : ℕ) → l ≡ o ++ x ∷ [] → m ≡ l ++ y ∷ [] → n ≡ m ++ z ∷ []
    → n ≡ o ++ x ∷ y ∷ z ∷ []
pushed-three o l m n x y z first second third =
    third ∙ ap (λ (t : List ℕ). t ++ z ∷ []) (pushed-two o l m x y first second) ∙ append_assoc o (x ∷ y ∷ []) (z ∷ [])

-- the text of a row whose codes are plain up to the spaces at its end: they, and LF in place of the code after them
pub plain-line : (cells : List Cell) (codes : List ℕ) (end : ℕ) → length cells < length codes → end ≤ length cells
    → ((k : ℕ) → k < length cells → encoded_glyph (get_or codes k 0) ≡ (get_or cells k blank).glyph)
    → ((k : ℕ) → k < length cells → get_or codes k 0 ≡ encoding_of (get_or cells k blank).glyph)
    → take end (take (length cells) codes) ≡ trimmed (take (length cells) codes)
    → All IsPlain (take end codes)
    → take (end + 1) (set codes end 0x0A) ≡ line_text cells
plain-line cells codes end long within glyphs are text plain =
    let front : List ℕ = take (length cells) codes in
    let same : take end front ≡ take end codes = take-take end (length cells) codes within in
    take_more_set codes end 0x0A (omega (arith, within, long))
    ∙ ap (λ (t : List ℕ). t ++ 0x0A ∷ [])
    (sym same
    ∙ plain-front cells front end (length-take-le (length cells) codes (omega (arith, long))) within
    (subst (All IsPlain) (sym same) plain)
    (λ k below. ap encoded_glyph (get_or-take (length cells) codes k 0 below) ∙ glyphs k below)
    ∙ ap encode_utf8_all (trimmed-glyphs cells codes end (omega (arith, long)) glyphs are text))

-- the UTF-8 of cells starting at a place: of some, and of those after them
pub encoded-parts : (cells : List Cell) (at n : ℕ)
    → encode_utf8_all (glyphs_of (drop at cells))
    ≡ encode_utf8_all (glyphs_of (take n (drop at cells))) ++ encode_utf8_all (glyphs_of (drop (at + n) cells))
encoded-parts cells at n =
    let front : List ℕ = glyphs_of (take n (drop at cells)) in
    let rest : List ℕ = glyphs_of (drop n (drop at cells)) in
    ap (λ (t : List Cell). encode_utf8_all (glyphs_of t)) (sym (take-append-drop n (drop at cells)))
    ∙ ap encode_utf8_all (map-append (λ (cell : Cell). cell.glyph) (take n (drop at cells)) (drop n (drop at cells)))
    ∙ encodes-append front rest
    ∙ ap (λ (t : List Cell). encode_utf8_all front ++ encode_utf8_all (glyphs_of t)) (drop-drop n at cells)
