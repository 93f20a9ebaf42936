-- Elements one after another, and that their bytes are ASCII.
use Rattle.std.proofs.Common.{◌≡◌, Bool, true, false, cond, ltb, ◌^◌, ◌&&◌, ℕ, ◌-◌, ◌≤◌, ◌<◌, List, [], ◌∷◌, ◌++◌, refl}
use Rattle.std.proofs.Common.{sym, ap, subst, ◌∙◌, arith, decimal, codes, bytes_eq, append-nil}
use Rattle.std.specs.Fmt.{digits}
use Rattle.std.specs.List.{flat_map, list_all, list_any}
use Rattle.std.specs.Str.{IsAscii}
use Rattle.std.specs.Str.Parse.{AllDigits}
use Rattle.std.specs.Coded.{le_prop}
use Rattle.std.specs.Cmp.Lexicographic.{bytes_decides}
use Rattle.std.proofs.Math.Logic.{∥∥₁_elim, ∥∥₁_map₂}
use Rattle.std.proofs.lemmas.Bool.{le-leb}
use Rattle.std.proofs.lemmas.Bool.Decides.{nat_tests}
use Rattle.std.proofs.lemmas.Fmt.{decimal_is_IsNumeral}
use Rattle.std.proofs.lemmas.Grind.{flat_map-append}
use Rattle.std.proofs.lemmas.List.Folds.{list_all-append}
use Rattle.std.proofs.lemmas.Str.Ascii.{IsAscii-nil, IsAscii-cons}
use Rattle.std.proofs.lemmas.Str.Parse.{digit_from_value}
use Rattle.vt_glyph.proofs.Lists.{both, either, all_taken}
use Rattle.vt_glyph.proofs.EachSet.{passes}
use Rattle.vt_glyph.specs.declared.set.Set.{Set}
use Rattle.vt_glyph.specs.Designation.{final_of}
use Rattle.vt_syntax.specs.declared.event.Event.{Event}
use Rattle.vt_syntax.specs.declared.event.Event.TheVariants.{Print}
use Rattle.vt_syntax.specs.declared.event.Event.TheVariants as event
use Rattle.vt_syntax.specs.Spelling.{spell_event}
use Rattle.vt_paint.proofs.Tests.{is_event, is_fine, element_of}
use Rattle.vt_paint.specs.Spoken.{Element, Character, Control, Escape, Sequence, element_bytes, is_one_of, is_among}
use Rattle.vt_paint.specs.Spoken.{are_numbers, are_attributes, is_designation, set_finals, mode_numbers, spoken_controls}
use Rattle.vt_paint.specs.Spoken.{spoken_escapes, spoken_sequences, is_spoken, AreElements, Speaks}

pub speaks-none : Speaks []
speaks-none = ∣ record { elements = []; are_spoken = refl; are_bytes = refl } ∣₁

elements-append : (xs ys : List ℕ) → AreElements xs → AreElements ys → AreElements (xs ++ ys)
elements-append xs ys a b = record {
  elements = a.elements ++ b.elements;
  are_spoken = list_all-append is_spoken a.elements b.elements ∙ ap (λ t. t && list_all is_spoken b.elements) a.are_spoken
      ∙ b.are_spoken;
  are_bytes = ap (λ (zs : List ℕ). zs ++ ys) a.are_bytes
      ∙ ap (λ (zs : List ℕ). flat_map element_bytes a.elements ++ zs) b.are_bytes
      ∙ sym (flat_map-append element_bytes a.elements b.elements);
}

pub speaks-append : (xs ys : List ℕ) → Speaks xs → Speaks ys → Speaks (xs ++ ys)
speaks-append xs ys a b = ∥∥₁_map₂ a b (elements-append xs ys)

pub speaks-one : (element : Element) → is_spoken element ≡ true → Speaks (element_bytes element)
speaks-one element h = ∣ record {
  elements = element ∷ [];
  are_spoken = ap (λ t. t && true) h;
  are_bytes = sym (append-nil (element_bytes element));
} ∣₁

-- ---- ASCII

abbrev is_small : ℕ → Bool
is_small b = ltb b 0x80

abbrev are_small : List ℕ → Bool
are_small bytes = list_all is_small bytes

small_ascii : (bytes : List ℕ) → are_small bytes ≡ true → IsAscii bytes
small_ascii [] h = IsAscii-nil
small_ascii (b ∷ bytes) h =
    let two = both (is_small b) (are_small bytes) h in
    IsAscii-cons b bytes (grind (arith, nat_tests, two.0)) (small_ascii bytes two.1)

each_small : (p : ℕ → Bool) (text : List ℕ) → ((b : ℕ) → p b ≡ true → is_small b ≡ true) → list_all p text ≡ true
    → are_small text ≡ true
each_small p [] small h = refl
each_small p (b ∷ text) small h =
    let two = both (p b) (list_all p text) h in
    rw (small b two.0) (each_small p text small two.1)

one_small : (bytes : List ℕ) (b : ℕ) → are_small bytes ≡ true → is_one_of bytes b ≡ true → is_small b ≡ true
one_small bytes b h k = all_taken is_small (λ b. b) bytes b h k

among_small : (texts : List (List ℕ)) (text : List ℕ) → list_all are_small texts ≡ true → is_among texts text ≡ true
    → are_small text ≡ true
among_small [] text h k = absurd cc
among_small (a ∷ texts) text h k =
    let two = both (are_small a) (list_all are_small texts) h in
    either _ (bytes_eq a text) (is_among texts text) k (λ e. ap are_small (sym ((bytes_decides a text).0 e)) ∙ two.0)
    (λ l. among_small texts text two.1 l)

numbers_small : (text : List ℕ) → are_numbers text ≡ true → are_small text ≡ true
numbers_small text h = each_small _ text (λ b h. grind (arith, nat_tests, h)) h

attributes_small : (text : List ℕ) → are_attributes text ≡ true → are_small text ≡ true
attributes_small text h = each_small _ text (λ b k. one_small (codes "01457;") b refl k) (both _ _ h).0

designation_small : (ending : List ℕ) → is_designation ending ≡ true → are_small ending ≡ true
designation_small [] h = absurd cc
designation_small (slot ∷ []) h = absurd cc
designation_small (slot ∷ set ∷ []) h =
    let two = both (is_one_of (codes "()*+") slot) (is_one_of set_finals set) h in
    rw (one_small (codes "()*+") slot refl two.0, one_small set_finals set refl two.1) refl
designation_small (slot ∷ set ∷ more ∷ rest) h = absurd cc

-- a row's test
abbrev fits : List ℕ → List ℕ → List ℕ × (List ℕ → Bool) → Bool
fits parameters ending row = bytes_eq row.0 ending && row.1 parameters

-- rows whose endings are ASCII, and whose tests pass for ASCII alone
AreSmall : List (List ℕ × (List ℕ → Bool)) → Type 0
AreSmall [] = Unit {0}
AreSmall (row ∷ rows) =
    (are_small row.0 ≡ true) × ((text : List ℕ) → row.1 text ≡ true → are_small text ≡ true) × AreSmall rows

no_rows : AreSmall []
unfolding AreSmall
no_rows = tt

and_row : (row : List ℕ × (List ℕ → Bool)) (rows : List (List ℕ × (List ℕ → Bool))) → are_small row.0 ≡ true
    → ((text : List ℕ) → row.1 text ≡ true → are_small text ≡ true) → AreSmall rows
    → AreSmall (row ∷ rows)
unfolding AreSmall
and_row row rows h k l = (h, k, l)

rows_small : (rows : List (List ℕ × (List ℕ → Bool))) (parameters ending : List ℕ) → AreSmall rows
    → list_any (fits parameters ending) rows ≡ true
    → are_small (parameters ++ ending) ≡ true
unfolding AreSmall
rows_small [] parameters ending are h = absurd cc
rows_small (row ∷ rows) parameters ending are h =
    either _ (fits parameters ending row) (list_any (fits parameters ending) rows) h
    (λ e. let two = both (bytes_eq row.0 ending) (row.1 parameters) e in
    list_all-append is_small parameters ending ∙ ap (λ t. t && are_small ending) (are.1 parameters two.1)
    ∙ ap are_small (sym ((bytes_decides row.0 ending).0 two.0)) ∙ are.0)
    (λ l. rows_small rows parameters ending are.2 l)

sequences_small : AreSmall spoken_sequences
unfolding digits
sequences_small =
    let numbers = numbers_small in
    let none = λ (text : List ℕ) (h : is_among ([] ∷ []) text ≡ true). among_small ([] ∷ []) text refl h in
    let modes = λ (text : List ℕ) (h : is_among mode_numbers text ≡ true). among_small mode_numbers text refl h in
    and_row _ _ refl numbers (and_row _ _ refl numbers (and_row _ _ refl numbers (and_row _ _ refl numbers (and_row _ _ refl numbers
    (and_row _ _ refl numbers (and_row _ _ refl attributes_small (and_row _ _ refl none (and_row _ _ refl none
    (and_row _ _ refl (λ text h. among_small (codes "3" ∷ []) text refl h) (and_row _ _ refl modes (and_row _ _ refl modes
    (and_row _ _ refl (λ text h. among_small ([] ∷ codes "0" ∷ codes "1" ∷ []) text refl h)
    (and_row _ _ refl (λ text h. among_small (codes "0" ∷ []) text refl h) no_rows)))))))))))))

element_small : (element : Element) → is_spoken element ≡ true → are_small (element_bytes element) ≡ true
element_small (Character b) h = let small : is_small b ≡ true = grind (arith, nat_tests, h) in rw small refl
element_small (Control b) h = rw (one_small spoken_controls b refl h) refl
element_small (Escape ending) h = either _ (is_among spoken_escapes ending) (is_designation ending) h
    (λ l. among_small spoken_escapes ending refl l) (λ l. designation_small ending l)
element_small (Sequence parameters ending) h = rows_small spoken_sequences parameters ending sequences_small h

elements_small : (elements : List Element) → list_all is_spoken elements ≡ true
    → are_small (flat_map element_bytes elements) ≡ true
elements_small [] h = refl
elements_small (element ∷ elements) h =
    let two = both (is_spoken element) (list_all is_spoken elements) h in
    list_all-append is_small (element_bytes element) (flat_map element_bytes elements)
    ∙ ap (λ t. t && are_small (flat_map element_bytes elements)) (element_small element two.0)
    ∙ elements_small elements two.1

pub speaks-ascii : (bytes : List ℕ) → Speaks bytes → IsAscii bytes
speaks-ascii bytes h =
    ∥∥₁_elim h (hlevel le_prop)
    (λ h. small_ascii bytes (ap are_small h.are_bytes ∙ elements_small h.elements h.are_spoken))

-- ---- numbers, modes and designations

-- the digits of a number are numbers
digits_are_numbers : (text : List ℕ) → AllDigits 10 text → are_numbers text ≡ true
digits_are_numbers [] h = refl
digits_are_numbers (b ∷ text) h =
    let range = digit_from_value b h.0 in
    rw (le-leb 0x30 b (omega (arith, range)), le-leb b 0x39 (omega (arith, range))) (digits_are_numbers text h.1)

pub number_is : (n : ℕ) → n < 2 ^ 64 → are_numbers (decimal n) ≡ true
number_is n h = digits_are_numbers (decimal n) (decimal_is_IsNumeral n h).0.1

pub two_numbers_are : (n m : ℕ) → n < 2 ^ 64 → m < 2 ^ 64 → are_numbers (decimal n ++ 0x3B ∷ decimal m) ≡ true
two_numbers_are n m h k = rw (list_all-append _ (decimal n) (0x3B ∷ decimal m), number_is n h) (number_is m k)

-- CUF, CUB, CUP, IL, DL and DECSTBM
pub numbers_spoken : (text : List ℕ) (last : ℕ) → is_one_of (codes "CDHLMr") last ≡ true → are_numbers text ≡ true
    → is_spoken (Sequence text (last ∷ [])) ≡ true
numbers_spoken text last is are =
    all_taken (λ last. is_spoken (Sequence text (last ∷ []))) (λ b. b) (codes "CDHLMr") last (rw are refl) is

pub mode_spoken : (text : List ℕ) (on : Bool) → is_among mode_numbers text ≡ true
    → is_spoken (Sequence text (cond on 0x68 0x6C ∷ [])) ≡ true
mode_spoken text true h = rw h refl
mode_spoken text false h = rw h refl

pub character_speaks : (b : ℕ) → 0x20 ≤ b → b ≤ 0x7E → Speaks (b ∷ [])
character_speaks b h k = speaks-one (Character b) (rw (le-leb 0x20 b h, le-leb b 0x7E k) refl)

pub designation_speaks : (inter : ℕ) (set : Set) → is_one_of (codes "()*+") inter ≡ true
    → Speaks (0x1B ∷ inter ∷ final_of set ∷ [])
designation_speaks inter set h =
    speaks-one (Escape (inter ∷ final_of set ∷ [])) (all_taken (λ inter. is_spoken (Escape (inter ∷ final_of set ∷ [])))
    (λ b. b) (codes "()*+") inter
    (passes (λ set. list_all (λ inter. is_spoken (Escape (inter ∷ final_of set ∷ []))) (codes "()*+")) refl set) h)

-- ---- events

pub element_is : (e : Event) → element_bytes (element_of e) ≡ spell_event e
element_is (Print b) = refl
element_is (event.Control b) = go (ltb b 0x80)
  where
    go : (t : Bool)
        → element_bytes (cond t (Control b) (Escape ((b - 0x40) ∷ [])))
        ≡ cond t (b ∷ []) (0x1B ∷ (b - 0x40) ∷ [])
    go true = refl
    go false = refl
element_is (event.Escape inter last) = refl
element_is (event.Sequence marker params inter last) = refl

pub fine_speaks : (e : Event) → is_fine e ≡ true → Speaks (spell_event e)
fine_speaks e h = subst Speaks (element_is e) (speaks-one (element_of e) (both (is_event e) _ h).1)
