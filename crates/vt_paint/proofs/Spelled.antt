-- Functions as bytes: their parts, and their forms by tables.
use Rattle.std.proofs.Common.{◌≡◌, Bool, true, false, ℕ, ◌+◌, ◌≤◌, ◌<◌, List, [], ◌∷◌, ◌++◌, length, take, drop, refl, sym, ap}
use Rattle.std.proofs.Common.{subst, ◌∙◌, append_assoc, arith, eqb}
use Rattle.std.specs.Fmt.{digits}
use Rattle.std.specs.List.{list_all, range_with_len}
use Rattle.std.specs.Prelude.{slice_index_or}
use Rattle.std.specs.Cmp.Lexicographic.{pointwise, pointwise_decides}
use Rattle.std.proofs.lemmas.Bool.Decides.{Decides-eqb}
use Rattle.std.proofs.Math.Seq.{take-take, take-append-add}
use Rattle.vt_glyph.proofs.Lists.{all_in_range}
use Rattle.vt_syntax.specs.Spelling.{spell_event}
use Rattle.vt_screen.specs.declared.cell.Rendition.{Rendition}
use Rattle.vt_paint.specs.declared.modes.TheConstants.{FRONTS, LENGTHS, ALL_MODES}
use Rattle.vt_paint.specs.Controls.{mode_event}
use Rattle.vt_paint.specs.Named.{byte_named, resets, newly_set, rendition_text, rendition_change}
use Rattle.vt_paint.specs.Spoken.{are_attributes, Speaks}
use Rattle.vt_paint.specs.Private.Attributes.{attributes}
use Rattle.vt_paint.specs.Private.Tables.{mode_last}
use Rattle.vt_syntax.specs.Class.{opens_string}
use Rattle.vt_paint.proofs.Speech.{fine_speaks}
use Rattle.vt_paint.proofs.Tests.{is_fine, both_pass, at_bool, all_brushes, at_brush}

-- bytes are equal, by a test
abbrev pub same_bytes : List ℕ → List ℕ → Bool
same_bytes = pointwise (λ a b. eqb a b)

pub same_bytes-is : (xs ys : List ℕ) → same_bytes xs ys ≡ true → xs ≡ ys
same_bytes-is xs ys h = (pointwise_decides Decides-eqb xs ys).0 h

-- bytes of which a front is known, up to an earlier place
pub front_of : (xs ys zs : List ℕ) (at len n : ℕ) → length ys ≡ at → len ≤ n → take (at + n) xs ≡ ys ++ take n zs
    → take (at + len) xs ≡ ys ++ take len zs
front_of xs ys zs at len n long low h =
    sym (take-take (at + len) (at + n) xs (omega arith)) ∙ ap (λ (ts : List ℕ). take (at + len) ts) h
    ∙ ap (λ m. take (m + len) (ys ++ take n zs)) (sym long) ∙ take-append-add ys (take n zs) len
    ∙ ap (λ (ts : List ℕ). ys ++ ts) (take-take len n zs low)

-- three parts that were written one after another
pub three_parts : (before front middle back one two all : List ℕ) → before ≡ [] → one ≡ before ++ front
    → two ≡ one ++ middle → all ≡ two ++ back → all ≡ front ++ (middle ++ back)
three_parts before front middle back one two all none a b c =
    c ∙ ap (λ (xs : List ℕ). xs ++ back) (b ∙ ap (λ (xs : List ℕ). xs ++ middle) (a ∙ ap (λ (xs : List ℕ). xs ++ front) none))
    ∙ append_assoc front middle back

-- CSI, two numbers and `;` between them, and a final byte
pub two_numbers : (before n m one two three four all : List ℕ) (last : ℕ) → before ≡ [] → one ≡ before ++ 0x1B ∷ 0x5B ∷ []
    → two ≡ one ++ n → three ≡ two ++ 0x3B ∷ [] → four ≡ three ++ m → all ≡ four ++ last ∷ []
    → all ≡ 0x1B ∷ 0x5B ∷ ((n ++ 0x3B ∷ m) ++ last ∷ [])
two_numbers before n m one two three four all last none a b c d e =
    rw (e, d, c, b, a, none) (simp append_assoc)

-- ---- SGR

-- a test of each rendition
abbrev all_renditions : (Rendition → Bool) → Bool
all_renditions p = all_brushes (λ brush. p brush.rendition)

at_rendition : (p : Rendition → Bool) → all_renditions p ≡ true → (r : Rendition) → p r ≡ true
at_rendition p h r = at_brush (λ brush. p brush.rendition) h (record { rendition = r; protected = false })

pub attributes_behind : (r : Rendition) → are_attributes (drop 1 (attributes r)) ≡ true
unfolding all_brushes both_pass
attributes_behind r = at_rendition (λ r. are_attributes (drop 1 (attributes r))) refl r

-- the parameters of a change are the attributes, each after `;`: after a reset all of these bytes, otherwise all but the first
pub text_after_reset : (r : Rendition) → attributes r ≡ rendition_text true r
unfolding all_brushes both_pass digits
text_after_reset r = same_bytes-is _ _ (at_rendition (λ r. same_bytes (attributes r) (rendition_text true r)) refl r)

pub text_alone : (r : Rendition) → drop 1 (attributes r) ≡ rendition_text false r
unfolding all_brushes both_pass digits
text_alone r = same_bytes-is _ _ (at_rendition (λ r. same_bytes (drop 1 (attributes r)) (rendition_text false r)) refl r)

pub change_is : (reset : Bool) (r old new : Rendition) (text result : List ℕ) → reset ≡ resets old new
    → r ≡ newly_set reset old new → text ≡ rendition_text reset r → result ≡ 0x1B ∷ 0x5B ∷ (text ++ 0x6D ∷ [])
    → result ≡ rendition_change old new
unfolding rendition_change byte_named
change_is reset r old new text result is newly are spelled = rw (spelled, are, newly, is) refl

-- ---- modes

abbrev mode_form : ℕ → Bool → List ℕ
mode_form index on = take (slice_index_or LENGTHS index 0) (slice_index_or FRONTS index []) ++ mode_last index on ∷ []

abbrev mode_test : ℕ → Bool
mode_test index = both_pass (λ on. same_bytes (mode_form index on) (spell_event (mode_event index on)))

modes_are : list_all mode_test (range_with_len 0 ALL_MODES) ≡ true
unfolding both_pass digits
modes_are = refl

pub mode_spelled : (index : ℕ) (on : Bool) → index < ALL_MODES → mode_form index on ≡ spell_event (mode_event index on)
mode_spelled index on low =
    same_bytes-is _ _ (at_bool (λ on. same_bytes (mode_form index on) (spell_event (mode_event index on)))
    (all_in_range mode_test 0 ALL_MODES index modes_are (omega arith) (omega arith)) on)

modes_fine : list_all (λ index. both_pass (λ on. is_fine (mode_event index on))) (range_with_len 0 ALL_MODES) ≡ true
unfolding both_pass digits opens_string
modes_fine = refl

pub mode_speaks : (index : ℕ) (on : Bool) → index < ALL_MODES → Speaks (mode_form index on)
mode_speaks index on low =
    subst Speaks (sym (mode_spelled index on low))
    (fine_speaks (mode_event index on)
    (at_bool (λ on. is_fine (mode_event index on))
    (all_in_range (λ index. both_pass (λ on. is_fine (mode_event index on))) 0 ALL_MODES index modes_fine (omega arith) (omega arith)) on))
