-- Each byte list has the split that is computed, and no other.
use Rattle.std.proofs.Common.{◌≡◌, ℕ, Bool, true, false, eqb, ◌||◌, not, List, [], ◌∷◌, ◌++◌, Option, cond, ◌-◌, Some}
use Rattle.std.proofs.Common.{None, refl, ap, ◌∙◌, append_assoc, append-nil, arith, inl, inr}
use Rattle.std.proofs.lemmas.Bool.{cases_Bool}
use Rattle.std.proofs.lemmas.Bool.Decides.{nat_tests}
use Rattle.vt_syntax.specs.declared.held.Inters.TheVariants.{Zero}
use Rattle.vt_syntax.specs.Class.{class_of, is_quiet, opens_string, opens, Each}
use Rattle.vt_syntax.specs.Items.{Opening, EightBit, SevenBit, Beginning, OfEscape, OfControl, OfString, Item, Single}
use Rattle.vt_syntax.specs.Items.{Ended, opening_bytes, item_bytes, IsOpening, Cut, beginning_bytes, rest_bytes}
use Rattle.vt_syntax.specs.Items.{inters_of, ends_string, is_osc, ends, cuts, continues_escape, continues_control}
use Rattle.vt_syntax.specs.Items.{IsBeginning, IsRest, IsItemBefore}
use Rattle.vt_syntax.specs.Split.{AreItems, Split, Parts, begin, extended, bytes_of, items_alone, rest_alone}
use Rattle.vt_syntax.specs.Split.{items_before, split_one, split_after, split_of}

-- ---- lists of bytes that pass

Each-push : (p : ℕ → Bool) (xs : List ℕ) (b : ℕ) → Each p xs → p b ≡ true → Each p (xs ++ b ∷ [])
Each-push p [] b h e = (e, tt)
Each-push p (x ∷ xs) b h e = (h.0, Each-push p xs b h.1 e)

-- with no intermediate all the bytes are quiet
quiets_inside : (inside : List ℕ) → Each continues_escape inside → inters_of inside ≡ Zero
    → Each is_quiet inside
quiets_inside [] h e = tt
quiets_inside (b ∷ inside) h e =
    (grind (arith, nat_tests), quiets_inside inside h.1 (grind (arith, nat_tests)))

-- and the other way round
only_quiets : (quiets : List ℕ) → Each is_quiet quiets
    → Each continues_escape quiets × (inters_of quiets ≡ Zero)
only_quiets [] h = (tt, refl)
only_quiets (b ∷ quiets) h =
    let ih = only_quiets quiets h.1 in
    let zero = ih.1 in
    ((grind (arith, nat_tests), ih.0), grind (arith, nat_tests))

-- ---- the computed split is a split

-- a byte after a rest gives these parts
record Grows (rest : Option Beginning) (b : ℕ) (parts : Parts) : Type 0 where
  is_rest : IsRest parts.rest
  splits : (bytes : List ℕ) (items : List Item) (final : Option Beginning)
      → Split (rest_bytes parts.rest ++ bytes) items final
      → Split (rest_bytes rest ++ b ∷ bytes) (parts.items ++ items) final

begin_grows : (b : ℕ) → Grows None b (begin b)
unfolding opens_string
begin_grows b = record {
  is_rest = grind (arith, nat_tests);
  splits = λ bytes items final s. grind (arith, nat_tests);
}

extended_bytes : (beginning : Beginning) (b : ℕ) → beginning_bytes (extended beginning b) ≡ beginning_bytes beginning
    ++ b ∷ []
extended_bytes beginning b = grind (arith, nat_tests, append-nil, append_assoc)

extended_beginning : (beginning : Beginning) (b : ℕ) → IsBeginning beginning → ends beginning b ≡ false
    → cuts beginning b ≡ false → IsBeginning (extended beginning b)
unfolding opens_string
extended_beginning (OfEscape inside) b h e f =
    let quiets = quiets_inside inside h in
    let pushed = Each-push continues_escape inside b h in
    grind (arith, nat_tests)
extended_beginning (OfControl opening inside) b h e f =
    (h.0, Each-push continues_control inside b h.1 (grind (arith, nat_tests)))
extended_beginning (OfString opening code content) b h e f =
    (h.0, h.1, Each-push (λ c. not (ends_string (is_osc code) c || eqb c 27)) content b h.2 (rw (e, f) refl))

byte_grows : (rest : Option Beginning) (b : ℕ) → IsRest rest → Grows rest b (split_one rest b)
byte_grows None b h = begin_grows b
byte_grows (Some beginning) b h = elim (cases_Bool (ends beginning b)) [
  | inl e ↦ rw e (record {
    is_rest = tt;
    splits = λ bytes items final s. record {
      joined = rw s.joined (simp append_assoc);
      each = ((h, e), s.each);
    };
  })
  | inr e ↦ rw e (elim (cases_Bool (cuts beginning b)) [
    | inl f ↦ rw f (record {
      is_rest = (begin_grows b).is_rest;
      splits = λ bytes items final s.
          let t : Split (b ∷ bytes) ((begin b).items ++ items) final = (begin_grows b).splits bytes items final s in
          record { joined = rw t.joined (simp append_assoc); each = (rw (← t.joined) (h, f), t.each) };
    })
    | inr f ↦ rw f (record {
      is_rest = extended_beginning beginning b h e f;
      splits = λ bytes items final s. rw (extended_bytes beginning b, append_assoc) at s;
    })
  ])
]

-- the parts after a rest and bytes are a split of both
split_after_splits : (bytes : List ℕ) (rest : Option Beginning) → IsRest rest
    → Split (rest_bytes rest ++ bytes) (split_after rest bytes).items (split_after rest bytes).rest
unfolding split_after
split_after_splits [] rest h = record { joined = append-nil (rest_bytes rest); each = h }
split_after_splits (b ∷ bytes) rest h =
    let g = byte_grows rest b h in
    let now = split_one rest b in
    g.splits bytes (split_after now.rest bytes).items (split_after now.rest bytes).rest
    (split_after_splits bytes now.rest g.is_rest)

pub split_of_split : (bytes : List ℕ) → Split bytes (split_of bytes).items (split_of bytes).rest
split_of_split bytes = split_after_splits bytes None tt

-- ---- and no other

-- bytes that only make a beginning longer
longer : (make : List ℕ → Beginning) (p : ℕ → Bool)
    → ((so_far : List ℕ) (b : ℕ) → p b ≡ true → split_one (Some (make so_far)) b
    ≡ rest_alone (make (so_far ++ b ∷ [])))
    → (inside so_far more : List ℕ) → Each p inside
    → split_after (Some (make so_far)) (inside ++ more) ≡ split_after (Some (make (so_far ++ inside))) more
unfolding split_after
longer make p on [] so_far more h = rw append-nil refl
longer make p on (b ∷ inside) so_far more h =
    rw (on so_far b h.0, longer make p on inside (so_far ++ b ∷ []) more h.1, append_assoc) refl

escape_reads : (inside more : List ℕ) → Each continues_escape inside
    → split_after None (27 ∷ (inside ++ more)) ≡ split_after (Some (OfEscape inside)) more
unfolding split_after class_of opens_string
escape_reads inside more h =
    longer OfEscape continues_escape (λ so_far b h. grind (arith, nat_tests)) inside [] more h

-- what a C1 control that opens something begins
abbrev opened : Opening → ℕ → Beginning
opened opening code = cond (eqb code 155) (OfControl opening []) (OfString opening code [])

opening_reads : (opening : Opening) (code : ℕ) (more : List ℕ) → IsOpening opening → opens code ≡ true
    → split_after None (opening_bytes opening code ++ more) ≡ split_after (Some (opened opening code)) more
unfolding split_after class_of opens_string
opening_reads EightBit code more h o =
    let e : begin code ≡ rest_alone (opened EightBit code) = grind (arith, nat_tests) in rw e refl
opening_reads (SevenBit quiets) code more h o =
    let quiet = only_quiets quiets h in
    let zero = quiet.1 in
    let e : split_one (Some (OfEscape quiets)) (code - 64) ≡ rest_alone (opened (SevenBit quiets) code)
    = grind (arith, nat_tests) in
    ap (λ (t : List ℕ). split_after None (27 ∷ t)) (append_assoc quiets ((code - 64) ∷ []) more)
    ∙ escape_reads quiets ((code - 64) ∷ more) quiet.0
    ∙ rw e refl

-- the bytes of a beginning leave just that
beginning_reads : (beginning : Beginning) (more : List ℕ) → IsBeginning beginning
    → split_after None (beginning_bytes beginning ++ more) ≡ split_after (Some beginning) more
unfolding opens_string
beginning_reads (OfEscape inside) more h = escape_reads inside more h
beginning_reads (OfControl opening inside) more h =
    rw append_assoc (opening_reads opening 155 (inside ++ more) h.0 refl
    ∙ longer (OfControl opening) continues_control (λ so_far b h. grind (arith, nat_tests))
    inside [] more h.1)
beginning_reads (OfString opening code content) more h =
    let opens = h.1 in
    let string : eqb code 155 ≡ false = grind (arith, nat_tests) in
    rw append_assoc (opening_reads opening code (content ++ more) h.0 (grind (arith, nat_tests))
    ∙ rw string (longer (OfString opening code) (λ b. not (ends_string (is_osc code) b || eqb b 27))
    (λ so_far b h. grind (arith, nat_tests)) content [] more h.2))

-- ---- the items, one after another

item_reads : (item : Item) (after : List ℕ) → IsItemBefore after item → split_after None (item_bytes item ++ after)
    ≡ items_before (item ∷ []) (split_after None after)
unfolding split_after class_of ends_string
item_reads (Single b) after h =
    let e : begin b ≡ items_alone (Single b ∷ []) = grind (arith, nat_tests) in rw e refl
item_reads (Ended beginning last) after h =
    rw append_assoc (beginning_reads beginning (last ∷ after) h.0 ∙ rw (h.1) refl)
item_reads (Cut beginning) [] h = absurd h
item_reads (Cut beginning) (b ∷ after) h =
    let cut = h.1 in
    let e : ends beginning b ≡ false = grind (arith, nat_tests) in
    beginning_reads beginning (b ∷ after) h.0 ∙ rw (e, cut) refl

items_read : (items : List Item) (rest : Option Beginning) → AreItems items rest
    → split_of (bytes_of items rest) ≡ record { items = items; rest = rest }
unfolding split_after
items_read [] None h = refl
items_read [] (Some beginning) h = rw (← append-nil (beginning_bytes beginning)) (beginning_reads beginning [] h)
items_read (item ∷ items) rest h =
    rw append_assoc (item_reads item (bytes_of items rest) h.0 ∙ rw (items_read items rest h.1) refl)

pub split_only : (bytes : List ℕ) (items : List Item) (rest : Option Beginning) → Split bytes items rest
    → split_of bytes ≡ record { items = items; rest = rest }
split_only bytes items rest s = ap split_of s.joined ∙ items_read items rest s.each

-- ---- what stands after the items

items_rest : (items : List Item) (rest : Option Beginning) → AreItems items rest → IsRest rest
items_rest [] rest h = h
items_rest (item ∷ items) rest h = items_rest items rest h.1

pub last_is_rest : (bytes : List ℕ) → IsRest (split_of bytes).rest
last_is_rest bytes = items_rest (split_of bytes).items (split_of bytes).rest (split_of_split bytes).each
