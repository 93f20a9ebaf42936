-- The split reads what one step after another does from the held part.
use Rattle.std.proofs.Common.{◌≡◌, ℕ, ◌<◌, ◌≤◌, Bool, true, false, cond, eqb, ltb, ◌||◌, ◌&&◌, List, [], ◌∷◌, ◌++◌}
use Rattle.std.proofs.Common.{length, take, Option, refl, append-nil, arith, filter, inl, inr, append_assoc, ◌⊎◌, not}
use Rattle.std.proofs.Common.{Some, None, ◌∙◌}
use Rattle.std.specs.List.{list_any, slice_split}
use Rattle.std.proofs.lemmas.Bool.{cases_Bool}
use Rattle.std.proofs.lemmas.Bool.Decides.{nat_tests}
use Rattle.std.proofs.lemmas.List.{length-append, length-take-le, take-append-le, take_all, map-append}
use Rattle.std.proofs.lemmas.List.Elements.{filter-append}
use Rattle.std.proofs.lemmas.List.Folds.{list_any-append}
use Rattle.std.proofs.lemmas.Int.Digits.{digits_value_push}
use Rattle.std.proofs.lemmas.List.Concat.{flat_map-append}
use Rattle.vt_syntax.specs.declared.class.Class.{Class}
use Rattle.vt_syntax.specs.declared.class.Class.TheVariants.{Quiet, Cancel, Esc, Intermediate, Parameter, Final, High}
use Rattle.vt_syntax.specs.declared.held.Held.TheVariants.{Escape, Control, Text}
use Rattle.vt_syntax.specs.declared.held.Inters.{Inters}
use Rattle.vt_syntax.specs.declared.held.Inters.TheVariants.{Zero}
use Rattle.vt_syntax.specs.declared.held.Phase.TheVariants.{Values}
use Rattle.vt_syntax.specs.Class.{class_of, is_cancel, is_quiet, is_intermediate, is_parameter, is_final, opens_string}
use Rattle.vt_syntax.specs.Items.{inters_of, is_osc, cuts_sequence, Opening, Beginning, OfEscape, OfControl, OfString, ends_string}
use Rattle.vt_syntax.specs.Reading.{is_marker, marker_of, after_marker, value_of, values_of, is_many}
use Rattle.vt_syntax.specs.Reading.{has_late_parameter, has_late_marker, is_spoilt, inter_of, quiet_control}
use Rattle.vt_syntax.specs.Reading.{controls, opening_controls, beginning_controls, without_quiet, rest_reading, parts_reading}
use Rattle.vt_syntax.specs.Held.{phase_inter, phase_of, held_control, held_of}
use Rattle.vt_syntax.specs.Steps.{one_more, change_last, with_digit, step_value, Step, step_between, step_of}
use Rattle.vt_syntax.specs.declared.event.Event.{Event}
use Rattle.vt_syntax.specs.Split.{Parts, begin, split_one}
use Rattle.vt_syntax.proofs.Steps.{change_last-push, length-change_last, take-change_last}

-- ---- the bytes of a class

abbrev InClass : Class → ℕ → Type 0
InClass Cancel b = (b ≡ 24) ⊎ (b ≡ 26)
InClass Esc b = b ≡ 27
InClass Quiet b = ((b < 24) ⊎ (b ≡ 25)) ⊎ (((28 ≤ b) × (b < 32)) ⊎ (b ≡ 127))
InClass Intermediate b = (32 ≤ b) × (b < 48)
InClass Parameter b = (48 ≤ b) × (b < 64)
InClass Final b = (64 ≤ b) × (b < 127)
InClass High b = 128 ≤ b

range_of : (b : ℕ) (k : Class) → class_of b ≡ k → InClass k b
unfolding class_of
range_of b k e = grind (arith, nat_tests)

-- ---- one more byte of a control sequence, the quiet bytes taken out

list_any-push : (p : ℕ → Bool) (xs : List ℕ) (b : ℕ) → list_any p (xs ++ b ∷ []) ≡ (list_any p xs || p b)
list_any-push p xs b = rw (list_any-append p xs (b ∷ [])) (grind (arith, nat_tests))

inters_of-push : (xs : List ℕ) (b : ℕ)
    → inters_of (xs ++ b ∷ []) ≡ cond (is_intermediate b) (one_more (inters_of xs) b) (inters_of xs)
inters_of-push xs b =
    let kept = filter-append is_intermediate xs (b ∷ []) in grind (arith, nat_tests, append-nil)

-- ---- what spoils

abbrev has_inters : Inters → Bool
has_inters Zero = false
has_inters _ = true

any_inters : (xs : List ℕ) → list_any is_intermediate xs ≡ has_inters (inters_of xs)
any_inters [] = refl
any_inters (x ∷ xs) = let e = any_inters xs in grind (arith, nat_tests)

has_late_parameter-push : (xs : List ℕ) (b : ℕ) → has_late_parameter (xs ++ b ∷ [])
    ≡ (has_late_parameter xs || (list_any is_intermediate xs && is_parameter b))
has_late_parameter-push [] b = grind (arith, nat_tests)
has_late_parameter-push (x ∷ xs) b =
    let e = has_late_parameter-push xs b in
    let f = list_any-push is_parameter xs b in
    grind (arith, nat_tests)

-- a marker that isn't first
abbrev late : List ℕ → ℕ → Bool
late [] b = false
late (x ∷ xs) b = is_marker b

has_late_marker-push : (xs : List ℕ) (b : ℕ) → has_late_marker (xs ++ b ∷ []) ≡ (has_late_marker xs || late xs b)
has_late_marker-push [] b = refl
has_late_marker-push (x ∷ xs) b = list_any-push is_marker xs b

-- the faults of one more byte; what is spoilt stays so
is_spoilt-push : (xs : List ℕ) (b : ℕ) → is_spoilt (xs ++ b ∷ [])
    ≡ (is_spoilt xs || (((eqb b 58 || late xs b) || (has_inters (inters_of xs) && is_parameter b))
    || is_many (inters_of (xs ++ b ∷ []))))
unfolding is_spoilt
is_spoilt-push xs b =
    let any = any_inters xs in
    let inters = inters_of-push xs b in
    rw (list_any-push (λ c. eqb c 58) xs b, has_late_marker-push xs b, has_late_parameter-push xs b)
    (grind (arith, nat_tests))

not_many : (xs : List ℕ) → is_spoilt xs ≡ false → is_many (inters_of xs) ≡ false
unfolding is_spoilt
not_many xs sound = grind (arith, nat_tests)

-- ---- pieces and values

-- the pieces before the last one, and the last one, which takes the next byte
abbrev Pieces : (ℕ → Bool) → List ℕ → Type 0
Pieces p xs = (front : List (List ℕ)) × (last : List ℕ) × (slice_split p xs ≡ front ++ last ∷ [])
    × ((b : ℕ) → slice_split p (xs ++ b ∷ []) ≡ front ++ cond (p b) (last ∷ [] ∷ []) ((last ++ b ∷ []) ∷ []))

pieces : (p : ℕ → Bool) (xs : List ℕ) → Pieces p xs
pieces p [] = ([], [], refl, λ b. refl)
pieces p (x ∷ xs) = go (pieces p xs) (cases_Bool (p x))
  where
    go : Pieces p xs → (p x ≡ true) ⊎ (p x ≡ false) → Pieces p (x ∷ xs)
    go (front, last, now, more) (inl e) = ([] ∷ front, last, rw (e, now) refl, λ b. rw (e, more b) refl)
    go ([], last, now, more) (inr e) = ([], x ∷ last, rw (e, now) refl, λ b. let m = more b in grind (arith, nat_tests))
    go (q ∷ front, last, now, more) (inr e) = ((x ∷ q) ∷ front, last, rw (e, now) refl, λ b. rw (e, more b) refl)

value_of-push : (q : List ℕ) (b : ℕ) → 48 ≤ b → b < 58 → value_of (q ++ b ∷ []) ≡ with_digit b (value_of q)
unfolding value_of
value_of-push q b low high = let push = digits_value_push 10 q b in grind (arith, nat_tests)

-- ---- values of one more byte

-- the parameter bytes
after_marker-push : (xs : List ℕ) (b : ℕ) → is_marker b ≡ false
    → after_marker (xs ++ b ∷ []) ≡ after_marker xs ++ b ∷ []
after_marker-push xs b h = grind (arith, nat_tests)

values_of-push_no : (xs : List ℕ) (b : ℕ) → is_marker b ≡ false → is_parameter b ≡ false
    → values_of (xs ++ b ∷ []) ≡ values_of xs
values_of-push_no xs b m p =
    rw (after_marker-push xs b m, filter-append is_parameter (after_marker xs) (b ∷ []), p, append-nil) refl

value_of-nil : value_of [] ≡ 0
unfolding value_of
value_of-nil = refl

values_of-push : (xs : List ℕ) (b : ℕ) → class_of b ≡ Parameter → is_marker b ≡ false → eqb b 58 ≡ false
    → values_of (xs ++ b ∷ []) ≡ cond (eqb b 59) (values_of xs ++ 0 ∷ []) (change_last (with_digit b) (values_of xs))
unfolding class_of
values_of-push xs b k m c =
    let is : is_parameter b ≡ true = grind (arith, nat_tests) in
    let s = pieces (λ c. eqb c 59) (filter is_parameter (after_marker xs)) in
    let kept = filter-append is_parameter (after_marker xs) (b ∷ []) in
    rw (after_marker-push xs b m, kept, is, s.3 b, s.2)
    (simp map-append (grind (arith, nat_tests, append_assoc, change_last-push, value_of-push, value_of-nil)))

-- the first 16 values, and whether there are more, after one more byte
value_more : (n b : ℕ) (vs ws : List ℕ) (marker : Option ℕ) → n ≡ 16
    → ws ≡ cond (eqb b 59) (vs ++ 0 ∷ []) (change_last (with_digit b) vs)
    → Control marker (record { items = take n ws }) (ltb n (length ws)) Values
    ≡ step_value marker (take n vs) (ltb n (length vs)) b
value_more n b vs ws marker is more =
    grind (
      arith,
      nat_tests,
      length-append {A = ℕ},
      take-append-le {A = ℕ},
      take_all {A = ℕ},
      length-take-le {A = ℕ},
      length-change_last,
      take-change_last,
    )

-- what is shown of a final byte
inter_of-phase : (xs : List ℕ) → is_spoilt xs ≡ false → inter_of (inters_of xs) ≡ phase_inter (phase_of xs)
unfolding is_spoilt
inter_of-phase xs sound = grind (arith, nat_tests)

-- ---- what the split reads

-- after these controls, the parts hold and read what the turn does
pub record Matches (first : List Event) (parts : Parts) (t : Step) : Type 0 where
  pub held : held_of parts.rest ≡ t.held
  pub events : parts_reading parts ≡ first ++ t.events

-- ---- a byte by itself

begin_matches : (b : ℕ) → Matches [] (begin b) (step_between b)
unfolding is_spoilt value_of opens_string
begin_matches b = grind (arith, nat_tests, append-nil)

-- ---- after CSI

-- a parameter byte adds no intermediate, and an intermediate no value
parameter_inters : (xs : List ℕ) (b : ℕ) → class_of b ≡ Parameter → inters_of (xs ++ b ∷ []) ≡ inters_of xs
unfolding class_of
parameter_inters xs b k =
    let is : is_intermediate b ≡ false = grind (arith, nat_tests) in inters_of-push xs b ∙ rw is refl

intermediate_inters : (xs : List ℕ) (b : ℕ) → class_of b ≡ Intermediate
    → inters_of (xs ++ b ∷ []) ≡ one_more (inters_of xs) b
unfolding class_of
intermediate_inters xs b k =
    let is : is_intermediate b ≡ true = grind (arith, nat_tests) in inters_of-push xs b ∙ rw is refl

intermediate_values : (xs : List ℕ) (b : ℕ) → class_of b ≡ Intermediate → values_of (xs ++ b ∷ []) ≡ values_of xs
unfolding class_of
intermediate_values xs b k =
    let marker : is_marker b ≡ false = grind (arith, nat_tests) in
    let value : is_parameter b ≡ false = grind (arith, nat_tests) in
    values_of-push_no xs b marker value

-- the faults of one more parameter byte
parameter_faults : (xs : List ℕ) (b : ℕ) → class_of b ≡ Parameter → is_spoilt (xs ++ b ∷ [])
    ≡ (is_spoilt xs || (((eqb b 58 || late xs b) || (has_inters (inters_of xs) && true)) || is_many (inters_of xs)))
unfolding class_of
parameter_faults xs b k =
    let is : is_parameter b ≡ true = grind (arith, nat_tests) in
    is_spoilt-push xs b ∙ rw (is, parameter_inters xs b k) refl

-- a parameter byte after bytes that aren't spoilt: it is `:`, a marker, or a digit or `;`
colon_held : (xs : List ℕ) (b : ℕ) → class_of b ≡ Parameter → is_spoilt xs ≡ false → eqb b 58 ≡ true
    → held_control (xs ++ b ∷ []) ≡ (step_of (held_control xs) b).held
unfolding step_of
colon_held xs b k sound colon =
    let fault = parameter_faults xs b k in
    let many = not_many xs sound in
    grind (arith, nat_tests)

marker_held : (xs : List ℕ) (b : ℕ) → class_of b ≡ Parameter → is_spoilt xs ≡ false → eqb b 58 ≡ false
    → is_marker b ≡ true → held_control (xs ++ b ∷ []) ≡ (step_of (held_control xs) b).held
unfolding step_of
marker_held xs b k sound colon marker =
    let fault = parameter_faults xs b k in
    let many = not_many xs sound in
    let inters = parameter_inters xs b k in
    grind (arith, nat_tests)

value_held : (xs : List ℕ) (b : ℕ) → class_of b ≡ Parameter → is_spoilt xs ≡ false → eqb b 58 ≡ false
    → is_marker b ≡ false → held_control (xs ++ b ∷ []) ≡ (step_of (held_control xs) b).held
unfolding step_of
value_held xs b k sound colon marker =
    let fault = parameter_faults xs b k in
    let many = not_many xs sound in
    let inters = parameter_inters xs b k in
    let value =
    value_more 16 b (values_of xs) (values_of (xs ++ b ∷ [])) (marker_of xs) refl
    (values_of-push xs b k marker colon) in
    grind (arith, nat_tests)

parameter_held : (xs : List ℕ) (b : ℕ) → class_of b ≡ Parameter → is_spoilt xs ≡ false → (colon marker : Bool)
    → eqb b 58 ≡ colon → is_marker b ≡ marker → held_control (xs ++ b ∷ []) ≡ (step_of (held_control xs) b).held
parameter_held xs b k sound true marker c m = colon_held xs b k sound c
parameter_held xs b k sound false true c m = marker_held xs b k sound c m
parameter_held xs b k sound false false c m = value_held xs b k sound c m

more_held : (xs : List ℕ) (b : ℕ) → (class_of b ≡ Parameter) ⊎ (class_of b ≡ Intermediate)
    → held_control (xs ++ b ∷ []) ≡ (step_of (held_control xs) b).held
unfolding step_of
more_held xs b (inl k) =
    let fault = parameter_faults xs b k in
    elim (cases_Bool (is_spoilt xs)) [
      | inl spoilt ↦ rw (fault, spoilt, k) refl
      | inr sound ↦ parameter_held xs b k sound (eqb b 58) (is_marker b) refl refl
    ]
more_held xs b (inr k) =
    let range = range_of b Intermediate k in
    let fault = is_spoilt-push xs b in
    let many = not_many xs in
    let inters = intermediate_inters xs b k in
    let same = intermediate_values xs b k in
    grind (arith, nat_tests)

-- the tests of a byte of a class, inside a control sequence
abbrev AreTests : Class → ℕ → Type 0
AreTests Quiet b = (is_quiet b ≡ true) × ((is_cancel b || is_final b) ≡ false) × (cuts_sequence b ≡ false)
AreTests Cancel b = is_cancel b ≡ true
AreTests Esc b = ((is_cancel b || is_final b) ≡ false) × (cuts_sequence b ≡ true)
AreTests Intermediate b = (is_quiet b ≡ false) × ((is_cancel b || is_final b) ≡ false) × (cuts_sequence b ≡ false)
AreTests Parameter b = (is_quiet b ≡ false) × ((is_cancel b || is_final b) ≡ false) × (cuts_sequence b ≡ false)
AreTests Final b = (is_cancel b ≡ false) × (is_final b ≡ true)
AreTests High b = ((is_cancel b || is_final b) ≡ false) × (cuts_sequence b ≡ true)

tests_of : (b : ℕ) (k : Class) → class_of b ≡ k → AreTests k b
tests_of b k is = let range = range_of b k is in grind (arith, nat_tests)

control_as : (opening : Opening) (inside : List ℕ) (b : ℕ) (k : Class) → class_of b ≡ k
    → Matches (beginning_controls (OfControl opening inside)) (split_one (Some (OfControl opening inside)) b)
    (step_of (held_control (without_quiet inside)) b)
unfolding step_of
control_as opening inside b Quiet is =
    let t = tests_of b Quiet is in
    let kept = filter-append (λ c. not (is_quiet c)) inside (b ∷ []) in
    let carried_out = flat_map-append quiet_control inside (b ∷ []) in
    rw (t.1, t.2) (record {
      held = grind (arith, nat_tests, append_assoc, append-nil);
      events = grind (arith, nat_tests, append_assoc, append-nil);
    })
control_as opening inside b Cancel is =
    let t = tests_of b Cancel is in
    rw (t) (record {
      held = grind (arith, nat_tests, append_assoc, append-nil);
      events = grind (arith, nat_tests, append_assoc, append-nil);
    })
control_as opening inside b Esc is =
    let t = tests_of b Esc is in
    let alone = begin_matches b in
    rw (t.0, t.1) (record {
      held = grind (arith, nat_tests, append_assoc, append-nil);
      events = grind (arith, nat_tests, append_assoc, append-nil);
    })
control_as opening inside b Intermediate is =
    let t = tests_of b Intermediate is in
    let kept = filter-append (λ c. not (is_quiet c)) inside (b ∷ []) in
    let carried_out = flat_map-append quiet_control inside (b ∷ []) in
    let held = more_held (without_quiet inside) b (inr is) in
    rw (t.1, t.2) (record {
      held = grind (arith, nat_tests, append_assoc, append-nil);
      events = grind (arith, nat_tests, append_assoc, append-nil);
    })
control_as opening inside b Parameter is =
    let t = tests_of b Parameter is in
    let kept = filter-append (λ c. not (is_quiet c)) inside (b ∷ []) in
    let carried_out = flat_map-append quiet_control inside (b ∷ []) in
    let held = more_held (without_quiet inside) b (inl is) in
    rw (t.1, t.2) (record {
      held = grind (arith, nat_tests, append_assoc, append-nil);
      events = grind (arith, nat_tests, append_assoc, append-nil);
    })
control_as opening inside b Final is =
    let t = tests_of b Final is in
    let inter = inter_of-phase (without_quiet inside) in
    rw (t.0, t.1) (record {
      held = grind (arith, nat_tests, append_assoc, append-nil);
      events = grind (arith, nat_tests, append_assoc, append-nil);
    })
control_as opening inside b High is =
    let t = tests_of b High is in
    let alone = begin_matches b in
    rw (t.0, t.1) (record {
      held = grind (arith, nat_tests, append_assoc, append-nil);
      events = grind (arith, nat_tests, append_assoc, append-nil);
    })

escape_as : (inside : List ℕ) (b : ℕ)
    → Matches (controls inside) (split_one (Some (OfEscape inside)) b) (step_of (Escape (inters_of inside)) b)
unfolding is_spoilt value_of class_of opens_string step_of
escape_as inside b =
    let inters = inters_of-push inside b in
    let carried_out = flat_map-append quiet_control inside (b ∷ []) in
    record {
      held = grind (arith, nat_tests, append-nil);
      events = grind (arith, nat_tests, append-nil, append_assoc);
    }

string_as : (opening : Opening) (code : ℕ) (content : List ℕ) (b : ℕ)
    → Matches (opening_controls opening) (split_one (Some (OfString opening code content)) b)
    (step_of (Text (is_osc code)) b)
unfolding ends_string step_of
string_as opening code content b = grind (arith, nat_tests, append-nil, append_assoc)

pub byte_matches : (rest : Option Beginning) (b : ℕ)
    → Matches (rest_reading rest) (split_one rest b) (step_of (held_of rest) b)
unfolding step_of
byte_matches None b = begin_matches b
byte_matches (Some (OfEscape inside)) b = escape_as inside b
byte_matches (Some (OfControl opening inside)) b = control_as opening inside b (class_of b) refl
byte_matches (Some (OfString opening code content)) b = string_as opening code content b
