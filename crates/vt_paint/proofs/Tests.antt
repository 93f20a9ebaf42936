-- Tests that compute: of each truth value and brush, and of events.
use Rattle.std.proofs.Common.{suc, ◌≡◌, inl, inr, Bool, true, false, not, cond, ◌&&◌, ◌||◌, ℕ, ◌-◌, ◌≤◌, List, []}
use Rattle.std.proofs.Common.{◌∷◌, ◌++◌, length, Option, Some, None, refl, arith, eqb, leb, ltb}
use Rattle.std.specs.Prelude.{IfSome}
use Rattle.std.specs.List.{list_all}
use Rattle.std.specs.Option.{option_to_list}
use Rattle.std.proofs.lemmas.Bool.{and_parts, leb-true}
use Rattle.std.proofs.lemmas.List.Sums.{AllPass-from_list_all}
use Rattle.vt_syntax.specs.declared.event.Event.{Event}
use Rattle.vt_syntax.specs.declared.event.Event.TheVariants.{Print, Control, Escape, Sequence}
use Rattle.vt_syntax.specs.Class.{opens}
use Rattle.vt_syntax.specs.Held.{spell_values}
use Rattle.vt_syntax.specs.Spelling.{IsEvent}
use Rattle.vt_glyph.proofs.Lists.{either}
use Rattle.vt_screen.specs.declared.cell.Brush.{Brush}
use Rattle.vt_term.specs.State.{Display}
use Rattle.vt_term.specs.Parameters.{first}
use Rattle.vt_term.specs.Reports.{report}
use Rattle.vt_term.specs.Rendition.{vt220_kind}
use Rattle.vt_term.proofs.Silent.{silent-control, silent-sequence}
use Rattle.vt_paint.specs.Spoken.{Element, is_spoken}
use Rattle.vt_paint.specs.Spoken as spoken

-- ---- a test of each value

unfoldable pub both_pass : (Bool → Bool) → Bool
both_pass p = p true && p false

pub at_bool : (p : Bool → Bool) → both_pass p ≡ true → (b : Bool) → p b ≡ true
unfolding both_pass
at_bool p h true = (and_parts (p true) (p false) h).0
at_bool p h false = (and_parts (p true) (p false) h).1

unfoldable pub all_three : (Bool → Bool → Bool → Bool) → Bool
all_three p = both_pass (λ a. both_pass (λ b. both_pass (p a b)))

pub at_three : (p : Bool → Bool → Bool → Bool) → all_three p ≡ true → (a b c : Bool) → p a b c ≡ true
unfolding all_three
at_three p h a b c = at_bool (p a b) (at_bool (λ b. both_pass (p a b)) (at_bool _ h a) b) c

unfoldable pub all_brushes : (Brush → Bool) → Bool
all_brushes p =
    both_pass (λ b. both_pass (λ u. both_pass (λ k. both_pass (λ r. both_pass (λ protected.
    p (record {
      rendition = record { bold = b; underline = u; blink = k; reverse = r };
      protected = protected;
    }))))))

pub at_brush : (p : Brush → Bool) → all_brushes p ≡ true → (brush : Brush) → p brush ≡ true
unfolding all_brushes
at_brush p h brush =
    let r = brush.rendition in
    at_bool _ (at_bool _ (at_bool _ (at_bool _ (at_bool _ h r.bold) r.underline) r.blink) r.reverse) brush.protected

pub not_true : (a : Bool) → not a ≡ true → a ≡ false
not_true true h = absurd cc
not_true false h = refl

-- ---- events that bytes ask for, and that no report answers

abbrev in_range : ℕ → ℕ → ℕ → Bool
in_range low high b = leb low b && leb b high

abbrev some_in : ℕ → ℕ → Option ℕ → Bool
some_in low high None = true
some_in low high (Some b) = in_range low high b

-- of a control sequence: after `?` alone, and with a final byte that asks for no report
abbrev parts : Option ℕ → List ℕ → Option ℕ → ℕ → List Bool
parts marker values inter last =
    some_in 0x3F 0x3F marker ∷ some_in 0x20 0x2F inter ∷ in_range 0x40 0x7E last ∷ not (eqb last 0x63)
    ∷ not (eqb last 0x6E) ∷ in_range 1 16 (length values) ∷ list_all (λ v. leb v 9999) values ∷ []

abbrev pub is_event : Event → Bool
is_event (Print b) = in_range 0x20 0x7E b
is_event (Control b) = not (eqb b 0x9A) && (ltb b 0x18 || (in_range 0x80 0x9F b && not (opens b)))
is_event (Escape None last) = in_range 0x30 0x3F last || in_range 0x60 0x7E last
is_event (Escape (Some i) last) = in_range 0x20 0x2F i && in_range 0x30 0x7E last
is_event (Sequence marker params inter last) = list_all (λ t. t) (parts marker params.items inter last)

range : (low high b : ℕ) → in_range low high b ≡ true → (low ≤ b) × (b ≤ high)
range low high b h = let two = and_parts (leb low b) (leb b high) h in
    (leb-true low b two.0, leb-true b high two.1)

some_range : (low high : ℕ) (o : Option ℕ) → some_in low high o ≡ true → IfSome o (λ b. (low ≤ b) × (b ≤ high))
some_range low high None h = tt
some_range low high (Some b) h = range low high b h

event_is : (e : Event) → is_event e ≡ true → IsEvent e
event_is (Print b) h = inl (range 0x20 0x7E b h)
event_is (Control b) h =
    either _ (ltb b 0x18) (in_range 0x80 0x9F b && not (opens b)) (and_parts (not (eqb b 0x9A)) _ h).1
    (λ l. let small : suc b ≤ 0x18 = leb-true (suc b) 0x18 l in inl (omega arith, (λ e. omega arith), (λ e. omega arith)))
    (λ l. let two = and_parts (in_range 0x80 0x9F b) (not (opens b)) l in
    let in_c1 = range 0x80 0x9F b two.0 in
    inr (in_c1.0, omega arith, not_true (opens b) two.1))
event_is (Escape None last) h = (
  tt,
  either _ (in_range 0x30 0x3F last) (in_range 0x60 0x7E last) h
      (λ l. let r = range 0x30 0x3F last l in inl (r.0, omega arith)) (λ l. inr (range 0x60 0x7E last l)),
)
event_is (Escape (Some i) last) h =
    let two = and_parts (in_range 0x20 0x2F i) (in_range 0x30 0x7E last) h in
    (range 0x20 0x2F i two.0, range 0x30 0x7E last two.1)
event_is (Sequence marker params inter last) h =
    let part = AllPass-from_list_all (λ t. t) (parts marker params.items inter last) h in
    let count = range 1 16 (length params.items) (part 5 true (omega arith)) in
    let final = range 0x40 0x7E last (part 2 true (omega arith)) in
    let small = AllPass-from_list_all (λ v. leb v 9999) params.items (part 6 true (omega arith)) in
    record {
      is_marker = marker_is marker (part 0 true (omega arith));
      are_values = record { some = count.0; few = count.1; small = λ k d l. leb-true _ 9999 (small k d l) };
      is_intermediate = some_range 0x20 0x2F inter (part 1 true (omega arith));
      low = final.0;
      high = final.1;
    }
  where
    marker_is : (marker : Option ℕ) → some_in 0x3F 0x3F marker ≡ true → IfSome marker (λ m. (0x3C ≤ m) × (m ≤ 0x3F))
    marker_is None h = tt
    marker_is (Some m) h = let r = range 0x3F 0x3F m h in (omega arith, r.1)

is_silent : (e : Event) → is_event e ≡ true → (s : Display) → report e s ≡ []
is_silent (Print b) h s = refl
is_silent (Control b) h s = silent-control vt220_kind b s (not_true (eqb b 0x9A) (and_parts (not (eqb b 0x9A)) _ h).0)
is_silent (Escape i last) h s = refl
is_silent (Sequence marker params inter last) h s =
    let part = AllPass-from_list_all (λ t. t) (parts marker params.items inter last) h in
    silent-sequence vt220_kind marker inter last (first params.items) s (not_true _ (part 3 true (omega arith)))
    (not_true _ (part 4 true (omega arith)))

-- an event, spelled, as an element
abbrev pub element_of : Event → Element
element_of (Print b) = spoken.Character b
element_of (Control b) = cond (ltb b 0x80) (spoken.Control b) (spoken.Escape ((b - 0x40) ∷ []))
element_of (Escape inter last) = spoken.Escape (option_to_list inter ++ last ∷ [])
element_of (Sequence marker params inter last) =
    spoken.Sequence (spell_values marker params.items false) (option_to_list inter ++ last ∷ [])

-- an event that no report answers, and whose spelling is spoken
abbrev pub is_fine : Event → Bool
is_fine e = is_event e && is_spoken (element_of e)

pub fine_is : (e : Event) → is_fine e ≡ true → IsEvent e
fine_is e h = event_is e (and_parts (is_event e) _ h).0

pub fine_silent : (e : Event) → is_fine e ≡ true → (s : Display) → report e s ≡ []
fine_silent e h = is_silent e (and_parts (is_event e) _ h).0
