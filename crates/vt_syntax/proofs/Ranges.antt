-- The held part is in range, and a byte asks for an event.
use Rattle.std.proofs.Common.{◌≡◌, ℕ, ◌≤◌, Bool, true, false, List, [], ◌∷◌, length, Option, None, arith, length-append}
use Rattle.std.proofs.Common.{All, IfSome}
use Rattle.std.proofs.lemmas.Bool.Decides.{nat_tests}
use Rattle.std.proofs.lemmas.List.Elements.{All-nil, All-cons, All-push, All-append, All-head, All-tail}
use Rattle.arrayvec.specs.ArrayVec.{ArrayVec}
use Rattle.vt_syntax.specs.declared.held.Held.{Held}
use Rattle.vt_syntax.specs.declared.held.Held.TheVariants.{Nothing, Escape, Control, Spoilt, Text}
use Rattle.vt_syntax.specs.declared.held.Inters.{Inters}
use Rattle.vt_syntax.specs.declared.held.Inters.TheVariants.{One}
use Rattle.vt_syntax.specs.declared.held.Phase.{Phase}
use Rattle.vt_syntax.specs.declared.held.Phase.TheVariants.{Start, Values, Inter}
use Rattle.vt_syntax.specs.Class.{class_of, opens_string}
use Rattle.vt_syntax.specs.Items.{ends_string}
use Rattle.vt_syntax.specs.Spelling.{IsMarker, IsIntermediate, AreValues, IsEvent}
use Rattle.vt_syntax.specs.Steps.{Step, change_last, with_digit, step_between, step_value, step_of, steps}
use Rattle.vt_syntax.proofs.Steps.{length-change_last}

-- ---- what is in range

abbrev pub InPhase : Option ℕ → List ℕ → Bool → Phase → Type 0
InPhase marker values full Start = (marker ≡ None) × (values ≡ 0 ∷ []) × (full ≡ false)
InPhase marker values full Values = Unit {0}
InPhase marker values full (Inter i) = IsIntermediate i

pub record IsControl (marker : Option ℕ) (values : List ℕ) (full : Bool) (phase : Phase) : Type 0 where
  pub is_marker : IfSome marker IsMarker
  pub are_values : AreValues values
  pub all_there : full ≡ true → length values ≡ 16
  pub in_phase : InPhase marker values full phase

abbrev pub InRange : Held → Type 0
InRange (Escape (One i)) = IsIntermediate i
InRange (Control marker params full phase) = IsControl marker params.items full phase
InRange _ = Unit {0}

-- what is held after a byte is in range, and the byte asks for events
pub record Ranged (step : Step) : Type 0 where
  pub held : InRange step.held
  pub events : All IsEvent step.events

-- ---- one byte

abbrev IsSmall : ℕ → Type 0
IsSmall v = v ≤ 9999

change_last_small : (b : ℕ) (vs : List ℕ) → All IsSmall vs → All IsSmall (change_last (with_digit b) vs)
change_last_small b [] h = h
change_last_small b (v ∷ []) h = All-cons IsSmall (with_digit b v) [] (omega arith) (All-nil IsSmall)
change_last_small b (v ∷ w ∷ vs) h =
    All-cons IsSmall v (change_last (with_digit b) (w ∷ vs)) (All-head IsSmall v (w ∷ vs) h)
    (change_last_small b (w ∷ vs) (All-tail IsSmall v (w ∷ vs) h))

value_range : (marker : Option ℕ) (vs : List ℕ) (full : Bool) (b : ℕ) → IfSome marker IsMarker → AreValues vs
    → (full ≡ true → length vs ≡ 16) → InRange (step_value marker vs full b)
value_range marker vs full b m v all =
    let small = change_last_small b vs v.small in
    grind (arith, nat_tests, length-append {A = ℕ}, length-change_last, All-push IsSmall)

between_range : (b : ℕ) → Ranged (step_between b)
between_range b = record { held = grind (arith, nat_tests); events = grind (arith, nat_tests, All-nil, All-cons) }

escape_range : (n : Inters) (b : ℕ) → InRange (Escape n) → Ranged (step_of (Escape n) b)
unfolding step_of class_of opens_string
escape_range n b h = record { held = grind (arith, nat_tests); events = grind (arith, nat_tests, All-nil, All-cons) }

control_range : (marker : Option ℕ) (params : ArrayVec ℕ) (full : Bool) (phase : Phase) (b : ℕ)
    → InRange (Control marker params full phase) → Ranged (step_of (Control marker params full phase) b)
unfolding step_of class_of opens_string
control_range marker params full phase b h =
    let value = value_range marker params.items full b h.is_marker h.are_values h.all_there in
    record { held = grind (arith, nat_tests); events = grind (arith, nat_tests, All-nil, All-cons) }

spoilt_range : (b : ℕ) → Ranged (step_of Spoilt b)
unfolding step_of class_of opens_string
spoilt_range b = record { held = grind (arith, nat_tests); events = grind (arith, nat_tests, All-nil, All-cons) }

string_range : (osc : Bool) (b : ℕ) → Ranged (step_of (Text osc) b)
unfolding step_of ends_string
string_range osc b = record { held = grind (arith, nat_tests); events = grind (arith, nat_tests, All-nil, All-cons) }

step_range : (held : Held) (b : ℕ) → InRange held → Ranged (step_of held b)
unfolding step_of
step_range Nothing b h = between_range b
step_range (Escape n) b h = escape_range n b h
step_range (Control marker params full phase) b h = control_range marker params full phase b h
step_range Spoilt b h = spoilt_range b
step_range (Text osc) b h = string_range osc b

-- ---- any bytes

pub steps_range : (bytes : List ℕ) (held : Held) → InRange held → Ranged (steps held bytes)
unfolding steps
steps_range [] held h = record { held = h; events = All-nil IsEvent }
steps_range (b ∷ bytes) held h =
    let now = step_range held b h in
    let later = steps_range bytes (step_of held b).held now.held in
    record { held = later.held; events = All-append IsEvent (step_of held b).events _ now.events later.events }
