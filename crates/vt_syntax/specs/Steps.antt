-- One byte after a held part. Contracts of private functions cite this, and no public clause does: it is proved to be
-- what the split of the held part's spelling and the byte reads and leaves.
use Rattle.std.specs.Prelude.{ℕ, ◌+◌, ◌-◌, ◌*◌, List, [], ◌∷◌, ◌++◌, length, min, Bool, true, false, Option, Some, None}
use Rattle.std.specs.Prelude.{◌==◌, if◌then◌else◌}
use Rattle.vt_syntax.specs.declared.class.Class.{Class}
use Rattle.vt_syntax.specs.declared.class.Class.TheVariants as class
use Rattle.vt_syntax.specs.declared.event.Event.{Event}
use Rattle.vt_syntax.specs.declared.event.Event.TheVariants as event
use Rattle.vt_syntax.specs.declared.held.Held.{Held}
use Rattle.vt_syntax.specs.declared.held.Held.TheVariants.{Nothing, Escape, Control, Spoilt, Text}
use Rattle.vt_syntax.specs.declared.held.Inters.{Inters}
use Rattle.vt_syntax.specs.declared.held.Inters.TheVariants.{Zero, One, Many}
use Rattle.vt_syntax.specs.declared.held.Phase.{Phase}
use Rattle.vt_syntax.specs.declared.held.Phase.TheVariants.{Start, Values, Inter}
use Rattle.vt_syntax.specs.Class.{class_of, opens_string}
use Rattle.vt_syntax.specs.Items.{introduces, is_osc, ends_string}
use Rattle.vt_syntax.specs.Held.{phase_inter}
use Rattle.vt_syntax.specs.Reading.{quiet_control, cancel_function, single_function, escape_function, is_marker}

-- the next held part, and the events
pub record Step : Type 0 where
  pub held : Held
  pub events : List Event

abbrev pub step_to : Held → List Event → Step
step_to held events = record { held = held; events = events }

-- what a C1 byte that opens something leaves
abbrev pub opened_by : ℕ → Held
opened_by code = if code == 0x9B then Control None (record { items = 0 ∷ [] }) false Start else Text (is_osc code)

abbrev pub step_between : ℕ → Step
step_between b =
    if b == 0x1B then step_to (Escape Zero) [] else (
    if b == 0x9B then step_to (opened_by 0x9B) [] else (
    if opens_string b then step_to (Text (is_osc b)) [] else step_to Nothing (single_function b)))

abbrev pub one_more : Inters → ℕ → Inters
one_more Zero b = One b
one_more _ b = Many

abbrev pub step_escape : Inters → Class → ℕ → Step
step_escape n class.Quiet b = step_to (Escape n) (quiet_control b)
step_escape n class.Cancel b = step_to Nothing (cancel_function b)
step_escape n class.Esc b = step_between b
step_escape n class.High b = step_between b
step_escape n class.Intermediate b = step_to (Escape (one_more n b)) []
step_escape n class.Parameter b = step_to Nothing (escape_function n b)
step_escape n class.Final b =
    if introduces n b then step_to (opened_by (b + 0x40)) [] else step_to Nothing (escape_function n b)

-- the list with its last value changed
abbrev pub change_last : (ℕ → ℕ) → List ℕ → List ℕ
change_last f [] = []
change_last f (x ∷ []) = f x ∷ []
change_last f (x ∷ y ∷ xs) = x ∷ change_last f (y ∷ xs)

abbrev pub with_digit : ℕ → ℕ → ℕ
with_digit b value = min (value * 10 + (b - 48)) 9999

-- a digit or `;`
abbrev pub step_value : Option ℕ → List ℕ → Bool → ℕ → Held
step_value marker params full b =
    if b == 0x3B then (
    if length params == 16 then Control marker (record { items = params }) true Values
    else Control marker (record { items = params ++ 0 ∷ [] }) full Values)
    else (
    if full then Control marker (record { items = params }) full Values
    else Control marker (record { items = change_last (with_digit b) params }) full Values)

abbrev pub step_marker : List ℕ → Bool → Phase → ℕ → Held
step_marker params full Start b = Control (Some b) (record { items = params }) full Values
step_marker params full _ b = Spoilt

-- a parameter byte with no intermediate before it
abbrev pub step_early_parameter : Option ℕ → List ℕ → Bool → Phase → ℕ → Held
step_early_parameter marker params full phase b =
    if b == 0x3A then Spoilt else (
    if is_marker b then step_marker params full phase b else step_value marker params full b)

abbrev pub step_parameter : Option ℕ → List ℕ → Bool → Phase → ℕ → Held
step_parameter marker params full (Inter i) b = Spoilt
step_parameter marker params full phase b = step_early_parameter marker params full phase b

abbrev pub step_intermediate : Option ℕ → List ℕ → Bool → Phase → ℕ → Held
step_intermediate marker params full (Inter i) b = Spoilt
step_intermediate marker params full _ b = Control marker (record { items = params }) full (Inter b)

abbrev pub step_control : Option ℕ → List ℕ → Bool → Phase → Class → ℕ → Step
step_control marker params full phase class.Quiet b =
    step_to (Control marker (record { items = params }) full phase) (quiet_control b)
step_control marker params full phase class.Cancel b = step_to Nothing (cancel_function b)
step_control marker params full phase class.Esc b = step_between b
step_control marker params full phase class.High b = step_between b
step_control marker params full phase class.Intermediate b =
    step_to (step_intermediate marker params full phase b) []
step_control marker params full phase class.Parameter b =
    step_to (step_parameter marker params full phase b) []
step_control marker params full phase class.Final b =
    step_to Nothing (event.Sequence marker (record { items = params }) (phase_inter phase) b ∷ [])

abbrev pub step_spoilt : Class → ℕ → Step
step_spoilt class.Quiet b = step_to Spoilt (quiet_control b)
step_spoilt class.Cancel b = step_to Nothing (cancel_function b)
step_spoilt class.Esc b = step_between b
step_spoilt class.High b = step_between b
step_spoilt class.Intermediate b = step_to Spoilt []
step_spoilt class.Parameter b = step_to Spoilt []
step_spoilt class.Final b = step_to Nothing []

abbrev pub step_string : Bool → ℕ → Step
step_string osc b =
    if ends_string osc b then step_to Nothing (cancel_function b) else (
    if b == 0x1B then step_to (Escape Zero) [] else step_to (Text osc) [])

unfoldable pub step_of : Held → ℕ → Step
step_of Nothing b = step_between b
step_of (Escape n) b = step_escape n (class_of b) b
step_of (Control marker params full phase) b = step_control marker params.items full phase (class_of b) b
step_of Spoilt b = step_spoilt (class_of b) b
step_of (Text osc) b = step_string osc b

-- no intermediate has come
abbrev pub IsEarly : Phase → Type 0
IsEarly Start = Unit {0}
IsEarly Values = Unit {0}
IsEarly (Inter i) = ⊥

-- one step after another
unfoldable pub steps : Held → List ℕ → Step
steps held [] = step_to held []
steps held (b ∷ bytes) =
    let now = step_of held b in let later = steps now.held bytes in step_to later.held (now.events ++ later.events)
