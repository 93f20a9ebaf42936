-- The byte that completes an event leaves nothing held, if it is plain or by itself.
use Rattle.std.proofs.Common.{◌≡◌, ℕ, ◌+◌, List, [], ◌∷◌, Bool, true, false, cond, Option, refl, sym, ap, ◌∙◌, arith}
use Rattle.std.specs.Prelude.{◌==◌}
use Rattle.std.proofs.lemmas.Bool.Decides.{nat_tests}
use Rattle.vt_syntax.specs.declared.class.Class.{Class}
use Rattle.vt_syntax.specs.declared.class.Class.TheVariants.{Quiet, Cancel, Esc, High, Intermediate, Parameter, Final}
use Rattle.vt_syntax.specs.declared.event.Event.{Event}
use Rattle.vt_syntax.specs.declared.held.Held.{Held}
use Rattle.vt_syntax.specs.declared.held.Held.TheVariants as held
use Rattle.vt_syntax.specs.declared.held.Inters.{Inters}
use Rattle.vt_syntax.specs.declared.held.Inters.TheVariants.{Zero}
use Rattle.vt_syntax.specs.declared.held.Phase.{Phase}
use Rattle.vt_syntax.specs.Class.{class_of, opens_string, IsPlain}
use Rattle.vt_syntax.specs.Items.{introduces, is_osc, ends_string}
use Rattle.vt_syntax.specs.Reading.{single_function, escape_function, cancel_function}
use Rattle.vt_syntax.specs.Held.{events_from, held_from, IsHeldPart}
use Rattle.vt_syntax.specs.Steps.{Step, step_to, step_of, step_between, step_escape, step_control, step_spoilt, opened_by}
use Rattle.vt_syntax.proofs.Cutting.{read_step}
use Rattle.vt_term.proofs.Bytes.{nothing-held}

no_event : (e : Event) → [] ≡ e ∷ [] → ⊥
no_event e h = cc

-- of two steps, one without an event
leave : (v : Bool) (x y : Step) (e : Event) → x.events ≡ [] → (y.events ≡ e ∷ [] → y.held ≡ held.Nothing)
    → (cond v x y).events ≡ e ∷ [] → (cond v x y).held ≡ held.Nothing
leave true x y e none rest h = absurd (no_event e (sym none ∙ h))
leave false x y e none rest h = rest h

single_step : (b : ℕ) (e : Event) → (step_between b).events ≡ e ∷ [] → (step_between b).held ≡ held.Nothing
single_step b e =
    let string = cond (opens_string b) (step_to (held.Text (is_osc b)) []) (step_to held.Nothing (single_function b)) in
    leave (b == 0x1B) (step_to (held.Escape Zero) []) (cond (b == 0x9B) (step_to (opened_by 0x9B) []) string) e refl
    (leave (b == 0x9B) (step_to (opened_by 0x9B) []) string e refl
    (leave (opens_string b) (step_to (held.Text (is_osc b)) []) (step_to held.Nothing (single_function b)) e refl (λ h. refl)))

is_inside : Class → Bool
is_inside Intermediate = true
is_inside Parameter = true
is_inside Final = true
is_inside Quiet = false
is_inside Cancel = false
is_inside Esc = false
is_inside High = false

plain_inside : (b : ℕ) → IsPlain b → is_inside (class_of b) ≡ true
unfolding class_of is_inside
plain_inside b i = let low = i.0 in let high = i.1 in grind (arith, nat_tests, low, high)

escape_step : (n : Inters) (k : Class) (b : ℕ) (e : Event) → is_inside k ≡ true → (step_escape n k b).events ≡ e ∷ []
    → (step_escape n k b).held ≡ held.Nothing
unfolding is_inside
escape_step n Quiet b e i h = absurd cc
escape_step n Cancel b e i h = absurd cc
escape_step n Esc b e i h = absurd cc
escape_step n High b e i h = absurd cc
escape_step n Intermediate b e i h = absurd (no_event e h)
escape_step n Parameter b e i h = refl
escape_step n Final b e i h =
    leave (introduces n b) (step_to (opened_by (b + 0x40)) []) (step_to held.Nothing (escape_function n b)) e refl (λ h. refl) h

control_step : (marker : Option ℕ) (params : List ℕ) (full : Bool) (phase : Phase) (k : Class) (b : ℕ) (e : Event)
    → is_inside k ≡ true → (step_control marker params full phase k b).events ≡ e ∷ []
    → (step_control marker params full phase k b).held ≡ held.Nothing
unfolding is_inside
control_step marker params full phase Quiet b e i h = absurd cc
control_step marker params full phase Cancel b e i h = absurd cc
control_step marker params full phase Esc b e i h = absurd cc
control_step marker params full phase High b e i h = absurd cc
control_step marker params full phase Intermediate b e i h = absurd (no_event e h)
control_step marker params full phase Parameter b e i h = absurd (no_event e h)
control_step marker params full phase Final b e i h = refl

spoilt_step : (k : Class) (b : ℕ) (e : Event) → is_inside k ≡ true → (step_spoilt k b).events ≡ e ∷ []
    → (step_spoilt k b).held ≡ held.Nothing
unfolding is_inside
spoilt_step Quiet b e i h = absurd cc
spoilt_step Cancel b e i h = absurd cc
spoilt_step Esc b e i h = absurd cc
spoilt_step High b e i h = absurd cc
spoilt_step Intermediate b e i h = absurd (no_event e h)
spoilt_step Parameter b e i h = absurd (no_event e h)
spoilt_step Final b e i h = absurd (no_event e h)

string_step : (osc v : Bool) (b : ℕ) (e : Event)
    → (cond v (step_to held.Nothing (cancel_function b)) (cond (b == 0x1B) (step_to (held.Escape Zero) []) (step_to (held.Text osc) []))).events ≡ e ∷ []
    → (cond v (step_to held.Nothing (cancel_function b)) (cond (b == 0x1B) (step_to (held.Escape Zero) []) (step_to (held.Text osc) []))).held ≡ held.Nothing
string_step osc true b e h = refl
string_step osc false b e h =
    leave (b == 0x1B) (step_to (held.Escape Zero) []) (step_to (held.Text osc) []) e refl (λ h. absurd (no_event e h)) h

plain_step : (h : Held) (b : ℕ) (e : Event) → IsPlain b → (step_of h b).events ≡ e ∷ [] → (step_of h b).held ≡ held.Nothing
unfolding step_of
plain_step held.Nothing b e i is = single_step b e is
plain_step (held.Text osc) b e i is = string_step osc (ends_string osc b) b e is
plain_step (held.Escape n) b e i is = escape_step n (class_of b) b e (plain_inside b i) is
plain_step (held.Control marker params full phase) b e i is =
    control_step marker params.items full phase (class_of b) b e (plain_inside b i) is
plain_step held.Spoilt b e i is = spoilt_step (class_of b) b e (plain_inside b i) is

pub plain_leaves : (h : Held) (b : ℕ) (e : Event) → IsHeldPart h → IsPlain b → events_from h (b ∷ []) ≡ e ∷ []
    → held_from h (b ∷ []) ≡ held.Nothing
plain_leaves h b e part i events =
    let step = read_step h b part in
    ap (λ (t : Step). t.held) step
    ∙ plain_step h b e i (sym (ap (λ (t : Step). t.events) step) ∙ events)

pub single_leaves : (b : ℕ) (e : Event) → events_from held.Nothing (b ∷ []) ≡ e ∷ [] → held_from held.Nothing (b ∷ []) ≡ held.Nothing
unfolding step_of
single_leaves b e events =
    let step = read_step held.Nothing b nothing-held in
    ap (λ (t : Step). t.held) step
    ∙ single_step b e (sym (ap (λ (t : Step). t.events) step) ∙ events)
