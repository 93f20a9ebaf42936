-- A C0 control below CAN: it is carried out where it stands, and no other byte carries it out.
use Rattle.std.proofs.Common.{◌≡◌, ◌≢◌, ℕ, ◌<◌, Bool, [], ◌∷◌, arith, count_by}
use Rattle.std.proofs.lemmas.Bool.Decides.{nat_tests}
use Rattle.vt_syntax.specs.declared.held.Held.{Held}
use Rattle.vt_syntax.specs.declared.held.Held.TheVariants.{Nothing, Escape, Control, Spoilt, Text}
use Rattle.vt_syntax.specs.Class.{class_of, opens_string}
use Rattle.vt_syntax.specs.Event.{is_control}
use Rattle.vt_syntax.specs.Held.{IsHeldPart, events_from}
use Rattle.vt_syntax.specs.Items.{ends_string}
use Rattle.vt_syntax.specs.Steps.{step_of}
use Rattle.vt_syntax.proofs.Steps.{same_events}
use Rattle.vt_syntax.proofs.Cutting.{read_step}

pub carried_out : (held : Held) (c : ℕ) → IsHeldPart held → c < 24 → ((osc : Bool) → held ≢ Text osc)
    → count_by (is_control c) (events_from held (c ∷ [])) ≡ 1
unfolding step_of class_of opens_string
carried_out held c is low not = rw (same_events (read_step held c is)) (grind (arith, nat_tests))

pub in_string : (osc : Bool) (c : ℕ) → IsHeldPart (Text osc) → c < 24
    → count_by (is_control c) (events_from (Text osc) (c ∷ [])) ≡ 0
unfolding step_of ends_string
in_string osc c is low = rw (same_events (read_step (Text osc) c is)) (grind (arith, nat_tests))

other_step : (held : Held) (b c : ℕ) → c < 24 → b ≢ c → count_by (is_control c) (step_of held b).events ≡ 0
unfolding step_of class_of opens_string ends_string
other_step Nothing b c low other = grind (arith, nat_tests)
other_step (Escape n) b c low other = grind (arith, nat_tests)
other_step (Control marker params full phase) b c low other = grind (arith, nat_tests)
other_step Spoilt b c low other = grind (arith, nat_tests)
other_step (Text osc) b c low other = grind (arith, nat_tests)

pub by_no_other : (held : Held) (b c : ℕ) → IsHeldPart held → c < 24 → b ≢ c
    → count_by (is_control c) (events_from held (b ∷ [])) ≡ 0
by_no_other held b c is low other = rw (same_events (read_step held b is)) (other_step held b c low other)
