-- The report of an event, as the tables of functions have it.
use Rattle.std.specs.Prelude.{ℕ, List, Option}
use Rattle.vt_syntax.specs.declared.event.Event.{Event}
use Rattle.vt_syntax.specs.declared.event.Event.TheVariants.{Print, Control, Escape, Sequence}
use Rattle.vt_term.specs.State.{DisplayOf, Display}
use Rattle.vt_term.specs.Kinds.{KindOf}
use Rattle.vt_term.specs.Rendition.{vt220_kind}
use Rattle.vt_term.specs.Parameters.{first}
use Rattle.vt_term.specs.Answers.{silent}
use Rattle.vt_term.specs.Functions.{function_in, controls_any, sequences_any}

unfoldable pub control_report_any : {C B : Type 0} → KindOf C B → ℕ → DisplayOf C B → List ℕ
control_report_any k b = (function_in (controls_any k) b).report 0

-- the report of a control sequence by its first value
unfoldable pub sequence_report_any : {C B : Type 0} → KindOf C B → Option ℕ → Option ℕ → ℕ → ℕ → DisplayOf C B → List ℕ
sequence_report_any k marker inter last p = (function_in (sequences_any k marker inter) last).report p

-- the report of an event, in the state before it
abbrev pub report_any : {C B : Type 0} → KindOf C B → Event → DisplayOf C B → List ℕ
report_any k (Print b) = silent
report_any k (Control b) = control_report_any k b
report_any k (Escape inter last) = silent
report_any k (Sequence marker params inter last) = sequence_report_any k marker inter last (first params.items)

-- ---- on a VT220

abbrev pub control_report : ℕ → Display → List ℕ
control_report b = control_report_any vt220_kind b

abbrev pub sequence_report : Option ℕ → Option ℕ → ℕ → ℕ → Display → List ℕ
sequence_report marker inter last p = sequence_report_any vt220_kind marker inter last p

abbrev pub report : Event → Display → List ℕ
report event = report_any vt220_kind event
