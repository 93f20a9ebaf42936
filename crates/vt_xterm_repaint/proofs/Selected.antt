-- The functions of a look select it. They change nothing else, and report nothing.
use Rattle.std.proofs.Common.{◌≡◌, ℕ, Bool, true, false, not, List, [], ◌∷◌, ◌++◌, length, refl, ap, ◌∙◌, arith}
use Rattle.std.specs.Prelude.{◌==◌}
use Rattle.std.proofs.lemmas.Bool.Decides.{nat_tests}
use Rattle.vt_screen.specs.Same.{when}
use Rattle.vt_term.specs.Functions.{byte, sequences_any, sequence_in}
use Rattle.vt_term.specs.Reports.{sequence_report_any}
use Rattle.vt_feed.specs.Actions.{Action, Function, state_after, reports}
use Rattle.vt_feed.proofs.Playing.{state-append, reports-append}
use Rattle.vt_paint.specs.Controls.{sequence_of, protection_to}
use Rattle.vt_xterm_cell.specs.declared.look.Look.{Look}
use Rattle.vt_xterm_cell.specs.Rendition.{rendered}
use Rattle.vt_xterm_display.specs.State.{XtermState, on_shown}
use Rattle.vt_xterm_display.specs.Functions.{sequences, function_in, effect, reported, xterm}
use Rattle.vt_xterm_repaint.specs.Looks.{attribute_values, both_colours, look_actions}
use Rattle.vt_xterm_repaint.specs.Colours.{HasColours}
use Rattle.vt_xterm_repaint.proofs.Rendered.{look-rendered}

abbrev with_brush : Look → XtermState → XtermState
with_brush look s = on_shown (λ d. record d { brush = look }) s

abbrev pub sgr : List ℕ → Action
sgr values = Function (sequence_of values (byte "m"))

sgr-effect : (values : List ℕ) (s : XtermState)
    → effect (sequence_of values (byte "m")) s ≡ with_brush (rendered values s.shown.brush) s
unfolding function_in sequences sequences_any sequence_in
sgr-effect values s = refl

pub sgr-silent : (values : List ℕ) (s : XtermState) → reported (sgr values) s ≡ []
unfolding sequence_report_any sequences_any
sgr-silent values s = refl

protection-effect : (on : Bool) (s : XtermState) → effect (protection_to on) s ≡ with_brush (record s.shown.brush { protected = on }) s
unfolding function_in sequences sequences_any sequence_in
protection-effect true s = refl
protection-effect false s = refl

pub protection-silent : (on : Bool) (s : XtermState) → reported (Function (protection_to on)) s ≡ []
unfolding sequence_report_any sequences_any
protection-silent on s = refl

abbrev if_some : List ℕ → List Action
if_some values = when (not (length values == 0)) (sgr values ∷ [])

some : (v : ℕ) (vs : List ℕ) → (length (v ∷ vs) == 0) ≡ false
some v vs = grind (arith, nat_tests)

if_some-effect : (values : List ℕ) (s : XtermState) → state_after xterm (if_some values) s ≡ with_brush (rendered values s.shown.brush) s
unfolding rendered
if_some-effect [] s = refl
if_some-effect (v ∷ vs) s = rw (some v vs) (sgr-effect (v ∷ vs) s)

if_some-silent : (values : List ℕ) (s : XtermState) → reports xterm (if_some values) s ≡ []
if_some-silent [] s = refl
if_some-silent (v ∷ vs) s = rw (some v vs) (ap (λ (t : List ℕ). t ++ []) (sgr-silent (v ∷ vs) s))

module _ (look : Look) (s : XtermState) where
  abbrev first : Look
  first = rendered (attribute_values look.attributes) s.shown.brush

  abbrev second : Look
  second = rendered (both_colours look) first

  abbrev protects : List Action
  protects = Function (protection_to look.protected) ∷ []

  pub look-selected : HasColours look → state_after xterm (look_actions look) s ≡ with_brush look s
  unfolding look_actions
  look-selected are =
      ap (λ (t : XtermState). state_after xterm (if_some (both_colours look) ++ protects) t)
      (sgr-effect (attribute_values look.attributes) s)
      ∙ state-append xterm (if_some (both_colours look)) protects (with_brush first s)
      ∙ ap (λ (t : XtermState). state_after xterm protects t) (if_some-effect (both_colours look) (with_brush first s))
      ∙ protection-effect look.protected (with_brush second s)
      ∙ ap (λ (l : Look). with_brush (record l { protected = look.protected }) s) (look-rendered look s.shown.brush are)

  pub look-silent : reports xterm (look_actions look) s ≡ []
  unfolding look_actions
  look-silent =
      let t : XtermState = effect (sequence_of (attribute_values look.attributes) (byte "m")) s in
      ap (λ (r : List ℕ). r ++ reports xterm (if_some (both_colours look) ++ protects) t) (sgr-silent (attribute_values look.attributes) s)
      ∙ reports-append xterm (if_some (both_colours look)) protects t
      ∙ ap (λ (r : List ℕ). r ++ reports xterm protects (state_after xterm (if_some (both_colours look)) t)) (if_some-silent (both_colours look) t)
      ∙ ap (λ (r : List ℕ). r ++ []) (protection-silent look.protected (state_after xterm (if_some (both_colours look)) t))
