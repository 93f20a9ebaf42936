-- A control sequence that is read in a chunk, by steps. Only contracts of private functions cite this.
use Rattle.std.specs.Prelude.{◌≡◌, ◌≤◌, ℕ, List, [], ◌∷◌, length, take, Option, Some, None, false}
use Rattle.vt_syntax.specs.declared.held.Held.{Held}
use Rattle.vt_syntax.specs.declared.held.Held.TheVariants.{Nothing, Control}
use Rattle.vt_syntax.specs.declared.held.Phase.{Phase}
use Rattle.vt_syntax.specs.declared.held.Phase.TheVariants.{Start, Values}
use Rattle.vt_syntax.specs.Steps.{step_to, IsEarly, steps}

-- the phase after the introducer, or a marker
abbrev pub marker_phase : Option ℕ → Phase
marker_phase None = Start
marker_phase (Some m) = Values

-- a control sequence with this marker or none, and no values yet
abbrev pub begun : Option ℕ → Held
begun marker = Control marker (record { items = 0 ∷ [] }) false (marker_phase marker)

-- the bytes up to a place are a control sequence with this marker or none and these values, and no intermediate yet
pub record AreRead (piece : List ℕ) (at : ℕ) (marker : Option ℕ) (values : List ℕ) : Type 0 where
  pub within : at ≤ length piece
  pub phase : Phase
  pub early : IsEarly phase
  pub reads : steps Nothing (take at piece) ≡ step_to (Control marker (record { items = values }) false phase) []
