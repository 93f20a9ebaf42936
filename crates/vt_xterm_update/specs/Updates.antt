-- The promise of an xterm's update: not its bytes, but the state to which they lead. (this profile)
use Rattle.std.specs.Prelude.{◌≡◌, ℕ, ◌+◌, List, [], ◌∷◌, ◌++◌}
use Rattle.vt_screen.specs.declared.size.Size.{Size}
use Rattle.vt_xterm_display.specs.Session.{Session, PlaysXterm}
use Rattle.vt_xterm_repaint.specs.Limits.{repaint_limit}

-- bytes leave exactly this session, and report nothing
abbrev pub Leads : Session → List ℕ → Session → Type 0
Leads s bytes t = (before : List ℕ) → PlaysXterm s bytes t before before

-- chunks of bytes, one after another, lead from a session to another
abbrev pub LeadsAlong : Session → List (List ℕ) → Session → Type 0
LeadsAlong s [] t = s ≡ t
LeadsAlong s (bytes ∷ chunks) t = (u : Session) × (Leads s bytes u × LeadsAlong u chunks t)

-- `after` is what was there before, and then bytes that lead from one session to the other
pub record Updates (shown to : Session) (before after : List ℕ) : Type 0 where
  pub sent : List ℕ
  pub appended : after ≡ before ++ sent
  pub leads : Leads shown sent to

-- the most bytes of an update: those of a repaint, and capacity for the reports of 64 bytes, ten bytes each
abbrev pub xterm_update_limit : Size → ℕ
xterm_update_limit size = repaint_limit size + 640
