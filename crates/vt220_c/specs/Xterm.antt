-- The bytes of a host under TERM=xterm, played on a terminal and the front that a handle keeps for it. (this profile)
use Rattle.std.specs.Prelude.{◌≡◌, ◌+◌, ℕ, List, [], ◌∷◌}
use Rattle.vt_term.specs.State.{State}
use Rattle.vt_utf8.specs.Decoding.{pending_after}
use Rattle.vt_xterm.specs.Play.{FrontState, WholePlayed, behind, play_xterm, xterm_log}
use Rattle.vt220_c.specs.Bells.{bells}
use Rattle.vt220_c.specs.Told.{Told}

-- a terminal and a front have one size
abbrev pub IsSession : State → FrontState → Type 0
IsSession s front = front.pages.other.grid.size ≡ s.display.grid.size

-- the state, the pages and the reports that bytes leave
abbrev pub xterm_played : State → FrontState → List ℕ → WholePlayed
xterm_played s front bytes = play_xterm (behind s front) front.pending bytes

-- the front that bytes leave
abbrev pub xterm_front : State → FrontState → List ℕ → FrontState
xterm_front s front bytes = record {
  pending = pending_after front.pending bytes;
  pages = (xterm_played s front bytes).whole.pages;
}

-- the texts of the lines that bytes scroll off
abbrev pub xterm_lines : State → FrontState → List ℕ → List ℕ
xterm_lines s front bytes = xterm_log (behind s front) front.pending bytes

-- how often BEL is carried out: at its byte, unless a control string is held there
abbrev pub xterm_bells : State → FrontState → List ℕ → ℕ
xterm_bells s front [] = 0
xterm_bells s front (b ∷ bytes) =
    bells s.held (b ∷ [])
    + xterm_bells (xterm_played s front (b ∷ [])).whole.state (xterm_front s front (b ∷ [])) bytes

-- what bytes leave after a front; for private contracts
abbrev pub xterm_told : State → FrontState → List ℕ → Told FrontState
xterm_told s front bytes = record {
  state = (xterm_played s front bytes).whole.state;
  kept = xterm_front s front bytes;
  reports = (xterm_played s front bytes).reports;
  lines = xterm_lines s front bytes;
  rung = xterm_bells s front bytes;
}
