-- What a replay writes of a session under TERM=xterm: of the terminal and the page that isn't shown. (this profile)
use Rattle.std.specs.Prelude.{ℕ, List, [], ◌∷◌, Bool, true, false, ◌&&◌}
use Rattle.vt_screen.specs.declared.size.Size.{Size}
use Rattle.vt_term.specs.State.{state_of}
use Rattle.vt_utf8.specs.Decoding.{pending_after}
use Rattle.vt_xterm.specs.Play.{Whole, WholePlayed, play_xterm, behind, front_of}
use Rattle.vt_xterm_paint.specs.Repaint.{xterm_repaint}
use Rattle.vt_replay.specs.Due.{is_nothing}

-- what all the bytes of a host leave, from power-up of a terminal of a size
abbrev pub session_at : Size → List ℕ → WholePlayed
session_at size bytes = play_xterm (behind (state_of size) (front_of size)) [] bytes

abbrev pub is_empty : List ℕ → Bool
is_empty [] = true
is_empty (b ∷ bytes) = false

-- a session is between sequences, and between characters
abbrev pub is_between : Whole → (pending : List ℕ) → Bool
is_between w pending = is_nothing w.state.held && is_empty pending

-- the repaint of the whole session
abbrev pub session_repaint : Size → List ℕ → List ℕ
session_repaint size bytes = xterm_repaint (session_at size bytes).whole

-- the repaint is there between sequences and between characters only
abbrev pub session_is_there : Size → List ℕ → Bool
session_is_there size bytes = is_between (session_at size bytes).whole (pending_after [] bytes)
