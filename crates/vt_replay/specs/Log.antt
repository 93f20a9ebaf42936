-- The lines that a log writes of a host's bytes. (this profile)
use Rattle.std.specs.Prelude.{ℕ, List, [], ◌∷◌, ◌++◌, length, take, drop, cond, nat_lt}
use Rattle.vt_screen.specs.declared.size.Size.{Size}
use Rattle.vt_screen.specs.Sizes.{vt220_size}
use Rattle.vt_term.specs.State.{state_of, power_up}
use Rattle.vt_term.specs.Play.{play}
use Rattle.vt_term.specs.Text.{text}
use Rattle.vt_term.specs.Scrolling.{log}
use Rattle.vt_utf8.specs.Play.{translated}
use Rattle.vt_xterm.specs.Play.{xterm_log, behind, front_of}
use Rattle.vt_replay.specs.declared.language.Language.{Language}
use Rattle.vt_replay.specs.declared.language.Language.TheVariants.{Dec, Utf8, Xterm}
use Rattle.vt_replay.specs.Playing.{played_at}
use Rattle.vt_replay.specs.Resizes.{Session, plain_session, utf8_session, xterm_session, utf8_begun, xterm_begun, played_with}
use Rattle.vt_replay.specs.declared.resized.Resize.{Resize}

-- the lines that scroll off a screen of a size, in each language of the host
abbrev pub lines_at : Size → Language → List ℕ → List ℕ
lines_at size Dec bytes = log (state_of size) bytes
lines_at size Utf8 bytes = log (state_of size) (translated (state_of size) [] bytes)
lines_at size Xterm bytes = xterm_log (behind (state_of size) (front_of size)) [] bytes

-- the text of a screen of a size, in each language of the host
abbrev pub screen_at : Size → Language → List ℕ → List ℕ
screen_at size language bytes = text (played_at size language bytes).state

-- ---- a screen of a VT220's size

abbrev pub lines_in : Language → List ℕ → List ℕ
lines_in language bytes = lines_at vt220_size language bytes

abbrev pub screen_in : Language → List ℕ → List ℕ
screen_in language bytes = screen_at vt220_size language bytes

-- the lines that scroll off, if the host's bytes are the terminal's
abbrev pub lines : List ℕ → List ℕ
lines bytes = log power_up bytes

abbrev pub screen : List ℕ → List ℕ
screen bytes = text (play power_up bytes).state

-- ---- a screen that changes its size

-- the lines that leave as bytes come, with changes between them. Those of a change come before those of the next byte
abbrev pub lines_on : {K : Type 0} → Session K → K → List Resize → List ℕ → List ℕ
lines_on m k [] bytes = m.lines k bytes
lines_on m k (r ∷ resizes) bytes =
    cond (nat_lt (length bytes) r.after) (m.lines k bytes)
    (m.lines k (take r.after bytes)
    ++ (m.off r.size (m.after k (take r.after bytes))
    ++ lines_on m (m.on r.size (m.after k (take r.after bytes))) resizes (drop r.after bytes)))

-- the lines that leave a screen of a size, which has these changes, in each language of the host
abbrev pub lines_with : Size → List Resize → Language → List ℕ → List ℕ
lines_with size resizes Dec bytes = lines_on plain_session (state_of size) resizes bytes
lines_with size resizes Utf8 bytes = lines_on utf8_session (utf8_begun size) resizes bytes
lines_with size resizes Xterm bytes = lines_on xterm_session (xterm_begun size) resizes bytes

-- the text of that screen
abbrev pub screen_with : Size → List Resize → Language → List ℕ → List ℕ
screen_with size resizes language bytes = text (played_with size resizes language bytes).state
