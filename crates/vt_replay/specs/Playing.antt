-- The state and the reports after everything that a host sends, and the bytes that a replay writes of it. (this profile)
use Rattle.std.specs.Prelude.{ℕ, List, [], Bool, Result}
use Rattle.vt_screen.specs.declared.size.Size.{Size}
use Rattle.vt_screen.specs.Sizes.{vt220_size}
use Rattle.vt_term.specs.State.{state_of}
use Rattle.vt_term.specs.Play.{Played, play}
use Rattle.vt_utf8.specs.Play.{play_utf8}
use Rattle.vt_xterm.specs.Play.{WholePlayed}
use Rattle.vt_device.specs.Runs.{Flags}
use Rattle.vt_recording.specs.declared.format.Encoding.{Encoding}
use Rattle.vt_recording.specs.declared.format.Encoding.TheVariants as encoding
use Rattle.vt_cli.specs.declared.what.What.{What}
use Rattle.vt_cli.specs.declared.what.What.TheVariants.{Repaint}
use Rattle.vt_recording.specs.declared.format.TerminalType.{TerminalType}
use Rattle.vt_recording.specs.declared.format.TerminalType.TheVariants as terminal
use Rattle.vt_device.specs.declared.fault.Fault.{Fault}
use Rattle.vt_replay.specs.declared.language.Language.{Language}
use Rattle.vt_replay.specs.declared.language.Language.TheVariants.{Dec, Utf8, Xterm}
use Rattle.vt_device.specs.Output.{OutputTable, nothing}
use Rattle.vt_replay.specs.Due.{sent_by, end_by, there_by}
use Rattle.vt_replay.specs.Session.{session_at, session_repaint, session_is_there}

-- the language of a host that sends for a terminal, in an encoding: for an xterm it sends UTF-8
abbrev pub language_of : TerminalType → Encoding → Language
language_of terminal.Vt220 encoding.Dec = Dec
language_of terminal.Vt220 encoding.Utf8 = Utf8
language_of terminal.Xterm encoding = Xterm

-- the terminal alone, without the page that isn't shown
abbrev pub on_terminal : WholePlayed → Played
on_terminal p = record { state = p.whole.state; reports = p.reports }

-- what all the bytes of a host leave and report, from power-up of a terminal of a size
abbrev pub played_at : Size → Language → List ℕ → Played
played_at size Dec bytes = play (state_of size) bytes
played_at size Utf8 bytes = play_utf8 (state_of size) [] bytes
played_at size Xterm bytes = on_terminal (session_at size bytes)

-- what is due of a replay: as the host's bytes come, and at their end, and whether that is there
pub record Due : Type 0 where
  pub written : List ℕ → List ℕ
  pub ending : List ℕ → List ℕ
  pub there : List ℕ → Bool

-- what is due of a replay, by what the bytes leave and report
abbrev pub due_by : (played : List ℕ → Played) → What → Due
due_by played what = record { written = sent_by played what; ending = end_by played what; there = there_by played what }

-- what is due of a repaint: under TERM=xterm it is of the whole session, otherwise of the terminal
abbrev pub repainted : Size → Language → Due
repainted size Xterm = record { written = nothing; ending = session_repaint size; there = session_is_there size }
repainted size language = due_by (played_at size language) Repaint

-- what is due of a replay on a screen of a size
abbrev pub replayed_at : Size → Language → What → Due
replayed_at size language Repaint = repainted size language
replayed_at size language what = due_by (played_at size language) what

-- what each result of a replay on a screen of a size states of a host's bytes in a language
abbrev pub SizedReplayTable : Size → Language → What → Result (Unit {0}) Fault → (piece : ℕ) → (b w : List ℕ) → Flags → (limit : ℕ) → Type 0
SizedReplayTable size language what result piece b w f limit =
    let due = replayed_at size language what in
    OutputTable due.written due.ending due.there result piece b w f limit

-- what each result of a replay on a VT220's screen states of a host's bytes in a language
abbrev pub ReplayTable : Language → What → Result (Unit {0}) Fault → (piece : ℕ) → (b w : List ℕ) → Flags → (limit : ℕ) → Type 0
ReplayTable language what result piece b w f limit = SizedReplayTable vt220_size language what result piece b w f limit
