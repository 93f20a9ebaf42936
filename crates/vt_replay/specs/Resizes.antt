-- A session on a screen that changes its size: a host's bytes, and changes between them. (xterm, if its window changes; what a terminal
-- becomes at a change is of vt_term and vt_xterm; that a change waits for its bytes is this profile's)
--
-- Rows, of a terminal with 3 rows:
--   `a LF CR b`, a change to 2 rows after 4 bytes, `LF CR c`: rows `b`, `c`; `a` leaves at the top with the LF
--   `a LF CR b LF CR c`, a change to 2 rows after 7 bytes: the cursor is in row 3, so one row leaves at the change: rows `b`, `c`
--   the same with the change after 8 bytes: these never come, and there is no change: rows `a`, `b`, `c`
--   a change after 0 bytes comes before the first byte, and one after as many as there are comes after the last
use Rattle.std.specs.Prelude.{ℕ, ◌+◌, ◌-◌, ◌^◌, List, [], ◌∷◌, length, take, drop, map, min, Bool, true, cond, nat_le, nat_lt, Option, Some, None, Result}
use Rattle.vt_screen.specs.declared.size.Size.{Size}
use Rattle.vt_term.specs.State.{State, state_of}
use Rattle.vt_term.specs.Play.{Played, play, both}
use Rattle.vt_term.specs.Resizing.{state_on, log_on}
use Rattle.vt_term.specs.Scrolling.{log}
use Rattle.vt_utf8.specs.Decoding.{pending_after}
use Rattle.vt_utf8.specs.Play.{play_utf8, translated}
use Rattle.vt_xterm.specs.Play.{Whole, play_xterm, xterm_log, behind, front_of}
use Rattle.vt_xterm.specs.Resizing.{whole_on, xterm_log_on}
use Rattle.vt_trace.specs.declared.tracing.Tracer.{Tracer}
use Rattle.vt_trace.specs.Trace.{trace, tracer_all}
use Rattle.vt_trace.specs.Utf8.{trace_utf8, tracer_utf8}
use Rattle.vt_xterm_trace.specs.Trace.{trace_xterm, tracer_xterm}
use Rattle.vt_recording.specs.declared.changes.Change.{Change}
use Rattle.vt_cli.specs.Source.{size_of}
use Rattle.vt_replay.specs.declared.language.Language.{Language}
use Rattle.vt_replay.specs.declared.language.Language.TheVariants.{Dec, Utf8, Xterm}
use Rattle.vt_replay.specs.declared.resized.Resize.{Resize}
use Rattle.vt_replay.specs.Playing.{on_terminal, Due, due_by}
use Rattle.vt_replay.specs.Session.{is_between}
use Rattle.vt_cli.specs.declared.what.What.{What}
use Rattle.vt_cli.specs.declared.what.What.TheVariants.{Repaint}
use Rattle.vt_device.specs.Runs.{Flags}
use Rattle.vt_device.specs.Output.{OutputTable, nothing}
use Rattle.vt_xterm_paint.specs.Repaint.{xterm_repaint}
use Rattle.vt_device.specs.declared.fault.Fault.{Fault}

-- ---- what is kept between a host's bytes, in each language

-- what bytes leave and report, what they leave to be kept, and what a change of the size makes of that; the lines that
-- bytes scroll off, and those that leave at a change; the trace of bytes, and the tracer after them
pub record Session (K : Type 0) : Type 0 where
  pub played : K → List ℕ → Played
  pub after : K → List ℕ → K
  pub on : Size → K → K
  pub lines : K → List ℕ → List ℕ
  pub off : Size → K → List ℕ
  pub trace : K → Tracer → List ℕ → List ℕ
  pub tracer : K → Tracer → List ℕ → Tracer

-- a state, and what is pending of UTF-8
pub record Utf8Kept : Type 0 where
  pub state : State
  pub pending : List ℕ

-- a terminal with its pages, and what is pending of UTF-8
pub record XtermKept : Type 0 where
  pub whole : Whole
  pub pending : List ℕ

abbrev pub plain_session : Session State
plain_session = record {
  played = λ s bytes. play s bytes;
  after = λ s bytes. (play s bytes).state;
  on = state_on;
  lines = λ s bytes. log s bytes;
  off = log_on;
  trace = λ s t bytes. trace s t bytes;
  tracer = λ s t bytes. tracer_all s t bytes;
}

abbrev pub utf8_begun : Size → Utf8Kept
utf8_begun size = record { state = state_of size; pending = [] }

abbrev pub utf8_session : Session Utf8Kept
utf8_session = record {
  played = λ k bytes. play_utf8 k.state k.pending bytes;
  after = λ k bytes. record { state = (play_utf8 k.state k.pending bytes).state; pending = pending_after k.pending bytes };
  on = λ size k. record { state = state_on size k.state; pending = k.pending };
  lines = λ k bytes. log k.state (translated k.state k.pending bytes);
  off = λ size k. log_on size k.state;
  trace = λ k t bytes. trace_utf8 k.state t k.pending bytes;
  tracer = λ k t bytes. tracer_utf8 k.state t k.pending bytes;
}

abbrev pub xterm_begun : Size → XtermKept
xterm_begun size = record { whole = behind (state_of size) (front_of size); pending = [] }

abbrev pub xterm_session : Session XtermKept
xterm_session = record {
  played = λ k bytes. on_terminal (play_xterm k.whole k.pending bytes);
  after = λ k bytes. record { whole = (play_xterm k.whole k.pending bytes).whole; pending = pending_after k.pending bytes };
  on = λ size k. record { whole = whole_on size k.whole; pending = k.pending };
  lines = λ k bytes. xterm_log k.whole k.pending bytes;
  off = λ size k. xterm_log_on size k.whole;
  trace = λ k t bytes. trace_xterm k.whole t k.pending bytes;
  tracer = λ k t bytes. tracer_xterm k.whole t k.pending bytes;
}

-- ---- bytes and changes

-- what bytes leave and report, with changes between them: each comes after so many bytes more than the one before it. Without a
-- change it is a play
abbrev pub played_on : {K : Type 0} → Session K → K → List Resize → List ℕ → Played
played_on m k [] bytes = m.played k bytes
played_on m k (r ∷ resizes) bytes =
    cond (nat_lt (length bytes) r.after) (m.played k bytes)
    (both (m.played k (take r.after bytes))
    (played_on m (m.on r.size (m.after k (take r.after bytes))) resizes (drop r.after bytes)))

-- what bytes leave to be kept, with changes between them
abbrev pub kept_on : {K : Type 0} → Session K → K → List Resize → List ℕ → K
kept_on m k [] bytes = m.after k bytes
kept_on m k (r ∷ resizes) bytes =
    cond (nat_lt (length bytes) r.after) (m.after k bytes)
    (kept_on m (m.on r.size (m.after k (take r.after bytes))) resizes (drop r.after bytes))

-- what all the bytes of a host leave and report, from power-up of a terminal of a size
abbrev pub played_with : Size → List Resize → Language → List ℕ → Played
played_with size resizes Dec bytes = played_on plain_session (state_of size) resizes bytes
played_with size resizes Utf8 bytes = played_on utf8_session (utf8_begun size) resizes bytes
played_with size resizes Xterm bytes = played_on xterm_session (xterm_begun size) resizes bytes

-- ---- the changes of a recording

-- the changes from one on: an impossible size isn't used, and the next change comes after the one before it
abbrev pub resize_then : Option Size → (after : ℕ) → (skipped taken : List Resize) → List Resize
resize_then None after skipped taken = skipped
resize_then (Some size) after skipped taken = record { after = after; size = size } ∷ taken

-- changes at places of the content as changes of the screen, after bytes that aren't of the content, and after a place of it. The number
-- of bytes stops at 2^64 - 1
unfoldable pub resizes_of : (before at : ℕ) → List Change → List Resize
resizes_of before at [] = []
resizes_of before at (c ∷ changes) =
    resize_then (size_of c.window.columns c.window.rows) (min (before + (c.place - at)) (2 ^ 64 - 1)) (resizes_of before at changes)
    (resizes_of 0 c.place changes)

-- so many changes are carried out at most: each has a screen from the beginning
abbrev pub most_changes : ℕ
most_changes = 1000

-- the changes that are carried out: the first ones, of bytes that begin with so many that aren't of the content
abbrev pub carried_out : (before : ℕ) → List Change → List Resize
carried_out before changes = resizes_of before 0 (take most_changes changes)

-- ---- what is written

-- the session that all the bytes of a host leave under TERM=xterm, and what is pending
abbrev pub session_with : Size → List Resize → List ℕ → XtermKept
session_with size resizes bytes = kept_on xterm_session (xterm_begun size) resizes bytes

-- what is due of a repaint: under TERM=xterm it is of the whole session, otherwise of the terminal
abbrev pub repainted_with : Size → List Resize → Language → Due
repainted_with size resizes Xterm = record {
  written = nothing;
  ending = λ bytes. xterm_repaint (session_with size resizes bytes).whole;
  there = λ bytes. is_between (session_with size resizes bytes).whole (session_with size resizes bytes).pending;
}
repainted_with size resizes language = due_by (played_with size resizes language) Repaint

-- what is due of a replay on a screen that changes its size
abbrev pub replayed_with : Size → List Resize → Language → What → Due
replayed_with size resizes language Repaint = repainted_with size resizes language
replayed_with size resizes language what = due_by (played_with size resizes language) what

-- what each result of a replay states of a host's bytes in a language
abbrev pub ResizedReplayTable : Size → List Resize → Language → What → Result (Unit {0}) Fault → (piece : ℕ) → (b w : List ℕ) → Flags → (limit : ℕ) → Type 0
ResizedReplayTable size resizes language what result piece b w f limit =
    let due = replayed_with size resizes language what in
    OutputTable due.written due.ending due.there result piece b w f limit

-- ---- changes that are still to come

-- the changes of a list, each with the number of bytes that it comes after and its size; private contracts alone speak
-- of them
abbrev pub coming : {L : Type 0} → List L → (after : L → ℕ) → (size : L → Size) → List Resize
coming later after size = map (λ l. record { after = after l; size = size l }) later

-- the changes, of which the first comes after so many bytes
abbrev pub due : (left : ℕ) → List Resize → List Resize
due left [] = []
due left (r ∷ resizes) = record { after = left; size = r.size } ∷ resizes

-- no change comes before the next byte
abbrev pub is_settled : {L : Type 0} → (left : ℕ) → List L → Bool
is_settled left [] = true
is_settled left (l ∷ later) = nat_lt 0 left

-- so many bytes come before the next change
abbrev pub is_before : {L : Type 0} → (count left : ℕ) → List L → Bool
is_before count left [] = true
is_before count left (l ∷ later) = nat_le count left

-- the sizes that a screen of this size has, now and later
abbrev pub sizes_of : Size → List Resize → List Size
sizes_of size resizes = size ∷ map (λ (r : Resize). r.size) resizes
