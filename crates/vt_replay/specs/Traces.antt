-- The trace of a host's bytes on a screen that changes its size. (this profile)
--
-- Rows:
--   `a b`, a change to 120 columns of 40 rows after 1 byte: lines `0 text a`, `1 size 120x40`, `1 text b`
--   `ESC [ 2 J`, the same change after 2 bytes: lines `2 size 120x40`, `0 ED 2`
--   a change after 0 bytes is the first line; one after as many bytes as there are comes before the end of the trace
use Rattle.std.specs.Prelude.{ℕ, List, [], ◌++◌, length, cond, nat_lt}
use Rattle.vt_screen.specs.declared.size.Size.{Size}
use Rattle.vt_term.specs.State.{state_of}
use Rattle.vt_trace.specs.declared.tracing.Tracer.{Tracer}
use Rattle.vt_trace.specs.Trace.{tracer_at_start, end_lines, size_lines, tracer_resized}
use Rattle.vt_replay.specs.declared.language.Language.{Language}
use Rattle.vt_replay.specs.declared.language.Language.TheVariants.{Dec, Utf8, Xterm}
use Rattle.vt_replay.specs.declared.resized.Resize.{Resize}
use Rattle.vt_replay.specs.Log.{lines_on}
use Rattle.vt_replay.specs.Resizes.{Session, plain_session, utf8_session, xterm_session, utf8_begun, xterm_begun, kept_on}

-- what is kept between bytes, with a tracer
pub record TracedKept (K : Type 0) : Type 0 where
  pub kept : K
  pub tracer : Tracer

-- before the first byte
abbrev pub traced_begun : {K : Type 0} → K → TracedKept K
traced_begun k = record { kept = k; tracer = tracer_at_start }

-- a session whose lines are those of the trace. A change has a line, too
abbrev pub traced : {K : Type 0} → Session K → Session (TracedKept K)
traced m = record {
  played = λ k bytes. m.played k.kept bytes;
  after = λ k bytes. record { kept = m.after k.kept bytes; tracer = m.tracer k.kept k.tracer bytes };
  on = λ size k. record { kept = m.on size k.kept; tracer = tracer_resized k.tracer };
  lines = λ k bytes. m.trace k.kept k.tracer bytes;
  off = λ size k. size_lines k.tracer size;
  trace = λ k t bytes. m.trace k.kept t bytes;
  tracer = λ k t bytes. m.tracer k.kept t bytes;
}

-- the trace of bytes as they come, with changes between them. The lines of changes before the first byte come with this
abbrev pub traced_on : {K : Type 0} → Session K → TracedKept K → List Resize → List ℕ → List ℕ
traced_on m k resizes bytes = cond (nat_lt 0 (length bytes)) (lines_on (traced m) k resizes bytes) []

-- the end of the trace: if no byte came, the lines of the changes; then the end of a text, or the line of what is held
abbrev pub traced_end_on : {K : Type 0} → Session K → TracedKept K → List Resize → List ℕ → List ℕ
traced_end_on m k resizes bytes =
    cond (nat_lt 0 (length bytes)) [] (lines_on (traced m) k resizes []) ++ end_lines (kept_on (traced m) k resizes bytes).tracer

-- the trace of the host's bytes in each language, on a screen of a size that has these changes: the events have the host's own
-- characters and places
abbrev pub trace_with : Size → List Resize → Language → List ℕ → List ℕ
trace_with size resizes Dec bytes = traced_on plain_session (traced_begun (state_of size)) resizes bytes
trace_with size resizes Utf8 bytes = traced_on utf8_session (traced_begun (utf8_begun size)) resizes bytes
trace_with size resizes Xterm bytes = traced_on xterm_session (traced_begun (xterm_begun size)) resizes bytes

-- and its end
abbrev pub trace_end_with : Size → List Resize → Language → List ℕ → List ℕ
trace_end_with size resizes Dec bytes = traced_end_on plain_session (traced_begun (state_of size)) resizes bytes
trace_end_with size resizes Utf8 bytes = traced_end_on utf8_session (traced_begun (utf8_begun size)) resizes bytes
trace_end_with size resizes Xterm bytes = traced_end_on xterm_session (traced_begun (xterm_begun size)) resizes bytes
