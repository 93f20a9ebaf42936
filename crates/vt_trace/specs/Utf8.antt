-- The trace of UTF-8: of the host's own characters, at their places in the host's bytes. (this profile)
use Rattle.std.specs.Prelude.{◌≡◌, ℕ, ◌+◌, ◌==◌, List, [], ◌∷◌, ◌++◌, true, false, Option, Some, None, nat_lt, length, take, if◌then◌else◌}
use Rattle.vt_term.specs.State.{State}
use Rattle.vt_term.specs.Names.{name_on}
use Rattle.vt_term.specs.Happenings.{Happening, happening}
use Rattle.vt_term.specs.Play.{play}
use Rattle.vt_utf8.specs.Decoding.{read, characters, pending_after}
use Rattle.vt_utf8.specs.Translation.{translation}
use Rattle.vt_trace.specs.declared.tracing.Tracer.{Tracer}
use Rattle.vt_trace.specs.Lines.{Names}
use Rattle.vt_trace.specs.Trace.{between, open_lines, text_of, traced_at, tracer_at}

-- ---- bytes of characters beyond ASCII, and ill-formed bytes

-- what is written of such a byte: nothing if it is content of a string. Otherwise it is text, and cuts an unfinished
-- sequence off
abbrev pub traced_beyond : Tracer → ℕ → List ℕ
traced_beyond t b =
    if t.code == 0 then (if length t.first.items == 0 then text_of t.in_text t.place b else open_lines t ++ text_of false t.place b)
    else []

-- the tracer after such a byte
abbrev pub tracer_beyond : Tracer → ℕ → Tracer
tracer_beyond t b =
    if t.code == 0 then between (t.place + 1) t.place true
    else record t { place = t.place + 1; first = record { items = take 33 (t.first.items ++ b ∷ []) } }

-- ---- dialects

-- a dialect is what a host's characters mean to a terminal with a state of this type: the names of events, what happens at an ASCII
-- character, the state after a character, and its reports
pub record Dialect (W : Type 0) : Type 0 where
  pub names : Names
  pub happens : W → ℕ → Happening
  pub after : W → ℕ → W
  pub reports : W → ℕ → List ℕ

-- the dialect of a VT220, to which a character is translated
abbrev pub vt220_dialect : Dialect State
vt220_dialect = record {
  names = name_on;
  happens = happening;
  after = λ s c. (play s (translation s c)).state;
  reports = λ s c. (play s (translation s c)).reports;
}

-- the state after characters
abbrev pub after_all : {W : Type 0} → Dialect W → W → List ℕ → W
after_all d w [] = w
after_all d w (c ∷ cs) = after_all d (d.after w c) cs

-- the reports of characters
abbrev pub reports_all : {W : Type 0} → Dialect W → W → List ℕ → List ℕ
reports_all d w [] = []
reports_all d w (c ∷ cs) = d.reports w c ++ reports_all d (d.after w c) cs

-- ---- bytes

-- what happens at the ASCII character at the end of those that a byte completes, if it completes one
abbrev pub completed : {W : Type 0} → Dialect W → W → List ℕ → Option Happening
completed d w [] = None
completed d w (c ∷ []) = if nat_lt c 0x80 then Some (d.happens w c) else None
completed d w (c ∷ (e ∷ cs)) = completed d (d.after w c) (e ∷ cs)

-- an ASCII character is traced as its byte
abbrev pub traced_as : Names → Tracer → ℕ → Option Happening → List ℕ
traced_as names t b None = traced_beyond t b
traced_as names t b (Some h) = traced_at names t h

abbrev pub tracer_as : Tracer → ℕ → Option Happening → Tracer
tracer_as t b None = tracer_beyond t b
tracer_as t b (Some h) = tracer_at t h

-- what is written of bytes after a pending part
unfoldable pub dialect_trace : {W : Type 0} → Dialect W → W → Tracer → (pending bytes : List ℕ) → List ℕ
dialect_trace d w t pending [] = []
dialect_trace d w t pending (b ∷ bytes) =
    traced_as d.names t b (completed d w (read pending b).characters)
    ++ dialect_trace d (after_all d w (read pending b).characters) (tracer_as t b (completed d w (read pending b).characters))
    (read pending b).pending bytes

-- the tracer after bytes
unfoldable pub dialect_tracer : {W : Type 0} → Dialect W → W → Tracer → (pending bytes : List ℕ) → Tracer
dialect_tracer d w t pending [] = t
dialect_tracer d w t pending (b ∷ bytes) =
    dialect_tracer d (after_all d w (read pending b).characters) (tracer_as t b (completed d w (read pending b).characters))
    (read pending b).pending bytes

-- what is written of bytes on a VT220, and the tracer after them
abbrev pub trace_utf8 : State → Tracer → (pending bytes : List ℕ) → List ℕ
trace_utf8 s t pending bytes = dialect_trace vt220_dialect s t pending bytes

abbrev pub tracer_utf8 : State → Tracer → (pending bytes : List ℕ) → Tracer
tracer_utf8 s t pending bytes = dialect_tracer vt220_dialect s t pending bytes

-- bytes after a pending part were traced: the state, the tracer, the pending part, the reports and the trace after them
pub record Traces {W : Type 0} (d : Dialect W) (w : W) (t : Tracer) (pending bytes : List ℕ) (z : W) (u : Tracer)
    (after before out old new : List ℕ) : Type 0 where
  pub state : z ≡ after_all d w (characters pending bytes)
  pub left : after ≡ pending_after pending bytes
  pub reports : out ≡ before ++ reports_all d w (characters pending bytes)
  pub tracer : u ≡ dialect_tracer d w t pending bytes
  pub lines : new ≡ old ++ dialect_trace d w t pending bytes
