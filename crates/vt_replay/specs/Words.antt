-- The bytes that each word writes. (this profile)
use Rattle.std.specs.Prelude.{ℕ, List, Result}
use Rattle.vt_device.specs.Runs.{Flags}
use Rattle.vt_recording.specs.declared.format.TerminalType.{TerminalType}
use Rattle.vt_cli.specs.declared.what.Word.{Word}
use Rattle.vt_cli.specs.declared.what.Word.TheVariants.{Replay, Log, Trace, Events, Content}
use Rattle.vt_device.specs.declared.fault.Fault.{Fault}
use Rattle.vt_recording.specs.declared.format.Encoding.{Encoding}
use Rattle.vt_replay.specs.Log.{lines_with, screen_with}
use Rattle.vt_device.specs.Output.{OutputTable, always, all, nothing}
use Rattle.vt_screen.specs.declared.size.Size.{Size}
use Rattle.vt_replay.specs.Playing.{Due, language_of}
use Rattle.vt_replay.specs.Resizes.{replayed_with}
use Rattle.vt_replay.specs.declared.resized.Resize.{Resize}
use Rattle.vt_replay.specs.Traces.{trace_with, trace_end_with}

-- the bytes as they come
abbrev pub as_they_come : Due
as_they_come = record { written = all; ending = nothing; there = always }

-- what is due by each word, a row a word, for a terminal of a size, whose screen changes its size, and in an encoding.
-- A replay, a log and a trace carry the changes out. The table of events is ready before it is written
abbrev pub due_of : Word → Size → List Resize → TerminalType → Encoding → Due
due_of (Replay what) size resizes terminal encoding = replayed_with size resizes (language_of terminal encoding) what
due_of Log size resizes terminal encoding =
    let language = language_of terminal encoding in
    record { written = lines_with size resizes language; ending = screen_with size resizes language; there = always }
due_of Trace size resizes terminal encoding =
    let language = language_of terminal encoding in
    record { written = trace_with size resizes language; ending = trace_end_with size resizes language; there = always }
due_of Events size resizes terminal encoding = as_they_come
due_of Content size resizes terminal encoding = as_they_come

-- what each result states, by the word
abbrev pub WordTable : Result (Unit {0}) Fault → Word → Size → List Resize → TerminalType → Encoding → (piece : ℕ) → (b w : List ℕ) → Flags → (limit : ℕ) → Type 0
WordTable result word size resizes terminal encoding piece b w f limit =
    let due = due_of word size resizes terminal encoding in
    OutputTable due.written due.ending due.there result piece b w f limit
