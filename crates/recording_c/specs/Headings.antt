-- The format of a recording, and what its first line names, as C sees them. (this profile)
use Rattle.std.specs.Prelude.{ℕ, List, Bool, true, false, Option, Some, None}
use Rattle.vt_recording.specs.declared.format.Format.{Format}
use Rattle.vt_recording.specs.declared.format.Format.TheVariants.{Raw, Script, Ttyrec, Asciicast}
use Rattle.vt_recording.specs.declared.format.TerminalType.{TerminalType}
use Rattle.vt_recording.specs.declared.format.TerminalType.TheVariants.{Vt220, Xterm}
use Rattle.vt_recording.specs.declared.detection.Detected.{Detected}
use Rattle.vt_recording.specs.declared.detection.Detected.TheVariants.{Recording, Compressed}
use Rattle.vt_recording.specs.declared.heading.Heading.{Heading}
use Rattle.vt_recording.specs.Detection.{detected}
use Rattle.vt_recording.specs.Heading.{heading_of}
use Rattle.recording_c.specs.declared.heading.RecordingHeading.{RecordingHeading}

-- the format in which a file is read: one with a timing file is by script, and a compressed one is read as it is
abbrev pub format_by : (timed : Bool) → Detected → Format
format_by true found = Script
format_by false (Recording format) = format
format_by false (Compressed kind) = Raw

abbrev pub format_in : (timed : Bool) → (recording : List ℕ) → Format
format_in timed recording = format_by timed (detected recording)

abbrev pub number_of_format : (timed : Bool) → Detected → ℕ
number_of_format true found = 1
number_of_format false (Recording Raw) = 0
number_of_format false (Recording Script) = 1
number_of_format false (Recording Ttyrec) = 2
number_of_format false (Recording Asciicast) = 3
number_of_format false (Compressed kind) = 4

abbrev pub number_of_terminal : Option TerminalType → ℕ
number_of_terminal None = 0
number_of_terminal (Some Vt220) = 1
number_of_terminal (Some Xterm) = 2

-- a number, or 0 if there is none
abbrev pub or_zero : Option ℕ → ℕ
or_zero None = 0
or_zero (Some n) = n

abbrev pub c_heading : (format : ℕ) → Heading → RecordingHeading
c_heading format heading = record {
  format = format;
  terminal = number_of_terminal heading.terminal;
  columns = or_zero heading.columns;
  rows = or_zero heading.rows;
}

abbrev pub heading_in : (timed : Bool) → (recording : List ℕ) → RecordingHeading
heading_in timed recording =
    c_heading (number_of_format timed (detected recording)) (heading_of (format_in timed recording) recording)
