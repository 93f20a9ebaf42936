-- The timing file of script(1): one chunk of the recording a line. (script(1) and scriptreplay(1) of util-linux: the
-- classic form, and the one with types)
use Rattle.std.specs.Prelude.{ℕ, ◌+◌, ◌-◌, ◌^◌, ◌||◌, ◌∷◌, [], min, List, length, take, drop, Bool, true, false, cond, codes}
use Rattle.std.specs.Prelude.{Option, Some, None, option_map, option_and_then, nat_eq, nat_le, bytes_eq, not}
use Rattle.std.specs.Option.{option_or}
use Rattle.std.specs.List.{position}
use Rattle.vt_device.specs.declared.fault.Break.{Break}
use Rattle.vt_device.specs.declared.fault.Part.TheVariants as part
use Rattle.vt_recording.specs.Seconds.{micros, number}
use Rattle.vt_recording.specs.Script.{begins_with, stripped}

-- ---- a line

-- the microseconds since the line before, whether it is output, and a number of bytes
abbrev pub Step : Type 0
Step = ℕ × Bool × ℕ

-- seconds and a number of bytes, by the place of the space between them
abbrev pub chunk_at : Option ℕ → (output : Bool) → List ℕ → Option Step
chunk_at None output text = None
chunk_at (Some at) output text =
    option_and_then (λ m. option_map (λ n. (m, output, n)) (number 9 (drop (at + 1) text))) (micros (take at text))

-- seconds and then a name and more, which has no bytes
abbrev pub note_at : Option ℕ → List ℕ → Option Step
note_at None text = None
note_at (Some at) text = option_map (λ m. (m, false, 0)) (micros (take at text))

abbrev pub space_in : List ℕ → Option ℕ
space_in text = position (λ b. nat_eq b 0x20) text

abbrev pub chunk_in : (output : Bool) → List ℕ → Option Step
chunk_in output text = chunk_at (space_in text) output text

abbrev pub note_in : List ℕ → Option Step
note_in text = note_at (space_in text) text

-- input, of which no byte is in the session if it was recorded apart
abbrev pub input_in : (apart : Bool) → List ℕ → Option Step
input_in apart text = option_map (λ (s : Step). (s.0, s.1, cond apart 0 s.2)) (chunk_in false text)

-- `O` is output, `I` input, `S` a signal and `H` a fact of the session. Without a type it is output
abbrev pub step_in : (apart : Bool) → List ℕ → Option Step
step_in apart line =
    cond (begins_with (codes "O ") line) (chunk_in true (drop 2 line))
    (cond (begins_with (codes "I ") line) (input_in apart (drop 2 line))
    (cond (begins_with (codes "S ") line || begins_with (codes "H ") line) (note_in (drop 2 line)) (chunk_in true line)))

-- ---- the files that output and input were recorded into

-- the value of a fact: what follows its name, which ends with a space and follows the space after the seconds
abbrev pub value_at : Option ℕ → (name text : List ℕ) → Option (List ℕ)
value_at None name text = None
value_at (Some at) name text =
    stripped name (drop (at + 1) text)

abbrev pub value_in : (name line : List ℕ) → Option (List ℕ)
value_in name line = cond (begins_with (codes "H ") line) (value_at (space_in (drop 2 line)) name (drop 2 line)) None

-- the value in the first line with this fact
unfoldable pub value_of : (name : List ℕ) → List (List ℕ) → Option (List ℕ)
value_of name [] = None
value_of name (line ∷ lines) = option_or (value_in name line) (value_of name lines)

abbrev pub differ : Option (List ℕ) → Option (List ℕ) → Bool
differ (Some a) (Some b) = not (bytes_eq a b)
differ _ _ = false

-- the facts name two files: input was recorded apart from output
abbrev pub is_apart : List (List ℕ) → Bool
is_apart lines = differ (value_of (codes "OUTPUT_LOG ") lines) (value_of (codes "INPUT_LOG ") lines)

-- ---- the lines, one after another

-- the place in the session and the time at which a line begins
pub record Spot : Type 0 where
  pub clock : ℕ
  pub place : ℕ

-- the break of a line: it is no step, or the session has fewer bytes. An empty line is no step and no break
abbrev pub break_in : (empty : Bool) → Option Step → (session : List ℕ) → (place stop at : ℕ) → Option Break
break_in true step session place stop at = None
break_in false None session place stop at = Some (record { part = part.Timing; at = at })
break_in false (Some s) session place stop at =
    cond (nat_le (place + s.2) (length session)) None (Some (record { part = part.Recording; at = stop }))

-- the time after so many microseconds, which stops at 2^64 - 1 (this profile)
abbrev pub later : (clock micros : ℕ) → ℕ
later clock micros = min (clock + micros) (2 ^ 64 - 1)

abbrev pub spot_after : (empty : Bool) → Option Step → Spot → Spot
spot_after true step spot = spot
spot_after false None spot = spot
spot_after false (Some s) spot = record { clock = later spot.clock s.0; place = spot.place + s.2 }

abbrev pub is_empty : List ℕ → Bool
is_empty line = nat_eq (length line) 0
