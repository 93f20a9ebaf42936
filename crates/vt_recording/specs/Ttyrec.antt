-- A recording by ttyrec: frames, each after a header of 12 bytes. (the format of ttyrec)
use Rattle.std.specs.Prelude.{◌≡◌, ℕ, ◌+◌, ◌-◌, ◌*◌, ◌<◌, ◌⊎◌, List, [], ◌∷◌, ◌++◌, length, slice_index, Option, Some, None}
use Rattle.vt_recording.specs.Seconds.{risen}

-- the number of 32 bits at a place, its lowest byte first
abbrev pub number_at : ℕ → List ℕ → ℕ
number_at at bytes =
    slice_index bytes at + 0x100 * slice_index bytes (at + 1) + 0x10000 * slice_index bytes (at + 2)
    + 0x1000000 * slice_index bytes (at + 3)

-- the time of a frame, in microseconds: its header's seconds and microseconds
abbrev pub time_of : List ℕ → ℕ
time_of header = 1000000 * number_at 0 header + number_at 4 header

-- how many bytes a frame has
abbrev pub size_of : List ℕ → ℕ
size_of header = number_at 8 header

pub record Piece : Type 0 where
  pub header : List ℕ
  pub bytes : List ℕ

-- the header has 12 bytes, and the frame as many as the header says
pub record IsWhole (p : Piece) : Type 0 where
  pub header : length p.header ≡ 12
  pub bytes : length p.bytes ≡ size_of p.header

abbrev pub spelled : Piece → List ℕ
spelled p = p.header ++ p.bytes

-- bytes that are less than a frame: less than a header, or than the header and the bytes that it announces
abbrev pub IsCut : List ℕ → Type 0
IsCut rest = (length rest < 12) ⊎ (length rest < 12 + size_of rest)

-- a frame: its time, in microseconds after the beginning, and its bytes
pub record Frame : Type 0 where
  pub micros : ℕ
  pub bytes : List ℕ

-- the frames after one of this time. The number of a frame counts from the time of the first one
unfoldable pub frames_after : (start clock : ℕ) → List Piece → List Frame
frames_after start clock [] = []
frames_after start clock (p ∷ pieces) =
    record { micros = risen clock (time_of p.header - start); bytes = p.bytes }
    ∷ frames_after start (risen clock (time_of p.header - start)) pieces

-- the end of the whole frames: the end of the bytes, or the beginning of a cut frame
abbrev pub EndsBefore : (at : ℕ) → (rest : List ℕ) → (broken : Option ℕ) → Type 0
EndsBefore at rest None = rest ≡ []
EndsBefore at rest (Some n) = (n ≡ at) × (0 < length rest) × IsCut rest
