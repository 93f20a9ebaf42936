-- The format that the beginning of a file shows. (asciicast 1, 2 and 3 of asciinema; script(1); ttyrec; gzip: RFC 1952;
-- Zstandard: RFC 8878; the .xz file format; bzip2), and the encoding that content shows (RFC 3629)
use Rattle.std.specs.Prelude.{ℕ, ◌+◌, ◌&&◌, ◌||◌, List, [], ◌∷◌, length, take, drop, codes, Bool, false, not, cond, nat_le, nat_lt}
use Rattle.std.specs.Prelude.{Option, Some, None, is_some, option_and_then}
use Rattle.std.specs.List.{list_all}
use Rattle.std.specs.Str.Lossy.{utf8_valid_len, utf8_error_len}
use Rattle.vt_recording.specs.declared.detection.Detected.{Detected}
use Rattle.vt_recording.specs.declared.detection.Detected.TheVariants.{Recording, Compressed}
use Rattle.vt_recording.specs.declared.detection.Compression.TheVariants.{Gzip, Zstd, Xz, Bzip2}
use Rattle.vt_recording.specs.declared.format.Format.TheVariants.{Raw, Script, Ttyrec, Asciicast}
use Rattle.vt_recording.specs.Lines.{front_line}
use Rattle.vt_recording.specs.Script.{begins_with, first_words}
use Rattle.vt_recording.specs.Asciicast.{trimmed, json_text}
use Rattle.vt_recording.specs.Ttyrec.{number_at, time_of, size_of}

-- ---- asciicast: an object that names its version, 1, 2 or 3

-- what follows a token and white space
abbrev pub after : (token text : List ℕ) → Option (List ℕ)
after token text = cond (begins_with token text) (Some (trimmed (drop (length token) text))) None

abbrev pub is_version : Option (List ℕ) → Bool
is_version (Some (digit ∷ text)) = nat_le 0x31 digit && nat_le digit 0x33
is_version _ = false

abbrev pub begins_version : List ℕ → Bool
begins_version text = is_version (option_and_then (after (codes ":")) (after (codes "\"version\"") text))

-- the member is anywhere in the text
unfoldable pub has_version : List ℕ → Bool
has_version [] = false
has_version (byte ∷ text) = begins_version (byte ∷ text) || has_version text

-- the member is on the line of the first member of an object
abbrev pub is_object : Option (List ℕ) → Bool
is_object (Some members) = has_version (front_line members)
is_object None = false

abbrev pub is_asciicast : List ℕ → Bool
is_asciicast bytes = is_object (after (codes "{") (json_text bytes))

-- ---- ttyrec: a header of a frame that has bytes, and after the frame, if it ends here, another header, not earlier

-- a frame is what one read of the terminal gave
abbrev pub is_header : List ℕ → Bool
is_header bytes = nat_le 12 (length bytes) && (nat_lt (number_at 4 bytes) 1000000 && nat_le (size_of bytes) 0x10000)

abbrev pub goes_on : (bytes rest : List ℕ) → Bool
goes_on bytes rest = nat_lt (length rest) 12 || (is_header rest && nat_le (time_of bytes) (time_of rest))

abbrev pub is_ttyrec : List ℕ → Bool
is_ttyrec bytes =
    is_header bytes && (nat_le 1 (size_of bytes) && goes_on bytes (drop (12 + size_of bytes) bytes))

-- ---- all

abbrev pub is_bzip2 : List ℕ → Bool
is_bzip2 bytes = begins_with (codes "BZh") bytes && begins_with (codes "1AY&SY") (drop 4 bytes)

-- the first of these formats that fits. If none fits, the bytes are raw
abbrev pub detected : List ℕ → Detected
detected bytes =
    cond (begins_with first_words bytes) (Recording Script)
    (cond (is_asciicast bytes) (Recording Asciicast)
    (cond (begins_with (0x1F ∷ 0x8B ∷ []) bytes) (Compressed Gzip)
    (cond (begins_with (0x28 ∷ 0xB5 ∷ 0x2F ∷ 0xFD ∷ []) bytes) (Compressed Zstd)
    (cond (begins_with (0xFD ∷ 0x37 ∷ 0x7A ∷ 0x58 ∷ 0x5A ∷ 0x00 ∷ []) bytes) (Compressed Xz)
    (cond (is_bzip2 bytes) (Compressed Bzip2) (cond (is_ttyrec bytes) (Recording Ttyrec) (Recording Raw)))))))

-- ---- the encoding that content shows

-- it is UTF-8 with a character beyond ASCII. The last character may be cut
abbrev pub shows_utf8 : List ℕ → Bool
shows_utf8 content =
    not (is_some (utf8_error_len (drop (utf8_valid_len content) content)))
    && not (list_all (λ b. nat_lt b 0x80) (take (utf8_valid_len content) content))
