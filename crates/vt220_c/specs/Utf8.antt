-- UTF-8 as C sees it: what is pending, in a struct, and how a character is shown. (this profile)
use Rattle.std.specs.Prelude.{ℕ, List, [], ◌∷◌, length, take, ◌&&◌, ◌||◌, nat_lt, nat_le, unwrap_or, if◌then◌else◌}
use Rattle.vt_term.specs.State.{State}
use Rattle.vt_term.specs.Scrolling.{log}
use Rattle.vt_utf8.specs.Decoding.{pending_of, pending_after}
use Rattle.vt_utf8.specs.Play.{translated, play_utf8}
use Rattle.vt_utf8.specs.Cells.{cells}
use Rattle.vt_utf8.specs.Showing.{shown_as}
use Rattle.vt220_c.specs.Bells.{bells}
use Rattle.vt220_c.specs.Told.{Told}
use Rattle.vt220_c.specs.Written.{written_over}
use Rattle.vt220_c.specs.declared.utf8.Vt220Utf8.{Vt220Utf8}

-- the bytes that are pending: none if they don't begin a character
abbrev pub pending_in : Vt220Utf8 → List ℕ
pending_in u = if nat_le u.len 3 then pending_of (take u.len u.bytes) else []

abbrev pub c_utf8 : List ℕ → Vt220Utf8
c_utf8 pending = record { bytes = written_over pending (0 ∷ 0 ∷ 0 ∷ []); len = length pending }

-- the character of a number. A number that isn't a character of Unicode counts as U+FFFD
abbrev pub character_of : ℕ → ℕ
character_of n = if nat_lt n 0xD800 || (nat_lt 0xDFFF n && nat_lt n 0x110000) then n else 0xFFFD

-- the glyph of a character, or 0 if it has no cell
abbrev pub glyph_for : ℕ → ℕ
glyph_for n = unwrap_or (shown_as (character_of n)) 0

abbrev pub cells_of_character : ℕ → ℕ
cells_of_character c = if nat_lt c 0x80 then (if nat_le 0x20 c && nat_le c 0x7E then 1 else 0) else cells c

abbrev pub cells_for : ℕ → ℕ
cells_for n = cells_of_character (character_of n)

-- what bytes leave after what is pending; for private contracts
abbrev pub utf8_told : State → List ℕ → List ℕ → Told (List ℕ)
utf8_told s pending bytes = record {
  state = (play_utf8 s pending bytes).state;
  kept = pending_after pending bytes;
  reports = (play_utf8 s pending bytes).reports;
  lines = log s (translated s pending bytes);
  rung = bells s.held (translated s pending bytes);
}
