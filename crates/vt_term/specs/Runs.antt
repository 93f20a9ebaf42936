-- Runs of graphic bytes: when they are written at once, and what they leave. Contracts of private functions cite this,
-- and no public clause does: it is proved to be what writing the bytes one after another leaves.
use Rattle.std.specs.Prelude.{◌≡◌, ℕ, ◌+◌, false, List, length, Some, nat_le, if◌then◌else◌}
use Rattle.vt_syntax.specs.Class.{IsPlain}
use Rattle.vt_glyph.specs.Invocation.{glyph_read, after_read, HasGlyph, InUseTable, glyph_in_use}
use Rattle.vt_glyph.specs.Tables.{space}
use Rattle.vt_screen.specs.Cells.{cell_of}
use Rattle.vt_screen.specs.Grid.{put_run}
use Rattle.vt_term.specs.declared.state.Cursor.{Cursor}
use Rattle.vt_term.specs.State.{Display, last_column, at_place}

-- bytes of a kind write their glyphs over the cell at the cursor: each is read as its glyph, the sets stay, and IRM is
-- reset
pub record WritesOver (Kind : ℕ → Type 0) (glyph_of : ℕ → ℕ) (s : Display) : Type 0 where
  pub glyph : (b : ℕ) → Kind b → glyph_read s.sets b ≡ Some (glyph_of b)
  pub sets : (b : ℕ) → Kind b → after_read s.sets b ≡ s.sets
  pub replaces : s.modes.irm ≡ false

-- plain bytes write the ASCII glyphs, which have the same numbers
abbrev pub WritesAscii : Display → Type 0
WritesAscii s = WritesOver IsPlain (λ b. b) s

-- graphic bytes write what a table of the sets in GL and GR shows
abbrev pub WritesInUse : InUseTable → Display → Type 0
WritesInUse table s = WritesOver HasGlyph (glyph_in_use table) s

-- the cursor after this many glyphs in its row
abbrev pub advanced_by : ℕ → Display → Cursor
advanced_by n s =
    if nat_le (s.cursor.col + n) (last_column s) then at_place s.cursor.row (s.cursor.col + n)
    else record { row = s.cursor.row; col = last_column s; wrap = s.modes.decawm }

-- a run of glyphs that ends in the cursor's row
abbrev pub with_run : List ℕ → Display → Display
with_run glyphs s = record s {
  grid = put_run s.grid s.cursor.row s.cursor.col glyphs (cell_of space s.brush);
  cursor = advanced_by (length glyphs) s;
}
