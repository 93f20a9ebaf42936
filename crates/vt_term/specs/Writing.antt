-- Writing glyphs. (EK-VT220-RM, chapter 4: DECAWM and IRM; the moment of the wrap is this profile's)
use Rattle.std.specs.Prelude.{◌≡◌, ℕ, ◌+◌, List, fold, Option, Some, None, nat_lt, if◌then◌else◌}
use Rattle.vt_glyph.specs.Invocation.{glyph_read, after_read}
use Rattle.vt_screen.specs.Grid.{Grid, GridOf, put_any, put_inserting_any}
use Rattle.vt_term.specs.Kinds.{KindOf}
use Rattle.vt_term.specs.Rendition.{vt220_kind}
use Rattle.vt_term.specs.declared.state.Cursor.{Cursor}
use Rattle.vt_term.specs.State.{DisplayOf, Display, last_column, at_place}
use Rattle.vt_term.specs.Moving.{next_line_any}

-- a pending wrap is carried out
abbrev pub after_wrap_any : {C B : Type 0} → KindOf C B → DisplayOf C B → DisplayOf C B
after_wrap_any k s = if s.cursor.wrap then next_line_any k s else s

abbrev pub after_wrap : Display → Display
after_wrap s = after_wrap_any vt220_kind s

-- the glyph with the brush, at the cursor; under IRM the cells at and after it move right first (ECMA-48 7.2)
abbrev pub with_glyph_any : {C B : Type 0} → KindOf C B → ℕ → DisplayOf C B → GridOf C
with_glyph_any k glyph s =
    if s.modes.irm then put_inserting_any k.cells.blank s.grid s.cursor.row s.cursor.col (k.own.written s.brush glyph)
    else put_any k.cells.blank s.grid s.cursor.row s.cursor.col (k.own.written s.brush glyph)

abbrev pub with_glyph : ℕ → Display → Grid
with_glyph glyph s = with_glyph_any vt220_kind glyph s

-- one column on; in the last column the cursor stays, and the wrap flag is set under DECAWM (EK-VT220-RM)
abbrev pub next_place : {C B : Type 0} → DisplayOf C B → Cursor
next_place s =
    if nat_lt s.cursor.col (last_column s) then at_place s.cursor.row (s.cursor.col + 1)
    else record s.cursor { wrap = s.modes.decawm }

-- a glyph if no wrap is pending
abbrev pub put_glyph_any : {C B : Type 0} → KindOf C B → ℕ → DisplayOf C B → DisplayOf C B
put_glyph_any k glyph s = record s { grid = with_glyph_any k glyph s; cursor = next_place s }

abbrev pub put_glyph : ℕ → Display → Display
put_glyph glyph s = put_glyph_any vt220_kind glyph s

-- a glyph is written
abbrev pub write_glyph_any : {C B : Type 0} → KindOf C B → ℕ → DisplayOf C B → DisplayOf C B
write_glyph_any k glyph s = put_glyph_any k glyph (after_wrap_any k s)

abbrev pub write_glyph : ℕ → Display → Display
write_glyph glyph s = write_glyph_any vt220_kind glyph s

-- glyphs are written one after another
abbrev pub write_glyphs : List ℕ → Display → Display
write_glyphs glyphs s = fold (λ t glyph. write_glyph glyph t) s glyphs

abbrev pub write_if_read_any : {C B : Type 0} → KindOf C B → Option ℕ → DisplayOf C B → DisplayOf C B
write_if_read_any k None s = s
write_if_read_any k (Some glyph) s = write_glyph_any k glyph s

abbrev pub write_if_read : Option ℕ → Display → Display
write_if_read glyph s = write_if_read_any vt220_kind glyph s

-- a graphic byte: it is read through the sets
abbrev pub print_any : {C B : Type 0} → KindOf C B → ℕ → DisplayOf C B → DisplayOf C B
print_any k b s = write_if_read_any k (glyph_read s.sets b) (record s { sets = after_read s.sets b })

abbrev pub print : ℕ → Display → Display
print b s = print_any vt220_kind b s

-- ---- for laws

-- glyphs before the last column leave all but the cells and the cursor, which goes on without a wrap
pub record IsAfterGlyphs (count : ℕ) (s t : Display) : Type 0 where
  pub cursor : t.cursor ≡ at_place s.cursor.row (s.cursor.col + count)
  pub width : t.grid.width ≡ s.grid.width
  pub sets : t.sets ≡ s.sets
