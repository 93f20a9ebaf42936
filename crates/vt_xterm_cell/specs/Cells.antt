-- A cell of an xterm, and what is done to it. (docs/XTERM.md: The cell, What comes in, Marks)
use Rattle.std.specs.Prelude.{ℕ, List, [], ◌∷◌, ◌++◌, Bool, false, ◌==◌, ◌&&◌, ◌||◌, not, Option, Some, None, filter, flat_map, nat_lt, encode_utf8_all, if◌then◌else◌}
use Rattle.vt_glyph.specs.Tables.{space}
use Rattle.vt_term.specs.Text.{trimmed}
use Rattle.vt_xterm_cell.specs.declared.look.Look.{Look}
use Rattle.vt_xterm_cell.specs.Look.{plain_look}
use Rattle.vt_utf8.specs.Cells.{cells}
use Rattle.vt_xterm_cell.specs.Characters.{is_mark}
use Rattle.vt_xterm_cell.specs.Words.{CellParts}

-- a character without marks, in a look
abbrev pub written_cell : Look → ℕ → Bool → CellParts
written_cell look character wide = record { character = character; mark = 0; other_mark = 0; wide = wide; look = look }

-- a character beyond ASCII in a look, if it has a width
abbrev pub character_cell : Look → ℕ → Option CellParts
character_cell look c = if cells c == 0 then None else Some (written_cell look c (cells c == 2))

-- the second cell of a wide character has nothing of its own but the look (this profile)
abbrev pub second_cell : Look → CellParts
second_cell look = written_cell look 0 false

abbrev pub is_second : CellParts → Bool
is_second cell = not cell.wide && cell.character == 0

-- a space in a look
abbrev pub space_with : Look → CellParts
space_with look = written_cell look space false

abbrev pub blank_cell : CellParts
blank_cell = space_with plain_look

-- an erased cell has the background alone (xterm; its terminfo calls this bce)
abbrev pub erased_cell : Look → CellParts
erased_cell look = space_with (record plain_look { background = look.background })

-- DECSED and DECSEL: a space that keeps its look, in place of an unprotected cell (this profile)
abbrev pub selectively_erased_cell : CellParts → CellParts
selectively_erased_cell cell = if cell.look.protected then cell else space_with cell.look

-- a mark joins the character of a cell; a third one is lost (xterm). Nothing joins a second cell (this profile)
abbrev pub marked : CellParts → ℕ → CellParts
marked cell mark =
    if is_second cell || not (is_mark mark) then cell else (
    if cell.mark == 0 then record cell { mark = mark } else (
    if cell.other_mark == 0 then record cell { other_mark = mark } else cell))

-- ---- the text of a row (docs/XTERM.md: Text)

-- a character with its marks; nothing for a second cell; a space for each cell of an invisible character
abbrev pub cell_text : CellParts → List ℕ
cell_text cell =
    if cell.look.attributes.invisible then space ∷ [] else
    filter (λ c. nat_lt 0 c) (cell.character ∷ cell.mark ∷ cell.other_mark ∷ [])

-- in UTF-8, without the spaces at its end, whatever their look, and LF
abbrev pub row_text : List CellParts → List ℕ
row_text cells = encode_utf8_all (trimmed (flat_map cell_text cells)) ++ 0x0A ∷ []
