-- The cells of a page as characters and control functions. (this profile)
use Rattle.std.specs.Prelude.{ℕ, List, [], ◌∷◌, ◌++◌, Bool, true, not, ◌==◌, ◌&&◌, nat_lt, if◌then◌else◌}
use Rattle.std.specs.List.{range_with_len, flat_map}
use Rattle.vt_glyph.specs.Tables.{space}
use Rattle.vt_screen.specs.Grid.{row_or}
use Rattle.vt_screen.specs.Same.{when}
use Rattle.vt_feed.specs.Actions.{Action, Function, Character, printed}
use Rattle.vt_paint.specs.Controls.{cursor_position}
use Rattle.vt_xterm_cell.specs.declared.look.Look.{Look}
use Rattle.vt_xterm_cell.specs.Look.{plain_look}
use Rattle.vt_xterm_cell.specs.Words.{CellParts}
use Rattle.vt_xterm_cell.specs.Cells.{is_second, blank_cell}
use Rattle.vt_xterm_display.specs.State.{Grid}
use Rattle.vt_xterm_repaint.specs.Looks.{look_actions, same_look}

-- a plain space
unfoldable pub is_blank : CellParts → Bool
is_blank cell =
    cell.character == space && (cell.mark == 0 && (cell.other_mark == 0 && (not cell.wide && same_look cell.look plain_look)))

-- a character: ASCII is a byte
abbrev pub character_action : ℕ → Action
character_action c = if nat_lt c 0x80 then printed c else Character c

abbrev pub mark_actions : ℕ → List Action
mark_actions mark = when (not (mark == 0)) (Character mark ∷ [])

-- a cell's character and its marks
abbrev pub glyph_actions : CellParts → List Action
glyph_actions cell = character_action cell.character ∷ (mark_actions cell.mark ++ mark_actions cell.other_mark)

-- a cell, after one in another look or in the same; nothing for the second one of a wide character
unfoldable pub cell_actions : Look → CellParts → List Action
cell_actions before cell =
    when (not (is_second cell)) (when (not (same_look before cell.look)) (look_actions cell.look) ++ glyph_actions cell)

-- cells, one after another, without the blank ones at the end
abbrev pub are_blank : List CellParts → Bool
are_blank [] = true
are_blank (cell ∷ cells) = is_blank cell && are_blank cells

abbrev pub cells_actions : Look → List CellParts → List Action
cells_actions before [] = []
cells_actions before (cell ∷ cells) =
    if is_blank cell && are_blank cells then [] else cell_actions before cell ++ cells_actions cell.look cells

-- a row: CUP, the plain look, and its cells; nothing for a blank one
unfoldable pub row_actions : Grid → ℕ → List Action
row_actions g row =
    when (not (are_blank (row_or blank_cell g row)))
    (Function (cursor_position row 1) ∷ (look_actions plain_look ++ cells_actions plain_look (row_or blank_cell g row)))

unfoldable pub grid_actions : Grid → List Action
grid_actions g = flat_map (row_actions g) (range_with_len 1 g.size.rows)
