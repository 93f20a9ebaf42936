-- The items of a repaint, in their order; the first is RIS. (this profile)
use Rattle.std.specs.Prelude.{ℕ, List, [], ◌∷◌, ◌++◌, Bool, true, false, not, Option, Some, None, ◌==◌, ◌&&◌}
use Rattle.std.specs.Prelude.{if◌then◌else◌}
use Rattle.std.specs.List.{range_with_len, flat_map}
use Rattle.std.specs.Cmp.Lexicographic.{pointwise}
use Rattle.vt_syntax.specs.declared.event.Event.{Event}
use Rattle.vt_syntax.specs.declared.event.Event.TheVariants.{Print}
use Rattle.vt_glyph.specs.Tables.{space}
use Rattle.vt_screen.specs.Cells.{brush_of}
use Rattle.vt_screen.specs.declared.size.Size.{Size}
use Rattle.vt_screen.specs.Grid.{Grid, cell_at}
use Rattle.vt_term.specs.declared.state.Cursor.{Cursor}
use Rattle.vt_term.specs.declared.state.Margins.{Margins}
use Rattle.vt_term.specs.declared.state.Modes.{Modes}
use Rattle.vt_term.specs.State.{Saved}
use Rattle.vt_term.specs.State.{Display, bottom_row, last_column, has_stop_at, stops_of, saved_sets, saved_at_power_up}
use Rattle.vt_term.specs.State.{modes_at_power_up}
use Rattle.vt_term.specs.Answers.{line_of_cursor}
use Rattle.vt_screen.specs.Same.{same_bool, when}
use Rattle.vt_paint.specs.Same.{same_saved}
use Rattle.vt_paint.specs.Controls.{private_mode, cursor_position, margins_to, ModeRow, mode_rows}
use Rattle.vt_paint.specs.Controls.{clear_all_tabs, brush_events, set_tab}
use Rattle.vt_paint.specs.Controls.{save_cursor, sets_events, shift_to}
use Rattle.vt_paint.specs.Controls.{spelling_sets_events}
use Rattle.vt_paint.specs.Pieces.{glyph_events, pieces, is_blank_grid}

-- 2. If the stops differ from power-up, they are made on a wide screen, which has all their columns. The width of the
-- state follows. If the stops don't differ, a wide screen is selected if the state has one. A size whose two widths are equal needs
-- no DECCOLM.
unfoldable pub stop_events : List Bool → ℕ → List Event
stop_events stops c = when (has_stop_at stops c) (cursor_position 1 c ∷ set_tab ∷ [])

abbrev pub is_wide : Size → ℕ → Bool
is_wide size width = width == size.wide

-- DECCOLM, if it changes the width
abbrev pub width_events : Size → Bool → List Event
width_events size wide = when (not (size.narrow == size.wide)) (private_mode 3 wide ∷ [])

unfoldable pub made_stops : Size → Bool → List Bool → List Event
made_stops size wide stops =
    width_events size true
    ++ (clear_all_tabs
    ∷ (flat_map (λ c. stop_events stops c) (range_with_len 1 size.wide)
    ++ when (not wide) (width_events size false)))

unfoldable pub stops_item : Size → ℕ → List Bool → List Event
stops_item size width stops =
    if pointwise same_bool stops (stops_of size.wide) then when (is_wide size width) (width_events size true)
    else made_stops size (is_wide size width) stops

-- 3. If the saved record differs from power-up, the cursor is moved to its position. A space in the last column sets
-- the wrap flag, and DECSC saves, under DECOM if that was saved.
unfoldable pub saved_events : Saved → List Event
saved_events saved =
    when saved.origin (private_mode 6 true ∷ [])
    ++ (cursor_position saved.row saved.col
    ∷ (when saved.wrap (Print space ∷ [])
    ++ (brush_events saved.brush
    ++ (sets_events (saved_sets saved)
    ++ (save_cursor
    ∷ when saved.origin (private_mode 6 false ∷ []))))))

unfoldable pub saved_item : Saved → List Event
saved_item saved = when (not (same_saved saved saved_at_power_up)) (saved_events saved)

-- 4. If some cell isn't blank or the wrap flag is set: the sets of the spellings, and the pieces of all cells.
unfoldable pub cells_item : Grid → Bool → List Event
cells_item g wrap = if is_blank_grid g && not wrap then [] else spelling_sets_events ++ pieces g

-- 5. Margins that aren't the full ones of so many rows.
unfoldable pub margins_item : ℕ → Margins → List Event
margins_item rows m = if m.top == 1 && m.bottom == rows then [] else margins_to m.top m.bottom ∷ []

-- A mode is set or reset, unless it is known to be as at power-up, as after RIS, and is to stay so.
abbrev pub mode_item : Bool → Bool → (Bool → Event) → Bool → List Event
mode_item known at_power_up event on = if known && same_bool at_power_up on then [] else event on ∷ []

-- 6. DECOM.
unfoldable pub origin_item : Bool → Bool → List Event
origin_item known on = mode_item known false (private_mode 6) on

-- 7. The cursor. A pending wrap is made by writing the cell under it once more.
unfoldable pub wrap_item : Grid → Cursor → List Event
wrap_item g cursor =
    when cursor.wrap (brush_events (brush_of (cell_at g cursor.row cursor.col))
    ++ glyph_events (cell_at g cursor.row cursor.col))

-- 8. The brush: brush_events. 9. The sets: sets_events.

-- 10. The modes, in the order of their table, with the keypad and the form of reports.
abbrev pub row_item : Bool → Modes → ModeRow → List Event
row_item known m row = mode_item known (row.1 modes_at_power_up) row.0 (row.1 m)

unfoldable pub modes_item : Bool → Modes → List Event
modes_item known m = flat_map (row_item known m) mode_rows

-- 11. A pending single shift.
unfoldable pub shift_item : Option ℕ → List Event
shift_item None = []
shift_item (Some slot) = shift_to slot ∷ []

-- the items 2 to 5, by whether a wrap is pending
unfoldable pub first_items : Display → Bool → List Event
first_items s wrap =
    stops_item s.grid.size (last_column s) s.stops
    ++ (saved_item s.saved
    ++ (cells_item s.grid wrap ++ margins_item (bottom_row s) s.margins))

-- the items 6 to 11, by the column that CUP names, and whether a wrap is pending
unfoldable pub placed_items : Bool → Display → ℕ → Bool → List Event
placed_items known s col wrap =
    origin_item known s.modes.decom
    ++ (cursor_position (line_of_cursor s) col
    ∷ (wrap_item s.grid (record s.cursor { wrap = wrap })
    ++ (brush_events s.brush
    ++ (sets_events s.sets
    ++ (modes_item known s.modes
    ++ shift_item s.sets.pending)))))

-- the items 5 to 11, when the width, the stops, the saved record and the cells are made
unfoldable pub last_items : Bool → Display → List Event
last_items known s = margins_item (bottom_row s) s.margins ++ placed_items known s s.cursor.col s.cursor.wrap
