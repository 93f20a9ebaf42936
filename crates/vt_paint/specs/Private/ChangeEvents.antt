-- The events that change one screen into another. No public clause cites them. (this profile)
use Rattle.std.specs.Prelude.{ℕ, List, [], ◌∷◌, ◌++◌, Bool, true, false, ◌&&◌, if◌then◌else◌}
use Rattle.std.specs.List.{range_with_len, flat_map}
use Rattle.vt_syntax.specs.declared.event.Event.{Event}
use Rattle.vt_screen.specs.declared.cell.Rendition.{Rendition}
use Rattle.vt_screen.specs.declared.cell.Brush.{Brush}
use Rattle.vt_screen.specs.declared.cell.Cell.{Cell}
use Rattle.vt_screen.specs.Cells.{brush_of}
use Rattle.vt_screen.specs.Grid.{Grid, cell_at}
use Rattle.vt_term.specs.declared.state.Cursor.{Cursor}
use Rattle.vt_term.specs.State.{Saved}
use Rattle.vt_term.specs.State.{Display, saved_sets}
use Rattle.vt_screen.specs.Same.{when}
use Rattle.vt_paint.specs.Controls.{private_mode, cursor_position, rendition_to, all_attributes, protection_to, soft_reset}
use Rattle.vt_paint.specs.Controls.{brush_events, save_cursor, sets_events, spelling_sets_events}
use Rattle.vt_paint.specs.Pieces.{glyph_events}
use Rattle.vt_paint.specs.Items.{origin_item, wrap_item, last_items}
use Rattle.vt_paint.specs.Changes.{is_marked}

-- ---- the cells

abbrev pub has_all : Rendition → Bool
has_all r = r.bold && (r.underline && (r.blink && r.reverse))

-- SGR without the 0 if every attribute is set
abbrev pub short_rendition : Rendition → Event
short_rendition r = if has_all r then all_attributes else rendition_to r

unfoldable pub short_brush_events : Brush → List Event
short_brush_events brush = short_rendition brush.rendition ∷ protection_to brush.protected ∷ []

-- the change of a cell if it is marked: its position, its brush and its glyph
unfoldable pub change_of : ℕ → ℕ → Bool → Cell → List Event
change_of r c marked cell = when marked (cursor_position r c
    ∷ (short_brush_events (brush_of cell) ++ glyph_events cell))

abbrev pub change : List (List Bool) → Grid → ℕ → ℕ → List Event
change marks g r c = change_of r c (is_marked marks r c) (cell_at g r c)

-- the changes of n cells of a row, starting at a column
abbrev pub changes_from : List (List Bool) → Grid → ℕ → ℕ → ℕ → List Event
changes_from marks g r c n = flat_map (λ c. change marks g r c) (range_with_len c n)

abbrev pub changed_row : List (List Bool) → Grid → ℕ → List Event
changed_row marks g r = changes_from marks g r 1 g.width

-- the changes of n rows
abbrev pub changed_rows : List (List Bool) → Grid → ℕ → ℕ → List Event
changed_rows marks g r n = flat_map (λ r. changed_row marks g r) (range_with_len r n)

unfoldable pub changed_cells : List (List Bool) → Grid → List Event
changed_cells marks g = changed_rows marks g 1 g.size.rows

-- ---- the items, in their order

-- a soft reset, under which cells can be written; it resets DECAWM
unfoldable pub start_item : List Event
start_item = soft_reset ∷ private_mode 7 true ∷ []

-- the saved cursor's position
abbrev pub saved_cursor : Saved → Cursor
saved_cursor saved = record { row = saved.row; col = saved.col; wrap = saved.wrap }

-- the saved record: all that is saved is made, and saved
unfoldable pub record_item : Grid → Saved → List Event
record_item g saved =
    origin_item true saved.origin
    ++ (cursor_position saved.row saved.col
    ∷ (wrap_item g (saved_cursor saved)
    ++ (brush_events saved.brush
    ++ (sets_events (saved_sets saved)
    ++ save_cursor ∷ []))))

-- the marked cells, and then all but the cells, the width and the stops
unfoldable pub change_events : List (List Bool) → Display → List Event
change_events marks s =
    start_item
    ++ (spelling_sets_events
    ++ (changed_cells marks s.grid
    ++ (record_item s.grid s.saved
    ++ (spelling_sets_events
    ++ last_items false s))))
