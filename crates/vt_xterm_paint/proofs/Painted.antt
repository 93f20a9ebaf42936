-- The items of a repaint have a VT220's effect under TERM=xterm, if DECCOLM has an effect there: all of them while DECLRMM is reset, and
-- those from the brush on also while it is set.
use Rattle.std.proofs.Common.{◌≡◌, Bool, true, false, not, cond, ◌&&◌, ℕ, List, [], ◌∷◌, ◌++◌, Option, Some, None, eqb, refl, ap}
use Rattle.std.specs.Prelude.{◌==◌, if◌then◌else◌}
use Rattle.std.specs.Bool.{⊤}
use Rattle.std.specs.List.{flat_map, list_any, range_with_len}
use Rattle.std.specs.Cmp.Lexicographic.{pointwise}
use Rattle.vt_syntax.specs.declared.event.Event.{Event}
use Rattle.vt_syntax.specs.declared.event.Event.TheVariants.{Print, Control, Escape}
use Rattle.vt_glyph.specs.declared.glyph.Spelling.{Spelling}
use Rattle.vt_glyph.specs.declared.glyph.Spelling.TheVariants.{Plain, Second, Third}
use Rattle.vt_glyph.specs.GraphicSets.{GraphicSets}
use Rattle.vt_glyph.specs.Spell.{spelling_of}
use Rattle.vt_screen.specs.declared.cell.Rendition.{Rendition}
use Rattle.vt_screen.specs.declared.cell.Brush.{Brush}
use Rattle.vt_screen.specs.declared.cell.Cell.{Cell}
use Rattle.vt_screen.specs.Cells.{brush_of}
use Rattle.vt_screen.specs.declared.size.Size.{Size}
use Rattle.vt_screen.specs.Grid.{Grid, cell_at}
use Rattle.vt_screen.specs.Same.{same_bool, when}
use Rattle.vt_term.specs.declared.state.Cursor.{Cursor}
use Rattle.vt_term.specs.declared.state.Margins.{Margins}
use Rattle.vt_term.specs.declared.state.Modes.{Modes}
use Rattle.vt_term.specs.State.{Saved}
use Rattle.vt_term.specs.State.{Display, has_stop_at, stops_of, saved_sets, saved_at_power_up, modes_at_power_up}
use Rattle.vt_term.specs.Modes.{with_mode}
use Rattle.vt_term.specs.Pages.{PageState}
use Rattle.vt_term.specs.Rendition.{select_graphic_rendition}
use Rattle.vt_term.specs.Functions.{effect, sequence_in}
use Rattle.vt_term.specs.Answers.{line_of_cursor}
use Rattle.vt_paint.specs.Controls.{private_mode, ansi_mode, cursor_position, rendition_to, rendition_values, protection_to}
use Rattle.vt_paint.specs.Controls.{brush_events, sets_events, left_event, right_event, keypad, report_form}
use Rattle.vt_paint.specs.Controls.{sequence_of, ModeRow, mode_rows, spelling_events, spelling_sets_events, save_cursor}
use Rattle.vt_paint.proofs.Tests.{at_brush, all_brushes, both_pass, not_true}
use Rattle.vt_paint.specs.Same.{is_blank, same_saved}
use Rattle.vt_paint.specs.Pieces.{left_of, needs_header, header, glyph_events, piece_of, piece, pieces, is_blank_grid}
use Rattle.vt_paint.specs.Items.{is_wide, width_events, stop_events, made_stops, stops_item, saved_events, saved_item, cells_item}
use Rattle.vt_paint.specs.Items.{margins_item, origin_item, wrap_item, row_item, modes_item, shift_item, first_items, placed_items}
use Rattle.vt_paint.specs.Repaint.{made_events}
use Rattle.vt_xterm.specs.declared.sides.Sides.{Sides}
use Rattle.vt_xterm.specs.Sides.{bounds}
use Rattle.vt_xterm.specs.Pages.{Screens, on_display, with_page_mode, bounds_of}
use Rattle.vt_xterm.specs.Attributes.{begins_colour}
use Rattle.vt_xterm.specs.Bounded.{bounded_effect, bounded_in, has_row, other_between}
use Rattle.vt_xterm.specs.Tabs.{tab}
use Rattle.vt_xterm.specs.Front.{functions_of, function_in, screen_effect, effect_between, xterm_effect}
use Rattle.vt_xterm.proofs.Colours.{without-colours}
use Rattle.vt_term.specs.Functions.{sequences_any}

-- ---- what holds of each event

unfoldable pub AreEach : (Event → Type 0) → List Event → Type 0
AreEach P [] = ⊤
AreEach P (event ∷ events) = P event × AreEach P events

pub each-none : (P : Event → Type 0) → AreEach P []
unfolding AreEach
each-none P = tt

pub each-more : (P : Event → Type 0) (event : Event) (events : List Event) → P event → AreEach P events
    → AreEach P (event ∷ events)
unfolding AreEach
each-more P event events first more = (first, more)

pub each-append : (P : Event → Type 0) (xs ys : List Event) → AreEach P xs → AreEach P ys → AreEach P (xs ++ ys)
unfolding AreEach
each-append P [] ys first second = second
each-append P (x ∷ xs) ys first second = (first.0, each-append P xs ys first.1 second)

pub each-as : (P Q : Event → Type 0) → ((event : Event) → P event → Q event) → (events : List Event) → AreEach P events
    → AreEach Q events
unfolding AreEach
each-as P Q f [] are = tt
each-as P Q f (event ∷ events) are = (f event are.0, each-as P Q f events are.1)

each-one : (P : Event → Type 0) (event : Event) → P event → AreEach P (event ∷ [])
each-one P event is = each-more P event [] is (each-none P)

each-if : (P : Event → Type 0) (b : Bool) (xs ys : List Event) → AreEach P xs → AreEach P ys → AreEach P (cond b xs ys)
each-if P true xs ys first second = first
each-if P false xs ys first second = second

each-when : (P : Event → Type 0) (b : Bool) (xs : List Event) → AreEach P xs → AreEach P (when b xs)
each-when P b xs are = each-if P b xs [] are (each-none P)

each-unless : (P : Event → Type 0) (b : Bool) (xs : List Event) → AreEach P xs → AreEach P (cond b [] xs)
each-unless P b xs are = each-if P b [] xs (each-none P) are

each-flat : (P : Event → Type 0) (f : ℕ → List Event) (ns : List ℕ) → ((n : ℕ) → AreEach P (f n))
    → AreEach P (flat_map f ns)
each-flat P f [] are = each-none P
each-flat P f (n ∷ ns) are = each-append P (f n) (flat_map f ns) (are n) (each-flat P f ns are)

either : (P : Event → Type 0) (b : Bool) (x y : Event) → P x → P y → P (cond b x y)
either P true x y first second = first
either P false x y first second = second

-- ---- events that have a VT220's effect, whatever the left and right margins are

pub record IsQuiet (event : Event) : Type 0 where
  pub plain : (s : Screens) → screen_effect event s ≡ on_display (effect event) s
  pub bounded : (m : Sides) (s : Screens) → bounded_effect screen_effect event m s ≡ on_display (effect event) s

pub quiet-effect : (event : Event) → IsQuiet event → (s : Screens) → xterm_effect event s ≡ on_display (effect event) s
quiet-effect event is s = go (bounds_of s)
  where
    go : (b : Option Sides) → effect_between event b s ≡ on_display (effect event) s
    go None = is.plain s
    go (Some m) = is.bounded m s

no_colour : (r : Rendition) → list_any begins_colour (rendition_values r) ≡ false
unfolding all_brushes both_pass
no_colour r =
    not_true _ (at_brush (λ (brush : Brush). not (list_any begins_colour (rendition_values brush.rendition))) refl
    (record { rendition = r; protected = false }))

rendition-quiet : (r : Rendition) → IsQuiet (rendition_to r)
unfolding functions_of function_in sequence_in sequences_any bounded_effect bounded_in has_row other_between
rendition-quiet r =
    let values = rendition_values r in
    let same = without-colours values (no_colour r) in record {
      plain = λ s. ap (λ (params : List ℕ). on_display (select_graphic_rendition params) s) same;
      bounded = λ m s. ap (λ (params : List ℕ). on_display (select_graphic_rendition params) s) same;
    }

pub brush-quiet : (brush : Brush) → AreEach IsQuiet (brush_events brush)
unfolding brush_events functions_of function_in bounded_effect
brush-quiet brush =
    each-more IsQuiet (rendition_to brush.rendition) _ (rendition-quiet brush.rendition)
    (each-one IsQuiet (protection_to brush.protected) (record { plain = λ s. refl; bounded = λ m s. refl }))

left-quiet : (slot : ℕ) → IsQuiet (left_event slot)
unfolding function_in bounded_effect bounded_in has_row
left-quiet slot =
    either IsQuiet (eqb slot 0) (Control 0x0F) _ (record { plain = λ s. refl; bounded = λ m s. refl })
    (either IsQuiet (eqb slot 1) (Control 0x0E) _ (record { plain = λ s. refl; bounded = λ m s. refl })
    (either IsQuiet (eqb slot 2) (Escape None 0x6E) (Escape None 0x6F) (record { plain = λ s. refl; bounded = λ m s. refl })
    (record { plain = λ s. refl; bounded = λ m s. refl })))

right-quiet : (slot : ℕ) → IsQuiet (right_event slot)
unfolding function_in bounded_effect
right-quiet slot =
    either IsQuiet (eqb slot 1) (Escape None 0x7E) _ (record { plain = λ s. refl; bounded = λ m s. refl })
    (either IsQuiet (eqb slot 2) (Escape None 0x7D) (Escape None 0x7C) (record { plain = λ s. refl; bounded = λ m s. refl })
    (record { plain = λ s. refl; bounded = λ m s. refl }))

pub sets-quiet : (sets : GraphicSets) → AreEach IsQuiet (sets_events sets)
unfolding sets_events AreEach function_in bounded_effect
sets-quiet sets = (
  record { plain = λ s. refl; bounded = λ m s. refl },
  (
    record { plain = λ s. refl; bounded = λ m s. refl },
    (
      record { plain = λ s. refl; bounded = λ m s. refl },
      (record { plain = λ s. refl; bounded = λ m s. refl }, (left-quiet sets.left, (right-quiet sets.right, tt))),
    ),
  ),
)

spelling-sets-quiet : AreEach IsQuiet spelling_sets_events
unfolding AreEach function_in bounded_effect
spelling-sets-quiet = (
  record { plain = λ s. refl; bounded = λ m s. refl },
  (
    record { plain = λ s. refl; bounded = λ m s. refl },
    (record { plain = λ s. refl; bounded = λ m s. refl }, (left-quiet 0, tt)),
  ),
)

-- SS2 and SS3
pub single-quiet : (second : Bool) → IsQuiet (cond second (Control 0x8E) (Control 0x8F))
unfolding bounded_effect bounded_in has_row
single-quiet true = record { plain = λ s. refl; bounded = λ m s. refl }
single-quiet false = record { plain = λ s. refl; bounded = λ m s. refl }

pub shift-quiet : (pending : Option ℕ) → AreEach IsQuiet (shift_item pending)
unfolding shift_item
shift-quiet None = each-none IsQuiet
shift-quiet (Some slot) = each-one IsQuiet _ (single-quiet (eqb slot 2))

-- ---- modes

ansi-quiet : (n : ℕ) (on : Bool) → IsQuiet (ansi_mode n on)
unfolding functions_of function_in bounded_effect bounded_in has_row other_between
ansi-quiet n true = record { plain = λ s. refl; bounded = λ m s. refl }
ansi-quiet n false = record { plain = λ s. refl; bounded = λ m s. refl }

-- those of the table of modes, but for ?7
private-quiet : (on : Bool) → IsQuiet (private_mode 1 on) × IsQuiet (private_mode 4 on) × IsQuiet (private_mode 5 on)
    × IsQuiet (private_mode 8 on) × IsQuiet (private_mode 25 on)
unfolding functions_of function_in with_page_mode sequence_in sequences_any bounded_effect
private-quiet true = (
  record { plain = λ s. refl; bounded = λ m s. refl },
  record { plain = λ s. refl; bounded = λ m s. refl },
  record { plain = λ s. refl; bounded = λ m s. refl },
  record { plain = λ s. refl; bounded = λ m s. refl },
  record { plain = λ s. refl; bounded = λ m s. refl },
)
private-quiet false = (
  record { plain = λ s. refl; bounded = λ m s. refl },
  record { plain = λ s. refl; bounded = λ m s. refl },
  record { plain = λ s. refl; bounded = λ m s. refl },
  record { plain = λ s. refl; bounded = λ m s. refl },
  record { plain = λ s. refl; bounded = λ m s. refl },
)

pub wrapping-quiet : IsQuiet (private_mode 7 true)
unfolding functions_of function_in with_page_mode with_mode sequence_in sequences_any bounded_effect
wrapping-quiet = record { plain = λ s. refl; bounded = λ m s. refl }

keypad-quiet : (on : Bool) → IsQuiet (keypad on)
unfolding function_in bounded_effect
keypad-quiet true = record { plain = λ s. refl; bounded = λ m s. refl }
keypad-quiet false = record { plain = λ s. refl; bounded = λ m s. refl }

form-quiet : (on : Bool) → IsQuiet (report_form on)
unfolding function_in bounded_effect
form-quiet on = record { plain = λ s. refl; bounded = λ m s. refl }

abbrev EachRow : (Event → Type 0) → Modes → List ModeRow → Type 0
EachRow P m [] = ⊤
EachRow P m (row ∷ rows) = P (row.0 (row.1 m)) × EachRow P m rows

rows-each : (P : Event → Type 0) (known : Bool) (m : Modes) (rows : List ModeRow) → EachRow P m rows
    → AreEach P (flat_map (row_item known m) rows)
rows-each P known m [] are = each-none P
rows-each P known m (row ∷ rows) are =
    each-append P (row_item known m row) (flat_map (row_item known m) rows)
    (each-unless P (known && same_bool (row.1 modes_at_power_up) (row.1 m)) (row.0 (row.1 m) ∷ [])
    (each-one P (row.0 (row.1 m)) are.0))
    (rows-each P known m rows are.1)

-- what holds of quiet events and of ?7 holds of the modes
pub modes-each : (P : Event → Type 0) (known : Bool) (m : Modes) → ((event : Event) → IsQuiet event → P event)
    → P (private_mode 7 m.decawm) → AreEach P (modes_item known m)
unfolding modes_item
modes-each P known m quiet wraps =
    rows-each P known m mode_rows (
      quiet _ (ansi-quiet 2 _),
      (
        quiet _ (ansi-quiet 4 _),
        (
          quiet _ (ansi-quiet 12 _),
          (
            quiet _ (ansi-quiet 20 _),
            (
              quiet _ (private-quiet _).0,
              (
                quiet _ (private-quiet _).1,
                (
                  quiet _ (private-quiet _).2,
                  (
                    wraps,
                    (
                      quiet _ (private-quiet _).3,
                      (quiet _ (private-quiet _).4, (quiet _ (keypad-quiet _), (quiet _ (form-quiet _), tt))),
                    ),
                  ),
                ),
              ),
            ),
          ),
        ),
      ),
    )

-- ---- with DECLRMM reset

-- ?40 is set, and ?2004 and DECLRMM aren't
abbrev pub on_pages : PageState → Bool → Display → Screens
on_pages other alternate s = record {
  display = s;
  pages = record { other = other; alternate = alternate; resizes = true; brackets = false; sides = None };
}

-- the event has a VT220's effect on such screens
abbrev pub IsOn : (Display → Screens) → Event → Type 0
IsOn f event = (s : Display) → xterm_effect event (f s) ≡ f (effect event s)

module _ (other : PageState) (alternate : Bool) where
  abbrev on : Display → Screens
  on = on_pages other alternate

  abbrev IsPainted : Event → Type 0
  IsPainted = IsOn on

  quiet-painted : (event : Event) → IsQuiet event → IsPainted event
  quiet-painted event is s = quiet-effect event is (on s)

  quiets-painted : (events : List Event) → AreEach IsQuiet events → AreEach IsPainted events
  quiets-painted events are = each-as IsQuiet IsPainted quiet-painted events are

  position-painted : (line col : ℕ) → IsPainted (cursor_position line col)
  unfolding functions_of function_in bounds
  position-painted line col s = refl

  column-painted : (wide : Bool) → IsPainted (private_mode 3 wide)
  unfolding functions_of function_in with_page_mode with_mode sequence_in sequences_any bounds
  column-painted true s = refl
  column-painted false s = refl

  origin-painted : (b : Bool) → IsPainted (private_mode 6 b)
  unfolding functions_of function_in with_page_mode with_mode sequence_in sequences_any bounds
  origin-painted true s = refl
  origin-painted false s = refl

  wrapping-painted : (b : Bool) → IsPainted (private_mode 7 b)
  unfolding functions_of function_in with_page_mode with_mode sequence_in sequences_any bounds
  wrapping-painted true s = refl
  wrapping-painted false s = refl

  print-painted : (code : ℕ) → IsPainted (Print code)
  unfolding bounds
  print-painted code s = refl

  control-painted : (code : ℕ) → (code == 0x09) ≡ false → IsPainted (Control code)
  unfolding bounds
  control-painted code not s =
      ap (λ (tabs : Bool). on_display (λ d. if tabs then tab d else effect (Control code) d) (on s)) not

  save-painted : IsPainted save_cursor
  unfolding function_in bounds
  save-painted s = refl

  spelling-painted : (spelling : Spelling) → AreEach IsPainted (spelling_events spelling)
  spelling-painted (Plain code) = each-one IsPainted _ (print-painted code)
  spelling-painted (Second code) = each-more IsPainted _ _ (control-painted 0x8E refl) (each-one IsPainted _ (print-painted code))
  spelling-painted (Third code) = each-more IsPainted _ _ (control-painted 0x8F refl) (each-one IsPainted _ (print-painted code))

  glyph-painted : (cell : Cell) → AreEach IsPainted (glyph_events cell)
  unfolding glyph_events
  glyph-painted cell = spelling-painted (spelling_of cell.glyph)

  brush-painted : (brush : Brush) → AreEach IsPainted (brush_events brush)
  brush-painted brush = quiets-painted (brush_events brush) (brush-quiet brush)

  sets-painted : (sets : GraphicSets) → AreEach IsPainted (sets_events sets)
  sets-painted sets = quiets-painted (sets_events sets) (sets-quiet sets)

  modes-painted : (known : Bool) (m : Modes) → AreEach IsPainted (modes_item known m)
  modes-painted known m = modes-each IsPainted known m quiet-painted (wrapping-painted m.decawm)

  -- ---- items

  stop-painted : (stops : List Bool) (c : ℕ) → AreEach IsPainted (stop_events stops c)
  unfolding stop_events
  stop-painted stops c =
      each-when IsPainted (has_stop_at stops c) _
      (each-more IsPainted _ _ (position-painted 1 c) (each-one IsPainted _ (control-painted 0x88 refl)))

  clear-painted : IsPainted (sequence_of (3 ∷ []) 0x67)
  unfolding functions_of function_in bounds
  clear-painted s = refl

  width-painted : (size : Size) (wide : Bool) → AreEach IsPainted (width_events size wide)
  width-painted size wide =
      each-when IsPainted (not (eqb size.narrow size.wide)) _ (each-one IsPainted (private_mode 3 wide) (column-painted wide))

  made-stops-painted : (size : Size) (wide : Bool) (stops : List Bool) → AreEach IsPainted (made_stops size wide stops)
  unfolding made_stops
  made-stops-painted size wide stops =
      each-append IsPainted (width_events size true) _ (width-painted size true) (each-more IsPainted _ _ clear-painted
      (each-append IsPainted (flat_map (λ c. stop_events stops c) (range_with_len 1 size.wide)) _
      (each-flat IsPainted (λ c. stop_events stops c) (range_with_len 1 size.wide) (stop-painted stops))
      (each-when IsPainted (not wide) _ (width-painted size false))))

  stops-painted : (size : Size) (width : ℕ) (stops : List Bool) → AreEach IsPainted (stops_item size width stops)
  unfolding stops_item
  stops-painted size width stops =
      each-if IsPainted (pointwise same_bool stops (stops_of size.wide)) _ _
      (each-when IsPainted (is_wide size width) _ (width-painted size true))
      (made-stops-painted size (is_wide size width) stops)

  saved-painted : (saved : Saved) → AreEach IsPainted (saved_item saved)
  unfolding saved_item saved_events
  saved-painted saved =
      each-when IsPainted (not (same_saved saved saved_at_power_up)) _
      (each-append IsPainted (when saved.origin (private_mode 6 true ∷ [])) _
      (each-when IsPainted saved.origin _ (each-one IsPainted (private_mode 6 true) (origin-painted true)))
      (each-more IsPainted (cursor_position saved.row saved.col) _ (position-painted saved.row saved.col)
      (each-append IsPainted (when saved.wrap (Print 0x20 ∷ [])) _
      (each-when IsPainted saved.wrap _ (each-one IsPainted (Print 0x20) (print-painted 0x20)))
      (each-append IsPainted (brush_events saved.brush) _ (brush-painted saved.brush)
      (each-append IsPainted (sets_events (saved_sets saved)) _ (sets-painted (saved_sets saved))
      (each-more IsPainted save_cursor _ save-painted
      (each-when IsPainted saved.origin _ (each-one IsPainted (private_mode 6 false) (origin-painted false)))))))))

  piece-painted : (g : Grid) (r c : ℕ) → AreEach IsPainted (piece g r c)
  unfolding piece_of header
  piece-painted g r c =
      let cell = cell_at g r c in
      each-when IsPainted (not (is_blank cell)) _ (each-append IsPainted (header r c (left_of g r c) cell) _
      (each-when IsPainted (needs_header (left_of g r c) cell) _
      (each-more IsPainted (cursor_position r c) _ (position-painted r c) (brush-painted (brush_of cell))))
      (glyph-painted cell))

  cells-painted : (g : Grid) (wrap : Bool) → AreEach IsPainted (cells_item g wrap)
  unfolding cells_item pieces
  cells-painted g wrap =
      each-unless IsPainted (is_blank_grid g && not wrap) _ (each-append IsPainted spelling_sets_events _
      (quiets-painted spelling_sets_events spelling-sets-quiet)
      (each-flat IsPainted (λ r. flat_map (λ c. piece g r c) (range_with_len 1 g.width)) (range_with_len 1 g.size.rows)
      (λ r. each-flat IsPainted (λ c. piece g r c) (range_with_len 1 g.width) (piece-painted g r))))

  margins-painted : (rows : ℕ) (m : Margins) → AreEach IsPainted (margins_item rows m)
  unfolding margins_item functions_of function_in bounds
  margins-painted rows m =
      each-unless IsPainted (eqb m.top 1 && eqb m.bottom rows) _
      (each-one IsPainted (sequence_of (m.top ∷ m.bottom ∷ []) 0x72) (λ s. refl))

  origin-item-painted : (known b : Bool) → AreEach IsPainted (origin_item known b)
  unfolding origin_item
  origin-item-painted known b =
      each-unless IsPainted (known && same_bool false b) _ (each-one IsPainted (private_mode 6 b) (origin-painted b))

  wrap-painted : (g : Grid) (cursor : Cursor) → AreEach IsPainted (wrap_item g cursor)
  unfolding wrap_item
  wrap-painted g cursor =
      each-when IsPainted cursor.wrap _ (each-append IsPainted (brush_events (brush_of (cell_at g cursor.row cursor.col))) _
      (brush-painted (brush_of (cell_at g cursor.row cursor.col))) (glyph-painted (cell_at g cursor.row cursor.col)))

  pub first-painted : (s : Display) (wrap : Bool) → AreEach IsPainted (first_items s wrap)
  unfolding first_items
  first-painted s wrap =
      each-append IsPainted (stops_item s.grid.size s.grid.width s.stops) _ (stops-painted s.grid.size s.grid.width s.stops)
      (each-append IsPainted (saved_item s.saved) _ (saved-painted s.saved)
      (each-append IsPainted (cells_item s.grid wrap) _ (cells-painted s.grid wrap)
      (margins-painted s.grid.size.rows s.margins)))

  pub placed-painted : (known : Bool) (s : Display) (col : ℕ) (wrap : Bool) → AreEach IsPainted (placed_items known s col wrap)
  unfolding placed_items
  placed-painted known s col wrap =
      each-append IsPainted (origin_item known s.modes.decom) _ (origin-item-painted known s.modes.decom)
      (each-more IsPainted (cursor_position (line_of_cursor s) col) _ (position-painted (line_of_cursor s) col)
      (each-append IsPainted (wrap_item s.grid (record s.cursor { wrap = wrap })) _
      (wrap-painted s.grid (record s.cursor { wrap = wrap }))
      (each-append IsPainted (brush_events s.brush) _ (brush-painted s.brush)
      (each-append IsPainted (sets_events s.sets) _ (sets-painted s.sets)
      (each-append IsPainted (modes_item known s.modes) _ (modes-painted known s.modes)
      (quiets-painted (shift_item s.sets.pending) (shift-quiet s.sets.pending)))))))

  pub made-painted : (s : Display) → AreEach IsPainted (made_events s)
  unfolding made_events
  made-painted s =
      each-append IsPainted (first_items s s.cursor.wrap) _ (first-painted s s.cursor.wrap)
      (placed-painted true s s.cursor.col s.cursor.wrap)

-- ---- with DECLRMM set, from the brush on

abbrev pub on_sides : PageState → Bool → Sides → Display → Screens
on_sides other alternate m s = record {
  display = s;
  pages = record { other = other; alternate = alternate; resizes = true; brackets = false; sides = Some m };
}

module _ (other : PageState) (alternate : Bool) (m : Sides) where
  abbrev between : Display → Screens
  between = on_sides other alternate m

  abbrev IsBetween : Event → Type 0
  IsBetween = IsOn between

  quiet-between : (event : Event) → IsQuiet event → IsBetween event
  quiet-between event is s = quiet-effect event is (between s)

  pub quiets-between : (events : List Event) → AreEach IsQuiet events → AreEach IsBetween events
  quiets-between events are = each-as IsQuiet IsBetween quiet-between events are

  -- ?7 resets a pending wrap
  wrapping-between : (b : Bool) → (m.wrap ≡ true → b ≡ true) → IsBetween (private_mode 7 b)
  unfolding functions_of function_in with_page_mode with_mode sequence_in sequences_any bounded_effect
  wrapping-between true is = quiet-between (private_mode 7 true) wrapping-quiet
  wrapping-between false is = λ s. go s (bounds_of (between s))
    where
      none : (w : Bool) → (w ≡ true → false ≡ true) → false ≡ w
      none true is = is refl
      none false is = refl

      made : Bool → Display → Screens
      made w s = on_sides other alternate (record m { wrap = w }) s

      go : (s : Display) (b : Option Sides)
          → effect_between (private_mode 7 false) b (between s) ≡ between (effect (private_mode 7 false) s)
      go s None = ap (λ (w : Bool). made w (effect (private_mode 7 false) s)) (none m.wrap is)
      go s (Some n) = ap (λ (w : Bool). made w (effect (private_mode 7 false) s)) (none m.wrap is)

  -- 8 to 11
  pub rest-between : (known : Bool) (s : Display) → (m.wrap ≡ true → s.modes.decawm ≡ true)
      → AreEach IsBetween
      (brush_events s.brush ++ (sets_events s.sets ++ (modes_item known s.modes ++ shift_item s.sets.pending)))
  rest-between known s is =
      each-append IsBetween (brush_events s.brush) _ (quiets-between (brush_events s.brush) (brush-quiet s.brush))
      (each-append IsBetween (sets_events s.sets) _ (quiets-between (sets_events s.sets) (sets-quiet s.sets))
      (each-append IsBetween (modes_item known s.modes) _
      (modes-each IsBetween known s.modes quiet-between (wrapping-between s.modes.decawm is))
      (quiets-between (shift_item s.sets.pending) (shift-quiet s.sets.pending))))
