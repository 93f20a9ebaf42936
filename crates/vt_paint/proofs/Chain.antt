-- From power-up on, item by item.
use Rattle.std.proofs.Common.{◌≡◌, Bool, true, false, not, cond, ◌&&◌, ℕ, ◌+◌, ◌-◌, ◌≤◌, min, max, List, [], ◌∷◌}
use Rattle.std.proofs.Common.{◌++◌, length, None, arith, refl, sym, ap, ◌∙◌, eqb, ltb}
use Rattle.vt_screen.proofs.Places.{grid_of-same, grid_of-cell_at, cell_at-grid_of, IsGrid-grid_of}
use Rattle.std.proofs.lemmas.Bool.{eqb-true, lt-ltb, ne_eqb, and_parts}
use Rattle.vt_glyph.specs.GraphicSets.{GraphicSets, AreSoundSets}
use Rattle.vt_glyph.specs.Spell.{AreSpellingSets}
use Rattle.vt_screen.specs.declared.cell.Brush.{Brush}
use Rattle.vt_screen.specs.declared.cell.Cell.{Cell}
use Rattle.vt_screen.specs.Cells.{blank, brush_of, plain_brush}
use Rattle.vt_screen.specs.declared.size.Size.{Size}
use Rattle.vt_screen.specs.Sizes.{width_of, IsSize}
use Rattle.vt_screen.specs.Grid.{Grid, IsGrid, cell_at, grid_of, blank_grid}
use Rattle.vt_term.specs.declared.state.Cursor.{Cursor}
use Rattle.vt_term.specs.declared.state.Margins.{Margins}
use Rattle.vt_term.specs.declared.state.Modes.{Modes}
use Rattle.vt_term.specs.State.{Display, bottom_row, at_place, margins_of, modes_at_power_up, saved_sets}
use Rattle.vt_term.specs.State.{saved_at_power_up}
use Rattle.vt_term.specs.Sound.{AreSoundMargins, IsSoundSizedDisplay, IsPlace}
use Rattle.vt_term.specs.Modes.{with_mode}
use Rattle.vt_term.specs.Functions.{sequence_in, effect}
use Rattle.vt_term.specs.Answers.{line_of_cursor}
use Rattle.vt_paint.specs.Same.{same_saved}
use Rattle.vt_paint.specs.Controls.{margins_to, brush_events, sets_events, spelling_sets_events, private_mode}
use Rattle.vt_paint.specs.Controls.{cursor_position, save_cursor}
use Rattle.vt_paint.specs.Pieces.{glyph_events, pieces, is_blank_grid}
use Rattle.vt_paint.specs.Items.{cells_item, margins_item, origin_item, wrap_item, modes_item, shift_item, placed_items, last_items}
use Rattle.vt_paint.specs.Items.{saved_events, saved_item}
use Rattle.vt_paint.proofs.AfterEvents.{display_after, display_after-append, Makes, MakesSome, then_makes, one_makes}
use Rattle.vt_paint.proofs.AfterEvents.{none_makes}
use Rattle.vt_paint.proofs.Tests.{not_true}
use Rattle.vt_paint.proofs.Equality.{is_blank-is, same_saved-is}
use Rattle.vt_paint.proofs.Painting.{painted, all_blank, painted_none, glyph_leaves, shown, IsReady, behind}
use Rattle.vt_paint.proofs.Painting.{AreGlyphs, pieces_leaves, cursor_leaves, put_again}
use Rattle.vt_paint.proofs.Brushes.{brush_leaves, with_sets, sets_leaves, spelling_sets, spelling_sets_leaves}
use Rattle.vt_paint.proofs.Brushes.{spelling_sets_are, spelling_sets_four, spelling_sets_none}
use Rattle.vt_paint.proofs.Stops.{with_stops}
use Rattle.vt_paint.proofs.Pushing.{blank_at}
use Rattle.vt_syntax.specs.declared.event.Event.{Event}
use Rattle.vt_syntax.specs.declared.event.Event.TheVariants.{Print}
use Rattle.vt_glyph.specs.Tables.{space}
use Rattle.vt_glyph.specs.Invocation.{glyph_read, after_read, sets_at_power_up}
use Rattle.vt_screen.specs.Same.{when}
use Rattle.vt_term.specs.State.{Saved}
use Rattle.vt_paint.specs.Private.ChangeEvents.{saved_cursor}
use Rattle.vt_paint.proofs.ModeItems.{modes_leave, shift_leaves}
use Rattle.vt_term.specs.Functions.{plain_escape_any, sequences_any}

-- s with these parts, and with some modes but for the origin
abbrev pub part : Display → Modes → Cursor → Brush → GraphicSets → Margins → Bool → Display
part s modes cursor brush sets margins origin = record s {
  cursor = cursor;
  brush = brush;
  sets = sets;
  margins = margins;
  modes = record modes { decom = origin };
}

-- ---- margins and origin

pub margins_leaves : (s : Display) (modes : Modes) (cursor : Cursor) (brush : Brush) (sets : GraphicSets) (m : Margins)
    (origin : Bool) → AreSoundMargins s.grid.size.rows m
    → MakesSome (margins_item (bottom_row s) m) (part s modes cursor brush sets (margins_of s.grid.size) origin)
    (λ cursor. part s modes cursor brush sets m origin)
unfolding display_after margins_item sequence_in sequences_any
margins_leaves s modes cursor brush sets m origin sound = go (eqb m.top 1 && eqb m.bottom s.grid.size.rows) refl
  where
    made : ℕ → ℕ → Margins
    made t b = record { top = t; bottom = b }

    go : (b : Bool) → eqb m.top 1 && eqb m.bottom s.grid.size.rows ≡ b
        → MakesSome (cond b [] (margins_to m.top m.bottom ∷ []))
        (part s modes cursor brush sets (margins_of s.grid.size) origin)
        (λ cursor. part s modes cursor brush sets m origin)
    go true e =
        let a = and_parts (eqb m.top 1) (eqb m.bottom s.grid.size.rows) e in
        let top : 1 ≡ m.top = sym (eqb-true m.top 1 a.0) in
        let bottom : s.grid.size.rows ≡ m.bottom = sym (eqb-true m.bottom s.grid.size.rows a.1) in
        record {
          some = cursor;
          makes = record {
            is = ap (λ t. part s modes cursor brush sets (made t s.grid.size.rows) origin) top
                ∙ ap (λ b. part s modes cursor brush sets (made m.top b) origin) bottom;
          };
        }
    go false e =
        let top : max m.top 1 ≡ m.top = omega (arith, sound) in
        let none : eqb m.bottom 0 ≡ false = ne_eqb m.bottom 0 (omega (arith, sound)) in
        let bottom : min m.bottom s.grid.size.rows ≡ m.bottom = omega (arith, sound) in
        let less : ltb m.top m.bottom ≡ true = lt-ltb m.top m.bottom sound.two_rows in
        record { some = at_place (cond origin m.top 1) 1; makes = record { is = rw (top, none, bottom, less) refl } }

origin_leaves : (known : Bool) (s : Display) (modes : Modes) (cursor : Cursor) (brush : Brush) (sets : GraphicSets)
    (m : Margins) (now on : Bool) → (known ≡ true → now ≡ false)
    → MakesSome (origin_item known on) (part s modes cursor brush sets m now)
    (λ cursor. part s modes cursor brush sets m on)
unfolding display_after origin_item sequence_in sequences_any with_mode
origin_leaves true s modes cursor brush sets m now true h = record { some = at_place m.top 1; makes = record { is = refl } }
origin_leaves false s modes cursor brush sets m now true h = record { some = at_place m.top 1; makes = record { is = refl } }
origin_leaves true s modes cursor brush sets m now false h = record {
  some = cursor;
  makes = record { is = ap (λ b. part s modes cursor brush sets m b) (h refl) };
}
origin_leaves false s modes cursor brush sets m now false h = record { some = at_place 1 1; makes = record { is = refl } }

-- ---- the cursor

pub line_back : (s : Display) → IsSoundSizedDisplay s
    → (cond s.modes.decom (min (s.margins.top + max (line_of_cursor s) 1 - 1) s.margins.bottom)
    (min (max (line_of_cursor s) 1) s.grid.size.rows)) ≡ s.cursor.row
line_back s i = go s.modes.decom refl
  where
    go : (b : Bool) → s.modes.decom ≡ b
        → cond b (min (s.margins.top + max (cond b (s.cursor.row - s.margins.top + 1) s.cursor.row) 1 - 1)
        s.margins.bottom) (min (max (cond b (s.cursor.row - s.margins.top + 1) s.cursor.row) 1) s.grid.size.rows) ≡ s.cursor.row
    go true e = let o = i.origin e in omega (arith, o)
    go false e = omega (arith, i.cursor.row_1, i.cursor.row_last)

position_leaves : (s : Display) (modes : Modes) (cursor : Cursor) (brush : Brush) (sets : GraphicSets)
    → IsSoundSizedDisplay s
    → Makes (cursor_position (line_of_cursor s) s.cursor.col ∷ []) (part s modes cursor brush sets s.margins s.modes.decom)
    (part s modes (at_place s.cursor.row s.cursor.col) brush sets s.margins s.modes.decom)
position_leaves s modes cursor brush sets i =
    one_makes (cursor_leaves (part s modes cursor brush sets s.margins s.modes.decom) (line_of_cursor s) s.cursor.row
    s.cursor.col i.cursor.col_1 i.cursor.col_last (line_back s i))

pub wrap_leaves : (s : Display) (modes : Modes) (brush : Brush) (sets : GraphicSets) → modes.irm ≡ false
    → modes.decawm ≡ true → IsGrid s.grid → (s.cursor.wrap ≡ true → s.cursor.col ≡ s.grid.width) → AreGlyphs s.grid
    → (s.cursor.wrap ≡ true → AreSpellingSets sets)
    → MakesSome (wrap_item s.grid s.cursor)
    (part s modes (at_place s.cursor.row s.cursor.col) brush sets s.margins s.modes.decom)
    (λ brush. part s modes s.cursor brush sets s.margins s.modes.decom)
unfolding display_after wrap_item
wrap_leaves s modes brush sets irm decawm is last are spells = go s.cursor.wrap refl
  where
    r : ℕ
    r = s.cursor.row

    c : ℕ
    c = s.cursor.col

    shape : Bool → Brush → Display
    shape w b = part s modes (record { row = r; col = c; wrap = w }) b sets s.margins s.modes.decom

    cell : Cell
    cell = cell_at s.grid r c

    go : (b : Bool) → s.cursor.wrap ≡ b
        → MakesSome (cond b (brush_events (brush_of cell) ++ glyph_events cell) []) (shape false brush)
        (λ brush. shape s.cursor.wrap brush)
    go false e = record { some = brush; makes = none_makes (ap (λ w. shape w brush) (sym e)) }
    go true e = record {
      some = brush_of cell;
      makes = then_makes (brush_leaves (shape false brush) (brush_of cell)) (record {
        is = glyph_leaves (shape false (brush_of cell)) cell (spells e) (are r c)
            ∙ put_again (shape false (brush_of cell)) r c cell refl (last e) is irm decawm
            ∙ ap (λ w. shape w (brush_of cell)) (sym e);
      });
    }

-- ---- the saved record: all that is saved is made, and saved

-- what is to be saved, as a display
abbrev pub recorded : Display → Modes → Display
recorded s modes = record s {
  cursor = saved_cursor s.saved;
  brush = s.saved.brush;
  sets = saved_sets s.saved;
  margins = margins_of s.grid.size;
  modes = record modes { decom = s.saved.origin };
  saved = saved_at_power_up;
}

line_on : (rows : ℕ) (origin : Bool) (r : ℕ) → 1 ≤ r → r ≤ rows
    → cond origin (min (1 + max r 1 - 1) rows) (min (max r 1) rows) ≡ r
line_on rows true r h k = omega arith
line_on rows false r h k = omega arith

save_leaves : (s : Display) (modes : Modes) (sets : GraphicSets)
    → effect save_cursor (with_sets (part (recorded s modes) modes (saved_cursor s.saved) s.saved.brush sets
    (margins_of s.grid.size) s.saved.origin) s.saved.g s.saved.gl s.saved.gr)
    ≡ part s modes (saved_cursor s.saved) s.saved.brush
    (record sets { g = s.saved.g; left = s.saved.gl; right = s.saved.gr }) (margins_of s.grid.size) s.saved.origin
unfolding plain_escape_any
save_leaves s modes sets = refl

-- by the events of its wrap flag, and then some others
pub record_leaves : (s z : Display) (modes : Modes) (cursor : Cursor) (brush made : Brush) (sets : GraphicSets)
    (wraps rest : List Event)
    → IsPlace s.grid.size.rows s.grid.width s.saved.row s.saved.col s.saved.wrap → AreSoundSets (saved_sets s.saved)
    → length sets.g ≡ 4
    → Makes wraps
    (part (recorded s modes) modes (at_place s.saved.row s.saved.col) brush sets (margins_of s.grid.size) s.saved.origin)
    (part (recorded s modes) modes (saved_cursor s.saved) made sets (margins_of s.grid.size) s.saved.origin)
    → Makes rest (part s modes (saved_cursor s.saved) s.saved.brush
    (record sets { g = s.saved.g; left = s.saved.gl; right = s.saved.gr }) (margins_of s.grid.size) s.saved.origin) z
    → Makes (origin_item true s.saved.origin
    ++ (cursor_position s.saved.row s.saved.col ∷ (wraps ++ (brush_events s.saved.brush
    ++ (sets_events (saved_sets s.saved) ++ save_cursor ∷ rest)))))
    (part (recorded s modes) modes cursor brush sets (margins_of s.grid.size) false) z
record_leaves s z modes cursor brush made sets wraps rest place sound four wrapped behind =
    let d = recorded s modes in
    let m = margins_of s.grid.size in
    let origin = s.saved.origin in
    let w = origin_leaves true d modes cursor brush sets m false origin (λ e. refl) in
    then_makes w.makes (then_makes (one_makes (cursor_leaves (part d modes w.some brush sets m origin)
    s.saved.row s.saved.row s.saved.col place.col_1 place.col_last (line_on s.grid.size.rows origin s.saved.row place.row_1 place.row_last)))
    (then_makes wrapped (then_makes (brush_leaves _ s.saved.brush)
    (then_makes (sets_leaves (part d modes (saved_cursor s.saved) s.saved.brush sets m origin)
    (saved_sets s.saved) four sound) (then_makes (one_makes (save_leaves s modes sets)) behind)))))

-- power-up of a size with this width, these stops, this saved record with its brush and its sets, and this cursor
abbrev pub with_saved : Size → Bool → List Bool → Saved → Cursor → Display
with_saved size wide stops saved cursor = record (with_stops size wide stops cursor) {
  saved = saved;
  brush = saved.brush;
  sets = saved_sets saved;
}

-- a space in the last column of a blank grid leaves a blank cell, and the wrap flag
space_leaves : (size : Size) (wide : Bool) (s : Display) → IsSize size
    → IsPlace size.rows (width_of size wide) s.saved.row s.saved.col s.saved.wrap
    → s.grid ≡ blank_grid size wide
    → Makes (when s.saved.wrap (Print space ∷ []))
    (part (recorded s modes_at_power_up) modes_at_power_up (at_place s.saved.row s.saved.col) plain_brush sets_at_power_up
    (margins_of s.grid.size) s.saved.origin)
    (part (recorded s modes_at_power_up) modes_at_power_up (saved_cursor s.saved) plain_brush sets_at_power_up
    (margins_of s.grid.size) s.saved.origin)
unfolding display_after glyph_read after_read
space_leaves size wide s sized place on_blank = go s.saved.wrap refl
  where
    shape : Bool → Display
    shape w = part (recorded s modes_at_power_up) modes_at_power_up
        (record { row = s.saved.row; col = s.saved.col; wrap = w }) plain_brush sets_at_power_up (margins_of s.grid.size)
        s.saved.origin

    go : (b : Bool) → s.saved.wrap ≡ b → Makes (when b (Print space ∷ [])) (shape false) (shape s.saved.wrap)
    go false e = none_makes (ap shape (sym e))
    go true e =
        let here : blank ≡ cell_at s.grid s.saved.row s.saved.col =
        rw on_blank (sym (cell_at-grid_of blank size (width_of size wide) (λ r c. blank) s.saved.row s.saved.col place.row_1
        place.row_last place.col_1 place.col_last)) in
        let last : s.saved.col ≡ s.grid.width = rw on_blank (place.wrap_last e) in
        let is : IsGrid s.grid = rw on_blank (IsGrid-grid_of size (width_of size wide) _ sized (wide, refl)) in
        record {
          is = put_again (shape false) s.saved.row s.saved.col blank here last is refl refl ∙ ap shape (sym e);
        }

-- DECOM reset again
off_leaves : (size : Size) (wide : Bool) (s : Display) (origin : Bool)
    → MakesSome (when origin (private_mode 6 false ∷ []))
    (record (with_saved size wide s.stops s.saved (saved_cursor s.saved)) {
      modes = record modes_at_power_up { decom = origin };
    })
    (with_saved size wide s.stops s.saved)
unfolding display_after sequence_in sequences_any with_mode
off_leaves size wide s true = record { some = at_place 1 1; makes = record { is = refl } }
off_leaves size wide s false = record { some = saved_cursor s.saved; makes = record { is = refl } }

origin_when : (origin : Bool) → origin_item true origin ≡ when origin (private_mode 6 true ∷ [])
unfolding origin_item
origin_when true = refl
origin_when false = refl

pub saved_leaves : (size : Size) (wide : Bool) (s : Display) (cursor : Cursor) → IsSize size
    → IsPlace size.rows (width_of size wide) s.saved.row s.saved.col s.saved.wrap → AreSoundSets (saved_sets s.saved)
    → MakesSome (saved_item s.saved) (with_stops size wide s.stops cursor) (with_saved size wide s.stops s.saved)
unfolding saved_item saved_events
saved_leaves size wide s cursor sized place sets = go (same_saved s.saved saved_at_power_up) refl
  where
    on_blank : Display
    on_blank = record s { grid = blank_grid size wide }

    go : (b : Bool) → same_saved s.saved saved_at_power_up ≡ b
        → MakesSome (when (not b) (saved_events s.saved)) (with_stops size wide s.stops cursor)
        (with_saved size wide s.stops s.saved)
    go true e = record {
      some = cursor;
      makes = none_makes (ap (λ s'. with_saved size wide s.stops s' cursor) (sym (same_saved-is s.saved saved_at_power_up e)));
    }
    go false e =
        let w = off_leaves size wide s s.saved.origin in
        record {
          some = w.some;
          makes =
              rw (← origin_when s.saved.origin) (record_leaves on_blank _ modes_at_power_up cursor plain_brush plain_brush
              sets_at_power_up _ _ place sets refl (space_leaves size wide on_blank sized place refl) w.makes);
        }

-- ---- the cells

pub record HasCells (s : Display) (wrap : Bool) (x : Display) : Type 0 where
  pub cursor : Cursor
  pub brush : Brush
  pub sets : GraphicSets
  pub is : x ≡ part s modes_at_power_up cursor brush sets (margins_of s.grid.size) false
  pub four : length sets.g ≡ 4
  pub none : sets.pending ≡ None
  pub spells : wrap ≡ true → AreSpellingSets sets

blank_grid-is : (wide : Bool) (g : Grid) → g.width ≡ width_of g.size wide → IsGrid g → is_blank_grid g ≡ true
    → blank_grid g.size wide ≡ g
unfolding is_blank_grid
blank_grid-is wide g w is h =
    ap (λ n. grid_of g.size n (λ r c. blank)) (sym w)
    ∙ grid_of-same g.size g.width (λ r c. blank) (cell_at g)
    (λ r c r1 rn c1 cw. sym (is_blank-is (cell_at g r c) (blank_at g g.size.rows r c h r1 (omega arith) c1 cw)))
    ∙ grid_of-cell_at blank g is.cells

pub cells_leaves : (wide : Bool) (s : Display) (wrap : Bool) (cursor : Cursor) → s.grid.width ≡ width_of s.grid.size wide → IsGrid s.grid
    → AreGlyphs s.grid → AreSoundSets (saved_sets s.saved)
    → HasCells s wrap (display_after (with_saved s.grid.size wide s.stops s.saved cursor) (cells_item s.grid wrap))
unfolding display_after cells_item
cells_leaves wide s wrap cursor w is are sets = go (is_blank_grid s.grid && not wrap) refl
  where
    x0 : Display
    x0 = with_saved s.grid.size wide s.stops s.saved cursor

    t : GraphicSets
    t = spelling_sets (saved_sets s.saved)

    base : Display
    base = record x0 { sets = t }

    go : (b : Bool) → is_blank_grid s.grid && not wrap ≡ b
        → HasCells s wrap (display_after x0 (cond b [] (spelling_sets_events ++ pieces s.grid)))
    go true e =
        let p = and_parts (is_blank_grid s.grid) (not wrap) e in
        record {
          cursor = cursor;
          brush = s.saved.brush;
          sets = saved_sets s.saved;
          is = ap (λ g. record x0 { grid = g }) (blank_grid-is wide s.grid w is p.0);
          four = sets.four;
          none = refl;
          spells = λ h. absurd (cc (h, not_true wrap p.1));
        }
    go false e =
        let spells = spelling_sets_are (saved_sets s.saved) sets.four refl in
        let ready : IsReady base = record { sets = spells; irm = refl; decawm = refl; decom = refl } in
        let on_blank : blank_grid s.grid.size wide ≡ painted all_blank s.grid 1 1 =
        ap (λ n. grid_of s.grid.size n all_blank) (sym w) ∙ painted_none all_blank s.grid in
        let painted_is = (spelling_sets_leaves x0).is ∙ ap (λ g. shown base g cursor s.saved.brush) on_blank in
        let v = pieces_leaves base s.grid (display_after x0 spelling_sets_events) cursor s.saved.brush
        ready is are painted_is in
        record {
          cursor = v.cursor;
          brush = v.brush;
          sets = t;
          is = display_after-append x0 spelling_sets_events (pieces s.grid) ∙ v.is;
          four = spelling_sets_four (saved_sets s.saved) sets.four;
          none = spelling_sets_none (saved_sets s.saved) refl;
          spells = λ h. spells;
        }

-- ---- the last items

-- 8 to 11, at the cursor
pub rest_leaves : (known : Bool) (s : Display) (modes : Modes) (brush : Brush) (sets : GraphicSets)
    → (known ≡ true → modes ≡ modes_at_power_up) → IsSoundSizedDisplay s → length sets.g ≡ 4 → sets.pending ≡ None
    → Makes (brush_events s.brush ++ (sets_events s.sets ++ (modes_item known s.modes ++ shift_item s.sets.pending)))
    (part s modes s.cursor brush sets s.margins s.modes.decom) s
rest_leaves known s modes brush sets is_known i four none =
    let x5 = part s modes s.cursor s.brush sets s.margins s.modes.decom in
    let x6 = with_sets x5 s.sets.g s.sets.left s.sets.right in
    then_makes (brush_leaves _ s.brush) (then_makes (sets_leaves x5 s.sets four i.sets)
    (then_makes (modes_leave known x6 modes s.modes is_known i.wrap)
    (shift_leaves (record x6 { modes = s.modes }) s.sets.pending i.sets.pending none)))

pub placed_leaves : (known : Bool) (s : Display) (modes : Modes) (cursor : Cursor) (brush : Brush) (sets : GraphicSets)
    (origin : Bool)
    → (known ≡ true → modes ≡ modes_at_power_up) → (known ≡ true → origin ≡ false)
    → modes.irm ≡ false → modes.decawm ≡ true → IsSoundSizedDisplay s → AreGlyphs s.grid
    → length sets.g ≡ 4 → sets.pending ≡ None → (s.cursor.wrap ≡ true → AreSpellingSets sets)
    → Makes (placed_items known s s.cursor.col s.cursor.wrap) (part s modes cursor brush sets s.margins origin) s
unfolding placed_items
placed_leaves known s modes cursor brush sets origin is_known was irm decawm i are four none spells =
    let w2 = origin_leaves known s modes cursor brush sets s.margins origin s.modes.decom was in
    let w4 = wrap_leaves s modes brush sets irm decawm i.grid.shape i.cursor.wrap_last are spells in
    then_makes w2.makes (then_makes (position_leaves s modes w2.some brush sets i)
    (then_makes w4.makes (rest_leaves known s modes w4.some sets is_known i four none)))

pub last_leaves : (known : Bool) (s : Display) (modes : Modes) (cursor : Cursor) (brush : Brush) (sets : GraphicSets)
    (origin : Bool)
    → (known ≡ true → modes ≡ modes_at_power_up) → (known ≡ true → origin ≡ false)
    → modes.irm ≡ false → modes.decawm ≡ true → IsSoundSizedDisplay s → AreGlyphs s.grid
    → length sets.g ≡ 4 → sets.pending ≡ None → (s.cursor.wrap ≡ true → AreSpellingSets sets)
    → Makes (last_items known s) (part s modes cursor brush sets (margins_of s.grid.size) origin) s
unfolding last_items
last_leaves known s modes cursor brush sets origin is_known was irm decawm i are four none spells =
    let w1 = margins_leaves s modes cursor brush sets s.margins origin i.margins in
    then_makes w1.makes
    (placed_leaves known s modes w1.some brush sets origin is_known was irm decawm i are four none spells)
