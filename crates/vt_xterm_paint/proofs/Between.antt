-- The items that follow left and right margins lead to the display that is shown, and to these margins.
use Rattle.std.proofs.Common.{◌≡◌, Bool, true, false, not, cond, ◌&&◌, ◌||◌, ℕ, ◌+◌, ◌-◌, ◌≤◌, ◌<◌, min, max, List, [], ◌∷◌, ◌++◌}
use Rattle.std.proofs.Common.{length, Option, Some, None, arith, refl, sym, ap, ◌∙◌, eqb, ltb, leb}
use Rattle.std.proofs.lemmas.Bool.{and_parts, lt-ltb, ne_eqb}
use Rattle.std.proofs.lemmas.Bool.Decides.{nat_tests}
use Rattle.vt_syntax.specs.declared.event.Event.{Event}
use Rattle.vt_syntax.specs.declared.event.Event.TheVariants.{Print, Control}
use Rattle.vt_glyph.specs.declared.glyph.Spelling.{Spelling}
use Rattle.vt_glyph.specs.declared.glyph.Spelling.TheVariants.{Plain, Second, Third}
use Rattle.vt_glyph.specs.GraphicSets.{GraphicSets}
use Rattle.vt_glyph.specs.Invocation.{glyph_read, after_read}
use Rattle.vt_glyph.specs.Spell.{spelling_of, code_of, shifted_for, AreSpellingSets}
use Rattle.vt_glyph.specs.Tables.{IsGlyph}
use Rattle.vt_glyph.proofs.Spelled.{spelling_writes, spelling_leaves}
use Rattle.vt_screen.specs.declared.cell.Brush.{Brush}
use Rattle.vt_screen.specs.declared.cell.Cell.{Cell}
use Rattle.vt_screen.specs.Cells.{brush_of, cell_of}
use Rattle.vt_screen.specs.Grid.{Grid, cell_at, put}
use Rattle.vt_term.specs.declared.state.Cursor.{Cursor}
use Rattle.vt_term.specs.State.{Display, at_place, modes_at_power_up}
use Rattle.vt_term.specs.Sound.{IsSoundSizedDisplay}
use Rattle.vt_term.specs.Pages.{PageState}
use Rattle.vt_term.specs.Writing.{write_glyph}
use Rattle.vt_term.specs.Functions.{effect}
use Rattle.vt_term.specs.Reports.{report}
use Rattle.vt_term.specs.Answers.{line_of_cursor}
use Rattle.vt_paint.specs.Controls.{private_mode, cursor_position, brush_events, sets_events, spelling_events}
use Rattle.vt_paint.specs.Pieces.{glyph_events}
use Rattle.vt_paint.specs.Items.{origin_item, wrap_item, modes_item, shift_item, placed_items}
use Rattle.vt_paint.proofs.Equality.{or_false}
use Rattle.vt_paint.proofs.Brushes.{brush_leaves}
use Rattle.vt_paint.proofs.Painting.{put_same, put_again, cursor_leaves}
use Rattle.vt_paint.proofs.Chain.{part, line_back, rest_leaves}
use Rattle.vt_paint.proofs.Within.{brush_within, rest_within, sound_glyphs}
use Rattle.vt_xterm.specs.declared.sides.Sides.{Sides}
use Rattle.vt_xterm.specs.Sides.{AreSides, FitsMargins, full_sides, are_narrow, bounds, is_pending}
use Rattle.vt_xterm.specs.Pages.{Screens, on_display, with_page_mode, bounds_of, set_sides, origin_mode_between, sided_origin_mode, unwrapped}
use Rattle.vt_xterm.specs.Bounded.{bounded_effect, bounded_in, has_row, other_between, writing, writing_if_read}
use Rattle.vt_xterm.specs.Front.{functions_of, function_in, effect_between, xterm_effect}
use Rattle.vt_xterm.specs.Play.{after_events, reports_of}
use Rattle.vt_xterm_paint.specs.Repaint.{sides_item, sides_to, column_named}
use Rattle.vt_xterm_paint.proofs.Painted.{on_pages, on_sides, brush-quiet, single-quiet, quiet-effect, quiets-between, rest-between}
use Rattle.vt_xterm_paint.proofs.Leading.{Leads, then-leads, one-leads, none-leads, on-leads}
use Rattle.vt_term.specs.Reports.{control_report_any, sequence_report_any}
use Rattle.vt_term.specs.Functions.{control_any, sequences_any}

-- ---- margins that leave a column out, or none

narrow-bounds : (width : ℕ) (m : Sides) → are_narrow width m ≡ true → bounds width (Some m) ≡ Some m
unfolding bounds
narrow-bounds width m is = ap (λ (b : Bool). cond b (Some m) None) is

full-bounds : (width : ℕ) (m : Sides) → are_narrow width m ≡ false → bounds width (Some m) ≡ None
unfolding bounds
full-bounds width m is = ap (λ (b : Bool). cond b (Some m) None) is

full-is : (width : ℕ) (m : Sides) → AreSides width m → are_narrow width m ≡ false → (m.left ≡ 1) × (m.right ≡ width)
full-is width m fits is =
    let one = fits.from_column_1 in
    let two = fits.two_columns in
    let last = fits.to_last_column in
    (grind (arith, nat_tests, is, one, two, last), grind (arith, nat_tests, is, one, two, last))

-- between them, without a pending wrap
abbrev settled : Sides → Sides
settled m = record m { wrap = false }

-- cursor events that lead to some cursor
record LeadsTo {A : Type 0} (events : List Event) (x : Screens) (f : A → Screens) : Type 0 where
  some : A
  leads : Leads events x (f some)

module _ (other : PageState) (alternate : Bool) (s : Display) (m : Sides) (sets : GraphicSets) (i : IsSoundSizedDisplay s)
    (fits : FitsMargins m s) where
  -- s with this cursor and brush, as the modes of power-up are but for DECOM
  abbrev shape : Cursor → Brush → Bool → Display
  shape cursor brush origin = part s modes_at_power_up cursor brush sets s.margins origin

  abbrev plain : Cursor → Brush → Screens
  plain cursor brush = on_pages other alternate (shape cursor brush false)

  abbrev placed : Cursor → Brush → Bool → Screens
  placed cursor brush origin = on_sides other alternate (settled m) (shape cursor brush origin)

  -- ---- ?69 and DECSLRM

  sides-lead : (cursor : Cursor) (brush : Brush)
      → Leads (sides_item (Some m)) (plain cursor brush) (placed (at_place 1 1) brush false)
  unfolding functions_of function_in with_page_mode bounds sequences_any sequence_report_any bounded_effect bounded_in has_row other_between
  sides-lead cursor brush =
      then-leads (private_mode 69 true ∷ []) (sides_to m.left m.right ∷ []) (plain cursor brush) full
      (placed (at_place 1 1) brush false) (one-leads (private_mode 69 true) (plain cursor brush) full refl refl)
      (one-leads (sides_to m.left m.right) full (placed (at_place 1 1) brush false) (by (bounds_of full) ∙ set) refl)
    where
      full : Screens
      full = on_sides other alternate (full_sides s.grid.width) (shape cursor brush false)

      by : (b : Option Sides) → effect_between (sides_to m.left m.right) b full ≡ set_sides m.left m.right full
      by None = refl
      by (Some n) = refl

      set : set_sides m.left m.right full ≡ placed (at_place 1 1) brush false
      set =
          let left : max m.left 1 ≡ m.left = omega (arith, fits.sides.from_column_1) in
          let none : eqb m.right 0 ≡ false = ne_eqb m.right 0 (omega (arith, fits.sides.two_columns)) in
          let right : min m.right s.grid.width ≡ m.right = omega (arith, fits.sides.to_last_column) in
          let less : ltb m.left m.right ≡ true = lt-ltb m.left m.right fits.sides.two_columns in
          rw (left, none, right, less) refl

  -- ---- DECOM

  origin-lead : (cursor : Cursor) (brush : Brush) (on : Bool)
      → LeadsTo (origin_item true on) (placed cursor brush false) (λ cursor. placed cursor brush on)
  unfolding origin_item functions_of function_in with_page_mode bounded_effect sequences_any sequence_report_any
  origin-lead cursor brush false = record { some = cursor; leads = none-leads _ _ refl }
  origin-lead cursor brush true = record {
    some = home (bounds_of x);
    leads = one-leads (private_mode 6 true) x _ (outer (bounds_of x) ∙ inner (bounds_of x)) quiet;
  }
    where
      x : Screens
      x = placed cursor brush false

      home : Option Sides → Cursor
      home None = at_place s.margins.top 1
      home (Some n) = at_place s.margins.top n.left

      outer : (b : Option Sides) → effect_between (private_mode 6 true) b x ≡ origin_mode_between true x
      outer None = refl
      outer (Some n) = refl

      inner : (b : Option Sides) → unwrapped (sided_origin_mode true b x) ≡ placed (home b) brush true
      inner None = refl
      inner (Some n) = refl

      quiet : report (private_mode 6 true) x.display ≡ []
      quiet = refl

  -- ---- the cursor

  abbrev origin : Bool
  origin = s.modes.decom

  abbrev here : Cursor
  here = at_place s.cursor.row s.cursor.col

  abbrev named : ℕ
  named = column_named (Some m) s

  abbrev line : ℕ
  line = line_of_cursor s

  -- under DECOM the cursor is between the margins
  inside : s.modes.decom ≡ true → (m.left ≤ s.cursor.col) × (s.cursor.col ≤ m.right)
  inside e =
      let is = fits.origin e in
      (grind (arith, nat_tests, is), grind (arith, nat_tests, is))

  column-back : (cond s.modes.decom (min (m.left + max named 1 - 1) m.right) (min (max named 1) s.grid.width)) ≡ s.cursor.col
  column-back = go s.modes.decom refl
    where
      go : (b : Bool) → s.modes.decom ≡ b
          → cond b (min (m.left + max (cond b (s.cursor.col - m.left + 1) s.cursor.col) 1 - 1) m.right)
          (min (max (cond b (s.cursor.col - m.left + 1) s.cursor.col) 1) s.grid.width) ≡ s.cursor.col
      go true e = let o = inside e in omega (arith, o)
      go false e = omega (arith, i.cursor.col_1, i.cursor.col_last)

  -- counted from column 1
  same-column : m.left ≡ 1 → named ≡ s.cursor.col
  same-column first = go s.modes.decom
    where
      go : (b : Bool) → cond b (s.cursor.col - m.left + 1) s.cursor.col ≡ s.cursor.col
      go true = omega (arith, first, i.cursor.col_1)
      go false = refl

  place-lead : (cursor : Cursor) (brush : Brush)
      → Leads (cursor_position line named ∷ []) (placed cursor brush origin) (placed here brush origin)
  unfolding functions_of function_in bounded_effect bounded_in has_row sequences_any sequence_report_any
  place-lead cursor brush = one-leads (cursor_position line named) x _ (go (are_narrow s.grid.width m) refl) refl
    where
      x : Screens
      x = placed cursor brush origin

      made : ℕ → ℕ → Screens
      made r c = placed (at_place r c) brush origin

      go : (b : Bool) → are_narrow s.grid.width m ≡ b → xterm_effect (cursor_position line named) x ≡ placed here brush origin
      go true e =
          ap (λ (b : Option Sides). effect_between (cursor_position line named) b x)
          (narrow-bounds s.grid.width (settled m) e)
          ∙ ap (λ (r : ℕ). made r (cond s.modes.decom (min (m.left + max named 1 - 1) m.right) (min (max named 1) s.grid.width)))
          (line_back s i)
          ∙ ap (λ (c : ℕ). made s.cursor.row c) column-back
      go false e =
          let full = full-is s.grid.width m fits.sides e in
          ap (λ (b : Option Sides). effect_between (cursor_position line named) b x)
          (full-bounds s.grid.width (settled m) e)
          ∙ ap (λ (c : ℕ). on_display (effect (cursor_position line c)) x) (same-column full.0)
          ∙ ap (λ (d : Display). on_sides other alternate (settled m) d)
          (cursor_leaves x.display line s.cursor.row s.cursor.col i.cursor.col_1 i.cursor.col_last (line_back s i))

  -- ---- a pending wrap: the cell under the cursor is written once more

  abbrev cell : Cell
  cell = cell_at s.grid s.cursor.row s.cursor.col

  abbrev look : Brush
  look = brush_of cell

  abbrev wrapped : Bool → Cursor
  wrapped wrap = record { row = s.cursor.row; col = s.cursor.col; wrap = wrap }

  -- where the wrap is
  again-at : (c right width : ℕ) (w v : Bool) → v || w ≡ true → (w ≡ true → c ≡ width)
      → (v ≡ true → (eqb c right && ltb right width) ≡ true) → right ≤ width → c ≤ width
      → (ltb c (cond (leb c right) right width) ≡ false) × (eqb c width ≡ w) × ((eqb c right && ltb right width) ≡ v)
  again-at c right width true true some last mid small few =
      let a = last refl in
      let b = mid refl in
      let same : c ≡ right = grind (arith, nat_tests, b) in
      let less : right < width = grind (arith, nat_tests, b) in
      absurd (omega (arith, a, same, less))
  again-at c right width true false some last mid small few =
      let a = last refl in
      (grind (arith, nat_tests, a, small), grind (arith, nat_tests, a), grind (arith, nat_tests, a, small))
  again-at c right width false true some last mid small few =
      let b = mid refl in
      (grind (arith, nat_tests, b), grind (arith, nat_tests, b), b)
  again-at c right width false false some last mid small few = absurd (cc some)

  -- the spelling up to its graphic byte, which is then read
  spelled-before : (x : Display) (spelling : Spelling) (b : Option Sides) → bounds x.grid.width (Some (settled m)) ≡ b
      → after_events (spelling_events spelling) (on_sides other alternate (settled m) x)
      ≡ effect_between (Print (code_of spelling)) b
      (on_sides other alternate (settled m) (record x { sets = shifted_for spelling x.sets }))
  unfolding control_any
  spelled-before x (Plain code) b is =
      ap (λ (b : Option Sides). effect_between (Print code) b (on_sides other alternate (settled m) x)) is
  spelled-before x (Second code) b is =
      ap (λ (t : Screens). xterm_effect (Print code) t)
      (quiet-effect (Control 0x8E) (single-quiet true) (on_sides other alternate (settled m) x))
      ∙ ap (λ (b : Option Sides). effect_between (Print code) b
      (on_sides other alternate (settled m) (record x { sets = shifted_for (Second code) x.sets }))) is
  spelled-before x (Third code) b is =
      ap (λ (t : Screens). xterm_effect (Print code) t)
      (quiet-effect (Control 0x8F) (single-quiet false) (on_sides other alternate (settled m) x))
      ∙ ap (λ (b : Option Sides). effect_between (Print code) b
      (on_sides other alternate (settled m) (record x { sets = shifted_for (Third code) x.sets }))) is

  read-narrow : (x : Display) (t : GraphicSets) (code n : ℕ) → glyph_read t code ≡ Some n → after_read t code ≡ x.sets
      → effect_between (Print code) (Some (settled m)) (on_sides other alternate (settled m) (record x { sets = t }))
      ≡ writing n (settled m) (on_sides other alternate (settled m) x)
  unfolding bounded_effect
  read-narrow x t code n reads leaves =
      ap (λ (g : Option ℕ). writing_if_read g (settled m)
      (on_sides other alternate (settled m) (record x { sets = after_read t code }))) reads
      ∙ ap (λ (u : GraphicSets). writing n (settled m) (on_sides other alternate (settled m) (record x { sets = u }))) leaves

  read-full : (x : Display) (t : GraphicSets) (code n : ℕ) → glyph_read t code ≡ Some n → after_read t code ≡ x.sets
      → effect (Print code) (record x { sets = t }) ≡ write_glyph n x
  read-full x t code n reads leaves = rw (reads, leaves) refl

  -- the cell is there already
  same-grid : put s.grid s.cursor.row s.cursor.col (cell_of cell.glyph look) ≡ s.grid
  same-grid = put_same s.grid s.cursor.row s.cursor.col i.grid.shape

  again-narrow : m.wrap || s.cursor.wrap ≡ true
      → writing cell.glyph (settled m) (placed here look origin) ≡ on_sides other alternate m (shape s.cursor look origin)
  again-narrow some =
      let r = s.cursor.row in
      let c = s.cursor.col in
      let w = s.grid.width in
      let mid : m.wrap ≡ true → (eqb c m.right && ltb m.right w) ≡ true =
      λ e. (and_parts s.modes.decawm (eqb c m.right && ltb m.right w) (fits.wrap e)).1 in
      let at = again-at c m.right w s.cursor.wrap m.wrap some i.cursor.wrap_last mid fits.sides.to_last_column
      i.cursor.col_last in
      let less = ltb c (cond (leb c m.right) m.right w) in
      ap (λ (v : Bool). made v (put s.grid r c (cell_of cell.glyph look)) less (eqb c w)) at.2
      ∙ ap (λ (g : Grid). made m.wrap g less (eqb c w)) same-grid
      ∙ ap (λ (l : Bool). made m.wrap s.grid l (eqb c w)) at.0
      ∙ ap (λ (e : Bool). made m.wrap s.grid false e) at.1
    where
      made : Bool → Grid → Bool → Bool → Screens
      made v g less e =
          on_sides other alternate (record m { wrap = v })
          (record (shape (cond less (at_place s.cursor.row (s.cursor.col + 1)) (wrapped e)) look origin) { grid = g })

  again-full : are_narrow s.grid.width m ≡ false → m.wrap || s.cursor.wrap ≡ true
      → on_sides other alternate (settled m) (write_glyph cell.glyph (shape here look origin))
      ≡ on_sides other alternate m (shape s.cursor look origin)
  again-full full some =
      let w = s.grid.width in
      let right = (full-is w m fits.sides full).1 in
      let mid : m.wrap ≡ true → (eqb s.cursor.col m.right && ltb m.right w) ≡ true =
      λ e. (and_parts s.modes.decawm (eqb s.cursor.col m.right && ltb m.right w) (fits.wrap e)).1 in
      let no = not-wrapping m.wrap right mid in
      let yes : s.cursor.wrap ≡ true = ap (λ (v : Bool). v || s.cursor.wrap) (sym no) ∙ some in
      ap (λ (d : Display). on_sides other alternate (settled m) d)
      (put_again (shape here look origin) s.cursor.row s.cursor.col cell refl (i.cursor.wrap_last yes) i.grid.shape refl refl)
      ∙ ap (λ (e : Bool). on_sides other alternate (settled m) (shape (wrapped e) look origin)) (sym yes)
      ∙ ap (λ (v : Bool). on_sides other alternate (record m { wrap = v }) (shape s.cursor look origin)) (sym no)
    where
      not-wrapping : (v : Bool) → m.right ≡ s.grid.width
          → (v ≡ true → (eqb s.cursor.col m.right && ltb m.right s.grid.width) ≡ true) → v ≡ false
      not-wrapping true right mid =
          let b = mid refl in
          let less : m.right < s.grid.width = grind (arith, nat_tests, b) in
          absurd (omega (arith, right, less))
      not-wrapping false right mid = refl

  glyph-lead : IsGlyph cell.glyph → AreSpellingSets sets → m.wrap || s.cursor.wrap ≡ true
      → Leads (glyph_events cell) (placed here look origin) (on_sides other alternate m (shape s.cursor look origin))
  unfolding glyph_events control_report_any
  glyph-lead is spells some = record { is = go (are_narrow s.grid.width m) refl; silent = quiet spelling (placed here look origin) }
    where
      spelling : Spelling
      spelling = spelling_of cell.glyph

      code : ℕ
      code = code_of spelling

      t : GraphicSets
      t = shifted_for spelling sets

      reads : glyph_read t code ≡ Some cell.glyph
      reads = spelling_writes sets cell.glyph spells is

      leaves : after_read t code ≡ sets
      leaves = spelling_leaves sets cell.glyph spells is

      go : (b : Bool) → are_narrow s.grid.width m ≡ b
          → after_events (spelling_events spelling) (placed here look origin)
          ≡ on_sides other alternate m (shape s.cursor look origin)
      go true e =
          spelled-before (shape here look origin) spelling (Some (settled m)) (narrow-bounds s.grid.width (settled m) e)
          ∙ read-narrow (shape here look origin) t code cell.glyph reads leaves ∙ again-narrow some
      go false e =
          spelled-before (shape here look origin) spelling None (full-bounds s.grid.width (settled m) e)
          ∙ ap (λ (d : Display). on_sides other alternate (settled m) d)
          (read-full (shape here look origin) t code cell.glyph reads leaves)
          ∙ again-full e some

      quiet : (spelling : Spelling) (x : Screens) → reports_of (spelling_events spelling) x ≡ []
      quiet (Plain code) x = refl
      quiet (Second code) x = refl
      quiet (Third code) x = refl

  wrap-lead : (brush : Brush) → (m.wrap || s.cursor.wrap ≡ true → AreSpellingSets sets)
      → LeadsTo (wrap_item s.grid (record s.cursor { wrap = m.wrap || s.cursor.wrap })) (placed here brush origin)
      (λ brush. on_sides other alternate m (shape s.cursor brush origin))
  unfolding wrap_item
  wrap-lead brush spells = go (m.wrap || s.cursor.wrap) refl
    where
      go : (b : Bool) → m.wrap || s.cursor.wrap ≡ b
          → LeadsTo (cond b (brush_events look ++ glyph_events cell) []) (placed here brush origin)
          (λ brush. on_sides other alternate m (shape s.cursor brush origin))
      go false e =
          let no = or_false m.wrap s.cursor.wrap e in
          record {
            some = brush;
            leads = none-leads _ _ (ap (λ (w : Bool). on_sides other alternate (settled m) (shape (wrapped w) brush origin)) (sym no.1)
                ∙ ap (λ (v : Bool). on_sides other alternate (record m { wrap = v }) (shape s.cursor brush origin)) (sym no.0));
          }
      go true e = record {
        some = look;
        leads = then-leads (brush_events look) (glyph_events cell) (placed here brush origin) (placed here look origin) _
            (on-leads (on_sides other alternate (settled m)) (λ d. refl) (brush_events look) (shape here brush origin)
            (shape here look origin) (quiets-between other alternate (settled m) (brush_events look) (brush-quiet look))
            (brush_within look).silent (brush_leaves (shape here brush origin) look))
            (glyph-lead (sound_glyphs s i s.cursor.row s.cursor.col) (spells e) e);
      }

  -- ---- all of them

  placed-lead : (cursor : Cursor) (brush : Brush) → length sets.g ≡ 4 → sets.pending ≡ None
      → (is_pending m s ≡ true → AreSpellingSets sets)
      → Leads (placed_items true s named (is_pending m s)) (placed cursor brush false) (on_sides other alternate m s)
  unfolding placed_items
  placed-lead cursor brush four none spells =
      let o = origin-lead cursor brush s.modes.decom in
      let w = wrap-lead brush spells in
      let wraps : m.wrap ≡ true → s.modes.decawm ≡ true = λ e. (and_parts s.modes.decawm _ (fits.wrap e)).0 in
      let es = brush_events s.brush ++ (sets_events s.sets ++ (modes_item true s.modes ++ shift_item s.sets.pending)) in
      then-leads (origin_item true s.modes.decom) _ (placed cursor brush false) (placed o.some brush origin) _ o.leads
      (then-leads (cursor_position line named ∷ []) _ (placed o.some brush origin) (placed here brush origin) _
      (place-lead o.some brush)
      (then-leads (wrap_item s.grid (record s.cursor { wrap = is_pending m s })) es (placed here brush origin)
      (on_sides other alternate m (shape s.cursor w.some origin)) _ w.leads
      (on-leads (on_sides other alternate m) (λ d. refl) es (shape s.cursor w.some origin) s
      (rest-between other alternate m true s wraps) (rest_within true s).silent
      (rest_leaves true s modes_at_power_up w.some sets (λ e. refl) i four none))))

  pub sides-placed-lead : (cursor : Cursor) (brush : Brush) → length sets.g ≡ 4 → sets.pending ≡ None
      → (is_pending m s ≡ true → AreSpellingSets sets)
      → Leads (sides_item (Some m) ++ placed_items true s (column_named (Some m) s) (is_pending m s)) (plain cursor brush)
      (on_sides other alternate m s)
  sides-placed-lead cursor brush four none spells =
      then-leads (sides_item (Some m)) _ (plain cursor brush) (placed (at_place 1 1) brush false) _
      (sides-lead cursor brush) (placed-lead (at_place 1 1) brush four none spells)
