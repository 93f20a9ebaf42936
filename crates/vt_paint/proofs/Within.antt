-- A repaint and changes ask for events, none of which is answered, and their spelling is short.
use Rattle.vt_paint.specs.Controls.{reset_to_initial_state, clear_all_tabs, sequence_of}
use Rattle.vt_paint.specs.Controls.{private_mode, cursor_position, brush_events, set_tab, left_event, right_event}
use Rattle.vt_paint.specs.Controls.{sets_events, spelling_sets_events, spelling_events, save_cursor}
use Rattle.vt_screen.specs.declared.size.Size.{Size}
use Rattle.vt_screen.specs.Sizes.{IsSize}
use Rattle.std.proofs.Math.Nat.{mul_comm}
use Rattle.std.proofs.lemmas.Nat.{mul-le}
use Rattle.vt_screen.proofs.Composed.{test-at}
use Rattle.vt_screen.proofs.Places.{width-bounds}
use Rattle.vt_glyph.proofs.Charts.{space_is_glyph}
use Rattle.vt_glyph.proofs.Spelled.{spelling_code}
use Rattle.vt_paint.specs.Pieces.{is_blank_grid, piece, needs_header, left_of, header, glyph_events}
use Rattle.vt_paint.specs.Pieces.{piece_of, pieces}
use Rattle.vt_paint.specs.Private.Parts.{row_pieces}
use Rattle.vt_paint.specs.Private.ChangeEvents.{changed_row, change, short_brush_events, change_of, changed_cells}
use Rattle.vt_paint.specs.Private.ChangeEvents.{start_item, saved_cursor, record_item, change_events}
use Rattle.vt_paint.specs.Spoken.{are_numbers, is_one_of, Speaks}
use Rattle.vt_term.specs.State.{has_stop_at, stops_of, saved_at_power_up, Display, last_column, saved_sets}
use Rattle.vt_term.specs.State.{modes_at_power_up}
use Rattle.std.proofs.Common.{◌≡◌, Bool, true, false, not, cond, eqb, leb, ltb, ◌&&◌, ℕ, zero, suc, ◌+◌, ◌-◌, ◌*◌, ◌≤◌}
use Rattle.std.proofs.Common.{◌<◌, List, [], ◌∷◌, ◌++◌, length, length-append, append_assoc, append-nil, Option, Some}
use Rattle.std.proofs.Common.{None, decimal, codes, refl, sym, ap, ◌∙◌, arith}
use Rattle.std.specs.Prelude.{All}
use Rattle.std.specs.Fmt.{digits}
use Rattle.std.specs.List.{range_with_len, flat_map, list_all, sum_by}
use Rattle.std.specs.Cmp.Lexicographic.{pointwise}
use Rattle.std.proofs.lemmas.Bool.{and_parts, le-leb, leb-true, ltb-true}
use Rattle.std.proofs.lemmas.Fmt.{length-decimal-le}
use Rattle.std.proofs.lemmas.Grind.{flat_map-append}
use Rattle.std.proofs.lemmas.List.Elements.{All-nil, All-cons, All-append}
use Rattle.std.proofs.lemmas.List.Sums.{sum_by-cons}
use Rattle.vt_syntax.specs.declared.event.Event.{Event}
use Rattle.vt_syntax.specs.declared.event.Event.TheVariants.{Print, Control, Escape}
use Rattle.vt_syntax.specs.Spelling.{IsEvent, spell_event, spell_events}
use Rattle.vt_glyph.specs.Tables.{IsGlyph, is_glyph, space}
use Rattle.vt_glyph.specs.GraphicSets.{GraphicSets}
use Rattle.vt_glyph.specs.Invocation.{set_at}
use Rattle.vt_glyph.specs.Spell.{spelling_of, code_of}
use Rattle.vt_glyph.specs.declared.glyph.Spelling.{Spelling}
use Rattle.vt_glyph.specs.declared.set.Set.{Set}
use Rattle.vt_paint.specs.Same.{same_saved, is_blank}
use Rattle.vt_term.specs.declared.state.Margins.{Margins}
use Rattle.vt_glyph.specs.Designation.{final_of}
use Rattle.vt_glyph.proofs.Lists.{all_taken}
use Rattle.vt_glyph.proofs.EachSet.{passes}
use Rattle.vt_paint.proofs.Speech.{speaks-none, speaks-append, two_numbers_are, fine_speaks}
use Rattle.vt_paint.proofs.Tests.{all_three, at_three, both_pass, at_bool, all_brushes, at_brush}
use Rattle.vt_paint.proofs.Tests.{is_fine, fine_is, fine_silent}
use Rattle.vt_syntax.specs.Class.{opens_string}
use Rattle.vt_syntax.specs.Held.{spell_values}
use Rattle.vt_paint.specs.Limits.{row_digits, cell_limit, row_limit, paint_limit, changes_limit}
use Rattle.vt_paint.specs.Items.{is_wide, width_events, stop_events, made_stops, stops_item, saved_events, saved_item, cells_item}
use Rattle.vt_paint.specs.Controls.{ModeRow, mode_rows}
use Rattle.vt_paint.specs.Items.{margins_item, origin_item, wrap_item, row_item, modes_item}
use Rattle.vt_paint.specs.Items.{shift_item, first_items, placed_items, last_items}
use Rattle.vt_glyph.specs.declared.glyph.Spelling.TheVariants.{Plain, Second, Third}
use Rattle.vt_screen.specs.declared.cell.Brush.{Brush}
use Rattle.vt_screen.specs.declared.cell.Cell.{Cell}
use Rattle.vt_screen.specs.Cells.{blank, brush_of}
use Rattle.vt_screen.specs.Grid.{Grid, IsGrid, cell_at}
use Rattle.vt_screen.specs.Same.{same_bool, when}
use Rattle.vt_term.specs.declared.state.Cursor.{Cursor}
use Rattle.vt_term.specs.declared.state.Modes.{Modes}
use Rattle.vt_term.specs.State.{Saved}
use Rattle.vt_term.specs.Functions.{effect}
use Rattle.vt_term.specs.Sound.{IsSoundSizedDisplay}
use Rattle.vt_term.specs.Answers.{line_of_cursor}
use Rattle.vt_term.specs.Reports.{report}
use Rattle.vt_term.specs.Play.{reports_of, after_events}
use Rattle.vt_paint.specs.Repaint.{made_events}
use Rattle.vt_paint.specs.Changes.{differs_at, differing_from, differing_at, is_marked, AreMarkedAt, AreChangesAt}
use Rattle.vt_paint.proofs.Painting.{AreGlyphs}
use Rattle.vt_paint.proofs.RowLimits.{three_digits}

-- these are events, which report nothing, and their spelling is spoken and has at most n bytes
pub record AreSpelledWithin (n : ℕ) (es : List Event) : Type 0 where
  pub events : All IsEvent es
  pub silent : (s : Display) → reports_of es s ≡ []
  pub short : length (spell_events es) ≤ n
  pub speaks : Speaks (spell_events es)

reports-append : (es fs : List Event) (s : Display)
    → reports_of (es ++ fs) s ≡ reports_of es s ++ reports_of fs (after_events es s)
reports-append [] fs s = refl
reports-append (e ∷ es) fs s =
    ap (λ (t : List ℕ). report e s ++ t) (reports-append es fs (effect e s))
    ∙ sym (append_assoc (report e s) (reports_of es (effect e s)) (reports_of fs (after_events es (effect e s))))

then_within : {m n : ℕ} {es fs : List Event} → AreSpelledWithin m es → AreSpelledWithin n fs
    → AreSpelledWithin (m + n) (es ++ fs)
then_within {m} {n} {es} {fs} h k = record {
  events = All-append IsEvent es fs h.events k.events;
  silent = λ s. reports-append es fs s ∙ ap (λ (t : List ℕ). t ++ reports_of fs (after_events es s)) (h.silent s)
      ∙ k.silent (after_events es s);
  short = rw (flat_map-append spell_event es fs, length-append (spell_events es) (spell_events fs))
      (omega (arith, h.short, k.short));
  speaks = rw (flat_map-append spell_event es fs)
      (speaks-append (spell_events es) (spell_events fs) h.speaks k.speaks);
}

upto : {m n : ℕ} {es : List Event} → m ≤ n → AreSpelledWithin m es → AreSpelledWithin n es
upto {m} {n} {es} l h =
    record { events = h.events; silent = h.silent; short = omega (arith, h.short); speaks = h.speaks }

none_within : (n : ℕ) → AreSpelledWithin n []
none_within n = record { events = All-nil IsEvent; silent = λ s. refl; short = omega arith; speaks = speaks-none }

if_within : (n : ℕ) (b : Bool) (es fs : List Event) → AreSpelledWithin n es → AreSpelledWithin n fs
    → AreSpelledWithin n (cond b es fs)
if_within n true es fs h k = h
if_within n false es fs h k = k

when_within : (n : ℕ) (b : Bool) (es : List Event) → AreSpelledWithin n es → AreSpelledWithin n (when b es)
when_within n b es h = if_within n b es [] h (none_within n)

unless_within : (n : ℕ) (b : Bool) (es : List Event) → AreSpelledWithin n es → AreSpelledWithin n (cond b [] es)
unless_within n b es h = if_within n b [] es (none_within n) h

-- ---- by computing

one_within : (n : ℕ) (e : Event) → is_fine e ≡ true → length (spell_event e) ≤ n → AreSpelledWithin n (e ∷ [])
one_within n e fine short = record {
  events = All-cons IsEvent e [] (fine_is e fine) (All-nil IsEvent);
  silent = λ s. ap (λ (bytes : List ℕ). bytes ++ []) (fine_silent e fine s);
  short = rw (length-append (spell_event e) []) (omega (arith, short));
  speaks = speaks-append (spell_event e) [] (fine_speaks e fine) speaks-none;
}

fine_within : (es : List Event) → list_all is_fine es ≡ true → AreSpelledWithin (length (spell_events es)) es
fine_within [] h = none_within 0
fine_within (e ∷ es) h =
    let two = and_parts (is_fine e) (list_all is_fine es) h in
    upto (omega (arith, length-append (spell_event e) (spell_events es)))
    (then_within (one_within (length (spell_event e)) e two.0 (omega arith)) (fine_within es two.1))

-- the test that events are fine and short
abbrev are_within : ℕ → List Event → Bool
are_within n es = list_all is_fine es && leb (length (spell_events es)) n

computed : (n : ℕ) (es : List Event) → are_within n es ≡ true → AreSpelledWithin n es
computed n es h =
    let two = and_parts (list_all is_fine es) (leb (length (spell_events es)) n) h in
    upto (leb-true _ n two.1) (fine_within es two.0)

-- events of the numbers of a range, each within a multiple of its count
range_within : (m : ℕ) (count : ℕ → ℕ) (f : ℕ → List Event) (n a : ℕ)
    → ((k : ℕ) → a ≤ k → k < a + n → AreSpelledWithin (m * count k) (f k))
    → AreSpelledWithin (m * sum_by count (range_with_len a n)) (flat_map f (range_with_len a n))
range_within m count f zero a h = none_within _
range_within m count f (suc n) a h =
    let sum : sum_by count (range_with_len a (suc n)) ≡ count a + sum_by count (range_with_len (a + 1) n) =
    sum_by-cons count a (range_with_len (a + 1) n) in
    upto (omega (arith, ap (λ k. m * k) sum))
    (then_within (h a (omega arith) (omega arith))
    (range_within m count f n (a + 1) (λ k l u. h k (omega arith) (omega arith))))

ones : (n a : ℕ) → sum_by (λ k. 1) (range_with_len a n) ≡ n
ones zero a = refl
ones (suc n) a = omega (arith, sum_by-cons (λ k. 1) a (range_with_len (a + 1) n), ones n (a + 1))

each_within : (m : ℕ) (f : ℕ → List Event) (n a : ℕ) → ((k : ℕ) → a ≤ k → k < a + n → AreSpelledWithin m (f k))
    → AreSpelledWithin (m * n) (flat_map f (range_with_len a n))
each_within m f n a h =
    upto (omega (arith, ap (λ k. m * k) (ones n a)))
    (range_within m (λ k. 1) f n a (λ k l u. upto (omega arith) (h k l u)))

-- ---- events with numbers, brushes, sets and

two_within : (i j n m last : ℕ) → length (decimal n) ≤ i → length (decimal m) ≤ j → n ≤ 9999 → m ≤ 9999
    → (leb n 9999 ≡ true → leb m 9999 ≡ true → are_numbers (spell_values None (n ∷ m ∷ []) false) ≡ true
    → is_fine (sequence_of (n ∷ m ∷ []) last) ≡ true)
    → AreSpelledWithin (i + j + 4) (sequence_of (n ∷ m ∷ []) last ∷ [])
two_within i j n m last first second hn hm fine =
    one_within _ (sequence_of (n ∷ m ∷ []) last)
    (fine (le-leb n 9999 hn) (le-leb m 9999 hm)
    (rw append-nil (two_numbers_are n m (omega arith) (omega arith))))
    (simp length-append (omega (arith, first, second)))

-- a row's number has at most so many digits
digits_few : (rows r : ℕ) → r ≤ rows → rows ≤ 255 → length (decimal r) ≤ row_digits rows
unfolding row_digits
digits_few rows r h most = go (ltb rows 100) refl
  where
    go : (b : Bool) → ltb rows 100 ≡ b → length (decimal r) ≤ cond b 2 3
    go true e =
        let few = ltb-true rows 100 e in
        length-decimal-le 2 r (omega arith) (omega arith) (omega arith)
    go false e = length-decimal-le 3 r (omega arith) (omega arith) (omega arith)

cursor_within : (rows r c : ℕ) → r ≤ rows → rows ≤ 255 → c ≤ 255
    → AreSpelledWithin (7 + row_digits rows) (cursor_position r c ∷ [])
cursor_within rows r c h most k =
    upto (omega arith) (two_within (row_digits rows) 3 r c 0x48 (digits_few rows r h most)
    (length-decimal-le 3 c (omega arith) (omega arith) (omega arith)) (omega arith) (omega arith)
    (λ a b t. rw (a, b, t) refl))

pub brush_within : (brush : Brush) → AreSpelledWithin 17 (brush_events brush)
unfolding brush_events digits all_brushes both_pass
brush_within brush = computed 17 _ (at_brush (λ brush. are_within 17 (brush_events brush)) refl brush)

short_brush_within : (brush : Brush) → AreSpelledWithin 15 (short_brush_events brush)
unfolding short_brush_events digits all_brushes both_pass
short_brush_within brush = computed 15 _ (at_brush (λ brush. are_within 15 (short_brush_events brush)) refl brush)

designation_within : (inter : ℕ) (set : Set) → is_one_of (codes "()*+") inter ≡ true
    → AreSpelledWithin 3 (Escape (Some inter) (final_of set) ∷ [])
designation_within inter set h =
    let test : ℕ → Set → Bool = λ inter set. are_within 3 (Escape (Some inter) (final_of set) ∷ []) in
    computed 3 _ (all_taken (λ inter. test inter set) (λ i. i) (codes "()*+") inter
    (passes (λ set. list_all (λ inter. test inter set) (codes "()*+")) refl set) h)

left_within : (slot : ℕ) → AreSpelledWithin 2 (left_event slot ∷ [])
unfolding all_three both_pass
left_within slot =
    computed 2 _ (at_three (λ a b c. are_within 2 (cond a (Control 0x0F)
    (cond b (Control 0x0E) (cond c (Escape None 0x6E) (Escape None 0x6F))) ∷ [])) refl (eqb slot 0) (eqb slot 1)
    (eqb slot 2))

right_within : (slot : ℕ) → AreSpelledWithin 2 (right_event slot ∷ [])
unfolding all_three both_pass
right_within slot =
    computed 2 _ (at_three (λ a b c. are_within 2 (cond a (Escape None 0x7E)
    (cond b (Escape None 0x7D) (Escape None 0x7C)) ∷ [])) refl (eqb slot 1) (eqb slot 2) true)

sets_within : (t : GraphicSets) → AreSpelledWithin 16 (sets_events t)
unfolding sets_events
sets_within t =
    upto (omega arith) (then_within (designation_within 0x28 (set_at t 0) refl)
    (then_within (designation_within 0x29 (set_at t 1) refl) (then_within (designation_within 0x2A (set_at t 2) refl)
    (then_within (designation_within 0x2B (set_at t 3) refl) (then_within (left_within t.left) (right_within t.right))))))

spelling_within : (spelling : Spelling) → 0x20 ≤ code_of spelling → code_of spelling ≤ 0x7E
    → AreSpelledWithin 3 (spelling_events spelling)
unfolding opens_string
spelling_within (Plain code) h k = computed 3 _ (rw (le-leb 0x20 code h, le-leb code 0x7E k) refl)
spelling_within (Second code) h k = computed 3 _ (rw (le-leb 0x20 code h, le-leb code 0x7E k) refl)
spelling_within (Third code) h k = computed 3 _ (rw (le-leb 0x20 code h, le-leb code 0x7E k) refl)

-- ---- the items

stop_within : (stops : List Bool) (c : ℕ) → c ≤ 255 → AreSpelledWithin 10 (stop_events stops c)
unfolding stop_events digits opens_string
stop_within stops c h =
    when_within 10 (has_stop_at stops c) (cursor_position 1 c ∷ set_tab ∷ [])
    (then_within (two_within 1 3 1 c 0x48 (omega arith)
    (length-decimal-le 3 c (omega arith) (omega arith) (omega arith)) (omega arith) (omega arith)
    (λ a b t. rw (b, t) refl)) (computed 2 (set_tab ∷ []) refl))

width_within : (size : Size) (wide : Bool) → AreSpelledWithin 5 (width_events size wide)
unfolding digits both_pass
width_within size wide =
    when_within 5 (not (eqb size.narrow size.wide)) _
    (computed 5 _ (at_bool (λ wide. are_within 5 (private_mode 3 wide ∷ [])) refl wide))

stops_within : (size : Size) (width : ℕ) (stops : List Bool) → size.wide ≤ 255
    → AreSpelledWithin (10 * size.wide + 16) (stops_item size width stops)
unfolding stops_item made_stops digits
stops_within size width stops few =
    if_within (10 * size.wide + 16) (pointwise same_bool stops (stops_of size.wide)) _ _
    (upto (omega arith) (when_within 5 (is_wide size width) _ (width_within size true)))
    (upto (omega arith) (then_within (width_within size true) (then_within (computed 4 (clear_all_tabs ∷ []) refl)
    (then_within (each_within 10 (λ c. stop_events stops c) size.wide 1 (λ c l u. stop_within stops c (omega arith)))
    (when_within 5 (not (is_wide size width)) _ (width_within size false))))))

saved_within : (rows : ℕ) (saved : Saved) → saved.row ≤ rows → rows ≤ 255 → saved.col ≤ 255
    → AreSpelledWithin (53 + row_digits rows) (saved_item saved)
unfolding saved_item saved_events digits
saved_within rows saved h most k =
    when_within (53 + row_digits rows) (not (same_saved saved saved_at_power_up)) (saved_events saved)
    (upto (omega arith) (then_within (when_within 5 saved.origin _ (computed 5 (private_mode 6 true ∷ []) refl))
    (then_within (cursor_within rows saved.row saved.col h most k)
    (then_within (when_within 1 saved.wrap _ (computed 1 (Print space ∷ []) refl))
    (then_within (brush_within saved.brush) (then_within (sets_within (saved_sets saved))
    (then_within (computed 2 (save_cursor ∷ []) refl)
    (when_within 5 saved.origin _ (computed 5 (private_mode 6 false ∷ []) refl)))))))))

margins_within : (rows : ℕ) (m : Margins) → m.top ≤ rows → m.bottom ≤ rows → rows ≤ 255
    → AreSpelledWithin (4 + 2 * row_digits rows) (margins_item rows m)
unfolding margins_item
margins_within rows m h k most =
    unless_within (4 + 2 * row_digits rows) (eqb m.top 1 && eqb m.bottom rows) _
    (upto (omega arith) (two_within (row_digits rows) (row_digits rows) m.top m.bottom 0x72
    (digits_few rows m.top h most) (digits_few rows m.bottom k most) (omega arith) (omega arith)
    (λ a b t. rw (a, b, t) refl)))

origin_within : (known on : Bool) → AreSpelledWithin 5 (origin_item known on)
unfolding origin_item digits both_pass
origin_within known on =
    unless_within 5 (known && same_bool false on) _
    (computed 5 _ (at_bool (λ on. are_within 5 (private_mode 6 on ∷ [])) refl on))

line_small : (s : Display) → IsSoundSizedDisplay s → line_of_cursor s ≤ s.grid.size.rows
line_small s i = go s.modes.decom
  where
    go : (b : Bool) → cond b (s.cursor.row - s.margins.top + 1) s.cursor.row ≤ s.grid.size.rows
    go true = omega (arith, i.cursor.row_last, i.margins.from_row_1)
    go false = i.cursor.row_last

-- a mode by its event and its value; its event is as long when it is reset
abbrev cost : ModeRow → ℕ
cost row = length (spell_event (row.0 true))

rows_within : (known : Bool) (m : Modes) (rows : List ModeRow)
    → list_all (λ (row : ModeRow). both_pass (λ on. are_within (cost row) (row.0 on ∷ []))) rows
    ≡ true
    → AreSpelledWithin (sum_by cost rows)
    (flat_map (row_item known m) rows)
rows_within known m [] h = none_within _
rows_within known m (row ∷ rows) h =
    let two = and_parts (both_pass (λ on. are_within (cost row) (row.0 on ∷ []))) _ h in
    upto (omega (arith, sum_by-cons cost row rows))
    (then_within (unless_within (cost row) (known && same_bool (row.1 modes_at_power_up) (row.1 m)) (row.0 (row.1 m) ∷ [])
    (computed (cost row) _ (at_bool (λ on. are_within (cost row) (row.0 on ∷ [])) two.0 (row.1 m))))
    (rows_within known m rows two.1))

modes_within : (known : Bool) (m : Modes) → AreSpelledWithin 54 (modes_item known m)
unfolding modes_item digits both_pass
modes_within known m = rows_within known m mode_rows refl

shift_within : (pending : Option ℕ) → AreSpelledWithin 2 (shift_item pending)
unfolding shift_item both_pass opens_string
shift_within None = none_within 2
shift_within (Some slot) =
    computed 2 _ (at_bool (λ b. are_within 2 (cond b (Control 0x8E) (Control 0x8F) ∷ [])) refl (eqb slot 2))

start_within : AreSpelledWithin 10 start_item
unfolding start_item digits
start_within = computed 10 start_item refl

-- ---- the cells

width_small : (g : Grid) → IsGrid g → g.width ≤ g.size.wide
width_small g is = (width-bounds g.size g.width is.size is.width).1

-- each place of a sound grid has a glyph
pub sound_glyphs : (s : Display) → IsSoundSizedDisplay s → AreGlyphs s.grid
sound_glyphs s i r c =
    test-at blank (λ cell. is_glyph cell.glyph) s.grid r c space_is_glyph i.grid.glyphs

glyph_within : (cell : Cell) → IsGlyph cell.glyph → AreSpelledWithin 3 (glyph_events cell)
unfolding glyph_events
glyph_within cell is = let c = spelling_code cell.glyph is in spelling_within (spelling_of cell.glyph) c.0 c.1

piece_within : (g : Grid) (rows r c : ℕ) → AreGlyphs g → r ≤ rows → rows ≤ 255 → c ≤ 255
    → AreSpelledWithin (cell_limit rows) (piece g r c)
unfolding piece_of header
piece_within g rows r c are h most k =
    when_within (cell_limit rows) (not (is_blank (cell_at g r c))) _
    (upto (omega arith) (then_within (when_within (24 + row_digits rows) (needs_header (left_of g r c) (cell_at g r c)) _
    (upto (omega arith) (then_within (cursor_within rows r c h most k) (brush_within (brush_of (cell_at g r c))))))
    (glyph_within (cell_at g r c) (are r c))))

-- the pieces of a row
row_pieces_within : (g : Grid) (r : ℕ) → AreGlyphs g → g.width ≤ g.size.wide → IsSize g.size → r ≤ g.size.rows
    → AreSpelledWithin (row_limit g.size) (row_pieces g r)
unfolding row_limit
row_pieces_within g r are w sized h =
    upto (mul-le (cell_limit g.size.rows) g.width (cell_limit g.size.rows) g.size.wide (omega arith) w)
    (each_within (cell_limit g.size.rows) (λ c. piece g r c) g.width 1
    (λ c i j. piece_within g g.size.rows r c are h sized.rows.1 (omega (arith, sized.columns, w))))

cells_within : (g : Grid) (wrap : Bool) → AreGlyphs g → g.width ≤ g.size.wide → IsSize g.size
    → AreSpelledWithin (g.size.rows * row_limit g.size + 10) (cells_item g wrap)
unfolding cells_item pieces
cells_within g wrap are w sized =
    unless_within _ (is_blank_grid g && not wrap) (spelling_sets_events ++ pieces g)
    (upto (omega (arith, mul_comm g.size.rows (row_limit g.size))) (then_within (computed 10 spelling_sets_events refl)
    (each_within (row_limit g.size) (λ r. row_pieces g r) g.size.rows 1
    (λ r l u. row_pieces_within g r are w sized (omega arith)))))

wrap_within : (g : Grid) (cursor : Cursor) → AreGlyphs g → AreSpelledWithin 20 (wrap_item g cursor)
unfolding wrap_item
wrap_within g cursor are =
    when_within 20 cursor.wrap _
    (then_within (brush_within (brush_of (cell_at g cursor.row cursor.col)))
    (glyph_within (cell_at g cursor.row cursor.col) (are cursor.row cursor.col)))

record_within : (g : Grid) (rows : ℕ) (saved : Saved) → AreGlyphs g → saved.row ≤ rows → rows ≤ 255 → saved.col ≤ 255
    → AreSpelledWithin (67 + row_digits rows) (record_item g saved)
unfolding record_item
record_within g rows saved are h most k =
    upto (omega arith) (then_within (origin_within true saved.origin)
    (then_within (cursor_within rows saved.row saved.col h most k)
    (then_within (wrap_within g (saved_cursor saved) are) (then_within (brush_within saved.brush)
    (then_within (sets_within (saved_sets saved)) (computed 2 (save_cursor ∷ []) refl))))))

change_within : (rows r c : ℕ) (marked : Bool) (cell : Cell) → IsGlyph cell.glyph → r ≤ rows → rows ≤ 255 → c ≤ 255
    → AreSpelledWithin (28 * cond marked 1 0) (change_of r c marked cell)
unfolding change_of
change_within rows r c false cell is h most k = none_within 0
change_within rows r c true cell is h most k =
    upto (omega (arith, three_digits rows)) (then_within (cursor_within rows r c h most k)
    (then_within (short_brush_within (brush_of cell)) (glyph_within cell is)))

changed_within : (marks : List (List Bool)) (b g : Grid) → AreGlyphs g → AreMarkedAt g.size marks b g → g.width ≤ 255
    → g.size.rows ≤ 255 → AreSpelledWithin (28 * differing_at g.size b g) (changed_cells marks g)
unfolding changed_cells differing_at
changed_within marks b g are marked w most =
    range_within 28 (λ r. differing_from b g r 1 g.width) (λ r. changed_row marks g r) g.size.rows 1 (λ r r1 r24.
    range_within 28 (λ c. cond (differs_at b g r c) 1 0) (λ c. change marks g r c) g.width 1 (λ c c1 cw.
    rw (sym (marked r c r1 (omega arith) c1 (omega arith)))
    (change_within g.size.rows r c (is_marked marks r c) (cell_at g r c) (are r c) (omega arith) most (omega arith))))

-- ---- the whole

-- 8 to 11
pub rest_within : (known : Bool) (s : Display)
    → AreSpelledWithin 89
    (brush_events s.brush ++ (sets_events s.sets ++ (modes_item known s.modes ++ shift_item s.sets.pending)))
rest_within known s =
    then_within (brush_within s.brush) (then_within (sets_within s.sets)
    (then_within (modes_within known s.modes) (shift_within s.sets.pending)))

pub placed_within : (known : Bool) (s : Display) (col : ℕ) (wrap : Bool) → IsSoundSizedDisplay s → col ≤ 255
    → AreSpelledWithin (121 + row_digits s.grid.size.rows) (placed_items known s col wrap)
unfolding placed_items
placed_within known s col wrap i few =
    let rows = s.grid.size.rows in
    let most : rows ≤ 255 = i.grid.shape.size.rows.1 in
    upto (omega arith) (then_within (origin_within known s.modes.decom)
    (then_within (cursor_within rows (line_of_cursor s) col (line_small s i) most few)
    (then_within (wrap_within s.grid (record s.cursor { wrap = wrap }) (sound_glyphs s i)) (rest_within known s))))

margins_small : (s : Display) → IsSoundSizedDisplay s
    → AreSpelledWithin (4 + 2 * row_digits s.grid.size.rows) (margins_item s.grid.size.rows s.margins)
margins_small s i =
    let rows = s.grid.size.rows in
    let top : s.margins.top ≤ rows = omega (arith, i.margins.two_rows, i.margins.to_last_row) in
    margins_within rows s.margins top i.margins.to_last_row i.grid.shape.size.rows.1

col_small : (s : Display) → IsSoundSizedDisplay s → s.cursor.col ≤ 255
col_small s i = omega (arith, i.cursor.col_last, width_small s.grid i.grid.shape, i.grid.shape.size.columns)

last_within : (known : Bool) (s : Display) → IsSoundSizedDisplay s
    → AreSpelledWithin (125 + 3 * row_digits s.grid.size.rows) (last_items known s)
unfolding last_items
last_within known s i =
    upto (omega arith) (then_within (margins_small s i)
    (placed_within known s s.cursor.col s.cursor.wrap i (col_small s i)))

pub first_within : (s : Display) (wrap : Bool) → IsSoundSizedDisplay s
    → AreSpelledWithin (s.grid.size.rows * row_limit s.grid.size + 10 * s.grid.size.wide + 174) (first_items s wrap)
unfolding first_items
first_within s wrap i =
    let rows = s.grid.size.rows in
    let sized = i.grid.shape.size in
    let w = width_small s.grid i.grid.shape in
    let saved_col : s.saved.col ≤ 255 = omega (arith, i.saved.col_last, w, sized.columns) in
    upto (omega (arith, three_digits rows)) (then_within (stops_within s.grid.size (last_column s) s.stops sized.columns)
    (then_within (saved_within rows s.saved i.saved.row_last sized.rows.1 saved_col)
    (then_within (cells_within s.grid wrap (sound_glyphs s i) w sized) (margins_small s i))))

pub made_within : (s : Display) → IsSoundSizedDisplay s
    → AreSpelledWithin (s.grid.size.rows * row_limit s.grid.size + 10 * s.grid.size.wide + 318) (made_events s)
unfolding made_events
made_within s i =
    upto (omega (arith, three_digits s.grid.size.rows)) (then_within (first_within s s.cursor.wrap i)
    (placed_within true s s.cursor.col s.cursor.wrap i (col_small s i)))

-- the events of a repaint
abbrev pub repaint_events : Display → List Event
repaint_events s = reset_to_initial_state ∷ made_events s

pub repaint_within : (s : Display) → IsSoundSizedDisplay s → AreSpelledWithin (paint_limit s.grid.size) (repaint_events s)
repaint_within s i =
    upto (omega arith) (then_within (computed 2 (reset_to_initial_state ∷ []) refl) (made_within s i))

pub changes_within : (marks : List (List Bool)) (s t : Display) → IsSoundSizedDisplay s → AreChangesAt s.grid.size marks t s
    → AreSpelledWithin (changes_limit s.grid.size (differing_at s.grid.size t.grid s.grid)) (change_events marks s)
unfolding change_events
changes_within marks s t i changes =
    let most : s.grid.size.rows ≤ 255 = i.grid.shape.size.rows.1 in
    let w : s.grid.width ≤ 255 = omega (arith, width_small s.grid i.grid.shape, i.grid.shape.size.columns) in
    let are = sound_glyphs s i in
    let saved_col : s.saved.col ≤ 255 = omega (arith, i.saved.col_last, w) in
    upto (omega arith) (then_within start_within (then_within (computed 10 spelling_sets_events refl)
    (then_within (changed_within marks t.grid s.grid are changes.marked w most)
    (then_within (record_within s.grid s.grid.size.rows s.saved are i.saved.row_last most saved_col)
    (then_within (computed 10 spelling_sets_events refl) (last_within false s i))))))
