-- Cells are written one after another: the pieces of a screen, and marked cells over those underneath.
use Rattle.std.proofs.Common.{◌≡◌, Bool, cond, ◌&&◌, ◌||◌, ℕ, ◌+◌, arith, ◌∙◌, eqb, ltb, ◌≤◌, List, refl, ap, Some}
use Rattle.std.proofs.Common.{true, false, not, ◌-◌, min, max, [], ◌∷◌, ◌++◌, sym}
use Rattle.vt_screen.proofs.Places.{cell_at-grid_of, grid_of-same, grid_of-cell_at}
use Rattle.std.proofs.lemmas.Bool.Decides.{nat_tests}
use Rattle.vt_screen.specs.declared.cell.Cell.{Cell}
use Rattle.vt_screen.specs.Cells.{blank, brush_of}
use Rattle.vt_screen.specs.Grid.{Grid, IsGrid, grid_of, cell_at, put}
use Rattle.std.specs.List.{range_with_len, flat_map}
use Rattle.vt_syntax.specs.declared.event.Event.{Event}
use Rattle.vt_screen.specs.declared.cell.Brush.{Brush}
use Rattle.vt_term.specs.declared.state.Cursor.{Cursor}
use Rattle.vt_term.specs.State.{Display, at_place}
use Rattle.vt_paint.proofs.AfterEvents.{display_after, range_leaves, Makes, then_makes, one_makes, none_makes}
use Rattle.vt_glyph.proofs.Spelled.{spelling_writes, spelling_leaves}
use Rattle.vt_glyph.specs.declared.glyph.Spelling.{Spelling}
use Rattle.vt_glyph.specs.declared.glyph.Spelling.TheVariants.{Plain, Second, Third}
use Rattle.vt_glyph.specs.Tables.{IsGlyph}
use Rattle.vt_glyph.specs.Invocation.{glyph_read, after_read}
use Rattle.vt_glyph.specs.Spell.{spelling_of, code_of, shifted_for, AreSpellingSets}
use Rattle.vt_term.specs.Writing.{write_glyph}
use Rattle.vt_term.specs.Functions.{sequence_in, effect}
use Rattle.vt_paint.specs.Controls.{spelling_events, cursor_position, brush_events, protection_to, rendition_to}
use Rattle.vt_paint.specs.Pieces.{glyph_events, left_of, needs_header, header, piece_of, piece, pieces}
use Rattle.std.proofs.lemmas.Bool.{lt-ltb, le-ltb, ne_eqb}
use Rattle.vt_screen.specs.Same.{same_brush}
use Rattle.vt_paint.specs.Same.{is_blank}
use Rattle.vt_paint.proofs.Equality.{or_false, not_false, same_brush-is, is_blank-is, same_cell-is, same_rendition-is}
use Rattle.vt_paint.proofs.Brushes.{brush_leaves}
use Rattle.vt_screen.specs.declared.cell.Rendition.{Rendition}
use Rattle.vt_term.specs.Rendition.{with_attribute}
use Rattle.vt_paint.specs.Changes.{same_cell, differs_at, is_marked, AreMarkedAt}
use Rattle.vt_paint.specs.Controls.{all_attributes}
use Rattle.vt_paint.specs.Private.ChangeEvents.{has_all, short_brush_events, change_of, change}
use Rattle.vt_paint.specs.Private.ChangeEvents.{changed_cells}
use Rattle.vt_term.specs.Functions.{control_any, sequences_any}

-- the place comes before row r, column c
abbrev is_before : ℕ → ℕ → ℕ → ℕ → Bool
is_before r c i j = ltb i r || (eqb i r && ltb j c)

-- a grid's cells before row r, column c; the others are those underneath, as a formula
unfoldable pub painted_cell : (ℕ → ℕ → Cell) → Grid → ℕ → ℕ → ℕ → ℕ → Cell
painted_cell under g r c i j = cond (is_before r c i j) (cell_at g i j) (under i j)

abbrev pub painted : (ℕ → ℕ → Cell) → Grid → ℕ → ℕ → Grid
painted under g r c = grid_of g.size g.width (painted_cell under g r c)

-- nothing is underneath
abbrev pub all_blank : ℕ → ℕ → Cell
all_blank i j = blank

pub painted_none : (under : ℕ → ℕ → Cell) (g : Grid) → grid_of g.size g.width under ≡ painted under g 1 1
unfolding painted_cell
painted_none under g =
    grid_of-same g.size g.width under (painted_cell under g 1 1) (λ i j i1 i24 j1 jw. grind (arith, nat_tests))

painted_all : (under : ℕ → ℕ → Cell) (g : Grid) → IsGrid g → painted under g (g.size.rows + 1) 1 ≡ g
unfolding painted_cell
painted_all under g is =
    grid_of-same g.size g.width (painted_cell under g (g.size.rows + 1) 1) (cell_at g)
    (λ i j i1 i24 j1 jw. grind (arith, nat_tests))
    ∙ grid_of-cell_at blank g is.cells

-- a row is done
painted_row : (under : ℕ → ℕ → Cell) (g : Grid) (r : ℕ)
    → painted under g r (g.width + 1) ≡ painted under g (r + 1) 1
unfolding painted_cell
painted_row under g r =
    grid_of-same g.size g.width (painted_cell under g r (g.width + 1)) (painted_cell under g (r + 1) 1)
    (λ i j i1 i24 j1 jw. grind (arith, nat_tests))

-- the next cell is the one underneath
painted_skip : (under : ℕ → ℕ → Cell) (g : Grid) (r c : ℕ) → cell_at g r c ≡ under r c
    → painted under g r c ≡ painted under g r (c + 1)
unfolding painted_cell
painted_skip under g r c is =
    grid_of-same g.size g.width (painted_cell under g r c) (painted_cell under g r (c + 1))
    (λ i j i1 i24 j1 jw. grind (arith, nat_tests, is))

-- the next cell is put
painted_put : (under : ℕ → ℕ → Cell) (g : Grid) (r c : ℕ) → put (painted under g r c) r c (cell_at g r c)
    ≡ painted under g r (c + 1)
unfolding painted_cell
painted_put under g r c =
    grid_of-same g.size g.width
    (λ i j. cond (eqb i r) (cond (eqb j c) (cell_at g r c) (cell_at (painted under g r c) r j))
    (cell_at (painted under g r c) i j)) (painted_cell under g r (c + 1))
    (λ i j i1 i24 j1 jw.
    let was = cell_at-grid_of blank g.size g.width (painted_cell under g r c) i j i1 i24 j1 jw in
    grind (arith, nat_tests, was))

-- a cell that is put again
pub put_same : (g : Grid) (r c : ℕ) → IsGrid g → put g r c (cell_at g r c) ≡ g
put_same g r c is =
    grid_of-same g.size g.width
    (λ i j. cond (eqb i r) (cond (eqb j c) (cell_at g r c) (cell_at g r j)) (cell_at g i j)) (cell_at g)
    (λ i j i1 i24 j1 jw. grind (arith, nat_tests))
    ∙ grid_of-cell_at blank g is.cells

abbrev pub shown : Display → Grid → Cursor → Brush → Display
shown base g cursor brush = record base { grid = g; cursor = cursor; brush = brush }

-- all cells are those of a grid
pub record IsShown (base : Display) (g : Grid) (x : Display) : Type 0 where
  pub cursor : Cursor
  pub brush : Brush
  pub is : x ≡ shown base g cursor brush

-- what cursor and brush are to be where a cell is written
abbrev Before : Type 1
Before = ℕ → ℕ → Cursor → Brush → Type 0

-- the cells before a place are written
pub record IsWritten (before : Before) (base : Display) (under : ℕ → ℕ → Cell) (g : Grid) (r c : ℕ) (x : Display)
    : Type 0 where
  pub cursor : Cursor
  pub brush : Brush
  pub is : x ≡ shown base (painted under g r c) cursor brush
  pub at : c ≤ g.width → before r c cursor brush

-- the events of a place write its cell
abbrev pub Writes : Before → Display → (ℕ → ℕ → Cell) → Grid → (ℕ → ℕ → List Event) → Type 0
Writes before base under g events =
    (r c : ℕ) (x : Display) → 1 ≤ r → r ≤ g.size.rows → 1 ≤ c → c ≤ g.width → IsWritten before base under g r c x
    → IsWritten before base under g r (c + 1) (display_after x (events r c))

module _ (before : Before) (base : Display) (under : ℕ → ℕ → Cell) (g : Grid)
    (events : ℕ → ℕ → List Event) (writes : Writes before base under g events)
    (first : (r : ℕ) (cursor : Cursor) (brush : Brush) → before r 1 cursor brush) where
  row_leaves : (r : ℕ) (x : Display) → 1 ≤ r → r ≤ g.size.rows → IsWritten before base under g r 1 x
      → IsWritten before base under g (r + 1) 1 (display_after x (flat_map (events r) (range_with_len 1 g.width)))
  row_leaves r x r1 r24 w =
      let row = range_leaves (λ c x. IsWritten before base under g r c x) (events r) g.width 1 (g.width + 1) (omega arith)
      (λ c x c1 cw w. writes r c x r1 r24 c1 (omega arith) w) x w in
      record {
        cursor = row.cursor;
        brush = row.brush;
        is = row.is ∙ ap (λ y. shown base y row.cursor row.brush) (painted_row under g r);
        at = λ l. first (r + 1) row.cursor row.brush;
      }

  grid_leaves : (x : Display) (cursor : Cursor) (brush : Brush) → IsGrid g
      → x ≡ shown base (painted under g 1 1) cursor brush
      → IsShown base g
      (display_after x (flat_map (λ r. flat_map (events r) (range_with_len 1 g.width)) (range_with_len 1 g.size.rows)))
  grid_leaves x cursor brush is start =
      let w = range_leaves (λ r x. IsWritten before base under g r 1 x)
      (λ r. flat_map (events r) (range_with_len 1 g.width)) g.size.rows 1 (g.size.rows + 1) (omega arith)
      (λ r x r1 r24 w. row_leaves r x r1 (omega arith) w) x
      (record { cursor = cursor; brush = brush; is = start; at = λ l. first 1 cursor brush }) in
      record {
        cursor = w.cursor;
        brush = w.brush;
        is = w.is ∙ ap (λ y. shown base y w.cursor w.brush) (painted_all under g is);
      }

-- what a spelling is read as is written
spelled_leaves : (x : Display) (spelling : Spelling) (n : ℕ)
    → glyph_read (shifted_for spelling x.sets) (code_of spelling) ≡ Some n
    → after_read (shifted_for spelling x.sets) (code_of spelling) ≡ x.sets
    → display_after x (spelling_events spelling) ≡ write_glyph n x
unfolding display_after control_any
spelled_leaves x (Plain code) n reads leaves = rw (reads, leaves) refl
spelled_leaves x (Second code) n reads leaves = rw (reads, leaves) refl
spelled_leaves x (Third code) n reads leaves = rw (reads, leaves) refl

pub glyph_leaves : (x : Display) (cell : Cell) → AreSpellingSets x.sets → IsGlyph cell.glyph
    → display_after x (glyph_events cell) ≡ write_glyph cell.glyph x
unfolding glyph_events
glyph_leaves x cell sets is =
    spelled_leaves x (spelling_of cell.glyph) cell.glyph (spelling_writes x.sets cell.glyph sets is)
    (spelling_leaves x.sets cell.glyph sets is)

-- a display on which the pieces paint: nothing but its grid, cursor and brush changes
pub record IsReady (base : Display) : Type 0 where
  pub sets : AreSpellingSets base.sets
  pub irm : base.modes.irm ≡ false
  pub decawm : base.modes.decawm ≡ true
  pub decom : base.modes.decom ≡ false

-- where the cursor is after a cell
abbrev pub behind : ℕ → ℕ → ℕ → Cursor
behind w r c = cond (ltb c w) (at_place r (c + 1)) (record { row = r; col = c; wrap = true })

-- where a cell needs no header, the cursor and the brush have its place and look
abbrev AreAt : Grid → ℕ → ℕ → Cursor → Brush → Type 0
AreAt g r c cursor brush = needs_header (left_of g r c) (cell_at g r c) ≡ false → (cursor ≡ at_place r c)
    × (brush ≡ brush_of (cell_at g r c))

-- the cells before a place are painted
abbrev IsPainted : Display → Grid → ℕ → ℕ → Display → Type 0
IsPainted base g r c x = IsWritten (AreAt g) base all_blank g r c x

-- CUP, which names a row by its line
pub cursor_leaves : (x : Display) (line r c : ℕ) → 1 ≤ c → c ≤ x.grid.width
    → cond x.modes.decom (min (x.margins.top + max line 1 - 1) x.margins.bottom) (min (max line 1) x.grid.size.rows) ≡ r
    → effect (cursor_position line c) x ≡ record x { cursor = at_place r c }
unfolding sequence_in sequences_any
cursor_leaves x line r c c1 cw row =
    let col : min (max c 1) x.grid.width ≡ c = omega arith in
    rw (row, col) refl

-- without origin mode
cursor_position_leaves : (x : Display) (r c : ℕ) → x.modes.decom ≡ false → 1 ≤ r → r ≤ x.grid.size.rows → 1 ≤ c
    → c ≤ x.grid.width → effect (cursor_position r c) x ≡ record x { cursor = at_place r c }
cursor_position_leaves x r c o r1 r24 c1 cw = cursor_leaves x r r c c1 cw (rw o (omega arith))

-- a glyph is put where no wrap is pending
write_glyph_leaves : (x : Display) (r c : ℕ) (cell : Cell) → x.modes.irm ≡ false → x.modes.decawm ≡ true
    → write_glyph cell.glyph (record x { cursor = at_place r c; brush = brush_of cell })
    ≡ shown x (put x.grid r c cell) (behind x.grid.width r c) (brush_of cell)
write_glyph_leaves x r c cell irm decawm = rw (irm, decawm) refl

-- a cell in the last column is put again
pub put_again : (x : Display) (r c : ℕ) (cell : Cell) → cell ≡ cell_at x.grid r c → c ≡ x.grid.width → IsGrid x.grid
    → x.modes.irm ≡ false → x.modes.decawm ≡ true
    → write_glyph cell.glyph (record x { cursor = at_place r c; brush = brush_of cell })
    ≡ record x { cursor = record { row = r; col = c; wrap = true }; brush = brush_of cell }
put_again x r c cell here last is irm decawm =
    let same : put x.grid r c cell ≡ x.grid =
    ap (λ cell. put x.grid r c cell) here ∙ put_same x.grid r c is in
    let at : behind x.grid.width r c ≡ (let end : Cursor = record { row = r; col = c; wrap = true } in end) =
    ap (λ b. cond b (at_place r (c + 1)) (record { row = r; col = c; wrap = true }))
    (le-ltb c x.grid.width (omega arith)) in
    write_glyph_leaves x r c cell irm decawm ∙ ap (λ g. shown x g (behind x.grid.width r c) (brush_of cell)) same
    ∙ ap (λ y. shown x x.grid y (brush_of cell)) at

pub left_of-first : (g : Grid) (r : ℕ) → left_of g r 1 ≡ blank
unfolding left_of
left_of-first g r = refl

pub left_of-next : (g : Grid) (r c : ℕ) → 1 ≤ c → left_of g r (c + 1) ≡ cell_at g r c
unfolding left_of
left_of-next g r c c1 =
    let e : eqb (c + 1) 1 ≡ false = ne_eqb (c + 1) 1 (omega arith) in
    let back : c + 1 - 1 ≡ c = omega arith in
    rw e (ap (λ n. cell_at g r n) back)

after_blank : (g : Grid) (r c : ℕ) → 1 ≤ c → is_blank (cell_at g r c) ≡ true
    → needs_header (left_of g r (c + 1)) (cell_at g r (c + 1)) ≡ true
after_blank g r c c1 h =
    ap (λ l. needs_header l (cell_at g r (c + 1))) (left_of-next g r c c1)
    ∙ ap (λ b. b || not (same_brush (brush_of (cell_at g r c)) (brush_of (cell_at g r (c + 1))))) h

after_cell : (g : Grid) (r c : ℕ) → 1 ≤ c → c + 1 ≤ g.width
    → AreAt g r (c + 1) (behind g.width r c) (brush_of (cell_at g r c))
after_cell g r c c1 cw h =
    let k = sym (ap (λ l. needs_header l (cell_at g r (c + 1))) (left_of-next g r c c1)) ∙ h in
    let a = or_false (is_blank (cell_at g r c))
    (not (same_brush (brush_of (cell_at g r c)) (brush_of (cell_at g r (c + 1))))) k in (
      rw (lt-ltb c g.width (omega arith)) refl,
      same_brush-is (brush_of (cell_at g r c)) (brush_of (cell_at g r (c + 1)))
          (not_false (same_brush (brush_of (cell_at g r c)) (brush_of (cell_at g r (c + 1)))) a.1),
    )

-- each cell has a glyph
abbrev pub AreGlyphs : Grid → Type 0
AreGlyphs g = (r c : ℕ) → IsGlyph (cell_at g r c).glyph

-- after the header
header_leaves : (base : Display) (g grid : Grid) (r c : ℕ) (cursor : Cursor) (brush : Brush) → IsReady base
    → grid.width ≡ g.width → 1 ≤ r → r ≤ grid.size.rows → 1 ≤ c → c ≤ g.width → AreAt g r c cursor brush
    → Makes (header r c (left_of g r c) (cell_at g r c)) (shown base grid cursor brush)
    (shown base grid (at_place r c) (brush_of (cell_at g r c)))
unfolding header
header_leaves base g grid r c cursor brush ready w r1 r24 c1 cw at =
    go (needs_header (left_of g r c) (cell_at g r c)) refl
  where
    here : Brush
    here = brush_of (cell_at g r c)

    go : (b : Bool) → needs_header (left_of g r c) (cell_at g r c) ≡ b
        → Makes (cond b (cursor_position r c ∷ brush_events here) []) (shown base grid cursor brush)
        (shown base grid (at_place r c) here)
    go true e = then_makes (one_makes (cursor_position_leaves (shown base grid cursor brush) r c ready.decom r1 r24 c1
        (omega (arith, w)))) (brush_leaves (shown base grid (at_place r c) brush) here)
    go false e = let q = at e in none_makes (rw (q.0, q.1) refl)

-- the glyph of a cell at its place
painted_glyph : (base : Display) (under : ℕ → ℕ → Cell) (g : Grid) (r c : ℕ) → IsReady base → AreGlyphs g
    → Makes (glyph_events (cell_at g r c))
    (shown base (painted under g r c) (at_place r c) (brush_of (cell_at g r c)))
    (shown base (painted under g r (c + 1)) (behind g.width r c) (brush_of (cell_at g r c)))
painted_glyph base under g r c ready are =
    let cell = cell_at g r c in
    let x = shown base (painted under g r c) (at_place r c) (brush_of cell) in
    record {
      is = glyph_leaves x cell ready.sets (are r c) ∙ write_glyph_leaves x r c cell ready.irm ready.decawm
          ∙ ap (λ y. shown base y (behind g.width r c) (brush_of cell)) (painted_put under g r c);
    }

piece_leaves : (base : Display) (g : Grid) (r c : ℕ) (x : Display) → IsReady base → AreGlyphs g → 1 ≤ r → r ≤ g.size.rows
    → 1 ≤ c → c ≤ g.width → IsPainted base g r c x → IsPainted base g r (c + 1) (display_after x (piece g r c))
unfolding display_after piece_of
piece_leaves base g r c x ready are r1 r24 c1 cw w = go (is_blank (cell_at g r c)) refl
  where
    go : (b : Bool) → is_blank (cell_at g r c) ≡ b
        → IsPainted base g r (c + 1)
        (display_after x (cond (not b) (header r c (left_of g r c) (cell_at g r c) ++ glyph_events (cell_at g r c))
        []))
    go true e = record {
      cursor = w.cursor;
      brush = w.brush;
      is = w.is ∙ ap (λ y. shown base y w.cursor w.brush)
          (painted_skip all_blank g r c (is_blank-is (cell_at g r c) e));
      at = λ l n. absurd (cc (n, after_blank g r c c1 e));
    }
    go false e = record {
      cursor = behind g.width r c;
      brush = brush_of (cell_at g r c);
      is = rw w.is (then_makes (header_leaves base g (painted all_blank g r c) r c w.cursor w.brush ready refl r1 r24 c1
          cw (w.at cw)) (painted_glyph base all_blank g r c ready are)).is;
      at = λ l. after_cell g r c c1 l;
    }

-- the first cell of a row needs a header
first_leaves : (g : Grid) (r : ℕ) (cursor : Cursor) (brush : Brush) → AreAt g r 1 cursor brush
unfolding left_of
first_leaves g r cursor brush n = absurd (cc n)

pub pieces_leaves : (base : Display) (g : Grid) (x : Display) (cursor : Cursor) (brush : Brush) → IsReady base
    → IsGrid g → AreGlyphs g → x ≡ shown base (painted all_blank g 1 1) cursor brush
    → IsShown base g (display_after x (pieces g))
unfolding pieces
pieces_leaves base g x cursor brush ready is are start =
    grid_leaves (AreAt g) base all_blank g (λ r c. piece g r c)
    (λ r c x r1 r24 c1 cw w. piece_leaves base g r c x ready are r1 r24 c1 cw w) (first_leaves g) x cursor brush is start

-- ---- the brush

with_protection_leaves : (x : Display) (r : Rendition) (p : Bool)
    → display_after (record x { brush = record x.brush { rendition = r } }) (protection_to p ∷ [])
    ≡ record x { brush = record { rendition = r; protected = p } }
unfolding display_after sequence_in sequences_any
with_protection_leaves x r true = refl
with_protection_leaves x r false = refl

short_brush_leaves : (x : Display) (brush : Brush) → Makes (short_brush_events brush) x (record x { brush = brush })
unfolding display_after short_brush_events brush_events sequence_in sequences_any with_attribute
short_brush_leaves x brush = go (has_all brush.rendition) refl
  where
    full : Rendition
    full = record { bold = true; underline = true; blink = true; reverse = true }

    go : (b : Bool) → has_all brush.rendition ≡ b
        → Makes (cond b all_attributes (rendition_to brush.rendition) ∷ protection_to brush.protected ∷ []) x
        (record x { brush = brush })
    go true e = record {
      is = with_protection_leaves x full brush.protected
          ∙ ap (λ r. record x { brush = record { rendition = r; protected = brush.protected } })
          (same_rendition-is full brush.rendition e);
    }
    go false e = brush_leaves x brush

-- ---- the cells

-- cursor and brush may be any
abbrev anywhere : Before
anywhere r c cursor brush = Unit {0}

change_leaves : (marks : List (List Bool)) (base : Display) (b g : Grid) (r c : ℕ) (x : Display) → IsReady base
    → AreGlyphs g → AreMarkedAt g.size marks b g → 1 ≤ r → r ≤ g.size.rows → 1 ≤ c → c ≤ g.width
    → IsWritten anywhere base (cell_at b) g r c x
    → IsWritten anywhere base (cell_at b) g r (c + 1) (display_after x (change marks g r c))
unfolding display_after change_of
change_leaves marks base b g r c x ready are marked r1 r24 c1 cw w =
    go (is_marked marks r c) (marked r c r1 r24 c1 cw)
  where
    cell : Cell
    cell = cell_at g r c

    go : (m : Bool) → m ≡ differs_at b g r c → IsWritten anywhere base (cell_at b) g r (c + 1)
        (display_after x (cond m (cursor_position r c ∷ (short_brush_events (brush_of cell) ++ glyph_events cell))
        []))
    go true e = record {
      cursor = behind g.width r c;
      brush = brush_of cell;
      is = rw w.is (then_makes (one_makes {e = cursor_position r c} (cursor_position_leaves
          (shown base (painted (cell_at b) g r c) w.cursor w.brush) r c
          ready.decom r1 r24 c1 cw)) (then_makes
          (short_brush_leaves (shown base (painted (cell_at b) g r c) (at_place r c) w.brush) (brush_of cell))
          (painted_glyph base (cell_at b) g r c ready are))).is;
      at = λ l. tt;
    }
    go false e = record {
      cursor = w.cursor;
      brush = w.brush;
      is =
          w.is
          ∙ ap (λ y. shown base y w.cursor w.brush)
          (painted_skip (cell_at b) g r c
          (sym (same_cell-is (cell_at b r c) cell (not_false (same_cell (cell_at b r c) cell) (sym e)))));
      at = λ l. tt;
    }

pub changed_cells_leaves : (marks : List (List Bool)) (base : Display) (b g : Grid) (cursor : Cursor) (brush : Brush)
    → IsReady base → IsGrid b → IsGrid g → b.size ≡ g.size → b.width ≡ g.width → AreGlyphs g
    → AreMarkedAt g.size marks b g
    → IsShown base g (display_after (shown base b cursor brush) (changed_cells marks g))
unfolding changed_cells
changed_cells_leaves marks base b g cursor brush ready is_b is_g size same are marked =
    grid_leaves anywhere base (cell_at b) g (λ r c. change marks g r c)
    (λ r c x r1 r24 c1 cw w. change_leaves marks base b g r c x ready are marked r1 r24 c1 cw w)
    (λ r cursor brush. tt) (shown base b cursor brush) cursor brush is_g
    (ap (λ y. shown base y cursor brush) (sym (grid_of-cell_at blank b is_b.cells)
    ∙ ap (λ z. grid_of z b.width (cell_at b)) size
    ∙ ap (λ n. grid_of g.size n (cell_at b)) same ∙ painted_none (cell_at b) g))
