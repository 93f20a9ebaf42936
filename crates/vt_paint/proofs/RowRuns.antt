-- A row by runs: what a cell's piece is after a blank cell, after one of its own brush, and after any other.
use Rattle.std.proofs.Common.{◌≡◌, ◌+◌, ◌≤◌, ◌&&◌, ◌||◌, not, ℕ, Bool, true, false, List, [], ◌∷◌, ◌++◌, refl, sym}
use Rattle.std.proofs.Common.{ap, ◌∙◌, append-nil, append_assoc, arith}
use Rattle.vt_syntax.specs.declared.event.Event.{Event}
use Rattle.vt_syntax.specs.Spelling.{spell_events}
use Rattle.vt_screen.specs.declared.cell.Brush.{Brush}
use Rattle.vt_screen.specs.declared.cell.Cell.{Cell}
use Rattle.vt_screen.specs.Cells.{blank, brush_of}
use Rattle.vt_screen.specs.Grid.{Grid, cell_at}
use Rattle.vt_screen.specs.Same.{same_brush, when}
use Rattle.vt_paint.specs.Same.{is_blank}
use Rattle.vt_paint.specs.Controls.{cursor_position, brush_events}
use Rattle.vt_paint.specs.Pieces.{left_of, needs_header, header, glyph_events, piece_of, piece}
use Rattle.vt_paint.specs.Private.Parts.{pieces_from}
use Rattle.std.proofs.lemmas.Bool.{and_parts}
use Rattle.vt_paint.proofs.Equality.{same_brush-is}
use Rattle.vt_paint.proofs.Tests.{not_true}
use Rattle.vt_paint.proofs.Pushing.{appended-more, blank_piece, events, then_events}
use Rattle.vt_paint.proofs.Painting.{left_of-first, left_of-next}

-- a row's next cell has the piece that it would have after a blank cell
abbrev pub IsFresh : Grid → ℕ → ℕ → Type 0
IsFresh g r c = piece g r c ≡ piece_of r c blank (cell_at g r c)

pub first_fresh : (g : Grid) (r : ℕ) → IsFresh g r 1
first_fresh g r = ap (λ l. piece_of r 1 l (cell_at g r 1)) (left_of-first g r)

behind_other : (r c : ℕ) (left cell : Cell) → needs_header left cell ≡ true
    → piece_of r c left cell ≡ piece_of r c blank cell
unfolding piece_of header
behind_other r c left cell h = rw h refl

pub blank_fresh : (g : Grid) (r c : ℕ) → 1 ≤ c → is_blank (cell_at g r c) ≡ true → IsFresh g r (c + 1)
blank_fresh g r c c1 h =
    let left = cell_at g r c in
    let cell = cell_at g r (c + 1) in
    ap (λ l. piece_of r (c + 1) l cell) (left_of-next g r c c1)
    ∙ behind_other r (c + 1) left cell (ap (λ b. b || not (same_brush (brush_of left) (brush_of cell))) h)

-- whether a cell goes on with the run of the cell to its left
abbrev pub goes_on : Cell → Cell → Bool
goes_on left cell = same_brush (brush_of left) (brush_of cell) && not (is_blank cell)

-- after a cell with which it doesn't go on, by the tests
ended : (none left same : Bool) (head glyph : List Event) → same && not none ≡ false
    → when (not none) (when (left || not same) head ++ glyph) ≡ when (not none) (head ++ glyph)
ended true left same head glyph h = refl
ended false true same head glyph h = refl
ended false false true head glyph h = absurd cc
ended false false false head glyph h = refl

pub run_fresh : (g : Grid) (r c : ℕ) → 1 ≤ c → goes_on (cell_at g r c) (cell_at g r (c + 1)) ≡ false
    → IsFresh g r (c + 1)
unfolding piece_of header
run_fresh g r c c1 h =
    let left = cell_at g r c in
    let cell = cell_at g r (c + 1) in
    ap (λ l. piece_of r (c + 1) l cell) (left_of-next g r c c1)
    ∙ ended (is_blank cell) (is_blank left) (same_brush (brush_of left) (brush_of cell))
    (cursor_position r (c + 1) ∷ brush_events (brush_of cell)) (glyph_events cell) h

-- a run's first cell has a header
run_first : (g : Grid) (r c : ℕ) → IsFresh g r c → is_blank (cell_at g r c) ≡ false
    → piece g r c ≡ (cursor_position r c ∷ brush_events (brush_of (cell_at g r c))) ++ glyph_events (cell_at g r c)
unfolding piece_of header
run_first g r c fresh h = fresh ∙ rw h refl

inside_leaves : (r c : ℕ) (left cell : Cell) → is_blank left ≡ false → goes_on left cell ≡ true
    → piece_of r c left cell ≡ glyph_events cell
unfolding piece_of header
inside_leaves r c left cell l h =
    let both = and_parts (same_brush (brush_of left) (brush_of cell)) (not (is_blank cell)) h in
    let shown = not_true (is_blank cell) both.1 in
    rw (l, both.0, shown) refl

pub goes_on-shows : (left cell : Cell) → goes_on left cell ≡ true → is_blank cell ≡ false
goes_on-shows left cell h =
    not_true (is_blank cell) (and_parts (same_brush (brush_of left) (brush_of cell)) (not (is_blank cell)) h).1

pub goes_on-brush : (left cell : Cell) → goes_on left cell ≡ true → brush_of left ≡ brush_of cell
goes_on-brush left cell h =
    same_brush-is (brush_of left) (brush_of cell)
    (and_parts (same_brush (brush_of left) (brush_of cell)) (not (is_blank cell)) h).0

-- ---- what was written of a row

-- bytes that are appended to a line come after all that was before it
pub behind_all : (front line next more : List ℕ) → next ≡ line ++ more → front ++ next ≡ (front ++ line) ++ more
behind_all front line next more e = ap (λ (xs : List ℕ). front ++ xs) e ∙ sym (append_assoc front line more)

pub none_written : (g : Grid) (r i : ℕ) (old written : List ℕ) → is_blank (cell_at g r (i + 1)) ≡ true
    → written ≡ old ++ spell_events (pieces_from g r 1 i)
    → written ≡ old ++ spell_events (pieces_from g r 1 (i + 1))
none_written g r i old written h before =
    appended-more (λ c. piece g r c) 1 i (i + 1) (i + 1) [] old written written (omega arith) refl before (sym (append-nil written))
    (sym (blank_piece r (i + 1) (left_of g r (i + 1)) (cell_at g r (i + 1)) h))

pub first_written : (g : Grid) (r i : ℕ) (cell : Cell) (brush : Brush) (old before between after : List ℕ)
    → cell ≡ cell_at g r (i + 1) → IsFresh g r (i + 1) → is_blank cell ≡ false
    → brush ≡ brush_of cell → before ≡ old ++ spell_events (pieces_from g r 1 i)
    → between ≡ before ++ spell_events (cursor_position r (i + 1) ∷ brush_events brush)
    → after ≡ between ++ spell_events (glyph_events cell) → after ≡ old ++ spell_events (pieces_from g r 1 (i + 1))
first_written g r i cell brush old before between after here fresh shown with first second third =
    appended-more (λ c. piece g r c) 1 i (i + 1) (i + 1)
    ((cursor_position r (i + 1) ∷ brush_events brush) ++ glyph_events cell) old before after (omega arith) refl first
    (then_events (events (cursor_position r (i + 1) ∷ brush_events brush) second) (events (glyph_events cell) third)).is
    (rw (with, here) (sym (run_first g r (i + 1) fresh (rw (← here) shown))))

pub more_written : (g : Grid) (r i : ℕ) (cell : Cell) (old before after : List ℕ) → cell ≡ cell_at g r (i + 1) → 1 ≤ i
    → is_blank (cell_at g r i) ≡ false → goes_on (cell_at g r i) cell ≡ true
    → before ≡ old ++ spell_events (pieces_from g r 1 i) → after ≡ before ++ spell_events (glyph_events cell)
    → after ≡ old ++ spell_events (pieces_from g r 1 (i + 1))
more_written g r i cell old before after here i1 shown on first second =
    appended-more (λ c. piece g r c) 1 i (i + 1) (i + 1) (glyph_events cell) old before after (omega arith) refl first second
    (sym (ap (λ l. piece_of r (i + 1) l (cell_at g r (i + 1))) (left_of-next g r i i1)
    ∙ inside_leaves r (i + 1) (cell_at g r i) (cell_at g r (i + 1)) shown (rw (← here) on) ∙ rw here refl))
