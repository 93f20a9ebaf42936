-- Letters that are written at once are written as they are one after another.
use Rattle.std.proofs.lemmas.List.{take_more, length-take, get_or-take, get_or-drop}
use Rattle.std.proofs.Math.Seq.{take-add}
use Rattle.std.proofs.Common.{◌≡◌, inl, inr, ℕ, take, drop, length-drop, get_or, suc, ◌+◌, ◌-◌, ◌≤◌, ◌<◌, List, [], ◌∷◌, ◌++◌, length, map, All, Bool, true, false, Option, Some, refl, sym, ap, subst, ◌∙◌, arith, nat_lt, nat_le}
use Rattle.std.specs.Prelude.{◌==◌, ◌&&◌, if◌then◌else◌}
use Rattle.std.proofs.lemmas.Bool.Decides.{leb_tells, nat_tests}
use Rattle.vt_syntax.specs.Class.{IsPlain}
use Rattle.vt_glyph.specs.GraphicSets.{GraphicSets}
use Rattle.vt_glyph.specs.Invocation.{glyph_read}
use Rattle.vt_screen.specs.declared.size.Size.{Size}
use Rattle.vt_term.specs.State.{last_column, at_place}
use Rattle.vt_feed.specs.Actions.{printed, state_after}
use Rattle.vt_wide.specs.Runs.{RunLaws}
use Rattle.vt_wide.specs.Edits.{written, written_bytes, parted}
use Rattle.vt_xterm_cell.specs.declared.look.Look.{Look}
use Rattle.vt_xterm_cell.specs.Words.{CellParts}
use Rattle.vt_xterm_cell.specs.Cells.{blank_cell, written_cell, space_with, erased_cell}
use Rattle.vt_xterm_cell.specs.Wide.{xterm_wide}
use Rattle.vt_xterm_display.specs.declared.sides.Sides.{Sides}
use Rattle.vt_xterm_display.specs.State.{Grid, Shown, XtermState, on_shown, moved}
use Rattle.vt_xterm_display.specs.Moving.{last_reached}
use Rattle.vt_xterm_display.specs.Rows.{incoming}
use Rattle.vt_xterm_display.specs.Tabs.{is_pending}
use Rattle.vt_xterm_display.specs.Writing.{room, wrapped, after_wrap, with_grid, advanced, put, put_if_room, write, write_if_read, print, with_letters, WritesLetters}
use Rattle.vt_xterm_display.specs.Functions.{xterm}

-- a cell of one column, at the cursor
abbrev cell_over : CellParts → XtermState → Grid
cell_over cell s = written xterm_wide blank_cell (incoming s.shown) s.shown.grid s.shown.cursor.row s.shown.cursor.col cell

abbrev with_cell : CellParts → XtermState → XtermState
with_cell cell s = with_grid (cell_over cell s) (advanced 1 s)

wrap-none : (s : XtermState) → is_pending s ≡ false → after_wrap s ≡ s
unfolding after_wrap
wrap-none s none = rw none refl

put-letter : (b : ℕ) (s : XtermState) → s.shown.modes.irm ≡ false
    → put (written_cell s.shown.brush b false) s ≡ with_cell (written_cell s.shown.brush b false) s
unfolding put
put-letter b s over = rw over refl

room-some : (b : ℕ) (s : XtermState)
    → put_if_room (written_cell s.shown.brush b false) s ≡ put (written_cell s.shown.brush b false) s
unfolding put_if_room
room-some b s =
    let some : nat_le 1 (room s.sides s.shown) ≡ true = grind (arith, nat_tests) in
    rw some refl

write-letter : (b : ℕ) (s : XtermState) → s.shown.modes.irm ≡ false → is_pending s ≡ false
    → write (written_cell s.shown.brush b false) s ≡ with_cell (written_cell s.shown.brush b false) s
unfolding write
write-letter b s over none =
    ap (λ t. put_if_room (written_cell s.shown.brush b false) t) (wrap-none s none) ∙ room-some b s ∙ put-letter b s over

print-read : (s : XtermState) (b : ℕ) → WritesLetters s → 0x20 ≤ b → b ≤ 0x7E
    → print b s ≡ write (written_cell s.shown.brush b false) s
print-read s b writes low high =
    ap (λ (x : GraphicSets). write_if_read (glyph_read s.shown.sets b) (on_shown (λ d. record d { sets = x }) s)) (writes.sets b low high)
    ∙ ap (λ (o : Option ℕ). write_if_read o (on_shown (λ d. record d { sets = s.shown.sets }) s)) (writes.letter b low high)

print-letter : (s : XtermState) (b : ℕ) → WritesLetters s → is_pending s ≡ false → 0x20 ≤ b → b ≤ 0x7E
    → print b s ≡ with_cell (written_cell s.shown.brush b false) s
print-letter s b writes none low high = print-read s b writes low high ∙ write-letter b s writes.replaces none

-- ---- the cursor

-- one column on, the cursor reaches the same column
reached-next : (left right width row col : ℕ) → col + 1 ≤ (if nat_le col right then right else width)
    → (if nat_le (col + 1) right then right else width) ≡ (if nat_le col right then right else width)
reached-next left right width row col room = elim (leb_tells col right) [
  | inl e ↦
      let within : col + 1 ≤ right = subst (λ (b : Bool). col + 1 ≤ (if b then right else width)) e.0 room in
      let test : nat_le (col + 1) right ≡ true = grind (arith, nat_tests) in
      rw (test, e.0) refl
  | inr e ↦
      let test : nat_le (col + 1) right ≡ false = grind (arith, nat_tests, e) in
      rw (test, e.0) refl
]

-- the state after a letter that is followed by another
abbrev next_state : Grid → XtermState → XtermState
next_state g s = record s {
  shown = record s.shown { grid = g; cursor = at_place s.shown.cursor.row (s.shown.cursor.col + 1) };
  waits = false;
}

advanced-one : (g : Grid) (s : XtermState) → s.shown.cursor.col + 1 ≤ last_reached s.sides s.shown
    → with_grid g (advanced 1 s) ≡ next_state g s
advanced-one g s room =
    let test : nat_le (s.shown.cursor.col + 1) (last_reached s.sides s.shown) ≡ true = grind (arith, nat_tests) in
    rw test refl

reached-on : (g : Grid) (s : XtermState) → g.width ≡ s.shown.grid.width → s.shown.cursor.col + 1 ≤ last_reached s.sides s.shown
    → last_reached s.sides (next_state g s).shown ≡ last_reached s.sides s.shown
reached-on g s width room =
    let col : ℕ = s.shown.cursor.col in
    reached-next s.sides.left s.sides.right g.width s.shown.cursor.row col
    (subst (λ (w : ℕ). col + 1 ≤ (if nat_le col s.sides.right then s.sides.right else w)) (sym width) room)
    ∙ ap (λ (w : ℕ). if nat_le col s.sides.right then s.sides.right else w) width

advanced-more : (n : ℕ) (g h : Grid) (s : XtermState) → h.width ≡ s.shown.grid.width
    → s.shown.cursor.col + 1 ≤ last_reached s.sides s.shown
    → with_grid g (advanced n (next_state h s)) ≡ with_grid g (advanced (n + 1) s)
advanced-more n g h s width room =
    let place : s.shown.cursor.col + 1 + n ≡ s.shown.cursor.col + (n + 1) = omega arith in
    let reached : last_reached s.sides (next_state h s).shown ≡ last_reached s.sides s.shown = reached-on h s width room in
    rw (reached, place, width) refl

-- ---- bytes

prints-append : (xs ys : List ℕ) (s : XtermState)
    → state_after xterm (map printed (xs ++ ys)) s ≡ state_after xterm (map printed ys) (state_after xterm (map printed xs) s)
prints-append [] ys s = refl
prints-append (x ∷ xs) ys s = prints-append xs ys (print x s)

-- one more byte
pub prints-more : (run : List ℕ) (i : ℕ) (s t u : XtermState) → i < length run → t ≡ state_after xterm (map printed (take i run)) s
    → u ≡ print (get_or run i 0) t → u ≡ state_after xterm (map printed (take (i + 1) run)) s
prints-more run i s t u low first second =
    second ∙ ap (print (get_or run i 0)) first
    ∙ sym (prints-append (take i run) (get_or run i 0 ∷ []) s)
    ∙ ap (λ xs. state_after xterm (map printed xs) s) (sym (take_more run i 0 low))

cell-width : (empty cell : CellParts) (g : Grid) (row col : ℕ) → cell.wide ≡ false
    → (written xterm_wide blank_cell empty g row col cell).width ≡ g.width
unfolding parted
cell-width empty cell g row col narrow = rw narrow refl

cell-size : (empty cell : CellParts) (g : Grid) (row col : ℕ) → cell.wide ≡ false
    → (written xterm_wide blank_cell empty g row col cell).size ≡ g.size
unfolding parted
cell-size empty cell g row col narrow = rw narrow refl

letter-writes : (g : Grid) (s : XtermState) → WritesLetters s → WritesLetters (next_state g s)
letter-writes g s writes = record { letter = writes.letter; sets = writes.sets; replaces = writes.replaces }

-- letters that have room are written as they are one after another
pub letters-written : RunLaws xterm_wide blank_cell → (letters : List ℕ) (s : XtermState) → WritesLetters s → is_pending s ≡ false
    → All IsPlain letters → 1 ≤ length letters → 1 ≤ s.shown.cursor.row → s.shown.cursor.row ≤ s.shown.grid.size.rows
    → s.shown.cursor.col + length letters ≤ last_reached s.sides s.shown + 1
    → state_after xterm (map printed letters) s ≡ with_letters letters s
letters-written runs [] s writes none all some first last room = absurd (omega arith)
letters-written runs (b ∷ []) s writes none all some first last room =
    let is = all 0 0 (omega arith) in
    print-letter s b writes none is.0 is.1
    ∙ ap (λ (g : Grid). with_grid g (advanced 1 s))
    (sym (runs.one (incoming s.shown) s.shown.grid s.shown.cursor.row s.shown.cursor.col b (space_with s.shown.brush) is))
letters-written runs (b ∷ next ∷ rest) s writes none all some first last room =
    let is = all 0 0 (omega arith) in
    let d : Shown = s.shown in
    let pen : CellParts = space_with d.brush in
    let empty : CellParts = incoming d in
    let g : Grid = written xterm_wide blank_cell empty d.grid d.cursor.row d.cursor.col (written_cell d.brush b false) in
    let one : written_bytes xterm_wide blank_cell empty d.grid d.cursor.row d.cursor.col (b ∷ []) pen ≡ g =
    runs.one empty d.grid d.cursor.row d.cursor.col b pen is in
    let width : g.width ≡ d.grid.width = cell-width empty (written_cell d.brush b false) d.grid d.cursor.row d.cursor.col refl in
    let near : d.cursor.col + 1 ≤ last_reached s.sides d = omega (arith, room) in
    let t : XtermState = next_state g s in
    let step : print b s ≡ t = print-letter s b writes none is.0 is.1 ∙ advanced-one g s near in
    let size : g.size ≡ d.grid.size = cell-size empty (written_cell d.brush b false) d.grid d.cursor.row d.cursor.col refl in
    let reached : last_reached s.sides t.shown ≡ last_reached s.sides d = reached-on g s width near in
    let letters : List ℕ = next ∷ rest in
    let rest-written : state_after xterm (map printed letters) t ≡ with_letters letters t =
    letters-written runs (next ∷ rest) t (letter-writes g s writes) refl (λ k d h. all (suc k) d (omega arith)) (omega arith) first
    (subst (λ (z : Size). d.cursor.row ≤ z.rows) (sym size) last)
    (subst (λ (r : ℕ). d.cursor.col + 1 + length letters ≤ r + 1) (sym reached) (omega (arith, room))) in
    let after : Grid = written_bytes xterm_wide blank_cell empty g d.cursor.row (d.cursor.col + 1) letters pen in
    let grid : after ≡ written_bytes xterm_wide blank_cell empty d.grid d.cursor.row d.cursor.col (b ∷ letters) pen =
    ap (λ (h : Grid). written_bytes xterm_wide blank_cell empty h d.cursor.row (d.cursor.col + 1) letters pen) (sym one)
    ∙ sym (runs.append empty d.grid d.cursor.row d.cursor.col (b ∷ []) letters pen (record { wide = refl; second = refl }) first last
    (omega arith) (omega arith)) in
    let count : length letters + 1 ≡ length (b ∷ letters) = omega arith in
    ap (λ (u : XtermState). state_after xterm (map printed letters) u) step ∙ rest-written
    ∙ advanced-more (length letters) after g s width near
    ∙ ap (λ (n : ℕ). with_grid after (advanced n s)) count ∙ ap (λ (h : Grid). with_grid h (advanced (length (b ∷ letters)) s)) grid

-- ---- lines

-- a pending wrap is carried out first, by a letter too
wrap-over : (s : XtermState) → is_pending (after_wrap s) ≡ false
unfolding after_wrap
wrap-over s = go (is_pending s) refl
  where
    go : (b : Bool) → is_pending s ≡ b → is_pending (if b then moved wrapped s else s) ≡ false
    go true is = refl
    go false is = is

wrapped-once : (s : XtermState) → after_wrap (after_wrap s) ≡ after_wrap s
wrapped-once s = wrap-none (after_wrap s) (wrap-over s)

wrap-writes : (s : XtermState) → WritesLetters s → WritesLetters (after_wrap s)
unfolding after_wrap
wrap-writes s writes = go (is_pending s)
  where
    go : (b : Bool) → WritesLetters (if b then moved wrapped s else s)
    go true = record { letter = writes.letter; sets = writes.sets; replaces = writes.replaces }
    go false = writes

wrap-brush : (s : XtermState) → (after_wrap s).shown.brush ≡ s.shown.brush
unfolding after_wrap
wrap-brush s = go (is_pending s)
  where
    go : (b : Bool) → (if b then moved wrapped s else s).shown.brush ≡ s.shown.brush
    go true = refl
    go false = refl

letter-wraps : (s : XtermState) (b : ℕ) → WritesLetters s → 0x20 ≤ b → b ≤ 0x7E → print b s ≡ print b (after_wrap s)
unfolding write
letter-wraps s b writes low high =
    print-read s b writes low high
    ∙ ap (λ t. put_if_room (written_cell s.shown.brush b false) t) (sym (wrapped-once s))
    ∙ ap (λ (look : Look). write (written_cell look b false) (after_wrap s)) (sym (wrap-brush s))
    ∙ sym (print-read (after_wrap s) b (wrap-writes s writes) low high)

letters-wrap : (letters : List ℕ) (s : XtermState) → WritesLetters s → All IsPlain letters → 1 ≤ length letters
    → state_after xterm (map printed letters) s ≡ state_after xterm (map printed letters) (after_wrap s)
letters-wrap [] s writes all some = absurd (omega arith)
letters-wrap (b ∷ rest) s writes all some =
    let is = all 0 0 (omega arith) in
    ap (λ (u : XtermState). state_after xterm (map printed rest) u) (letter-wraps s b writes is.0 is.1)

-- letters of one row, after those before them
pub line-written : RunLaws xterm_wide blank_cell → (run : List ℕ) (at end : ℕ) (s t u v : XtermState) → All IsPlain run → at < end
    → end ≤ length run → t ≡ state_after xterm (map printed (take at run)) s → WritesLetters t → u ≡ after_wrap t
    → 1 ≤ u.shown.cursor.row → u.shown.cursor.row ≤ u.shown.grid.size.rows
    → u.shown.cursor.col + (end - at) ≤ last_reached u.sides u.shown + 1
    → v ≡ with_letters (take (end - at) (drop at run)) u
    → (v ≡ state_after xterm (map printed (take end run)) s) × WritesLetters v
line-written runs run at end s t u v all below fits is writes wraps first last room written =
    let line : List ℕ = take (end - at) (drop at run) in
    let long : length line ≡ end - at = rw (length-take, length-drop) (omega arith) in
    let front : take at run ++ line ≡ take end run =
    let sum : at + (end - at) ≡ end = omega arith in
    sym (take-add at (end - at) run) ∙ ap (λ (n : ℕ). take n run) sum in
    let bytes : All IsPlain line = λ k d h.
    let inside : at + k < length run = omega (arith, long) in
    let here : get_or line k d ≡ get_or run (at + k) d =
    get_or-take (end - at) (drop at run) k d (omega (arith, long)) ∙ get_or-drop at run k d in
    rw here (all (at + k) d inside) in
    let none : is_pending u ≡ false = ap is_pending wraps ∙ wrap-over t in
    let u-writes : WritesLetters u = rw wraps (wrap-writes t writes) in
    let some : 1 ≤ length line = omega (arith, long) in (
      written
          ∙ sym (letters-written runs line u u-writes none bytes some first last (rw long room))
          ∙ ap (λ (x : XtermState). state_after xterm (map printed line) x) wraps
          ∙ sym (letters-wrap line t writes bytes some)
          ∙ ap (λ (x : XtermState). state_after xterm (map printed line) x) is
          ∙ sym (prints-append (take at run) line s)
          ∙ ap (λ (bs : List ℕ). state_after xterm (map printed bs) s) front,
      rw written (record { letter = u-writes.letter; sets = u-writes.sets; replaces = u-writes.replaces }),
    )
