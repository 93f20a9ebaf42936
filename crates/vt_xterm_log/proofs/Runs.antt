-- Graphic bytes that end in the cursor's row scroll at most one line off, that of the first one.
use Rattle.std.proofs.Common.{◌≡◌, ◌≤◌, ◌∙◌, ◌+◌, ◌-◌, ℕ, Bool, true, false, List, [], ◌∷◌, ◌++◌, length, Option, Some, None, refl, sym, ap, subst, arith, append-nil}
use Rattle.std.specs.Prelude.{slice_index, ◌&&◌, ◌||◌, nat_le, nat_lt, if◌then◌else◌}
use Rattle.std.proofs.lemmas.Bool.Decides.{nat_tests}
use Rattle.vt_glyph.specs.Invocation.{has_no_glyph, glyph_read, after_read}
use Rattle.vt_feed.specs.Observing.{silent, prints}
use Rattle.vt_wide.specs.Edits.{parted, columns, written, written_inserting, inserted}
use Rattle.vt_xterm_cell.specs.Words.{CellParts}
use Rattle.vt_xterm_cell.specs.Cells.{blank_cell, written_cell}
use Rattle.vt_xterm_cell.specs.Wide.{xterm_wide}
use Rattle.vt_xterm_display.specs.declared.sides.Sides.{Sides}
use Rattle.vt_xterm_display.specs.State.{Grid, Shown, XtermState, on_shown}
use Rattle.vt_xterm_display.specs.Moving.{is_between, last_reached}
use Rattle.vt_xterm_display.specs.Rows.{incoming}
use Rattle.vt_xterm_display.specs.Tabs.{is_pending}
use Rattle.vt_xterm_display.specs.Writing.{room, after_wrap, with_character, put, put_if_room, write, write_if_read, print}
use Rattle.vt_xterm_display.specs.Functions.{xterm}
use Rattle.vt_xterm_display.specs.Text.{rows_text, xterm_text_limit}
use Rattle.vt_xterm_log.specs.Log.{index_off, print_off, lines_in, AreShort, RunFits}

silent-none : (bytes : List ℕ) → lines_in (silent bytes) ≡ []
silent-none [] = refl
silent-none (b ∷ bytes) = silent-none bytes

no-rows : (g : Grid) → rows_text 0 g ≡ []
unfolding rows_text
no-rows g = refl

-- ---- the cursor after a character of one column

width-either : (b : Bool) (x y : Grid) (width : ℕ) → x.width ≡ width → y.width ≡ width → (if b then x else y).width ≡ width
width-either true x y width one other = one
width-either false x y width one other = other

written-width : (e cell : CellParts) (g : Grid) (row col : ℕ) → (written xterm_wide blank_cell e g row col cell).width ≡ g.width
unfolding parted
written-width e cell g row col = width-either (xterm_wide.is_wide cell) _ _ g.width refl refl

inserting-width : (e cell : CellParts) (g : Grid) (row col right : ℕ)
    → (written_inserting xterm_wide blank_cell e g row col right cell).width ≡ g.width
unfolding parted
inserting-width e cell g row col right = written-width e cell (inserted xterm_wide blank_cell e g row col right (columns xterm_wide cell)) row col

character-width : (cell : CellParts) (m : Sides) (d : Shown) → (with_character cell m d).width ≡ d.grid.width
character-width cell m d =
    width-either (d.modes.irm && is_between m d) _ _ d.grid.width
    (inserting-width (incoming d) cell d.grid d.cursor.row d.cursor.col m.right)
    (written-width (incoming d) cell d.grid d.cursor.row d.cursor.col)

next-fits : (col reached : ℕ) → 2 ≤ reached - col + 1 → nat_le (col + 1) reached ≡ true
next-fits col reached some = grind (arith, nat_tests)

right-of : (col right : ℕ) → nat_le col right ≡ false → nat_le (col + 1) right ≡ false
right-of col right is = grind (arith, nat_tests)

-- one column less is left
one-less : (col right width now : ℕ) → now ≡ width → 2 ≤ (if nat_le col right then right else width) - col + 1
    → (if nat_le col right then right else width) - col + 1 ≤ (if nat_le (col + 1) right then right else now) - (col + 1) + 1 + 1
one-less col right width now same some = go (nat_le col right) refl some
  where
    go : (b : Bool) → nat_le col right ≡ b → 2 ≤ (if b then right else width) - col + 1
        → (if b then right else width) - col + 1 ≤ (if nat_le (col + 1) right then right else now) - (col + 1) + 1 + 1
    go true is some = rw (next-fits col right some) (omega arith)
    go false is some = rw (right-of col right is) (omega (arith, same))

put-pending : (glyph : ℕ) (s : XtermState) → 2 ≤ room s.sides s.shown → is_pending (put (written_cell s.shown.brush glyph false) s) ≡ false
unfolding put
put-pending glyph s some = rw (next-fits s.shown.cursor.col (last_reached s.sides s.shown) some) refl

put-room : (glyph : ℕ) (s : XtermState) → 2 ≤ room s.sides s.shown → room s.sides s.shown
    ≤ room (put (written_cell s.shown.brush glyph false) s).sides (put (written_cell s.shown.brush glyph false) s).shown + 1
unfolding put
put-room glyph s some =
    let cell : CellParts = written_cell s.shown.brush glyph false in
    rw (next-fits s.shown.cursor.col (last_reached s.sides s.shown) some)
    (one-less s.shown.cursor.col s.sides.right s.shown.grid.width _ (character-width cell s.sides s.shown) some)

wrap-none : (s : XtermState) → is_pending s ≡ false → after_wrap s ≡ s
unfolding after_wrap
wrap-none s none = rw none refl

room-some : (glyph : ℕ) (s : XtermState)
    → put_if_room (written_cell s.shown.brush glyph false) s ≡ put (written_cell s.shown.brush glyph false) s
unfolding put_if_room
room-some glyph s =
    let some : nat_le 1 (room s.sides s.shown) ≡ true = grind (arith, nat_tests) in
    rw some refl

write-put : (glyph : ℕ) (s : XtermState) → is_pending s ≡ false
    → write (written_cell s.shown.brush glyph false) s ≡ put (written_cell s.shown.brush glyph false) s
unfolding write
write-put glyph s none = ap (λ t. put_if_room (written_cell s.shown.brush glyph false) t) (wrap-none s none) ∙ room-some glyph s

-- no wrap is pending, and at most one column less is left
record GoesOn (left : ℕ) (t : XtermState) : Type 0 where
  pending : is_pending t ≡ false
  room : left ≤ room t.sides t.shown + 1

print-on : (b : ℕ) (s : XtermState) → is_pending s ≡ false → 2 ≤ room s.sides s.shown → GoesOn (room s.sides s.shown) (print b s)
print-on b s none some = go (glyph_read s.shown.sets b) (on_shown (λ d. record d { sets = after_read d.sets b }) s) none some
  where
    go : (glyph : Option ℕ) (t : XtermState) → is_pending t ≡ false → 2 ≤ room t.sides t.shown
        → GoesOn (room t.sides t.shown) (write_if_read glyph t)
    go None t none some = record { pending = none; room = omega arith }
    go (Some glyph) t none some =
        subst (λ (u : XtermState). GoesOn (room t.sides t.shown) u) (sym (write-put glyph t none))
        (record { pending = put-pending glyph t some; room = put-room glyph t some })

-- ---- graphic bytes

chosen-none : (a b c : Bool) (d : Bool) (n : ℕ) → b ≡ false → d ≡ false → (if a then 0 else (if b || (c && d) then n else 0)) ≡ 0
chosen-none true b c d n first second = refl
chosen-none false b true d n first second = rw (first, second) refl
chosen-none false b false d n first second = rw first refl

one-none : (b : ℕ) (s : XtermState) → is_pending s ≡ false → 1 ≤ room s.sides s.shown → rows_text (print_off b s) s.shown.grid ≡ []
one-none b s none some =
    let full : nat_lt (room s.sides s.shown) 1 ≡ false = grind (arith, nat_tests, some) in
    let off : print_off b s ≡ 0 =
    chosen-none (has_no_glyph b) (is_pending s) s.shown.modes.decawm (nat_lt (room s.sides s.shown) 1) (index_off s) none full in
    ap (λ n. rows_text n s.shown.grid) off ∙ no-rows s.shown.grid

quiet : (bytes : List ℕ) (s : XtermState) → is_pending s ≡ false → length bytes ≤ room s.sides s.shown → lines_in (prints xterm s bytes) ≡ []
quiet [] s none fits = refl
quiet (b ∷ []) s none fits = ap (λ (t : List ℕ). t ++ []) (one-none b s none (omega (arith, fits)))
quiet (b ∷ c ∷ bytes) s none fits =
    let on : GoesOn (room s.sides s.shown) (print b s) = print-on b s none (omega (arith, fits)) in
    ap (λ (t : List ℕ). t ++ lines_in (prints xterm (print b s) (c ∷ bytes))) (one-none b s none (omega (arith, fits)))
    ∙ quiet (c ∷ bytes) (print b s) on.pending (omega (arith, fits, on.room))

-- the lines of graphic bytes that are written at once
run-lines : (b : ℕ) (bytes : List ℕ) (s : XtermState) → RunFits (length (b ∷ bytes)) s
    → lines_in (prints xterm s (b ∷ bytes)) ≡ rows_text (print_off b s) s.shown.grid
run-lines b [] s fits = append-nil (rows_text (print_off b s) s.shown.grid)
run-lines b (c ∷ bytes) s fits = go (is_pending s) refl fits
  where
    go : (x : Bool) → is_pending s ≡ x → length (b ∷ c ∷ bytes) ≤ (if x then 1 else room s.sides s.shown)
        → lines_in (prints xterm s (b ∷ c ∷ bytes)) ≡ rows_text (print_off b s) s.shown.grid
    go true is fits = absurd (omega (arith, fits))
    go false is fits = quiet (b ∷ c ∷ bytes) s is fits ∙ sym (one-none b s is (omega (arith, fits)))

-- ---- what an observer appends

pub nothing-lines : (old bytes : List ℕ) → old ≡ old ++ lines_in (silent bytes)
nothing-lines old bytes = sym (append-nil old) ∙ ap (λ (t : List ℕ). old ++ t) (sym (silent-none bytes))

-- the first text is short enough, if all are
first-short : (limit b : ℕ) (bytes : List ℕ) (s : XtermState) → AreShort limit (prints xterm s (b ∷ bytes))
    → xterm_text_limit s.shown.grid.size ≤ limit
first-short limit b bytes s short = short.0

pub run-line : (run old new : List ℕ) (n : ℕ) (s : XtermState) (limit : ℕ) → 1 ≤ length run → RunFits (length run) s
    → n ≡ print_off (slice_index run 0) s → (xterm_text_limit s.shown.grid.size ≤ limit → new ≡ old ++ rows_text n s.shown.grid)
    → AreShort limit (prints xterm s run) → new ≡ old ++ lines_in (prints xterm s run)
run-line [] old new n s limit some fits same is short = absurd (omega (arith, some))
run-line (b ∷ bytes) old new n s limit some fits same is short =
    is (first-short limit b bytes s short)
    ∙ ap (λ k. old ++ rows_text k s.shown.grid) same
    ∙ ap (λ (t : List ℕ). old ++ t) (sym (run-lines b bytes s fits))
