-- A character beyond ASCII leaves the size of the screen.
use Rattle.std.proofs.Common.{◌≡◌, ℕ, Bool, true, false, refl, ◌∙◌}
use Rattle.std.specs.Prelude.{nat_le, ◌==◌, ◌&&◌, if◌then◌else◌}
use Rattle.vt_screen.specs.declared.size.Size.{Size}
use Rattle.vt_utf8.specs.Cells.{cells}
use Rattle.vt_feed.specs.Actions.{Character}
use Rattle.vt_wide.specs.Edits.{parted, columns, written, written_inserting, inserted}
use Rattle.vt_xterm_cell.specs.Words.{CellParts}
use Rattle.vt_xterm_cell.specs.Cells.{blank_cell, written_cell}
use Rattle.vt_xterm_cell.specs.Wide.{xterm_wide}
use Rattle.vt_xterm_display.specs.declared.sides.Sides.{Sides}
use Rattle.vt_xterm_display.specs.Functions.{xterm}
use Rattle.vt_xterm_display.specs.State.{Grid, Shown, XtermState, on_shown, moved}
use Rattle.vt_xterm_display.specs.Moving.{is_between}
use Rattle.vt_xterm_display.specs.Rows.{incoming, index, next_line}
use Rattle.vt_xterm_display.specs.Tabs.{is_pending}
use Rattle.vt_xterm_display.specs.Writing.{wrapped, after_wrap, room, put, put_if_room, write, mark, unshifted, is_written}

state-either : (b : Bool) (x y : XtermState) (z : Size) → x.shown.grid.size ≡ z → y.shown.grid.size ≡ z
    → (if b then x else y).shown.grid.size ≡ z
state-either true x y z first second = first
state-either false x y z first second = second

grid-either : (b : Bool) (x y : Grid) (z : Size) → x.size ≡ z → y.size ≡ z → (if b then x else y).size ≡ z
grid-either true x y z first second = first
grid-either false x y z first second = second

written-size : (e cell : CellParts) (g : Grid) (row col : ℕ) → (written xterm_wide blank_cell e g row col cell).size ≡ g.size
unfolding parted
written-size e cell g row col = grid-either (xterm_wide.is_wide cell) _ _ g.size refl refl

inserting-size : (e cell : CellParts) (g : Grid) (row col right : ℕ)
    → (written_inserting xterm_wide blank_cell e g row col right cell).size ≡ g.size
unfolding parted
inserting-size e cell g row col right = written-size e cell (inserted xterm_wide blank_cell e g row col right (columns xterm_wide cell)) row col

put-size : (cell : CellParts) (s : XtermState) → (put cell s).shown.grid.size ≡ s.shown.grid.size
unfolding put
put-size cell s =
    grid-either (s.shown.modes.irm && is_between s.sides s.shown) _ _ s.shown.grid.size
    (inserting-size (incoming s.shown) cell s.shown.grid s.shown.cursor.row s.shown.cursor.col s.sides.right)
    (written-size (incoming s.shown) cell s.shown.grid s.shown.cursor.row s.shown.cursor.col)

index-size : (m : Sides) (d : Shown) → (index m d).grid.size ≡ d.grid.size
unfolding parted
index-size m d = grid-either (d.cursor.row == d.margins.bottom && is_between m d) _ _ d.grid.size refl refl

wrap-size : (s : XtermState) → (after_wrap s).shown.grid.size ≡ s.shown.grid.size
unfolding after_wrap
wrap-size s = state-either (is_pending s) (moved wrapped s) s s.shown.grid.size (index-size s.sides s.shown) refl

room-size : (cell : CellParts) (s : XtermState) → (put_if_room cell s).shown.grid.size ≡ s.shown.grid.size
unfolding put_if_room
room-size cell s =
    let next : XtermState = moved next_line s in
    let z : Size = s.shown.grid.size in
    state-either (nat_le (columns xterm_wide cell) (room s.sides s.shown)) (put cell s) _ z (put-size cell s)
    (state-either s.shown.modes.decawm (put cell next) s z (put-size cell next ∙ index-size s.sides s.shown) refl)

write-size : (cell : CellParts) (s : XtermState) → (write cell s).shown.grid.size ≡ s.shown.grid.size
unfolding write
write-size cell s = room-size cell (after_wrap s) ∙ wrap-size s

pub size-kept : (c : ℕ) (s : XtermState) → (xterm.effect (Character c) s).shown.grid.size ≡ s.shown.grid.size
size-kept c s =
    let cell : CellParts = written_cell s.shown.brush c (cells c == 2) in
    let unshifts : XtermState = on_shown unshifted s in
    let z : Size = s.shown.grid.size in
    state-either (cells c == 0) (mark c s) _ z refl
    (state-either (is_written (cells c) s) (write cell unshifts) s z (write-size cell unshifts) refl)
