-- The sizes that a caller of C may choose, and the limits at a size. (this profile)
use Rattle.std.specs.Prelude.{◌≡◌, ℕ, Option, Some, None, ◌&&◌, nat_lt, nat_eq, cond}
use Rattle.vt_screen.specs.declared.size.Size.{Size}
use Rattle.vt_screen.specs.Sizes.{vt220_size}
use Rattle.vt_term.specs.State.{State}
use Rattle.vt_term.specs.Text.{text_limit, row_text_limit}
use Rattle.vt_paint.specs.Limits.{paint_limit}
use Rattle.vt_update.specs.Limits.{update_limit}
use Rattle.vt_picture.specs.Limits.{show_limit, picture_limit, draw_limit}
use Rattle.vt_utf8.specs.Limits.{utf8_lines_limit}
use Rattle.vt_xterm.specs.Limits.{xterm_lines_limit}
use Rattle.vt_xterm_paint.specs.Repaint.{xterm_paint_limit}

-- the size of so many rows of so many columns, if a screen may have it. DECCOLM leaves its width
abbrev pub size_of : (rows columns : ℕ) → Option Size
size_of rows columns =
    cond (nat_lt 1 rows && (nat_lt rows 256 && (nat_lt 1 columns && nat_lt columns 256)))
    (Some (record { rows = rows; narrow = columns; wide = columns })) None

-- the size of a terminal that is opened: 24 rows of 80 columns are a VT220's screen, which DECCOLM makes 132 columns
-- wide
abbrev pub size_for : (rows columns : ℕ) → Option Size
size_for rows columns = cond (nat_eq rows 24 && nat_eq columns 80) (Some vt220_size) (size_of rows columns)

-- two terminals have this size
abbrev pub AreOfSize : Size → State → State → Type 0
AreOfSize size a b = (a.display.grid.size ≡ size) × (b.display.grid.size ≡ size)

-- the most bytes of what has this number; 0 for any other number
abbrev pub limit_of : ℕ → Size → ℕ
limit_of what size =
    cond (nat_eq what 0) (text_limit size)
    (cond (nat_eq what 1) (row_text_limit size)
    (cond (nat_eq what 2) (show_limit size)
    (cond (nat_eq what 3) (picture_limit size)
    (cond (nat_eq what 4) (draw_limit size)
    (cond (nat_eq what 5) (update_limit size)
    (cond (nat_eq what 6) (paint_limit size)
    (cond (nat_eq what 7) (xterm_paint_limit size)
    (cond (nat_eq what 8) (utf8_lines_limit size)
    (cond (nat_eq what 9) (xterm_lines_limit size) 0)))))))))
