-- The capacity of a scratch buffer. Contracts of private functions cite this, and no public clause does.
use Rattle.std.specs.Prelude.{ℕ, ◌*◌, max}
use Rattle.vt_screen.specs.declared.size.Size.{Size}
use Rattle.vt_term.specs.Text.{text_limit, row_text_limit}
use Rattle.vt_update.specs.Limits.{update_limit}
use Rattle.vt_picture.specs.Limits.{show_limit, picture_limit, draw_limit}
use Rattle.vt_xterm.specs.Limits.{xterm_lines_limit}
use Rattle.vt_xterm_paint.specs.Repaint.{xterm_paint_limit}

-- the lines of a chunk of 512 bytes
abbrev pub chunk_lines_limit : Size → ℕ
chunk_lines_limit size = 512 * row_text_limit size

-- the most bytes of what is made in a scratch buffer
unfoldable pub room_limit : Size → ℕ
room_limit size =
    max (max (max (max (max (max (picture_limit size) (show_limit size)) (draw_limit size)) (update_limit size))
    (xterm_paint_limit size)) (text_limit size)) (max (chunk_lines_limit size) (xterm_lines_limit size))
