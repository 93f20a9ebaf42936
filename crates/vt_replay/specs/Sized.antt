-- What is due of a screen of any size. (this profile)
use Rattle.std.specs.Prelude.{ℕ}
use Rattle.vt_screen.specs.declared.size.Size.{Size}
use Rattle.vt_term.specs.Text.{text_limit}
use Rattle.vt_paint.specs.Limits.{paint_limit}
use Rattle.vt_picture.specs.Limits.{show_limit, picture_limit}
use Rattle.vt_cli.specs.declared.what.What.{What}
use Rattle.vt_cli.specs.declared.what.What.TheVariants.{Text, Repaint, Status, Show, Picture}
use Rattle.vt_xterm_paint.specs.Repaint.{xterm_paint_limit}
use Rattle.vt_replay.specs.declared.sized.Ending.{Ending}
use Rattle.vt_replay.specs.declared.sized.Ending.TheVariants.{Terminal, Session}
use Rattle.vt_replay.specs.declared.status.TheConstants.{STATUS_LIMIT}

-- the most bytes that are due of a terminal at the end; private contracts alone speak of this and of the next one
abbrev pub room_at : What → Size → ℕ
room_at Text size = text_limit size
room_at Repaint size = paint_limit size
room_at Status size = STATUS_LIMIT
room_at Show size = show_limit size
room_at Picture size = picture_limit size
room_at _ size = 0

-- the most bytes that are due at the end
abbrev pub room_of : Ending → Size → ℕ
room_of (Terminal what) size = room_at what size
room_of Session size = xterm_paint_limit size
