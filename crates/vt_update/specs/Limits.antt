-- The most bytes of an update of a screen of a size. (this profile)
use Rattle.std.specs.Prelude.{ℕ, ◌+◌}
use Rattle.vt_screen.specs.declared.size.Size.{Size}
use Rattle.vt_paint.specs.Limits.{paint_limit}

-- the most bytes of a repaint, and capacity to play it: for the reports of 64 bytes, ten bytes each
abbrev pub update_limit : Size → ℕ
update_limit size = paint_limit size + 640
