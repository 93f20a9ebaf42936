-- All that is made of a terminal of a size fits into a scratch buffer for it.
use Rattle.std.proofs.Common.{◌≤◌, ℕ, arith}
use Rattle.std.specs.Prelude.{max}
use Rattle.std.proofs.Math.Nat.{le-max_left, le-max_right}
use Rattle.vt_screen.specs.declared.size.Size.{Size}
use Rattle.vt_term.specs.Text.{text_limit}
use Rattle.vt_paint.specs.Limits.{paint_limit}
use Rattle.vt_update.specs.Limits.{update_limit}
use Rattle.vt_picture.specs.Limits.{show_limit, picture_limit, draw_limit}
use Rattle.vt_utf8.specs.Limits.{utf8_lines_limit}
use Rattle.vt_xterm.specs.Limits.{xterm_lines_limit}
use Rattle.vt_xterm_paint.specs.Repaint.{xterm_paint_limit}
use Rattle.vt220_c.specs.Room.{chunk_lines_limit, room_limit}

-- ---- the largest of eight numbers

module _ (p s d u x t c l : ℕ) where
  abbrev largest : ℕ
  largest = max (max (max (max (max (max p s) d) u) x) t) (max c l)

  first : p ≤ largest
  first = omega (
    arith,
    le-max_left p s,
    le-max_left (max p s) d,
    le-max_left (max (max p s) d) u,
    le-max_left (max (max (max p s) d) u) x,
    le-max_left (max (max (max (max p s) d) u) x) t,
    le-max_left (max (max (max (max (max p s) d) u) x) t) (max c l),
  )

  second : s ≤ largest
  second = omega (
    arith,
    le-max_right p s,
    le-max_left (max p s) d,
    le-max_left (max (max p s) d) u,
    le-max_left (max (max (max p s) d) u) x,
    le-max_left (max (max (max (max p s) d) u) x) t,
    le-max_left (max (max (max (max (max p s) d) u) x) t) (max c l),
  )

  third : d ≤ largest
  third = omega (
    arith,
    le-max_right (max p s) d,
    le-max_left (max (max p s) d) u,
    le-max_left (max (max (max p s) d) u) x,
    le-max_left (max (max (max (max p s) d) u) x) t,
    le-max_left (max (max (max (max (max p s) d) u) x) t) (max c l),
  )

  fourth : u ≤ largest
  fourth = omega (
    arith,
    le-max_right (max (max p s) d) u,
    le-max_left (max (max (max p s) d) u) x,
    le-max_left (max (max (max (max p s) d) u) x) t,
    le-max_left (max (max (max (max (max p s) d) u) x) t) (max c l),
  )

  fifth : x ≤ largest
  fifth = omega (
    arith,
    le-max_right (max (max (max p s) d) u) x,
    le-max_left (max (max (max (max p s) d) u) x) t,
    le-max_left (max (max (max (max (max p s) d) u) x) t) (max c l),
  )

  sixth : t ≤ largest
  sixth = omega (
    arith,
    le-max_right (max (max (max (max p s) d) u) x) t,
    le-max_left (max (max (max (max (max p s) d) u) x) t) (max c l),
  )

  seventh : c ≤ largest
  seventh = omega (arith, le-max_left c l, le-max_right (max (max (max (max (max p s) d) u) x) t) (max c l))

  eighth : l ≤ largest
  eighth = omega (arith, le-max_right c l, le-max_right (max (max (max (max (max p s) d) u) x) t) (max c l))

-- ---- the limits of a size

module _ (size : Size) where
  pub picture_fits : picture_limit size ≤ room_limit size
  unfolding room_limit
  picture_fits =
      first (picture_limit size) (show_limit size) (draw_limit size) (update_limit size) (xterm_paint_limit size)
      (text_limit size) (chunk_lines_limit size) (xterm_lines_limit size)

  pub show_fits : show_limit size ≤ room_limit size
  unfolding room_limit
  show_fits =
      second (picture_limit size) (show_limit size) (draw_limit size) (update_limit size) (xterm_paint_limit size)
      (text_limit size) (chunk_lines_limit size) (xterm_lines_limit size)

  pub draw_fits : draw_limit size ≤ room_limit size
  unfolding room_limit
  draw_fits =
      third (picture_limit size) (show_limit size) (draw_limit size) (update_limit size) (xterm_paint_limit size)
      (text_limit size) (chunk_lines_limit size) (xterm_lines_limit size)

  pub update_fits : update_limit size ≤ room_limit size
  unfolding room_limit
  update_fits =
      fourth (picture_limit size) (show_limit size) (draw_limit size) (update_limit size) (xterm_paint_limit size)
      (text_limit size) (chunk_lines_limit size) (xterm_lines_limit size)

  pub xterm_paint_fits : xterm_paint_limit size ≤ room_limit size
  unfolding room_limit
  xterm_paint_fits =
      fifth (picture_limit size) (show_limit size) (draw_limit size) (update_limit size) (xterm_paint_limit size)
      (text_limit size) (chunk_lines_limit size) (xterm_lines_limit size)

  pub text_fits : text_limit size ≤ room_limit size
  unfolding room_limit
  text_fits =
      sixth (picture_limit size) (show_limit size) (draw_limit size) (update_limit size) (xterm_paint_limit size)
      (text_limit size) (chunk_lines_limit size) (xterm_lines_limit size)

  pub chunk_fits : chunk_lines_limit size ≤ room_limit size
  unfolding room_limit
  chunk_fits =
      seventh (picture_limit size) (show_limit size) (draw_limit size) (update_limit size) (xterm_paint_limit size)
      (text_limit size) (chunk_lines_limit size) (xterm_lines_limit size)

  pub xterm_fits : xterm_lines_limit size ≤ room_limit size
  unfolding room_limit
  xterm_fits =
      eighth (picture_limit size) (show_limit size) (draw_limit size) (update_limit size) (xterm_paint_limit size)
      (text_limit size) (chunk_lines_limit size) (xterm_lines_limit size)

  pub paint_fits : paint_limit size ≤ room_limit size
  paint_fits = omega (arith, update_fits)

  pub utf8_fits : utf8_lines_limit size ≤ room_limit size
  utf8_fits = omega (arith, chunk_fits)
