use Rattle.vt220_c.proofs.Rooms.{picture_fits, show_fits, draw_fits, update_fits, paint_fits, xterm_paint_fits, text_fits}
use Rattle.vt220_c.proofs.Rooms.{chunk_fits, utf8_fits, xterm_fits}
use Rattle.vt220_c.proofs.sizes.room_holds.Goals as goal

pub returns : goal.returns
returns c = record {
  picture = picture_fits;
  show = show_fits;
  draw = draw_fits;
  update = update_fits;
  paint = paint_fits;
  xterm_paint = xterm_paint_fits;
  text = text_fits;
  chunk = chunk_fits;
  utf8 = utf8_fits;
  xterm = xterm_fits;
}
