use Rattle.vt_xterm_repaint.proofs.Spelled.{look-spelled, glyph-spelled, ansi_mode-spelled, private_mode-spelled, pair-spelled}
use Rattle.vt_xterm_repaint.proofs.laws.spellings.Goals as goal

pub returns : goal.returns
returns c = record {
  look = look-spelled;
  glyph = glyph-spelled;
  ansi_mode = ansi_mode-spelled;
  private_mode = private_mode-spelled;
  pair = pair-spelled;
}
