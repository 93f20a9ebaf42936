use Rattle.vt_screen.specs.Sizes.{vt220_size}
use Rattle.vt_term.proofs.PowerUp.{vt220-is}
use Rattle.vt_term.proofs.laws.soundness.Goals as goal

pub returns : goal.returns
returns c = record {
  power_up = c.sized_soundness.ensures.power_up vt220_size vt220-is;
  play = c.sized_soundness.ensures.play vt220_size;
}
