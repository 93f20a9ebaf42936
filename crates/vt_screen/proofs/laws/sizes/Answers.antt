use Rattle.vt_screen.specs.Shown.{blank_is_shown}
use Rattle.vt_screen.proofs.OtherSize.{own-size, inside-stays}
use Rattle.vt_screen.proofs.SoundGrids.{grid_on-sound}
use Rattle.vt_screen.proofs.laws.sizes.Goals as goal

pub returns : goal.returns
returns c = record {
  own = own-size _;
  stays = inside-stays _;
  sound = λ s off g. grid_on-sound _ s off g blank_is_shown;
}
