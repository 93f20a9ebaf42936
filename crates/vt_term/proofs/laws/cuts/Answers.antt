use Rattle.vt_screen.specs.Sizes.{vt220_size}
use Rattle.vt_term.proofs.laws.cuts.Goals as goal

pub returns : goal.returns
returns c = let sized = c.sized_cuts.ensures in record {
  none = sized.none vt220_size;
  two = sized.two;
  scrolled_none = sized.scrolled_none vt220_size;
  scrolled_two = sized.scrolled_two;
  all = sized.all vt220_size;
}
