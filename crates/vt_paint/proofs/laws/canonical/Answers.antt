use Rattle.vt_screen.specs.Sizes.{vt220_size}
use Rattle.vt_paint.proofs.laws.canonical.Goals as goal

pub returns : goal.returns
returns c = record {
  same = c.sized_canonical.ensures.same vt220_size;
  again = c.sized_canonical.ensures.again vt220_size;
  reached = λ s between. c.reached.ensures s;
}
