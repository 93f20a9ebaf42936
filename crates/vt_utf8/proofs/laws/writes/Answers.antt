use Rattle.vt_screen.specs.Sizes.{vt220_size}
use Rattle.vt_utf8.proofs.laws.writes.Goals as goal

pub returns : goal.returns
returns c = let sized = c.sized_writes.ensures in record {
  glyph = sized.glyph vt220_size;
  one = sized.one vt220_size;
  off = sized.off vt220_size;
  two = sized.two vt220_size;
  two_off = sized.two_off vt220_size;
  none = sized.none;
}
