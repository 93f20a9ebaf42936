use Rattle.vt_utf8.proofs.Written.{writes, writes-one, off-one, writes-none}
use Rattle.vt_utf8.proofs.Wide.{plays-wide, off-wide}
use Rattle.vt_utf8.proofs.laws.sized_writes.Goals as goal

pub returns : goal.returns
returns c = record {
  glyph = λ size. writes c.spelled.ensures c.spelling.ensures;
  one = λ size. writes-one c.spelled.ensures c.spelling.ensures c.glyphs.ensures;
  off = λ size. off-one c.spelled.ensures c.spelling.ensures c.glyphs.ensures;
  two = λ size. plays-wide c.spelled.ensures c.spelling.ensures c.glyphs.ensures (c.sized_soundness.ensures.play size)
      c.sized_cuts.ensures.two (c.sized_cuts.ensures.none size);
  two_off = λ size. off-wide c.spelled.ensures c.spelling.ensures c.glyphs.ensures c.one_split.ensures
      (c.sized_soundness.ensures.play size);
  none = writes-none c.spelled.ensures c.spelling.ensures;
}
