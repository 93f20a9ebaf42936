use Rattle.vt_utf8.proofs.Silence.{silent-translation}
use Rattle.vt_utf8.proofs.Plain.{plain-translation}
use Rattle.vt_utf8.proofs.laws.sized_silence.Goals as goal

pub returns : goal.returns
returns c = record {
  silent = silent-translation c.spelled.ensures c.glyphs.ensures c.spelling.ensures c.one_split.ensures.events_nil;
  plain = plain-translation c.glyphs.ensures c.spelling.ensures;
}
