use Rattle.vt_utf8.proofs.Texts.{text}
use Rattle.vt_utf8.proofs.laws.sized_text.Goals as goal

pub returns-clause-plays : goal.returns-clause-plays
returns-clause-plays c = λ size s cs sound ready all fits.
    let played = c.sized_cuts.ensures in
    (text c.spelled.ensures c.spelling.ensures c.glyphs.ensures c.one_split.ensures c.ascii_codes.ensures
    (c.sized_soundness.ensures.play size) played.two (played.none size) c.glyph_runs.ensures.leaves c.glyph_runs.ensures.two
    (played.scrolled_none size) played.scrolled_two s cs sound ready all fits).plays

pub returns-clause-off : goal.returns-clause-off
returns-clause-off c = λ size s cs sound ready all fits.
    let played = c.sized_cuts.ensures in
    (text c.spelled.ensures c.spelling.ensures c.glyphs.ensures c.one_split.ensures c.ascii_codes.ensures
    (c.sized_soundness.ensures.play size) played.two (played.none size) c.glyph_runs.ensures.leaves c.glyph_runs.ensures.two
    (played.scrolled_none size) played.scrolled_two s cs sound ready all fits).off
