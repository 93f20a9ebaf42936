use Rattle.vt_term.proofs.Runs.{write_glyphs-append, glyphs-leave}
use Rattle.vt_term.proofs.laws.glyph_runs.Goals as goal

pub returns-clause-two : goal.returns-clause-two
returns-clause-two c = write_glyphs-append

pub returns-clause-leaves : goal.returns-clause-leaves
returns-clause-leaves c = glyphs-leave
