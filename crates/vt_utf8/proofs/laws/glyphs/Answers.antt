use Rattle.vt_utf8.proofs.Silence.{shown-glyph}
use Rattle.vt_utf8.proofs.Themselves.{shown-itself}
use Rattle.vt_utf8.proofs.laws.glyphs.Goals as goal

pub returns : goal.returns
returns c = record { shown = shown-glyph c.glyphs.ensures; themselves = shown-itself }
