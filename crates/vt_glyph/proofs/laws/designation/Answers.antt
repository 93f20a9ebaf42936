use Rattle.vt_glyph.proofs.Designations.{set_of_final-final_of}
use Rattle.vt_glyph.proofs.laws.designation.Goals as goal

pub returns : goal.returns
returns c = set_of_final-final_of
