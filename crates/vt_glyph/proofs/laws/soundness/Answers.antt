use Rattle.std.proofs.Common.{rules}
use Rattle.vt_glyph.proofs.Reading.{AreSoundSets-after_read}
use Rattle.vt_glyph.proofs.laws.soundness.Goals as goal

pub returns : goal.returns
returns c = record {
  power_up = search rules;
  read = AreSoundSets-after_read;
  designated = λ sets slot set sound. search (rules, sound);
  locked_left = λ sets slot small sound. search (rules, small, sound);
  locked_right = λ sets slot some small sound. search (rules, some, small, sound);
  restored = λ sets g left right four small some low sound. search (rules, four, small, some, low, sound);
  shifted_once = λ sets slot some small sound. search (rules, some, small, sound);
}
