use Rattle.vt_utf8.specs.Play.{play_utf8, translated}
use Rattle.vt_utf8.proofs.laws.sized_soundness.Goals as goal

pub returns : goal.returns
unfolding play_utf8
returns c = λ size s pending bytes sound. c.sized_soundness.ensures.play size s (translated s pending bytes) sound
