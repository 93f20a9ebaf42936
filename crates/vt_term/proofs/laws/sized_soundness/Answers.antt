use Rattle.vt_term.proofs.Bytes.{nothing-held}
use Rattle.vt_term.proofs.PowerUp.{display_of-sound}
use Rattle.vt_term.proofs.SizeKept.{play-at}
use Rattle.vt_term.proofs.SoundPlay.{play-sound}
use Rattle.vt_term.proofs.laws.sized_soundness.Goals as goal

pub returns-clause-power_up : goal.returns-clause-power_up
returns-clause-power_up c = λ size sized. record { display = display_of-sound size sized; held = nothing-held }

pub returns-clause-play : goal.returns-clause-play
returns-clause-play c = play-at (play-sound c.glyphs.ensures c.soundness.ensures c.one_split.ensures.held_part)
