use Rattle.vt_screen.specs.Sizes.{vt220_size}
use Rattle.vt_xterm.proofs.laws.soundness.Goals as goal

pub returns-clause-event : goal.returns-clause-event
returns-clause-event c = c.sized_soundness.ensures.event vt220_size

pub returns-clause-sides : goal.returns-clause-sides
returns-clause-sides c = c.sized_soundness.ensures.sides vt220_size

pub returns-clause-play : goal.returns-clause-play
returns-clause-play c = c.sized_soundness.ensures.play vt220_size
