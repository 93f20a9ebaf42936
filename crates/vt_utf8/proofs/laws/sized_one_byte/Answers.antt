use Rattle.vt_utf8.proofs.Cuts.{translated-byte}
use Rattle.vt_utf8.proofs.laws.sized_one_byte.Goals as goal

pub returns : goal.returns
returns c =
    λ size. translated-byte (c.sized_cuts.ensures.none size) c.sized_cuts.ensures.two (c.sized_soundness.ensures.play size)
