use Rattle.vt_utf8.proofs.Cuts.{utf8-nothing, utf8-append, utf8-joined, pending-append, translated-parts}
use Rattle.vt_utf8.proofs.laws.sized_cuts.Goals as goal

pub returns : goal.returns
returns c =
    let played = c.sized_cuts.ensures in
    let keeps = c.sized_soundness.ensures.play in record {
      none = λ size. utf8-nothing (played.none size) played.two (keeps size);
      two = λ size. utf8-append (played.none size) played.two (keeps size);
      pending = pending-append;
      translated = λ size. translated-parts (played.none size) played.two (keeps size);
      all = λ size. utf8-joined (played.none size) played.two (keeps size);
    }
