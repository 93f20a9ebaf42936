use Rattle.vt_term.proofs.Cuts.{play-append, play-nothing, play_all-joined}
use Rattle.vt_term.proofs.SizeKept.{own-size}
use Rattle.vt_term.specs.Observers.{scrolled-append, scrolled-nothing}
use Rattle.vt_term.proofs.laws.sized_cuts.Goals as goal

pub returns : goal.returns
returns c =
    let split = c.one_split.ensures in record {
      two = play-append split;
      none = λ size s sound. play-nothing split s (own-size size s sound);
      all = λ size s pieces sound. play_all-joined split
          (λ t bytes i. own-size t.display.grid.size _ (c.sized_soundness.ensures.play t.display.grid.size t bytes i)) s pieces
          (own-size size s sound);
      scrolled_none = λ size s sound. scrolled-nothing split s (own-size size s sound);
      scrolled_two = scrolled-append split;
    }
