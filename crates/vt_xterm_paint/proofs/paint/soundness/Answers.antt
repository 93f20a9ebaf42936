use Rattle.std.proofs.Common.{subst}
use Rattle.vt_screen.specs.declared.size.Size.{Size}
use Rattle.vt_term.specs.State.{Display}
use Rattle.vt_term.specs.Sound.{IsSoundDisplayAt}
use Rattle.vt_xterm_paint.specs.Repaint.{other_shown}
use Rattle.vt_xterm_paint.proofs.paint.soundness.Goals as goal

pub returns : goal.returns
returns c = λ fits.
    let own = subst (λ (s : Display). IsSoundDisplayAt s.grid.size s) c.requires.scratch c.soundness-2.ensures.display in
    let other = subst (λ (z : Size). IsSoundDisplayAt z (other_shown c.args.front.now.pages)) c.requires.size own in
    record {
      state = c.soundness.ensures;
      other = record { of_size = other.of_size; grid = other.grid; saved = other.saved; saved_sets = other.saved_sets };
      sides = fits;
    }
