use Rattle.std.proofs.Common.{subst}
use Rattle.vt_term.specs.Sound.{IsSound, IsSoundAt}
use Rattle.vt_term.proofs.terminal.Terminal.soundness.Goals as goal

pub returns : goal.returns
returns c =
    subst IsSound c.self.view_is (subst (λ z. IsSoundAt z c.self.inside.sized) c.self.invariant c.soundness.ensures)
