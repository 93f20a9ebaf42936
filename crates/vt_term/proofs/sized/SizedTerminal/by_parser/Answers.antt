use Rattle.vt_term.proofs.Playing.{feeds-nothing}
use Rattle.vt_term.proofs.sized.SizedTerminal.by_parser.Goals as goal

pub returns-clause-nothing : goal.returns-clause-nothing
returns-clause-nothing g c = λ out.
    feeds-nothing g.P.Profile.machine g.P.Profile.screens c.one_split.ensures c.args.self.now c.args.profile.now out c.soundness.ensures

pub returns-clause-saw : goal.returns-clause-saw
returns-clause-saw g c =
    g.met.O.Observer.joined.nothing c.args.observer.now
