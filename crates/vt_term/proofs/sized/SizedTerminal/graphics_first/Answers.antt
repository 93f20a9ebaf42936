use Rattle.vt_term.proofs.Playing.{takes-front, feeds-nothing}
use Rattle.vt_term.proofs.sized.SizedTerminal.graphics_first.Goals as goal

pub returns-then-limit-eq0-clause-fed : goal.returns-then-limit-eq0-clause-fed
returns-then-limit-eq0-clause-fed g c =
    feeds-nothing g.P.Profile.machine g.P.Profile.screens c.one_split.ensures c.args.self.now c.args.profile.now c.args.out.now.items c.soundness.ensures

pub run_first-requires-clause-takes : goal.run_first-requires-clause-takes
run_first-requires-clause-takes g c = takes-front g.O.Observer.Saw g.O.Observer.Takes g.met.O.Observer.joined _ c.args.piece.now _ c.requires.takes
