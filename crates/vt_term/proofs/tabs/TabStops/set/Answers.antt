use Rattle.std.proofs.Common.{◌≡◌, ◌<◌, ◌∙◌, ◌-◌, Bool, List, set, ap, arith, length}
use Rattle.std.proofs.Math.Seq.{take-set-lt}
use Rattle.std.proofs.lemmas.List.{length-take}
use Rattle.vt_term.proofs.tabs.TabStops.set.Goals as goal

pub returns : goal.returns
returns c =
    let low : c.args.col - 1 < c.self.inside.columns =
    omega (arith, c.requires, ap length c.self.view_is, length-take c.self.inside.columns c.self.inside.stops) in
    take-set-lt c.self.inside.columns c.self.inside.stops (c.args.col - 1) c.args.stop low
    ∙ ap (λ (xs : List Bool). set xs (c.args.col - 1) c.args.stop) c.self.view_is
