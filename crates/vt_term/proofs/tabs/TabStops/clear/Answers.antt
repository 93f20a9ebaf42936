use Rattle.std.proofs.Common.{◌≡◌, ◌∙◌, ◌≤◌, Bool, List, false, replicate, ap, arith, length, take, sym}
use Rattle.std.proofs.lemmas.List.{length-take, length-replicate, take-replicate, get_or-replicate}
use Rattle.vt_term.specs.Tabs.{no_stops}
use Rattle.vt_term.proofs.Stops.{stops-same}
use Rattle.vt_term.proofs.tabs.TabStops.clear.Goals as goal

pub returns : goal.returns
unfolding no_stops
returns c =
    let few : c.self.inside.columns ≤ 255 = c.self.invariant in
    let long : length c.args.self.now ≡ c.self.inside.columns =
    sym (ap length c.self.view_is) ∙ length-take c.self.inside.columns c.self.inside.stops ∙ omega (arith, few) in
    take-replicate c.self.inside.columns 255 false few
    ∙ ap (λ n. replicate n false) (sym long)
    ∙ stops-same (length c.args.self.now) (λ k. false) (replicate (length c.args.self.now) false)
    (length-replicate (length c.args.self.now) false)
    (λ k low. get_or-replicate (length c.args.self.now) k false false low)
