use Rattle.std.proofs.Common.{◌∙◌}
use Rattle.vt_replay.proofs.Resizing.{settled_none, settled_kept, first_size}
use Rattle.vt_replay.proofs.resized.ResizedPlaying.sized.Goals as goal

pub returns-clause-state : goal.returns-clause-state
returns-clause-state g c =
    settled_none c.args.self.now.later.items (λ l. l.after) (λ l. g.P.Player.screen l.target) g.P.Player.session _ c.args.self.now.left
    c.args.self.now.settled ∙ c.sized.ensures.state

pub returns-clause-kept : goal.returns-clause-kept
returns-clause-kept g c =
    settled_kept c.args.self.now.later.items (λ l. l.after) (λ l. g.P.Player.screen l.target) g.P.Player.session _ c.args.self.now.left
    c.args.self.now.settled ∙ c.sized.ensures.kept

pub returns-clause-sizes : goal.returns-clause-sizes
returns-clause-sizes g c = λ holds all.
    first_size c.args.self.now.later.items (λ l. l.after) (λ l. g.P.Player.screen l.target) holds _ _ c.sized.ensures.screen all
