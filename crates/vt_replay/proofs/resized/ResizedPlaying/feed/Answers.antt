use Rattle.std.proofs.Common.{◌∙◌, ◌++◌, List, ℕ, ap, sym}
use Rattle.vt_replay.proofs.Resizing.{fed_reports, fed_on, fed_kept}
use Rattle.vt_replay.proofs.resized.ResizedPlaying.feed.Goals as goal

pub returns-clause-reports : goal.returns-clause-reports
returns-clause-reports g c =
    c.feed.ensures.reports
    ∙ ap (λ (l : List ℕ). c.args.out.now.items ++ l)
    (sym (fed_reports c.args.self.now.later.items _ (λ l. l.after) (λ l. g.P.Player.screen l.target) g.P.Player.session _ _ _ _
    c.args.chunk.now c.args.self.now.left _ c.feed.ensures.on c.feed.ensures.after c.requires.takes _ c.saturating_sub-self.ensures c.settle.ensures.on
    c.settle.ensures.settled c.sized.ensures.state))

pub returns-clause-on : goal.returns-clause-on
returns-clause-on g c =
    fed_on c.args.self.now.later.items _ (λ l. l.after) (λ l. g.P.Player.screen l.target) g.P.Player.session _ _ _ _
    c.args.chunk.now c.args.self.now.left _ c.feed.ensures.on c.feed.ensures.after c.requires.takes _ c.saturating_sub-self.ensures c.settle.ensures.on
    c.settle.ensures.settled c.sized.ensures.state

pub returns-clause-after : goal.returns-clause-after
returns-clause-after g c =
    fed_kept c.args.self.now.later.items _ (λ l. l.after) (λ l. g.P.Player.screen l.target) g.P.Player.session _ _ _
    c.args.chunk.now c.args.self.now.left _ c.feed.ensures.after c.requires.takes _ c.saturating_sub-self.ensures c.settle.ensures.kept
