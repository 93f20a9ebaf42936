use Rattle.std.proofs.Common.{◌∙◌, ◌++◌, ℕ, List, ap, sym}
use Rattle.vt_term.specs.Play.{Played}
use Rattle.vt_term.specs.Text.{text}
use Rattle.vt_replay.proofs.Resizing.{settled_none}
use Rattle.vt_replay.proofs.log_output.LogOutputOutput.end.Goals as goal

pub returns : goal.returns
returns g c =
    c.text_reserved.ensures.items ∙ ap (λ (l : List ℕ). l ++ text c.sized-terminal.result.now) c.requires.empty
    ∙ sym (ap (λ (p : Played). text p.state)
    (settled_none c.args.self.now.later.items (λ l. l.after) (λ l. g.P.Player.screen l.target) g.P.Player.session _ c.args.self.now.left
    c.args.self.now.settled ∙ c.sized-terminal.ensures.state))
