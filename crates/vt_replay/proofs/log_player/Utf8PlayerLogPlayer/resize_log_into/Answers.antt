use Rattle.std.proofs.Common.{◌∙◌, ◌++◌, ap}
use Rattle.vt_screen.specs.declared.size.Size.{Size}
use Rattle.vt_term.specs.Resizing.{log_on}
use Rattle.vt_replay.specs.Resizes.{Utf8Kept}
use Rattle.vt_replay.proofs.LogResizing.{moved_then}
use Rattle.vt_replay.proofs.log_player.Utf8PlayerLogPlayer.resize_log_into.Goals as goal

pub returns-clause-lines : goal.returns-clause-lines
returns-clause-lines c =
    c.push_moved.ensures.lines
    ∙ ap (λ (size : Size). c.args.lines.now.items ++ log_on size c.args.self.now.terminal) c.size.ensures.size

pub returns-clause-bounded : goal.returns-clause-bounded
returns-clause-bounded c =
    moved_then c.args.self.now.terminal c.resize_into.new.target.terminal c.size.result _ _ _ c.size.ensures.size (ap (λ (k : Utf8Kept). k.state) c.resize_into.ensures.kept)
    c.push_moved.ensures.bounded
