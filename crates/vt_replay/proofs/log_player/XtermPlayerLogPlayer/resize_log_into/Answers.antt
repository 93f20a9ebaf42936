use Rattle.std.proofs.Common.{◌∙◌, ◌++◌, ap}
use Rattle.vt_screen.specs.declared.size.Size.{Size}
use Rattle.vt_xterm.specs.Play.{behind}
use Rattle.vt_xterm.specs.Resizing.{xterm_log_on}
use Rattle.vt_replay.specs.Resizes.{XtermKept}
use Rattle.vt_replay.proofs.MainRows.{main_then}
use Rattle.vt_replay.proofs.log_player.XtermPlayerLogPlayer.resize_log_into.Goals as goal

pub returns-clause-lines : goal.returns-clause-lines
returns-clause-lines c =
    c.push_moved_xterm.ensures.lines
    ∙ ap (λ (size : Size). c.args.lines.now.items ++ xterm_log_on size (behind c.args.self.now.terminal c.args.self.now.front)) c.size.ensures.size

pub returns-clause-bounded : goal.returns-clause-bounded
returns-clause-bounded c =
    main_then (behind c.args.self.now.terminal c.args.self.now.front) (behind c.resize_into.new.target.terminal c.resize_into.new.target.front)
    c.size.result _ _ _ c.size.ensures.size (ap (λ (k : XtermKept). k.whole) c.resize_into.ensures.kept)
    c.push_moved_xterm.ensures.bounded
