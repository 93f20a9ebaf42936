use Rattle.std.proofs.Common.{◌∙◌, ap}
use Rattle.vt_term.specs.State.{State}
use Rattle.vt_term.proofs.SizeKept.{play_kept}
use Rattle.vt_utf8.specs.Translation.{translation}
use Rattle.vt_trace.proofs.dialects.Vt220TraceableVt220Names.feed_beyond.Goals as goal

pub returns-clause-size : goal.returns-clause-size
returns-clause-size c =
    let s = c.args.terminal.now in
    ap (λ (s : State). s.display.grid.size) c.feed_beyond_ascii.ensures.state ∙ play_kept s (translation s c.args.c)
