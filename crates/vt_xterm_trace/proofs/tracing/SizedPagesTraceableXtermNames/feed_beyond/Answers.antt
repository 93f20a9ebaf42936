use Rattle.std.proofs.Common.{◌∙◌, sym}
use Rattle.vt_xterm_trace.proofs.Played.{beyond-silent, beyond-out}
use Rattle.vt_xterm_trace.proofs.tracing.SizedPagesTraceableXtermNames.feed_beyond.Goals as goal

pub returns-clause-size : goal.returns-clause-size
returns-clause-size c = c.feed_xterm_character.ensures.size

pub returns-clause-one_size : goal.returns-clause-one_size
returns-clause-one_size c =
    let fed = c.feed_xterm_character.ensures in fed.other_size ∙ c.requires.one_size ∙ sym fed.size

pub returns-clause-state : goal.returns-clause-state
returns-clause-state c = c.feed_xterm_character.ensures.whole

pub returns-clause-silent : goal.returns-clause-silent
returns-clause-silent c =
    beyond-silent (λ s x high sound. c.sized_silence.ensures.silent _ s x sound high) c.args.terminal.now c.args.self.now
    c.args.c c.requires.beyond c.soundness.ensures

pub returns-clause-out : goal.returns-clause-out
returns-clause-out c =
    beyond-out c.args.terminal.now c.args.self.now c.args.c c.args.reports.now.items _ c.feed_xterm_character.ensures.reports
    (beyond-silent (λ s x high sound. c.sized_silence.ensures.silent _ s x sound high) c.args.terminal.now c.args.self.now
    c.args.c c.requires.beyond c.soundness.ensures)
