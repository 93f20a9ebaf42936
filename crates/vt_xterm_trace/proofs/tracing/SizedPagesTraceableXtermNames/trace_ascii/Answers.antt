use Rattle.std.proofs.Common.{◌≤◌, arith, sym, ◌∙◌}
use Rattle.vt_term.proofs.OneSize.{feeds-one, feeds-size}
use Rattle.vt_xterm.specs.Private.Profiles.{screens_on, unbounded, unbounded_prints, AreOfOneSize}
use Rattle.vt_xterm.proofs.OfOneSize.{sound-one}
use Rattle.vt_xterm_trace.proofs.Played.{traces-front, traces-first}
use Rattle.vt_xterm_trace.proofs.tracing.SizedPagesTraceableXtermNames.trace_ascii.Goals as goal

pub trace_as-requires-clause-one_size : goal.trace_as-requires-clause-one_size
trace_as-requires-clause-one_size c =
    sound-one c.args.terminal.now c.args.self.now c.soundness.ensures c.soundness-2.ensures c.requires.one_size

pub returns-then-lines-gt0-clause-size : goal.returns-then-lines-gt0-clause-size
returns-then-lines-gt0-clause-size c =
    let one = sound-one c.args.terminal.now c.args.self.now c.soundness.ensures c.soundness-2.ensures c.requires.one_size in
    feeds-size unbounded screens_on AreOfOneSize c.keeps_size.ensures unbounded_prints _ _ _ _ _ _ _ c.trace_as.ensures.fed one

pub returns-then-lines-gt0-clause-one_size : goal.returns-then-lines-gt0-clause-one_size
returns-then-lines-gt0-clause-one_size c =
    let one = sound-one c.args.terminal.now c.args.self.now c.soundness.ensures c.soundness-2.ensures c.requires.one_size in
    (feeds-one unbounded screens_on AreOfOneSize c.keeps_size.ensures _ _ _ _ _ _ _ c.trace_as.ensures.fed one).1.of_size

pub returns-then-lines-gt0-clause-traced : goal.returns-then-lines-gt0-clause-traced
returns-then-lines-gt0-clause-traced c =
    let made = c.trace_as.ensures in
    let lines = c.lines_front-lines.ensures in
    let some : 1 ≤ c.lines_front-lines.result = omega (arith, c.if-lines-gt0.true) in
    traces-front c.one_split.ensures c.spelled.ensures c.args.terminal.now _ c.args.self.now _ c.args.tracer.now _ c.args.run.now
    c.lines_front-lines.result c.trace_as.result c.args.reports.now.items _ c.args.out.now.items _ c.soundness.ensures.held
    (lines.between some) (lines.none some) c.requires.ascii lines.lines made.within made.fed
    made.lines made.tracer

pub returns-clause-size : goal.returns-clause-size
returns-clause-size c = c.feed_xterm_character.ensures.size

pub returns-clause-one_size : goal.returns-clause-one_size
returns-clause-one_size c =
    let fed = c.feed_xterm_character.ensures in fed.other_size ∙ c.requires.one_size ∙ sym fed.size

pub returns-clause-traced : goal.returns-clause-traced
returns-clause-traced c =
    traces-first c.args.terminal.now _ c.args.self.now _ c.args.tracer.now _ c.args.run.now c.args.reports.now.items _
    c.args.out.now.items _ c.requires.some c.requires.ascii c.feed_xterm_character.ensures.whole
    c.feed_xterm_character.ensures.reports c.trace_byte.ensures.lines c.trace_byte.ensures.tracer
