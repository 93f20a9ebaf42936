use Rattle.vt_xterm.specs.Play.{behind}
use Rattle.vt_replay.proofs.Tracers.{no_xterm_tracer}
use Rattle.vt_replay.proofs.trace_player.XtermPlayerTracePlayer.no_trace.Goals as goal

pub returns-clause-none : goal.returns-clause-none
returns-clause-none c = λ t. c.cuts.ensures.none (behind c.args.self.now.terminal c.args.self.now.front) t c.args.self.now.front.pending

pub returns-clause-stays : goal.returns-clause-stays
returns-clause-stays c = λ t. no_xterm_tracer (behind c.args.self.now.terminal c.args.self.now.front) t c.args.self.now.front.pending
