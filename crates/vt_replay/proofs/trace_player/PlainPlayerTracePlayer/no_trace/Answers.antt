use Rattle.vt_replay.proofs.Tracers.{no_trace, no_tracer}
use Rattle.vt_replay.proofs.trace_player.PlainPlayerTracePlayer.no_trace.Goals as goal

pub returns-clause-none : goal.returns-clause-none
returns-clause-none c = λ t. no_trace c.args.self.now.terminal t

pub returns-clause-stays : goal.returns-clause-stays
returns-clause-stays c = λ t. no_tracer c.args.self.now.terminal t
