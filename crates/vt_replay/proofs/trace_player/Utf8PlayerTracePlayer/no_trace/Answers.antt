use Rattle.vt_replay.proofs.Tracers.{no_utf8_trace, no_utf8_tracer}
use Rattle.vt_replay.proofs.trace_player.Utf8PlayerTracePlayer.no_trace.Goals as goal

pub returns-clause-none : goal.returns-clause-none
returns-clause-none c = λ t. no_utf8_trace c.args.self.now.terminal t c.args.self.now.decoder

pub returns-clause-stays : goal.returns-clause-stays
returns-clause-stays c = λ t. no_utf8_tracer c.args.self.now.terminal t c.args.self.now.decoder
