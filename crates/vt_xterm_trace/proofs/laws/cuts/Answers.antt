use Rattle.vt_xterm_trace.proofs.Played.{cut-none, cut-lines, cut-tracer}
use Rattle.vt_xterm_trace.proofs.laws.cuts.Goals as goal

pub returns : goal.returns
returns c = record { none = cut-none; lines = cut-lines; tracer = cut-tracer }
