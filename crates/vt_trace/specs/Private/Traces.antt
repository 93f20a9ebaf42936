-- Tracing characters beyond ASCII.
use Rattle.std.specs.Prelude.{ℕ, List, [], ◌∷◌, ◌++◌}
use Rattle.vt_trace.specs.declared.tracing.Tracer.{Tracer}
use Rattle.vt_trace.specs.Utf8.{traced_beyond, tracer_beyond}

-- what is written of bytes of characters beyond ASCII
abbrev pub beyond_lines : Tracer → List ℕ → List ℕ
beyond_lines t [] = []
beyond_lines t (b ∷ bytes) = traced_beyond t b ++ beyond_lines (tracer_beyond t b) bytes

-- the tracer after bytes of characters beyond ASCII
abbrev pub beyond_tracer : Tracer → List ℕ → Tracer
beyond_tracer t [] = t
beyond_tracer t (b ∷ bytes) = beyond_tracer (tracer_beyond t b) bytes
