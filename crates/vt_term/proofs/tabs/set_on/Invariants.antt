use Rattle.std.proofs.Common.{◌≡◌, ℕ, ◌+◌, ◌<◌, get_or, length, false}
use Rattle.vt_term.specs.Resizing.{is_stop_on}
use Rattle.vt_term.proofs.tabs.set_on.Given as goal

abbrev pub invariant-loop-col : goal.invariant-loop-col
invariant-loop-col l = record {
  done : (k : ℕ) → k + 1 < l.col → get_or l.stops k false ≡ is_stop_on l.from (k + 1);
  long : length l.stops ≡ length l.initial.stops;
}
