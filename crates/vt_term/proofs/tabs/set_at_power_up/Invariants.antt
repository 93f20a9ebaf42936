use Rattle.std.proofs.Common.{◌≡◌, ℕ, ◌+◌, ◌<◌, get_or, length, false}
use Rattle.vt_term.specs.State.{is_stop_at_power_up}
use Rattle.vt_term.proofs.tabs.set_at_power_up.Given as goal

abbrev pub invariant-loop-col : goal.invariant-loop-col
invariant-loop-col l = record {
  done : (k : ℕ) → k + 1 < l.col → get_or l.stops k false ≡ is_stop_at_power_up (k + 1);
  long : length l.stops ≡ length l.initial.stops;
}
