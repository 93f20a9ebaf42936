-- A terminal, and buffers for what it gives. No public clause names it.
use Rattle.std.specs.Prelude.{◌≡◌, ◌≤◌, ◌*◌, ℕ, List, vec_len, vec_capacity}
use Rattle.vt_term.specs.State.{power_up}
use Rattle.vt_term.specs.Sound.{IsSound}
use Rattle.vt_term.specs.Play.{play}
use Rattle.vt_paint.specs.Repaint.{paint}
use Rattle.vt_paint.specs.declared.paint.TheConstants.{PAINT_LIMIT}
use Rattle.vt_vectors.specs.declared.comparison.Bench.{Bench}

-- a bench can be brought to power-up, and what it then gives can be compared
pub record IsReady (b : Bench) : Type 0 where
  pub sound : IsSound b.terminal
  pub starts : b.power_up.items ≡ paint power_up
  pub start_room : 10 * vec_len b.power_up ≤ vec_capacity b.reports
  pub output_room : PAINT_LIMIT ≤ vec_capacity b.output

-- a bench has played these bytes since power-up
pub record HasPlayed (bytes : List ℕ) (b : Bench) : Type 0 where
  pub state : b.terminal ≡ (play power_up bytes).state
  pub reports : b.reports.items ≡ (play power_up bytes).reports

-- everything except what was compared is unchanged, and there is capacity
pub record IsKept (old new : Bench) : Type 0 where
  pub terminal : new.terminal ≡ old.terminal
  pub power_up : new.power_up ≡ old.power_up
  pub reports : new.reports ≡ old.reports
  pub output_room : PAINT_LIMIT ≤ vec_capacity new.output
