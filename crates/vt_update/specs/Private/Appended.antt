-- Elements that are appended to the output.
use Rattle.std.specs.Prelude.{◌≡◌, ℕ, List, ◌++◌}
use Rattle.vt_paint.specs.Spoken.{Speaks}

-- `after` is what was there before, and then elements of what updates are made of
pub record Appended (before after : List ℕ) : Type 0 where
  pub sent : List ℕ
  pub is_after : after ≡ before ++ sent
  pub speaks : Speaks sent
