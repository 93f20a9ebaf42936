-- Bytes that are appended.
use Rattle.std.specs.Prelude.{◌≡◌, ℕ, List, ◌++◌}

-- `after` is what was there before, and more
pub record Appended (before after : List ℕ) : Type 0 where
  pub sent : List ℕ
  pub is_after : after ≡ before ++ sent
