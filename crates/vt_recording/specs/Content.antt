-- The content of a recording, as it is read. (this profile)
use Rattle.std.specs.Prelude.{ℕ, List, Bool}

-- the bytes not read yet, and whether the end was reached
pub record InMemory : Type 0 where
  pub rest : List ℕ
  pub ended : Bool
