-- Devices over memory that give and take little at a time, and fail once. (this profile)
use Rattle.std.specs.Prelude.{ℕ, ◌-◌, nat_le, List, Option, Some, None, if◌then◌else◌}

-- the bytes that are left, the most that a call gives, and which call fails, counted from the next one
pub record Source : Type 0 where
  pub bytes : List ℕ
  pub most : ℕ
  pub fail : Option ℕ

-- the bytes that were taken, how many it takes in all, the most that a call takes, and which call fails, counted from
-- the next one
pub record Sink : Type 0 where
  pub taken : List ℕ
  pub room : ℕ
  pub most : ℕ
  pub fail : Option ℕ

-- which call fails after one more call, counted from the next one
abbrev pub one_call_later : Option ℕ → Option ℕ
one_call_later None = None
one_call_later (Some call) = if nat_le call 1 then None else Some (call - 1)
