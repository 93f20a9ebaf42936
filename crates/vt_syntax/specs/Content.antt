-- Bytes that surely go on a string. Contracts of private functions cite this, and no public clause does.
use Rattle.std.specs.Prelude.{ℕ, Bool, nat_lt, nat_le, ◌==◌, ◌&&◌, ◌||◌, not}

-- the byte ends no string, of whatever kind: every byte but BEL, CAN, 19, SUB, ESC and ST
abbrev pub goes_on : ℕ → Bool
goes_on b = not ((nat_le 0x18 b && nat_lt b 0x1C) || (b == 0x9C || b == 0x07))
