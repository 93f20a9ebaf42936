-- The statuses that the calls return. (this profile)
use Rattle.std.specs.Prelude.{ℕ}

-- the call succeeded
abbrev pub read_ok : ℕ
read_ok = 0

-- allocation failed
abbrev pub read_memory : ℕ
read_memory = 1

-- a buffer of the caller is too small
abbrev pub read_room : ℕ
read_room = 2
