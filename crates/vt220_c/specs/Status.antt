-- The statuses that the calls return, and the version: those of the header. (this profile)
use Rattle.std.specs.Prelude.{ℕ}

-- the call succeeded
abbrev pub status_ok : ℕ
status_ok = 0

-- allocation failed
abbrev pub status_memory : ℕ
status_memory = 1

-- the handle is open already
abbrev pub status_in_use : ℕ
status_in_use = 2

-- a handle is closed
abbrev pub status_closed : ℕ
status_closed = 3

-- a terminal is inside a sequence
abbrev pub status_partial : ℕ
status_partial = 4

-- the caller's buffer is too small
abbrev pub status_room : ℕ
status_room = 5

-- there is no such row
abbrev pub status_no_row : ℕ
status_no_row = 7

-- there is no such size, or two have different sizes
abbrev pub status_size : ℕ
status_size = 11

-- 0.4.0, as 10000 * major + 100 * minor + patch
abbrev pub version : ℕ
version = 400
