-- ASCII bytes, and others.
use Rattle.std.specs.Prelude.{ℕ, Bool, not, nat_lt}

abbrev pub is_beyond : ℕ → Bool
is_beyond b = nat_lt 0x7F b

abbrev pub is_ascii : ℕ → Bool
is_ascii b = not (is_beyond b)
