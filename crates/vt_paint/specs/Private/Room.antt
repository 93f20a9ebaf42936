-- The capacities that private contracts cite. No public clause does.
use Rattle.std.specs.Prelude.{ℕ, Bool, if◌then◌else◌}

-- the most bytes that the sets of the spellings still take
abbrev pub head_room : Bool → ℕ
head_room shown = if shown then 0 else 11
