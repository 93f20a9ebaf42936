-- Tables, as lists of a number and its entry.
use Rattle.std.specs.Prelude.{ℕ, List, [], ◌∷◌, Bool, Option, Some, None, ◌==◌, if◌then◌else◌, unwrap_or}
use Rattle.std.specs.List.{list_any}

-- the entry of the first number that is equal
abbrev pub look_up : {A : Type 0} → List (ℕ × A) → ℕ → Option A
look_up [] key = None
look_up (row ∷ rows) key = if key == row.0 then Some row.1 else look_up rows key

-- the entry of a number, or the number itself if it has none
abbrev pub replaced : List (ℕ × ℕ) → ℕ → ℕ
replaced rows n = unwrap_or (look_up rows n) n

-- the number is in the list
abbrev pub contains : List ℕ → ℕ → Bool
contains numbers n = list_any (λ m. m == n) numbers
