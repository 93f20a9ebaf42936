-- A page that is written in the order of reading. (this profile)
use Rattle.std.specs.Prelude.{ℕ, ◌+◌, Bool, ◌&&◌, ◌||◌, ◌==◌, nat_le, nat_lt, if◌then◌else◌}
use Rattle.vt_screen.specs.Grid.{GridOf, grid_of, at_or, put_any}
use Rattle.vt_wide.specs.Kinds.{WideOf}

-- a place is before another one in the order of reading, or that place
abbrev pub is_read : ℕ → ℕ → ℕ → ℕ → Bool
is_read row col r c = nat_lt r row || (r == row && nat_le c col)

-- the cells of a page up to a place; the others are z
abbrev pub painted : {C : Type 0} → C → GridOf C → ℕ → ℕ → GridOf C
painted z t row col = grid_of t.size t.width (λ r c. if is_read row col r c then at_or z t r c else z)

-- the character that begins with a cell, at a place
abbrev pub placed : {C : Type 0} → WideOf C → C → GridOf C → ℕ → ℕ → C → GridOf C
placed k z g row col cell =
    if k.is_wide cell then put_any z (put_any z g row col cell) row (col + 1) (k.second cell) else put_any z g row col cell
