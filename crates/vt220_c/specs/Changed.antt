-- The cells of a row that another row doesn't have at the same place. (this profile)
use Rattle.std.specs.Prelude.{◌≡◌, ◌<◌, ◌↔◌, ℕ, List, Bool, false, length, slice_index_or}
use Rattle.vt_screen.specs.declared.cell.Cell.{Cell}
use Rattle.vt_screen.specs.Cells.{blank}

-- a row has this place, and the same cell there
abbrev pub IsKept : List Cell → List Cell → ℕ → Type 0
IsKept shown to i = (i < length shown) × (slice_index_or shown i blank ≡ slice_index_or to i blank)

-- of the places of a row exactly the others are marked; nothing is said of the places after its width
pub record AreChanged (shown to : List Cell) (marks : List Bool) : Type 0 where
  pub kept : (i : ℕ) → i < length to → (slice_index_or marks i false ≡ false) ↔ IsKept shown to i
