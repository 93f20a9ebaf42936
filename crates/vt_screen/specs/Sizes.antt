-- The sizes that a screen may have.
use Rattle.std.specs.Prelude.{ℕ, ◌*◌, ◌≤◌, Bool, if◌then◌else◌}
use Rattle.std.specs.Prelude.{refl}
use Rattle.std.specs.Coded.{Coded, code_by, coded×, coded_ℕ}
use Rattle.vt_screen.specs.declared.size.Size.{Size}

-- 24 rows of 80 or 132 columns (EK-VT220-RM, chapter 4: DECCOLM)
abbrev pub vt220_size : Size
vt220_size = record { rows = 24; narrow = 80; wide = 132 }

-- the width of a narrow and of a wide screen (EK-VT220-RM, chapter 4: DECCOLM)
abbrev pub width_of : Size → Bool → ℕ
width_of size wide = if wide then size.wide else size.narrow

-- how far apart two rows are kept, so that a row of the wide screen fits
abbrev pub stride : Size → ℕ
stride size = size.wide

-- how many cells are kept
abbrev pub room : Size → ℕ
room size = size.rows * stride size

-- 2 to 255 rows, as the margins are two; 2 to 255 columns, as a wide character has two cells; the wide screen is at least as
-- wide as the narrow one (this profile)
pub record IsSize (size : Size) : Type 0 where
  pub rows : (2 ≤ size.rows) × (size.rows ≤ 255)
  pub narrow : 2 ≤ size.narrow
  pub wide : size.narrow ≤ size.wide
  pub columns : size.wide ≤ 255

-- a code of sizes, for the models of screens
abbrev pub size_code : Coded Size
size_code = code_by (ℕ × (ℕ × ℕ)) (coded× coded_ℕ (coded× coded_ℕ coded_ℕ)) (λ s. (s.rows, (s.narrow, s.wide)))
    (λ p. record { rows = p.0; narrow = p.1.0; wide = p.1.1 }) (λ _. refl)
