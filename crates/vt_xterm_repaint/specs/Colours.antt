-- Which colours there are. (this profile)
use Rattle.std.specs.Prelude.{◌≤◌, ⊤}
use Rattle.vt_xterm_cell.specs.declared.look.Colour.{Colour}
use Rattle.vt_xterm_cell.specs.declared.look.Colour.TheVariants.{Default, Indexed, Rgb}
use Rattle.vt_xterm_cell.specs.declared.look.Look.{Look}

-- an index, and red, green and blue, are bytes
abbrev pub IsColour : Colour → Type 0
IsColour Default = ⊤
IsColour (Indexed i) = i ≤ 0xFF
IsColour (Rgb red green blue) = (red ≤ 0xFF) × (green ≤ 0xFF) × (blue ≤ 0xFF)

pub record HasColours (look : Look) : Type 0 where
  pub foreground : IsColour look.foreground
  pub background : IsColour look.background
