-- Which cells have a character and marks that can be spelled. (this profile)
use Rattle.std.specs.Prelude.{◌≡◌, ◌≤◌, ◌⊎◌, ◌&&◌, IsTrue}
use Rattle.vt_syntax.specs.Class.{IsPlain}
use lib.Utf8.{scalar}
use Rattle.vt_xterm_cell.specs.Words.{CellParts}

-- a graphic character, and marks beyond ASCII or none
pub record IsGraphicCell (cell : CellParts) : Type 0 where
  pub scalars : IsTrue (scalar cell.character && (scalar cell.mark && scalar cell.other_mark))
  pub character : IsPlain cell.character ⊎ (0x80 ≤ cell.character)
  pub mark : (cell.mark ≡ 0) ⊎ (0x80 ≤ cell.mark)
  pub other_mark : (cell.other_mark ≡ 0) ⊎ (0x80 ≤ cell.other_mark)
