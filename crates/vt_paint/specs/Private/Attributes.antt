-- The parameters of SGR as they are gathered. No public clause cites them.
use Rattle.std.specs.Prelude.{ℕ, List, [], ◌∷◌, ◌++◌, Bool, if◌then◌else◌}
use Rattle.vt_screen.specs.declared.cell.Rendition.{Rendition}

-- `;` and an attribute, if it is set
abbrev pub attribute : Bool → ℕ → List ℕ
attribute set digit = if set then 0x3B ∷ digit ∷ [] else []

-- bold, underline, blink and reverse
abbrev pub attributes : Rendition → List ℕ
attributes r = attribute r.bold 0x31 ++ (attribute r.underline 0x34 ++ (attribute r.blink 0x35 ++ attribute r.reverse 0x37))
