-- The kind of a sequence that is unfinished, as a number. (this profile)
use Rattle.std.specs.Prelude.{ℕ}
use Rattle.vt_syntax.specs.declared.held.Held.{Held}
use Rattle.vt_syntax.specs.declared.held.Held.TheVariants.{Nothing, Escape, Control, Spoilt, Text}

abbrev pub kind_of_held : Held → ℕ
kind_of_held Nothing = 0
kind_of_held (Escape inters) = 1
kind_of_held (Control marker params full phase) = 2
kind_of_held Spoilt = 2
kind_of_held (Text osc) = 3
