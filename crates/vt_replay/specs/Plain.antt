-- The words of a command without options. (this profile)
use Rattle.std.specs.Prelude.{◌≡◌, ℕ, List, [], ◌∷◌, map, Option, Some, None, string_bytes, false, ◌==◌}
use Rattle.std.specs.Option.{option_to_list}
use Rattle.std.specs.declared.alloc.Global.{Global}
use Rattle.std.specs.declared.string.String.{String}

-- a file whose name doesn't begin with a hyphen, or none
abbrev pub IsOperand : Option (List ℕ) → Type 0
IsOperand None = Unit {0}
IsOperand (Some []) = Unit {0}
IsOperand (Some (b ∷ name)) = (b == 0x2D) ≡ false

-- the program's name, the command, and a file if there is one
pub record IsPlainCommand (command : List ℕ) (file : Option (List ℕ)) (words : List (String Global)) : Type 0 where
  pub program : List ℕ
  pub are : map (λ w. string_bytes w) words ≡ program ∷ command ∷ option_to_list file
  pub operand : IsOperand file
