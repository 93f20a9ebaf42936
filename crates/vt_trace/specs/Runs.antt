-- Bytes that are traced at once. Contracts of private functions cite this, and no public clause does.
use Rattle.std.specs.Prelude.{◌≡◌, ◌≢◌, ◌≤◌, ◌⊎◌, ℕ, List, Bool, true, false, All, length, drop}
use Rattle.vt_syntax.specs.Class.{IsPlain}
use Rattle.vt_syntax.specs.declared.event.Event.{Event}
use Rattle.vt_syntax.specs.declared.event.Event.TheVariants.{Print, Control, Escape, Sequence}

-- a plain byte that a text shows as itself
abbrev pub IsShown : ℕ → Type 0
IsShown b = (0x20 ≤ b) × (b ≤ 0x7E) × (b ≢ 0x5C)

abbrev pub is_graphic : Event → Bool
is_graphic (Print b) = true
is_graphic (Control b) = false
is_graphic (Escape inter last) = false
is_graphic (Sequence marker params inter last) = false

-- bytes with one event are one item: a single byte, or the event is no graphic byte and the bytes after the first are plain
abbrev pub IsItem : List ℕ → Event → Type 0
IsItem bytes event = (length bytes ≡ 1) ⊎ ((is_graphic event ≡ false) × All IsPlain (drop 1 bytes))
