-- Actions as bytes in UTF-8: bytes that ask for just these actions. (ECMA-48 5.3 and 5.4; the Unicode Standard, 3.9)
use Rattle.std.specs.Prelude.{◌≡◌, ℕ, ◌≤◌, ◌<◌, List, flat_map, encode_utf8}
use Rattle.std.specs.Prelude.{⊤}
use Rattle.std.specs.Char.{IsScalar}
use Rattle.vt_syntax.specs.declared.event.Event.{Event}
use Rattle.vt_syntax.specs.declared.event.Event.TheVariants.{Print}
use Rattle.vt_syntax.specs.Held.{IsHeldPart}
use Rattle.vt_syntax.specs.Spelling.{IsEvent, spell_event}
use Rattle.vt_utf8.specs.Decoding.{pending_of, given_up}
use Rattle.vt_feed.specs.Actions.{Action, Function, Character}
use Rattle.vt_feed.specs.Languages.{Reading, all_asked}

-- the 7-bit form of an event, and a character in UTF-8
abbrev pub spell_action : Action → List ℕ
spell_action (Function event) = spell_event event
spell_action (Character c) = encode_utf8 c

abbrev pub spell : List Action → List ℕ
spell actions = flat_map spell_action actions

-- a graphic byte of the right half is no character in UTF-8. All other events have a form in ASCII
abbrev pub IsSevenBit : Event → Type 0
IsSevenBit (Print b) = b < 0x80
IsSevenBit event = ⊤

-- what can be spelled: those events, and the characters beyond ASCII
abbrev pub IsSpelled : Action → Type 0
IsSpelled (Function event) = IsEvent event × IsSevenBit event
IsSpelled (Character c) = IsScalar c × (0x80 ≤ c)

-- a held part of a sequence, and the bytes of a character that isn't complete, or none
pub record IsReading (r : Reading) : Type 0 where
  pub held : IsHeldPart r.held
  pub pending : pending_of r.pending ≡ r.pending

-- what is asked for if ESC comes: U+FFFD for the bytes of a character, unless a control string is open
abbrev pub given_up_at_escape : Reading → List Action
given_up_at_escape r = all_asked r.held (given_up r.pending)
