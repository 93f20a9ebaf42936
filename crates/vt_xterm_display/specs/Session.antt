-- An xterm: its screen, and what is read of an unfinished sequence and of an unfinished character. (this profile)
use Rattle.std.specs.Prelude.{◌≡◌, ℕ, List, []}
use Rattle.vt_syntax.specs.declared.held.Held.TheVariants.{Nothing}
use Rattle.vt_screen.specs.declared.size.Size.{Size}
use Rattle.vt_feed.specs.Actions.{Plays}
use Rattle.vt_feed.specs.Languages.{Reading, reading, utf8}
use Rattle.vt_xterm_display.specs.State.{XtermState, xterm_of}
use Rattle.vt_xterm_display.specs.Functions.{xterm}

pub record Session : Type 0 where
  pub screen : XtermState
  pub reading : Reading

abbrev pub session_of : Size → Session
session_of size = record { screen = xterm_of size; reading = reading Nothing [] }

-- bytes in UTF-8 leave this session, and append their reports
abbrev pub PlaysXterm : Session → List ℕ → Session → List ℕ → List ℕ → Type 0
PlaysXterm s bytes t before after = Plays utf8 xterm s.reading s.screen bytes t.reading t.screen before after
