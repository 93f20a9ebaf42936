-- The state, the reports and the lines that scroll off after UTF-8 under TERM=xterm. (this profile)
use Rattle.std.specs.Prelude.{ℕ, List, [], ◌∷◌, ◌++◌, Option, Some, None, nat_lt, flat_map, if◌then◌else◌}
use Rattle.vt_syntax.specs.declared.event.Event.{Event}
use Rattle.vt_syntax.specs.Held.{events_from, held_from}
use Rattle.vt_screen.specs.declared.cell.Cell.{Cell}
use Rattle.vt_screen.specs.declared.size.Size.{Size}
use Rattle.vt_screen.specs.Sizes.{vt220_size}
use Rattle.vt_term.specs.State.{State}
use Rattle.vt_term.specs.Sound.{IsSoundAt}
use Rattle.vt_term.specs.Pages.{IsSoundPageAt}
use Rattle.vt_term.specs.Text.{line_text}
use Rattle.vt_term.specs.Scrolling.{scrolled_off}
use Rattle.vt_term.specs.Reports.{report}
use Rattle.vt_term.specs.Machines.{Machine, screens_after, reports_after}
use Rattle.vt_term.specs.Play.{play}
use Rattle.vt_utf8.specs.Decoding.{characters, pending_after}
use Rattle.vt_utf8.specs.Translation.{translation}
use Rattle.vt_xterm.specs.declared.sides.Sides.{Sides}
use Rattle.vt_xterm.specs.Sides.{FitsSides}
use Rattle.vt_xterm.specs.Pages.{PagesState, Screens, screens, shown_by, pages_of, bounds_of}
use Rattle.vt_xterm.specs.Bounded.{writing_beyond, held_beyond, beyond_in}
use Rattle.vt_xterm.specs.Front.{xterm_effect}
use Rattle.vt_xterm.specs.Log.{xterm_lines_off}

-- the state of a terminal, and the pages behind it
pub record Whole : Type 0 where
  pub state : State
  pub pages : PagesState

-- what holds of all that bytes leave, if the two pages have this size. (this profile)
pub record IsSoundWholeAt (size : Size) (w : Whole) : Type 0 where
  pub state : IsSoundAt size w.state
  pub other : IsSoundPageAt size w.pages.other
  pub sides : FitsSides w.state.display w.pages.sides

-- what holds of all that bytes leave at a VT220's size
abbrev pub IsSoundWhole : Whole → Type 0
IsSoundWhole w = IsSoundWholeAt vt220_size w

-- what is left, the report bytes, and the lines that scroll off
pub record WholePlayed : Type 0 where
  pub whole : Whole
  pub reports : List ℕ
  pub lines : List (List Cell)

abbrev pub screens_of : Whole → Screens
screens_of w = screens w.state w.pages

-- what a front keeps: what is pending of UTF-8, and the pages
pub record FrontState : Type 0 where
  pub pending : List ℕ
  pub pages : PagesState

abbrev pub front_of : Size → FrontState
front_of size = record { pending = []; pages = pages_of size }

-- the front of a VT220's size
abbrev pub front_at_power_up : FrontState
front_at_power_up = front_of vt220_size

abbrev pub whole_of : State → PagesState → Whole
whole_of s pages = record { state = s; pages = pages }

-- a terminal and a front
abbrev pub behind : State → FrontState → Whole
behind s front = whole_of s front.pages

-- an xterm; its reports are those of a VT220
abbrev pub xterm : Machine Screens
xterm = record { display = λ s. s.display; effect = xterm_effect; report = λ event s. report event s.display }

-- the screens after events
abbrev pub after_events : List Event → Screens → Screens
after_events events s = screens_after xterm events s

-- the reports of events, each in the state before its event
abbrev pub reports_of : List Event → Screens → List ℕ
reports_of events s = reports_after xterm events s

-- bytes after what is held: the events of their one split are carried out, and what their rest leaves is held
unfoldable pub play_bytes : Whole → List ℕ → WholePlayed
play_bytes w bytes = record {
  whole = record {
    state = shown_by (after_events (events_from w.state.held bytes) (screens_of w)) (held_from w.state.held bytes);
    pages = (after_events (events_from w.state.held bytes) (screens_of w)).pages;
  };
  reports = reports_of (events_from w.state.held bytes) (screens_of w);
  lines = xterm_lines_off (events_from w.state.held bytes) (screens_of w);
}

-- a character beyond ASCII by its bytes on a VT220, which no function here changes
abbrev pub play_translation : Whole → ℕ → WholePlayed
play_translation w c = record {
  whole = record w { state = (play w.state (translation w.state c)).state };
  reports = (play w.state (translation w.state c)).reports;
  lines = if w.pages.alternate then [] else scrolled_off w.state (translation w.state c);
}

-- a character beyond ASCII between left and right margins: its glyph is written, as that of a graphic byte is
abbrev pub screens_beyond : Sides → ℕ → Whole → Screens
screens_beyond m c w = beyond_in w.state.held (writing_beyond c m) (screens_of w)

abbrev pub play_between : Sides → ℕ → Whole → WholePlayed
play_between m c w = record {
  whole = record {
    state = shown_by (screens_beyond m c w) (held_beyond w.state.held);
    pages = (screens_beyond m c w).pages;
  };
  reports = [];
  lines = [];
}

abbrev pub play_beyond : Whole → Option Sides → ℕ → WholePlayed
play_beyond w None c = play_translation w c
play_beyond w (Some m) c = play_between m c w

-- a character: an ASCII one is played as its byte
unfoldable pub play_character : Whole → ℕ → WholePlayed
play_character w c = if nat_lt c 0x80 then play_bytes w (c ∷ []) else play_beyond w (bounds_of (screens_of w)) c

-- two plays, one after the other
abbrev pub both : WholePlayed → WholePlayed → WholePlayed
both before after = record {
  whole = after.whole;
  reports = before.reports ++ after.reports;
  lines = before.lines ++ after.lines;
}

-- nothing is played
abbrev pub nothing_played : Whole → WholePlayed
nothing_played w = record { whole = w; reports = []; lines = [] }

-- characters in turn
abbrev pub play_characters : Whole → List ℕ → WholePlayed
play_characters w [] = nothing_played w
play_characters w (c ∷ cs) = both (play_character w c) (play_characters (play_character w c).whole cs)

-- bytes after a pending part, as UTF-8; the pending part that they leave is `pending_after`
unfoldable pub play_xterm : Whole → List ℕ → List ℕ → WholePlayed
play_xterm w pending bytes = play_characters w (characters pending bytes)

-- chunks in turn, each after the pending part that those before it leave
abbrev pub play_xterm_all : Whole → List ℕ → List (List ℕ) → WholePlayed
play_xterm_all w pending [] = nothing_played w
play_xterm_all w pending (piece ∷ pieces) =
    both (play_xterm w pending piece)
    (play_xterm_all (play_xterm w pending piece).whole (pending_after pending piece) pieces)

-- the log of bytes: the texts of the lines that they scroll off. (this profile)
abbrev pub xterm_log : Whole → List ℕ → List ℕ → List ℕ
xterm_log w pending bytes = flat_map line_text (play_xterm w pending bytes).lines
