-- The lines that scroll off the top of the screen. (EK-VT220-RM, chapter 4: IND, NEL, LF and DECAWM)
use Rattle.std.specs.Prelude.{ℕ, List, [], ◌∷◌, ◌++◌, Bool, false, ◌==◌, ◌||◌, ◌&&◌, not, if◌then◌else◌, flat_map}
use Rattle.vt_syntax.specs.declared.event.Event.{Event}
use Rattle.vt_syntax.specs.declared.event.Event.TheVariants.{Print, Control, Escape, Sequence}
use Rattle.vt_syntax.specs.Held.{events_from}
use Rattle.vt_glyph.specs.Invocation.{has_no_glyph}
use Rattle.vt_screen.specs.declared.cell.Cell.{Cell}
use Rattle.vt_screen.specs.Grid.{row_of}
use Rattle.vt_term.specs.State.{Display, State}
use Rattle.vt_term.specs.Functions.{effect}
use Rattle.vt_term.specs.Text.{line_text}

-- LF, VT, FF, IND and NEL
abbrev pub is_line_feed : ℕ → Bool
is_line_feed b = b == 0x0A || b == 0x0B || b == 0x0C || b == 0x84 || b == 0x85

-- a line feed: by a control, or by a character that is written with the wrap flag set, that of SUB among them
abbrev pub feeds_line : Event → Display → Bool
feeds_line (Print b) s = s.cursor.wrap && not (has_no_glyph b)
feeds_line (Control b) s = is_line_feed b || (b == 0x1A && s.cursor.wrap)
feeds_line (Escape inter last) s = false
feeds_line (Sequence marker params inter last) s = false

-- the cursor is at the bottom margin, and the top margin is line 1: here a line feed moves line 1 off the screen
abbrev pub is_at_end : Display → Bool
is_at_end s = s.margins.top == 1 && s.cursor.row == s.margins.bottom

abbrev pub scrolls_off : Event → Display → Bool
scrolls_off event s = feeds_line event s && is_at_end s

-- line 1 as it is before an event that moves it off
abbrev pub line_off : Event → Display → List (List Cell)
line_off event s = if scrolls_off event s then row_of s.grid 1 ∷ [] else []

-- the lines of events, each in the state before its event
abbrev pub lines_off : List Event → Display → List (List Cell)
lines_off [] s = []
lines_off (event ∷ events) s = line_off event s ++ lines_off events (effect event s)

-- the lines of bytes after what is held
unfoldable pub scrolled_off : State → List ℕ → List (List Cell)
scrolled_off s bytes = lines_off (events_from s.held bytes) s.display

-- the log of bytes: the texts of these lines. (this profile)
unfoldable pub log : State → List ℕ → List ℕ
log s bytes = flat_map line_text (scrolled_off s bytes)
