-- The lines that scroll off the top of the main page, each decided by the state before its action. On the alternate page none do. Between left and
-- right margins no whole row moves. (EK-VT220-RM: IND, NEL, LF and DECAWM; xterm's control sequences, ctlseqs: SU; xterm 379, which saves such
-- lines; what the log has for REP, and at a change of the size, is this profile's)
use Rattle.std.specs.Prelude.{ℕ, List, [], ◌∷◌, ◌++◌, ◌*◌, ◌≤◌, Bool, not, Option, Some, None, min, unwrap_or, ◌==◌, ◌&&◌, ◌||◌, nat_lt, if◌then◌else◌, ⊤}
use Rattle.vt_syntax.specs.declared.event.Event.{Event}
use Rattle.vt_syntax.specs.declared.event.Event.TheVariants.{Print, Control, Escape, Sequence}
use Rattle.vt_glyph.specs.Invocation.{has_no_glyph}
use Rattle.vt_glyph.specs.LookUp.{look_up}
use Rattle.vt_screen.specs.declared.size.Size.{Size}
use Rattle.vt_term.specs.State.{last_column}
use Rattle.vt_term.specs.Parameters.{count}
use Rattle.vt_term.specs.Functions.{row}
use Rattle.vt_utf8.specs.Cells.{cells}
use Rattle.vt_feed.specs.Actions.{Action, Function, Character}
use Rattle.vt_feed.specs.Languages.{utf8}
use Rattle.vt_feed.specs.Observing.{Happening, Byte, Does, happenings}
use Rattle.vt_xterm_display.specs.State.{Grid, XtermState}
use Rattle.vt_xterm_display.specs.Tabs.{is_pending}
use Rattle.vt_xterm_display.specs.Writing.{room}
use Rattle.vt_xterm_display.specs.Functions.{xterm}
use Rattle.vt_xterm_display.specs.Session.{Session}
use Rattle.vt_xterm_display.specs.Text.{rows_text, xterm_text_limit}
use Rattle.vt_xterm_display.specs.Resizing.{xterm_off}

-- ---- how many of the first rows scroll off

-- the rows between the four margins are whole rows of the main page, starting at row 1
abbrev pub are_at_top : XtermState → Bool
are_at_top s =
    not s.alternate && (s.shown.margins.top == 1 && (s.sides.left == 1 && s.sides.right == last_column s.shown))

-- SU: at most the rows up to the bottom margin
abbrev pub up_off : ℕ → XtermState → ℕ
up_off n s = if are_at_top s then min n s.shown.margins.bottom else 0

-- IND, NEL, LF, VT and FF: row 1, if the cursor is at the bottom margin
abbrev pub index_off : XtermState → ℕ
index_off s = if s.shown.cursor.row == s.shown.margins.bottom then up_off 1 s else 0

-- a character of so many columns: if a wrap is pending, or if it has no room and goes to the next line under DECAWM
abbrev pub write_off : ℕ → XtermState → ℕ
write_off width s =
    if is_pending s || (s.shown.modes.decawm && nat_lt (room s.sides s.shown) width) then index_off s else 0

-- a graphic byte that has a glyph
abbrev pub print_off : ℕ → XtermState → ℕ
print_off b s = if has_no_glyph b then 0 else write_off 1 s

-- a character beyond ASCII; one without a width isn't written
abbrev pub character_off : ℕ → XtermState → ℕ
character_off c s = if cells c == 0 then 0 else write_off (cells c) s

-- REP: its first character may wrap, and the others stay in its row
abbrev pub repeat_off : XtermState → ℕ
repeat_off s = if is_pending s then index_off s else 0

abbrev pub scrolling_controls : List (ℕ × (XtermState → ℕ))
scrolling_controls =
    (0x0A, index_off)  -- LF
    ∷ (0x0B, index_off)  -- VT
    ∷ (0x0C, index_off)  -- FF
    ∷ (0x1A, write_off 1)  -- SUB
    ∷ (0x84, index_off)  -- IND
    ∷ (0x85, index_off)  -- NEL
    ∷ []

abbrev pub scrolling_sequences : List (ℕ × (List ℕ → XtermState → ℕ))
scrolling_sequences =
    row "S" (λ params. up_off (count params))  -- SU
    ∷ row "b" (λ params. repeat_off)  -- REP
    ∷ []

unfoldable pub sequence_off : Option ℕ → Option ℕ → ℕ → List ℕ → XtermState → ℕ
sequence_off None None last = unwrap_or (look_up scrolling_sequences last) (λ params s. 0)
sequence_off (Some marker) None last = λ params s. 0
sequence_off None (Some inter) last = λ params s. 0
sequence_off (Some marker) (Some inter) last = λ params s. 0

abbrev pub event_off : Event → XtermState → ℕ
event_off (Print b) = print_off b
event_off (Control b) = unwrap_or (look_up scrolling_controls b) (λ s. 0)
event_off (Escape inter last) = λ s. 0
event_off (Sequence marker params inter last) = sequence_off marker inter last params.items

-- how many rows an action scrolls off
abbrev pub action_off : Action → XtermState → ℕ
action_off (Function event) = event_off event
action_off (Character c) = character_off c

-- ---- the log

-- the texts of the lines that scroll off at what happens
abbrev pub lines_in : List (Happening XtermState) → List ℕ
lines_in [] = []
lines_in (Byte ∷ hs) = lines_in hs
lines_in (Does action s ∷ hs) = rows_text (action_off action s) s.shown.grid ++ lines_in hs

-- the log of bytes that a session plays
unfoldable pub log_of : Session → List ℕ → List ℕ
log_of s bytes = lines_in (happenings utf8 xterm s.reading s.screen bytes)

-- the most bytes of the lines of one byte, which asks for two actions at most
abbrev pub xterm_lines_limit : Size → ℕ
xterm_lines_limit size = 2 * xterm_text_limit size

-- ---- a change of the size

-- the main page, whether it is shown or not
abbrev pub main_grid : XtermState → Grid
main_grid s = if s.alternate then s.other.grid else s.shown.grid

-- what a change to another size adds to the log: the texts of the rows that leave the main page at the top
abbrev pub log_on : Size → XtermState → List ℕ
log_on size s = rows_text (xterm_off size s) (main_grid s)

-- ---- for observers

-- the text of each screen is at most so long
abbrev pub AreShort : ℕ → List (Happening XtermState) → Type 0
AreShort limit [] = ⊤
AreShort limit (Byte ∷ hs) = AreShort limit hs
AreShort limit (Does action s ∷ hs) = (xterm_text_limit s.shown.grid.size ≤ limit) × AreShort limit hs

-- so many graphic bytes end in the cursor's row, or one carries out a pending wrap
abbrev pub RunFits : ℕ → XtermState → Type 0
RunFits n s = n ≤ (if is_pending s then 1 else room s.sides s.shown)
