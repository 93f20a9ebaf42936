-- The items of an xterm's repaint. (this profile)
use Rattle.std.specs.Prelude.{ℕ, ◌+◌, ◌-◌, List, [], ◌∷◌, ◌++◌, Bool, true, false, not, Option, Some, None, ◌==◌, map, if◌then◌else◌}
use Rattle.std.specs.List.{range_with_len, flat_map}
use Rattle.vt_syntax.specs.declared.event.Event.{Event}
use Rattle.vt_syntax.specs.declared.event.Event.TheVariants.{Sequence}
use Rattle.vt_glyph.specs.Tables.{space}
use Rattle.vt_glyph.specs.declared.set.Set.{Set}
use Rattle.vt_glyph.specs.Designation.{final_of}
use Rattle.vt_glyph.specs.GraphicSets.{GraphicSets}
use Rattle.vt_glyph.specs.Invocation.{sets_at_power_up, set_at}
use Rattle.vt_screen.specs.declared.size.Size.{Size}
use Rattle.vt_screen.specs.Grid.{at_or}
use Rattle.vt_screen.specs.Same.{when}
use Rattle.vt_term.specs.declared.state.Modes.{Modes}
use Rattle.vt_term.specs.declared.state.SavedOf.{SavedOf}
use Rattle.vt_term.specs.State.{has_stop_at, saved_sets}
use Rattle.vt_term.specs.Answers.{line_of_cursor}
use Rattle.vt_term.specs.Functions.{byte}
use Rattle.vt_feed.specs.Actions.{Action, Function, printed}
use Rattle.vt_wide.specs.Edits.{first_column}
use Rattle.vt_paint.specs.Controls.{sequence_of, private_mode, ansi_mode, cursor_position, margins_to, clear_all_tabs, set_tab, save_cursor, designation_of, left_event, right_event, shift_to, keypad, report_form}
use Rattle.vt_xterm_cell.specs.declared.look.Look.{Look}
use Rattle.vt_xterm_cell.specs.Look.{plain_look}
use Rattle.vt_xterm_cell.specs.Cells.{blank_cell}
use Rattle.vt_xterm_cell.specs.Wide.{xterm_wide}
use Rattle.vt_xterm_display.specs.declared.sides.Sides.{Sides}
use Rattle.vt_xterm_display.specs.declared.settings.Settings.{Settings}
use Rattle.vt_xterm_display.specs.declared.settings.Mouse.{Mouse}
use Rattle.vt_xterm_display.specs.declared.settings.Mouse.TheVariants.{Off, Presses, Buttons, Drags, Motion}
use Rattle.vt_xterm_display.specs.declared.settings.Coding.{Coding}
use Rattle.vt_xterm_display.specs.declared.settings.Coding.TheVariants.{Bytes, Utf8, Sgr, Urxvt, Pixels}
use Rattle.vt_xterm_display.specs.declared.settings.Shape.{Shape}
use Rattle.vt_xterm_display.specs.declared.settings.Shape.TheVariants.{Block, Underline, Bar}
use Rattle.vt_xterm_display.specs.State.{PageState, XtermState}
use Rattle.vt_xterm_display.specs.Tabs.{is_pending}
use Rattle.vt_xterm_repaint.specs.Looks.{look_actions}
use Rattle.vt_xterm_repaint.specs.Cells.{glyph_actions, grid_actions}

abbrev pub functions : List Event → List Action
functions events = map Function events

-- DECCOLM, on a screen with two widths
abbrev pub width_item : Size → Bool → List Action
width_item size wide = when (not (size.narrow == size.wide)) (Function (private_mode 3 wide) ∷ [])

-- the tab stops, on a wide screen, which has all their columns. The cursor goes back
abbrev pub stop_item : List Bool → ℕ → List Action
stop_item stops c = when (has_stop_at stops c) (functions (cursor_position 1 c ∷ set_tab ∷ []))

unfoldable pub stops_item : Size → List Bool → List Action
stops_item size stops =
    width_item size true
    ++ Function clear_all_tabs ∷ (flat_map (stop_item stops) (range_with_len 1 size.wide) ++ Function (cursor_position 1 1) ∷ [])

-- SCS of a slot, if it has another set
abbrev pub set_item : ℕ → Set → Set → List Action
set_item slot old new = when (not (final_of old == final_of new)) (Function (designation_of slot new) ∷ [])

-- the locking shifts, if other sets are in GL and GR
abbrev pub locked_item : GraphicSets → GraphicSets → List Action
locked_item old new =
    when (not (old.left == new.left)) (Function (left_event new.left) ∷ [])
    ++ when (not (old.right == new.right)) (Function (right_event new.right) ∷ [])

-- what leads from sets to others, in which no single shift is pending. (In real xterm SCS of G2 and G3 as Supplemental ends UTF-8.)
unfoldable pub sets_item : GraphicSets → GraphicSets → List Action
sets_item old new =
    set_item 0 (set_at old 0) (set_at new 0)
    ++ (set_item 1 (set_at old 1) (set_at new 1)
    ++ (set_item 2 (set_at old 2) (set_at new 2)
    ++ (set_item 3 (set_at old 3) (set_at new 3)
    ++ locked_item old new)))

-- what is saved, by DECSC. On a blank page in the plain look a space in the last column makes the wrap pending
unfoldable pub saved_item : SavedOf Look → List Action
saved_item saved =
    when saved.origin (functions (private_mode 6 true ∷ []))
    ++ Function (cursor_position saved.row saved.col)
    ∷ (when saved.wrap (printed space ∷ [])
    ++ (look_actions saved.brush
    ++ (sets_item sets_at_power_up (saved_sets saved)
    ++ (Function save_cursor
    ∷ when saved.origin (functions (private_mode 6 false ∷ []))))))

-- a page that is blank: its width, what is saved on it, its cells. Then look, sets and cursor are as at power-up
unfoldable pub page_item : PageState → List Action
page_item page =
    width_item page.grid.size (page.grid.width == page.grid.size.wide)
    ++ (saved_item page.saved
    ++ (sets_item (saved_sets page.saved) sets_at_power_up
    ++ (grid_actions page.grid
    ++ (look_actions plain_look
    ++ Function (cursor_position 1 1) ∷ []))))

-- DECSTBM; DECLRMM, and DECSLRM
abbrev pub sides_item : Bool → Sides → List Action
sides_item bounded m = when bounded (functions (private_mode 69 true ∷ sequence_of (m.left ∷ m.right ∷ []) (byte "s") ∷ []))

abbrev pub margins_item : XtermState → List Action
margins_item s = Function (margins_to s.shown.margins.top s.shown.margins.bottom) ∷ sides_item s.bounded s.sides

-- the column that CUP names: under DECOM counted from the left margin
abbrev pub column_named : XtermState → ℕ → ℕ
column_named s col = if s.shown.modes.decom then col - s.sides.left + 1 else col

-- CUP to a column of the cursor's row
abbrev pub move_item : XtermState → ℕ → List Action
move_item s col = Function (cursor_position (line_of_cursor s.shown) (column_named s col)) ∷ []

-- the character that ends in a column of the cursor's row is written once more, which makes a wrap pending
abbrev pub again_item : XtermState → ℕ → List Action
again_item s col =
    let first = first_column xterm_wide blank_cell s.shown.grid s.shown.cursor.row col in
    let cell = at_or blank_cell s.shown.grid s.shown.cursor.row first in
    move_item s first ++ (look_actions cell.look ++ glyph_actions cell)

unfoldable pub cursor_item : XtermState → List Action
cursor_item s = if is_pending s then again_item s s.shown.cursor.col else move_item s s.shown.cursor.col

-- the modes that move nothing
abbrev pub modes_item : Modes → List Action
modes_item m = functions (
    ansi_mode 2 m.kam ∷ ansi_mode 4 m.irm ∷ ansi_mode 12 m.srm ∷ ansi_mode 20 m.lnm
    ∷ private_mode 1 m.decckm ∷ private_mode 4 m.decsclm ∷ private_mode 5 m.decscnm ∷ private_mode 7 m.decawm ∷ private_mode 8 m.decarm
    ∷ private_mode 25 m.dectcem ∷ keypad m.keypad_application ∷ report_form m.reports_8bit ∷ [])

abbrev pub mouse_item : Mouse → List Action
mouse_item Off = []
mouse_item Presses = functions (private_mode 9 true ∷ [])
mouse_item Buttons = functions (private_mode 1000 true ∷ [])
mouse_item Drags = functions (private_mode 1002 true ∷ [])
mouse_item Motion = functions (private_mode 1003 true ∷ [])

abbrev pub coding_item : Coding → List Action
coding_item Bytes = []
coding_item Utf8 = functions (private_mode 1005 true ∷ [])
coding_item Sgr = functions (private_mode 1006 true ∷ [])
coding_item Urxvt = functions (private_mode 1015 true ∷ [])
coding_item Pixels = functions (private_mode 1016 true ∷ [])

-- DECSCUSR, which also says whether it blinks
abbrev pub shape_number : Shape → ℕ
shape_number Block = 2
shape_number Underline = 4
shape_number Bar = 6

abbrev pub style_item : Shape → Bool → List Action
style_item shape blinks =
    functions (Sequence None (record { items = (if blinks then shape_number shape - 1 else shape_number shape) ∷ [] }) (Some (byte " ")) (byte "q") ∷ [])

abbrev pub settings_item : Settings → List Action
settings_item x =
    functions (private_mode 2004 x.brackets ∷ private_mode 1004 x.focus ∷ private_mode 2026 x.synchronized ∷ [])
    ++ (mouse_item x.mouse ++ (coding_item x.coding ++ style_item x.shape x.blinks))

abbrev pub shift_item : Option ℕ → List Action
shift_item None = []
shift_item (Some slot) = functions (shift_to slot ∷ [])
