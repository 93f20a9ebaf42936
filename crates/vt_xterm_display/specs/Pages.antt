-- The two pages, and the private modes. (xterm's control sequences, ctlseqs: DECSET; VT510 manual: DECLRMM; docs/XTERM.md: Pages, Modes)
use Rattle.std.specs.Prelude.{ℕ, List, [], ◌∷◌, Bool, true, false, not, ◌==◌, ◌&&◌, min, unwrap_or, fold, if◌then◌else◌}
use Rattle.vt_glyph.specs.LookUp.{look_up}
use Rattle.vt_screen.specs.Grid.{blank_any, fill_any}
use Rattle.vt_screen.specs.Sizes.{width_of}
use Rattle.vt_term.specs.State.{last_column}
use Rattle.vt_term.specs.Modes.{private_modes_any, with_mode, autowrap_mode, column_mode_any}
use Rattle.vt_term.specs.Saving.{save_cursor, restore_cursor}
use Rattle.vt_xterm_cell.specs.Words.{CellParts}
use Rattle.vt_xterm_cell.specs.Cells.{blank_cell}
use Rattle.vt_xterm_display.specs.declared.sides.Sides.{Sides}
use Rattle.vt_xterm_display.specs.declared.settings.Settings.{Settings}
use Rattle.vt_xterm_display.specs.declared.settings.Mouse.{Mouse}
use Rattle.vt_xterm_display.specs.declared.settings.Mouse.TheVariants.{Off, Presses, Buttons, Drags, Motion}
use Rattle.vt_xterm_display.specs.declared.settings.Coding.{Coding}
use Rattle.vt_xterm_display.specs.declared.settings.Coding.TheVariants.{Bytes, Utf8, Sgr, Urxvt, Pixels}
use Rattle.vt_xterm_display.specs.declared.settings.Shape.{Shape}
use Rattle.vt_xterm_display.specs.declared.settings.Shape.TheVariants.{Block, Underline, Bar}
use Rattle.vt_xterm_display.specs.State.{Shown, PageState, XtermState, xterm_kind, on_shown, moved, full_sides}
use Rattle.vt_xterm_display.specs.Moving.{brought, origin_mode}
use Rattle.vt_xterm_display.specs.Rows.{incoming}
use Rattle.vt_xterm_display.specs.Editing.{erase_in_display}

-- DECSC is a VT220's, and saves a pending wrap in the last column alone

-- the wrap flag of a cursor on another page, or of a saved one: it stays if the right margin is the last column (this profile)
abbrev pub kept_wrap : Sides → Shown → Bool → Bool
kept_wrap m s wrap = wrap && m.right == last_column s

-- DECRC: under DECOM the cursor is brought between the margins; a wrap that was pending at the right margin isn't restored
abbrev pub restored : Sides → Shown → Shown
restored m s = brought m (record (restore_cursor s) {
  cursor = record (restore_cursor s).cursor { wrap = kept_wrap m s (restore_cursor s).cursor.wrap };
})

abbrev pub restore : XtermState → XtermState
restore s = moved restored s

-- DECLRMM: without it the margins are all columns, and no wrap is pending at the right one (VT510 manual; xterm 379)
abbrev pub side_mode : Bool → XtermState → XtermState
side_mode on s =
    if on then record s { bounded = true }
    else record s { bounded = false; sides = full_sides (last_column s.shown); waits = false }

-- DECAWM: without it no wrap is pending
abbrev pub wrap_mode : Bool → XtermState → XtermState
wrap_mode on s = record s { shown = autowrap_mode on s.shown; waits = s.waits && on }

-- ---- pages

-- a page gets a width; if it has another one, it becomes blank as by DECCOLM
abbrev pub fitted : ℕ → PageState → PageState
fitted width page = if page.grid.width == width then page else record {
  grid = blank_any blank_cell page.grid.size (width == page.grid.size.wide);
  saved = record page.saved { col = min page.saved.col (width_of page.grid.size (width == page.grid.size.wide)); wrap = false };
}

-- the other page is shown, in the width of the screen. A wrap stays pending in a last column that is the right margin's, and everything else stays
-- (this profile)
abbrev pub exchanged : Bool → XtermState → XtermState
exchanged alternate s = record s {
  shown = record s.shown {
    grid = (fitted s.shown.grid.width s.other).grid;
    saved = (fitted s.shown.grid.width s.other).saved;
    cursor = record s.shown.cursor { wrap = kept_wrap s.sides s.shown s.shown.cursor.wrap };
  };
  other = record { grid = s.shown.grid; saved = s.shown.saved };
  waits = false;
  alternate = alternate;
}

-- ?47: the alternate page is shown, or the main one
abbrev pub show_page : Bool → XtermState → XtermState
show_page alternate s =
    if s.alternate then (if alternate then s else exchanged false s) else (if alternate then exchanged true s else s)

-- the page that isn't shown is erased; what was saved on it stays
abbrev pub with_erased_page : XtermState → XtermState
with_erased_page s = record s { other = record s.other { grid = fill_any s.other.grid (incoming s.shown) } }

-- ?1047: the alternate page is shown, or the main one; the alternate page is left erased
abbrev pub show_or_clear : Bool → XtermState → XtermState
show_or_clear alternate s =
    if alternate then show_page true s else (if s.alternate then with_erased_page (exchanged false s) else s)

-- ?1048: DECSC and DECRC
abbrev pub save_or_restore : Bool → XtermState → XtermState
save_or_restore save s = if save then on_shown save_cursor s else restore s

-- ?1049: DECSC, the alternate page, ED 2; and back the main page, DECRC
abbrev pub show_and_save : Bool → XtermState → XtermState
show_and_save alternate s =
    if alternate then erase_in_display false 2 (show_page true (on_shown save_cursor s)) else restore (show_page false s)

-- DECCOLM: the screen is erased in its other width, and the margins are full
abbrev pub with_columns : Bool → XtermState → XtermState
with_columns wide s = record s {
  shown = record (column_mode_any xterm_kind wide s.shown) {
    grid = fill_any (column_mode_any xterm_kind wide s.shown).grid (incoming s.shown);
  };
  sides = full_sides (width_of s.shown.grid.size wide);
  waits = false;
}

-- ?3: DECCOLM, if it has an effect
abbrev pub column_mode : Bool → XtermState → XtermState
column_mode wide s = if s.resizes then with_columns wide s else s

-- ---- modes

abbrev pub with_settings : (Settings → Settings) → XtermState → XtermState
with_settings change s = record s { settings = change s.settings }

-- a mode of the mouse; resetting any turns it off (xterm)
abbrev pub mouse_mode : Mouse → Bool → XtermState → XtermState
mouse_mode mouse on = with_settings (λ x. record x { mouse = if on then mouse else Off })

-- a coding of the mouse's positions; resetting one turns it off if it is the one that was set (xterm)
abbrev pub same_coding : Coding → Coding → Bool
same_coding Bytes Bytes = true
same_coding Utf8 Utf8 = true
same_coding Sgr Sgr = true
same_coding Urxvt Urxvt = true
same_coding Pixels Pixels = true
same_coding _ _ = false

abbrev pub mouse_coding : Coding → Bool → XtermState → XtermState
mouse_coding coding on =
    with_settings (λ x. record x { coding = if on then coding else (if same_coding x.coding coding then Bytes else x.coding) })

-- the private modes that differ from those of a VT220, or that it lacks
abbrev pub xterm_modes : List (ℕ × (Bool → XtermState → XtermState))
xterm_modes =
    (3, column_mode)  -- DECCOLM
    ∷ (6, λ on. moved (origin_mode on))  -- DECOM
    ∷ (7, wrap_mode)  -- DECAWM
    ∷ (9, mouse_mode Presses)  -- X10 mouse
    ∷ (12, λ on. with_settings (λ x. record x { blinks = on }))  -- a blinking cursor
    ∷ (40, λ on s. record s { resizes = on })  -- DECCOLM is allowed
    ∷ (47, show_page)  -- the alternate screen buffer
    ∷ (69, side_mode)  -- DECLRMM
    ∷ (1000, mouse_mode Buttons)  -- buttons of the mouse
    ∷ (1002, mouse_mode Drags)  -- and motion while one is pressed
    ∷ (1003, mouse_mode Motion)  -- and any motion
    ∷ (1004, λ on. with_settings (λ x. record x { focus = on }))  -- focus
    ∷ (1005, mouse_coding Utf8)  -- UTF-8
    ∷ (1006, mouse_coding Sgr)  -- SGR
    ∷ (1015, mouse_coding Urxvt)  -- urxvt
    ∷ (1016, mouse_coding Pixels)  -- SGR, in pixels
    ∷ (1047, show_or_clear)  -- the alternate screen buffer, cleared
    ∷ (1048, save_or_restore)  -- the saved cursor
    ∷ (1049, show_and_save)  -- both
    ∷ (2004, λ on. with_settings (λ x. record x { brackets = on }))  -- bracketed paste
    ∷ (2026, λ on. with_settings (λ x. record x { synchronized = on }))  -- synchronized output
    ∷ []

-- one mode; what isn't in this table is a VT220's
unfoldable pub with_xterm_mode : Bool → ℕ → XtermState → XtermState
with_xterm_mode on p = unwrap_or (look_up xterm_modes p) (λ on. on_shown (with_mode (private_modes_any xterm_kind) on p)) on

-- SM and RM of private modes: each parameter in order
abbrev pub change_modes : Bool → List ℕ → XtermState → XtermState
change_modes on params s = fold (λ s p. with_xterm_mode on p s) s params

-- DECSCUSR: 0 to 2 a block, 3 and 4 an underline, 5 and 6 a bar; 0, 1, 3 and 5 blink. Other numbers have no effect (ctlseqs)
abbrev pub cursor_shape : Shape → Bool → XtermState → XtermState
cursor_shape shape blinks = with_settings (λ x. record x { shape = shape; blinks = blinks })

abbrev pub cursor_shapes : List (ℕ × (XtermState → XtermState))
cursor_shapes =
    (0, cursor_shape Block true) ∷ (1, cursor_shape Block true) ∷ (2, cursor_shape Block false) ∷ (3, cursor_shape Underline true)
    ∷ (4, cursor_shape Underline false) ∷ (5, cursor_shape Bar true) ∷ (6, cursor_shape Bar false) ∷ []

unfoldable pub set_cursor_style : ℕ → XtermState → XtermState
set_cursor_style p = unwrap_or (look_up cursor_shapes p) (λ s. s)
