-- The state of an xterm's screen: what is shown, the other page, and what both share. (docs/XTERM.md: State, Modes; the values at power-up are
-- this profile's)
use Rattle.std.specs.Prelude.{ℕ, Bool, true, false, ◌==◌, ◌&&◌, nat_lt}
use Rattle.vt_screen.specs.Grid.{GridOf, blank_any}
use Rattle.vt_screen.specs.declared.size.Size.{Size}
use Rattle.vt_term.specs.Kinds.{KindOf, kind_of}
use Rattle.vt_term.specs.State.{DisplayOf, display_any, saved_any, last_column}
use Rattle.vt_term.specs.declared.state.SavedOf.{SavedOf}
use Rattle.vt_xterm_cell.specs.declared.look.Look.{Look}
use Rattle.vt_xterm_cell.specs.Words.{CellParts}
use Rattle.vt_xterm_cell.specs.Cells.{blank_cell}
use Rattle.vt_xterm_cell.specs.Kinds.{xterm_cells, xterm_own}
use Rattle.vt_xterm_display.specs.declared.sides.Sides.{Sides}
use Rattle.vt_xterm_display.specs.declared.settings.Settings.{Settings}
use Rattle.vt_xterm_display.specs.declared.settings.Mouse.TheVariants.{Off}
use Rattle.vt_xterm_display.specs.declared.settings.Coding.TheVariants.{Bytes}
use Rattle.vt_xterm_display.specs.declared.settings.Shape.TheVariants.{Block}

abbrev pub xterm_kind : KindOf CellParts Look
xterm_kind = kind_of xterm_cells xterm_own

abbrev pub Grid : Type 0
Grid = GridOf CellParts

-- the page that is shown, the cursor, the pen, the sets, the top and bottom margins, the stops, a VT220's modes, and what DECSC saved
abbrev pub Shown : Type 0
Shown = DisplayOf CellParts Look

-- a page that isn't shown: its cells, and what DECSC saved on it
pub record PageState : Type 0 where
  pub grid : Grid
  pub saved : SavedOf Look

pub record XtermState : Type 0 where
  pub shown : Shown
  pub other : PageState
  -- the left and right margins: all columns, if DECLRMM is reset
  pub sides : Sides
  -- DECLRMM
  pub bounded : Bool
  -- a wrap is pending in the right margin's column, left of the last one
  pub waits : Bool
  -- the alternate page is the one that is shown
  pub alternate : Bool
  -- DECCOLM has an effect
  pub resizes : Bool
  pub settings : Settings

-- a function of what is shown alone
abbrev pub on_shown : (Shown → Shown) → XtermState → XtermState
on_shown f s = record s { shown = f s.shown }

-- a function between the left and right margins, which resets a pending wrap
abbrev pub moved : (Sides → Shown → Shown) → XtermState → XtermState
moved f s = record s { shown = f s.sides s.shown; waits = false }

-- one that leaves it
abbrev pub between : (Sides → Shown → Shown) → XtermState → XtermState
between f s = record s { shown = f s.sides s.shown }

-- ---- the values at power-up

-- all columns
abbrev pub full_sides : ℕ → Sides
full_sides width = record { left = 1; right = width }

-- a steady block, and nothing else
abbrev pub settings_at_power_up : Settings
settings_at_power_up =
    record { brackets = false; focus = false; synchronized = false; mouse = Off; coding = Bytes; shape = Block; blinks = false }

abbrev pub blank_page : Size → PageState
blank_page size = record { grid = blank_any blank_cell size false; saved = saved_any xterm_kind }

-- a display and everything behind it as at power-up, but for whether DECCOLM has an effect
abbrev pub behind : Shown → Bool → XtermState
behind shown resizes = record {
  shown = shown;
  other = blank_page shown.grid.size;
  sides = full_sides (last_column shown);
  bounded = false;
  waits = false;
  alternate = false;
  resizes = resizes;
  settings = settings_at_power_up;
}

abbrev pub xterm_of : Size → XtermState
xterm_of size = behind (display_any xterm_kind size) false
