-- The facts that hold of each state that a host leaves. (this profile)
use Rattle.std.specs.Prelude.{◌≡◌, ℕ, ◌+◌, ◌≤◌, ◌<◌, Bool, true, false}
use Rattle.vt_glyph.specs.GraphicSets.{AreSoundSets}
use Rattle.vt_screen.specs.Grid.{IsSoundGridOf}
use Rattle.vt_screen.specs.declared.size.Size.{Size}
use Rattle.vt_term.specs.State.{last_column, saved_sets}
use Rattle.vt_term.specs.Sound.{IsPlace}
use Rattle.vt_xterm_cell.specs.Kinds.{xterm_cells}
use Rattle.vt_xterm_display.specs.declared.sides.Sides.{Sides}
use Rattle.vt_xterm_display.specs.State.{PageState, XtermState, full_sides}
use Rattle.vt_xterm_display.specs.Whole.{IsKept, parts_none}
use Rattle.vt_xterm_display.specs.Tabs.{is_pending}

-- a page of this size
pub record IsSoundPageAt (size : Size) (page : PageState) : Type 0 where
  pub of_size : page.grid.size ≡ size
  pub grid : IsSoundGridOf xterm_cells.shown page.grid
  pub saved : IsPlace size.rows page.grid.width page.saved.row page.saved.col page.saved.wrap
  pub saved_sets : AreSoundSets (saved_sets page.saved)

-- left and right margins with at least two columns, on a screen of so many
pub record AreSides (width : ℕ) (m : Sides) : Type 0 where
  pub from_column_1 : 1 ≤ m.left
  pub two_columns : m.left < m.right
  pub to_last_column : m.right ≤ width

-- a wrap is pending under DECAWM, in the right margin's column, left of the last one
pub record IsWaiting (s : XtermState) : Type 0 where
  pub wraps : s.shown.modes.decawm ≡ true
  pub at_margin : s.shown.cursor.col ≡ s.sides.right
  pub before_last : s.sides.right < last_column s.shown

-- what holds beside the soundness of what is shown and of the other page
pub record IsSoundXterm (s : XtermState) : Type 0 where
  pub one_size : s.other.grid.size ≡ s.shown.grid.size
  pub sides : AreSides (last_column s.shown) s.sides
  pub full : s.bounded ≡ false → s.sides ≡ full_sides (last_column s.shown)
  pub waiting : s.waits ≡ true → IsWaiting s
  -- under DECOM the cursor is between the margins
  pub origin : s.shown.modes.decom ≡ true → (s.sides.left ≤ s.shown.cursor.col) × (s.shown.cursor.col ≤ s.sides.right)
  pub kept : IsKept s
  -- the right margin parts no character at which a wrap is pending
  pub fits : is_pending s ≡ true → s.shown.cursor.col ≤ s.sides.right + 1
      → parts_none s.shown.grid s.shown.cursor.row s.sides.right ≡ true
