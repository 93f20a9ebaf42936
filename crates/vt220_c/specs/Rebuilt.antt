-- The effect of the repaint of a terminal and of the front that a handle keeps for it. (this profile)
use Rattle.vt_term.specs.State.{State}
use Rattle.vt_xterm.specs.Play.{FrontState, behind}
use Rattle.vt_xterm.specs.Sides.{FitsSides}
use Rattle.vt_xterm_paint.specs.Repaint.{IsRebuiltAt}

-- if the left and right margins fit the terminal's screen, the repaint rebuilds both on any terminal and front of their
-- size
pub record IsXtermRebuilt (s : State) (front : FrontState) : Type 0 where
  pub rebuilt : FitsSides s.display front.pages.sides → IsRebuiltAt s.display.grid.size (behind s front)
