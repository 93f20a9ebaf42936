use Rattle.std.proofs.Common.{subst}
use Rattle.vt_screen.proofs.screen.Screen.width.Goals as goal
use Rattle.vt_screen.specs.Grid.{IsSoundGridOf}

pub returns-clause-sound : goal.returns-clause-sound
returns-clause-sound g c = subst (IsSoundGridOf g.C.Cells.cells.shown) c.self.view_is c.self.invariant.1

pub returns-clause-grid : goal.returns-clause-grid
returns-clause-grid g c = (returns-clause-sound g c).shape
