-- The rows below are moved, so many.
use Rattle.std.proofs.Common.{◌≡◌, ◌-◌}
use Rattle.vt_screen.specs.Grid.{IsSoundGridOf}
use Rattle.vt_screen.specs.Between.{given_any, from_above_any}
use Rattle.vt_screen.proofs.Steps.{lower}
use Rattle.vt_screen.proofs.screen.Screen.columns_down.Given as goal

abbrev pub invariant-loop-done : goal.invariant-loop-done
invariant-loop-done g l = record {
  moved : l.self ≡ given_any g.C.Cells.cells.blank l.initial.self
      (lower (l.fn.bottom - l.done) l.fn.bottom l.fn.left l.fn.right)
      (from_above_any g.C.Cells.cells.blank l.fn.empty l.initial.self l.fn.top l.fn.n);
  sound : IsSoundGridOf g.C.Cells.cells.shown l.self;
}
