-- The rows before this one are moved.
use Rattle.std.proofs.Common.{◌≡◌}
use Rattle.vt_screen.specs.Grid.{IsSoundGridOf}
use Rattle.vt_screen.specs.Between.{given_any, from_below_any}
use Rattle.vt_screen.proofs.Steps.{upper}
use Rattle.vt_screen.proofs.screen.Screen.columns_up.Given as goal

abbrev pub invariant-loop-row : goal.invariant-loop-row
invariant-loop-row g l = record {
  moved : l.self ≡ given_any g.C.Cells.cells.blank l.initial.self (upper l.fn.top l.row l.fn.left l.fn.right)
      (from_below_any g.C.Cells.cells.blank l.fn.empty l.initial.self l.fn.bottom l.fn.n);
  sound : IsSoundGridOf g.C.Cells.cells.shown l.self;
}
