-- The last cells of the rows before this one are changed.
use Rattle.std.proofs.Common.{◌≡◌}
use Rattle.vt_screen.specs.Grid.{IsSoundGridOf}
use Rattle.vt_xterm_cell.specs.Kinds.{xterm_cells}
use Rattle.vt_xterm_display.proofs.Edges.{edged_before}
use Rattle.vt_xterm_display.proofs.resizing.cut_edge.Given as goal

abbrev pub invariant-loop-row : goal.invariant-loop-row
invariant-loop-row l = record {
  cells : l.screen ≡ edged_before l.initial.screen l.row;
  size : l.screen.size ≡ l.initial.screen.size;
  width : l.screen.width ≡ l.initial.screen.width;
  sound : IsSoundGridOf xterm_cells.shown l.screen;
}
