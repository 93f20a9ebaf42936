use Rattle.std.proofs.Common.{◌≡◌, ◌==◌}
use Rattle.vt_screen.specs.Sizes.{width_of}
use Rattle.vt_screen.proofs.OtherSize.{copied_any}
use Rattle.vt_screen.proofs.screen.Screen.copy_on.Given as goal
use Rattle.vt_screen.specs.Grid.{IsSoundGridOf}

-- the rows before this one are copied, and the others are g.C.Cells.cells.blank
abbrev pub invariant-loop-row : goal.invariant-loop-row
invariant-loop-row g l = record {
  copied : l.self ≡ copied_any g.C.Cells.cells.blank l.fn.self.size (width_of l.fn.self.size (l.other.width == l.other.size.wide)) l.off l.other l.row;
  sound : IsSoundGridOf g.C.Cells.cells.shown l.self;
}
