use Rattle.std.proofs.Common.{◌≡◌, ◌&&◌}
use Rattle.std.specs.Prelude.{nat_le, nat_lt}
use Rattle.vt_screen.specs.Grid.{IsSoundGridOf}
use Rattle.vt_wide.specs.Edits.{parted}
use Rattle.vt_wide.proofs.editing.part_rows.Given as goal

-- the rows before this one are parted
abbrev pub invariant-loop-row : goal.invariant-loop-row
invariant-loop-row g l = record {
  rows : l.screen ≡ parted g.C.Wide.wide g.C.Cells.cells.blank g.C.Wide.wide.spaced l.initial.screen (λ r. nat_le l.top r && nat_lt r l.row) l.col;
  size : l.screen.size ≡ l.initial.screen.size;
  width : l.screen.width ≡ l.initial.screen.width;
  sound : IsSoundGridOf g.C.Cells.cells.shown l.screen;
}
