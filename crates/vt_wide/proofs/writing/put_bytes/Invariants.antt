use Rattle.std.proofs.Common.{◌≡◌}
use Rattle.std.specs.Prelude.{slice_index}
use Rattle.vt_screen.specs.Grid.{IsSoundGridOf}
use Rattle.vt_wide.specs.Edits.{run_any}
use Rattle.vt_wide.proofs.writing.put_bytes.Given as goal

-- the cells before this one are written
abbrev pub invariant-loop-i : goal.invariant-loop-i
invariant-loop-i g l = record {
  run : l.screen ≡ run_any g.C.Cells.cells.blank (λ i. g.C.Wide.wide.with_byte l.pen (slice_index l.bytes i)) l.initial.screen l.row l.col l.i;
  sound : IsSoundGridOf g.C.Cells.cells.shown l.screen;
}
