use Rattle.std.proofs.Common.{ap, ◌+◌, ◌∙◌}
use Rattle.std.specs.Prelude.{slice_index}
use Rattle.vt_screen.specs.Grid.{put_any}
use Rattle.vt_wide.proofs.Parting.{run_none, run_more}
use Rattle.vt_wide.proofs.writing.put_bytes.Goals as goal

pub loop-i-init : goal.loop-i-init
loop-i-init g c = record {
  run = run_none g.C.Cells.cells.blank (λ i. g.C.Wide.wide.with_byte c.args.pen (slice_index c.args.bytes.now i)) c.part-2.new.screen
      c.args.row c.args.col c.part-2.ensures.sound.shape;
  sound = c.part-2.ensures.sound;
}

pub loop-i-preserved : goal.loop-i-preserved
loop-i-preserved g c = record {
  run = c.put.ensures.grid
      ∙ ap (put_any g.C.Cells.cells.blank c.loop-i.screen c.args.row (c.args.col + c.loop-i.i)) c.with_byte.ensures
      ∙ run_more g.C.Cells.cells.blank (λ i. g.C.Wide.wide.with_byte c.args.pen (slice_index c.args.bytes.now i)) c.part-2.new.screen
      c.loop-i.screen c.args.row c.args.col c.loop-i.i c.loop-i.invariant.run;
  sound = c.put.ensures.sound;
}
