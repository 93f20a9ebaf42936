use Rattle.std.proofs.Common.{◌∙◌, ◌++◌, List, ℕ, take, sym, arith}
use Rattle.vt_screen.specs.declared.cell.Cell.{Cell}
use Rattle.vt_screen.specs.Cells.{plain}
use Rattle.vt_picture.specs.Show.{shown_behind}
use Rattle.vt_picture.proofs.ShownRuns.{one-more, one-other}
use Rattle.vt_picture.proofs.line.put_cells.Goals as goal
use Rattle.vt_picture.proofs.line.put_cells.Goals.{then-goes_on, else-goes_on}

pub loop-i-preserved : goal.loop-i-preserved
loop-i-preserved c =
    let loop = c.loop-i in
    let cells : List Cell = c.args.cells.now in
    let cell : Cell = c.index-cells-i.result in
    let kept : List ℕ = take loop.at loop.line in
    let whole : List ℕ = c.args.out.now.items ++ shown_behind plain cells in
    elim c.if-goes_on.branch [
      | then-goes_on w ↦
          record {
            items = rw (w.at-is, w.line-is, w.out-is, w.run-is)
                (one-more cells loop.i cell (omega (arith, c.loop-i-test.true)) c.index-cells-i.is loop.out.items kept whole
                loop.run.look loop.invariant.items (take w.put_next-at.result w.put_next-at.new.line)
                (sym c.goes_on.ensures ∙ w.if-goes_on.true) w.put_next-at.ensures.items);
            within = omega (arith, c.loop-i-test.true);
            fits = rw w.at-is (omega (arith, loop.invariant.fits, w.put_next-at.ensures.bounded));
            bounded = rw (w.at-is, w.out-is) (omega (arith, loop.invariant.bounded, w.put_next-at.ensures.bounded));
            capacity = rw w.out-is loop.invariant.capacity;
          }
      | else-goes_on w ↦
          let longer = w.push_many-at.ensures in
          let after = w.put_rendition-at.ensures in
          let last = w.put_character-at.ensures in
          record {
            items = rw (w.at-is, w.line-is, w.out-is, w.run-is)
                (one-other cells loop.i cell (omega (arith, c.loop-i-test.true)) c.index-cells-i.is loop.out.items kept whole
                loop.run.look loop.invariant.items w.push_many-at.new.out.items (take w.push_many-at.result loop.line)
                (take w.put_rendition-at.result w.put_rendition-at.new.line)
                (take w.put_character-at.result w.put_character-at.new.line) w.of-run.result.look w.of-run.ensures
                (sym c.goes_on.ensures ∙ w.if-goes_on.false) longer.items after.items last.items);
            within = omega (arith, c.loop-i-test.true);
            fits = rw w.at-is (omega (arith, c.requires.len, longer.few, after.bounded, last.bounded));
            bounded = rw (w.at-is, w.out-is)
                (omega (arith, loop.invariant.bounded, longer.bounded, after.bounded, last.bounded));
            capacity = rw w.out-is (omega (arith, loop.invariant.capacity, longer.capacity));
          }
    ]
