use Rattle.std.proofs.Common.{◌+◌, ◌-◌, arith, ◌∙◌}
use Rattle.vt_screen.specs.Grid.{at_or}
use Rattle.vt_screen.specs.Between.{from_above_any}
use Rattle.vt_screen.proofs.Steps.{lower_none, lower_all, lower_row, lower_before, above_then, above_else}
use Rattle.vt_screen.proofs.screen.Screen.columns_down.Goals.{then-top-n, else-top-n}
use Rattle.vt_screen.proofs.screen.Screen.columns_down.Goals as goal

pub loop-done-init : goal.loop-done-init
loop-done-init g c = record {
  moved = lower_none g.C.Cells.cells.blank c.args.self.now c.args.bottom c.args.left c.args.right
      (from_above_any g.C.Cells.cells.blank c.args.empty c.args.self.now c.args.top c.args.n) c.soundness.ensures.grid;
  sound = c.soundness.ensures.sound;
}

pub loop-done-preserved : goal.loop-done-preserved
loop-done-preserved k c =
    let z = k.C.Cells.cells.blank in
    let g = c.args.self.now in
    let h = c.loop-done.self in
    let row = c.args.bottom - c.loop-done.done in
    let next = c.args.bottom - (c.loop-done.done + 1) in
    let f = from_above_any z c.args.empty g c.args.top c.args.n in
    elim c.if-top-n.branch [
      | then-top-n w ↦ record {
        moved = w.self-is ∙ w.copy_columns.ensures.grid
            ∙ lower_row z g h row next c.args.bottom c.args.left c.args.right f (λ r col. at_or z h (row - c.args.n) col) (omega arith) (omega arith)
            c.loop-done.invariant.moved
            (λ j low high. above_then z c.args.empty g c.args.top c.args.n row j (at_or z h (row - c.args.n) j) (omega (arith, w.if-top-n.true))
            (lower_before z g h row c.args.bottom c.args.left c.args.right (row - c.args.n) j f
            (omega (arith, w.if-top-n.true)) (omega arith) (omega (arith, low)) (omega (arith, high)) (omega arith)
            c.loop-done.invariant.moved));
        sound = rw w.self-is w.copy_columns.ensures.sound;
      }
      | else-top-n w ↦ record {
        moved = w.self-is ∙ w.erase_with.ensures.grid
            ∙ lower_row z g h row next c.args.bottom c.args.left c.args.right f (λ r col. c.args.empty) (omega arith) (omega arith)
            c.loop-done.invariant.moved
            (λ j low high. above_else z c.args.empty g c.args.top c.args.n row j (omega (arith, w.if-top-n.false)));
        sound = rw w.self-is w.erase_with.ensures.sound;
      }
    ]

pub returns-clause-grid : goal.returns-clause-grid
returns-clause-grid g c =
    c.loop-done.invariant.moved
    ∙ lower_all g.C.Cells.cells.blank c.args.self.now (c.args.bottom - c.loop-done.done) c.args.top c.args.bottom c.args.left c.args.right
    (from_above_any g.C.Cells.cells.blank c.args.empty c.args.self.now c.args.top c.args.n) (omega arith)
