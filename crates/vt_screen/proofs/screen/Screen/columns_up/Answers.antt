use Rattle.std.proofs.Common.{◌+◌, arith, ◌∙◌}
use Rattle.vt_screen.specs.Grid.{at_or}
use Rattle.vt_screen.specs.Between.{from_below_any}
use Rattle.vt_screen.proofs.Steps.{upper_none, upper_all, upper_row, upper_later, below_then, below_else}
use Rattle.vt_screen.proofs.screen.Screen.columns_up.Goals.{then-row-n, else-row-n}
use Rattle.vt_screen.proofs.screen.Screen.columns_up.Goals as goal

pub loop-row-init : goal.loop-row-init
loop-row-init g c = record {
  moved = upper_none g.C.Cells.cells.blank c.args.self.now c.args.top c.args.left c.args.right
      (from_below_any g.C.Cells.cells.blank c.args.empty c.args.self.now c.args.bottom c.args.n) c.soundness.ensures.grid;
  sound = c.soundness.ensures.sound;
}

pub loop-row-preserved : goal.loop-row-preserved
loop-row-preserved k c =
    let z = k.C.Cells.cells.blank in
    let g = c.args.self.now in
    let h = c.loop-row.self in
    let row = c.loop-row.row in
    let f = from_below_any z c.args.empty g c.args.bottom c.args.n in
    elim c.if-row-n.branch [
      | then-row-n w ↦ record {
        moved = w.self-is ∙ w.copy_columns.ensures.grid
            ∙ upper_row z g h c.args.top row c.args.left c.args.right f (λ r col. at_or z h (row + c.args.n) col) (omega arith)
            c.loop-row.invariant.moved
            (λ j low high. below_then z c.args.empty g c.args.bottom c.args.n row j (at_or z h (row + c.args.n) j) (omega (arith, w.if-row-n.true))
            (upper_later z g h c.args.top row c.args.left c.args.right (row + c.args.n) j f (omega arith)
            (omega (arith, w.if-row-n.true)) (omega (arith, low)) (omega (arith, high)) (omega arith) c.loop-row.invariant.moved));
        sound = rw w.self-is w.copy_columns.ensures.sound;
      }
      | else-row-n w ↦ record {
        moved = w.self-is ∙ w.erase_with.ensures.grid
            ∙ upper_row z g h c.args.top row c.args.left c.args.right f (λ r col. c.args.empty) (omega arith) c.loop-row.invariant.moved
            (λ j low high. below_else z c.args.empty g c.args.bottom c.args.n row j (omega (arith, w.if-row-n.false)));
        sound = rw w.self-is w.erase_with.ensures.sound;
      }
    ]

pub returns-clause-grid : goal.returns-clause-grid
returns-clause-grid g c =
    c.loop-row.invariant.moved
    ∙ upper_all g.C.Cells.cells.blank c.args.self.now c.args.top c.args.bottom c.loop-row.row c.args.left c.args.right
    (from_below_any g.C.Cells.cells.blank c.args.empty c.args.self.now c.args.bottom c.args.n) (omega arith)
