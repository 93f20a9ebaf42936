use Rattle.std.proofs.Common.{◌≤◌, length, arith}
use Rattle.vt_screen.specs.declared.size.Size.{Size}
use Rattle.vt_screen.specs.Grid.{Grid, IsGrid}
use Rattle.vt_screen.proofs.Places.{width-bounds}
use Rattle.vt_term.proofs.text.push_row.Goals as goal

-- a row has at most as many cells as a row of the wide screen, and that has at most 255
few-cells : (g : Grid) → IsGrid g → (g.width ≤ g.size.wide) × (g.size.wide ≤ 255)
few-cells g shape = ((width-bounds g.size g.width shape.size shape.width).1, shape.size.columns)

pub push_line-requires-clause-few : goal.push_line-requires-clause-few
push_line-requires-clause-few c =
    let few = few-cells c.args.screen.now c.row.ensures.grid in
    omega (arith, c.row.ensures.len, few.0, few.1)

pub push_line-requires-clause-room : goal.push_line-requires-clause-room
push_line-requires-clause-room c =
    let few = few-cells c.args.screen.now c.row.ensures.grid in
    omega (arith, c.row.ensures.len, few.0, c.requires.room)

pub returns-clause-bounded : goal.returns-clause-bounded
returns-clause-bounded c =
    let few = few-cells c.args.screen.now c.row.ensures.grid in
    omega (arith, c.row.ensures.len, few.0, c.push_line.ensures.bounded)
