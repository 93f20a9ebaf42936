use Rattle.std.proofs.Common.{◌≤◌, arith}
use Rattle.vt_screen.specs.Grid.{IsGrid}
use Rattle.vt_screen.proofs.Places.{width-bounds}
use Rattle.vt_xterm_display.specs.State.{Grid}
use Rattle.vt_xterm_display.proofs.text.push_row.Goals as goal

-- a row has at most as many cells as a row of the wide screen
few-cells : (g : Grid) → IsGrid g → g.width ≤ g.size.wide
few-cells g shape = (width-bounds g.size g.width shape.size shape.width).1

pub push_line-requires : goal.push_line-requires
push_line-requires c =
    let few = few-cells c.args.screen.now c.row.ensures.grid in
    omega (arith, c.row.ensures.len, few, c.requires.room)

pub returns-clause-bounded : goal.returns-clause-bounded
returns-clause-bounded c =
    let few = few-cells c.args.screen.now c.row.ensures.grid in
    omega (arith, c.row.ensures.len, few, c.push_line.ensures.bounded)
