use Rattle.std.proofs.Common.{◌∙◌}
use Rattle.vt_wide.proofs.Full.{columns_down}
use Rattle.vt_wide.proofs.editing.move_down.Goals as goal

pub returns-then-right-width-clause-grid : goal.returns-then-right-width-clause-grid
returns-then-right-width-clause-grid g c =
    columns_down g.C.Wide.wide g.C.Cells.cells.blank c.args.empty c.args.screen.now c.scroll_down_with.new.self c.args.top c.args.bottom c.args.left
    c.args.right c.args.n c.if-left-eq1.true (c.if-right-width.true ∙ c.width.ensures.width) c.width.ensures.grid c.scroll_down_with.ensures.grid
