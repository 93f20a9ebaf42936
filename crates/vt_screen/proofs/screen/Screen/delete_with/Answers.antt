use Rattle.std.proofs.Common.{ap, ◌∙◌}
use Rattle.vt_screen.specs.Between.{delete_between_any}
use Rattle.vt_screen.proofs.Maps.{delete-whole}
use Rattle.vt_screen.proofs.screen.Screen.delete_with.Goals as goal

pub returns-clause-grid : goal.returns-clause-grid
returns-clause-grid g c =
    c.delete_between.ensures.grid
    ∙ ap (λ w. delete_between_any g.C.Cells.cells.blank c.args.empty c.args.self.now c.args.row c.args.column w c.args.n) c.width-width.ensures.width
    ∙ delete-whole g.C.Cells.cells.blank c.args.self.now c.args.empty c.args.row c.args.column c.args.n
