use Rattle.std.proofs.Common.{ap, ◌≡◌, ◌∙◌}
use Rattle.vt_term.specs.State.{DisplayOf}
use Rattle.vt_term.specs.Kinds.{kind_of}
use Rattle.vt_term.proofs.Areas.{line-0, line-1, line-2}
use Rattle.vt_term.proofs.display.Display.erase_in_line.Goals as goal

pub returns-in-0 : goal.returns-in-0
returns-in-0 g c =
    let col = ap (λ (d : DisplayOf g.row.K.Denot g.row.K-Brush.Denot). d.cursor.col) c.self.view_is in
    let width : c.width-width.result ≡ c.args.self.now.grid.width = c.width-width.ensures.width
    ∙ ap (λ (d : DisplayOf g.row.K.Denot g.row.K-Brush.Denot). d.grid.width) c.self.view_is in
    rw (c.erase_columns.ensures, col, width, c.in-0.is) (line-0 (kind_of g.K.Cells.cells g.K.Kind.own)
    c.args.selective c.args.self.now)

pub returns-in-1 : goal.returns-in-1
returns-in-1 g c =
    let col = ap (λ (d : DisplayOf g.row.K.Denot g.row.K-Brush.Denot). d.cursor.col) c.self.view_is in
    rw (c.erase_columns-in-1.ensures, col, c.in-1.is) (line-1 (kind_of g.K.Cells.cells g.K.Kind.own)
    c.args.selective c.args.self.now)

pub returns-in-2 : goal.returns-in-2
returns-in-2 g c =
    let width : c.width-width.result ≡ c.args.self.now.grid.width = c.width-width.ensures.width
    ∙ ap (λ (d : DisplayOf g.row.K.Denot g.row.K-Brush.Denot). d.grid.width) c.self.view_is in
    rw (c.erase_columns-in-2.ensures, width, c.in-2.is) (line-2 (kind_of g.K.Cells.cells g.K.Kind.own)
    c.args.selective c.args.self.now)
