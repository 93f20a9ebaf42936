use Rattle.std.proofs.Common.{ap, ◌≡◌, ◌∙◌}
use Rattle.vt_screen.specs.declared.size.Size.{Size}
use Rattle.vt_term.specs.State.{DisplayOf}
use Rattle.vt_term.specs.Kinds.{kind_of}
use Rattle.vt_term.proofs.Areas.{display-0, display-1, display-2}
use Rattle.vt_term.proofs.display.Display.erase_in_display.Goals as goal

pub returns-in-0 : goal.returns-in-0
returns-in-0 g c =
    let row = ap (λ (d : DisplayOf g.row.K.Denot g.row.K-Brush.Denot). d.cursor.row) c.self.view_is in
    let col = ap (λ (d : DisplayOf g.row.K.Denot g.row.K-Brush.Denot). d.cursor.col) c.self.view_is in
    let rows : c.size.result.rows ≡ c.args.self.now.grid.size.rows = ap (λ (s : Size). s.rows) c.size.ensures.size
    ∙ ap (λ (d : DisplayOf g.row.K.Denot g.row.K-Brush.Denot). d.grid.size.rows) c.self.view_is in
    let width : c.width-width.result ≡ c.args.self.now.grid.width = c.width-width.ensures.width
    ∙ ap (λ (d : DisplayOf g.row.K.Denot g.row.K-Brush.Denot). d.grid.width) c.self.view_is in
    rw (c.erase_span.ensures, row, col, rows, width, c.in-0.is) (display-0 (kind_of g.K.Cells.cells g.K.Kind.own)
    c.args.selective c.args.self.now)

pub returns-in-1 : goal.returns-in-1
returns-in-1 g c =
    let row = ap (λ (d : DisplayOf g.row.K.Denot g.row.K-Brush.Denot). d.cursor.row) c.self.view_is in
    let col = ap (λ (d : DisplayOf g.row.K.Denot g.row.K-Brush.Denot). d.cursor.col) c.self.view_is in
    rw (c.erase_span-in-1.ensures, row, col, c.in-1.is) (display-1 (kind_of g.K.Cells.cells g.K.Kind.own)
    c.args.selective c.args.self.now)

pub returns-in-2 : goal.returns-in-2
returns-in-2 g c =
    let rows : c.size.result.rows ≡ c.args.self.now.grid.size.rows = ap (λ (s : Size). s.rows) c.size.ensures.size
    ∙ ap (λ (d : DisplayOf g.row.K.Denot g.row.K-Brush.Denot). d.grid.size.rows) c.self.view_is in
    let width : c.width-width.result ≡ c.args.self.now.grid.width = c.width-width.ensures.width
    ∙ ap (λ (d : DisplayOf g.row.K.Denot g.row.K-Brush.Denot). d.grid.width) c.self.view_is in
    rw (c.erase_span-in-2.ensures, rows, width, c.in-2.is) (display-2 (kind_of g.K.Cells.cells g.K.Kind.own)
    c.args.selective c.args.self.now)
