use Rattle.std.proofs.Common.{◌∙◌, List, ap, sym, arith}
use Rattle.vt_xterm_cell.specs.declared.look.Look.{Look}
use Rattle.vt_xterm_cell.specs.Look.{plain_look}
use Rattle.vt_xterm_cell.specs.Words.{CellParts}
use Rattle.vt_paint.specs.Controls.{cursor_position}
use Rattle.vt_xterm_repaint.specs.Looks.{look_actions}
use Rattle.vt_xterm_repaint.specs.Cells.{are_blank, cells_actions}
use Rattle.vt_xterm_repaint.proofs.Written.{row_written, pushed_function, pushed_as, then_pushed}
use Rattle.vt_xterm_repaint.proofs.cells.push_row.Goals as goal

pub returns-clause-items : goal.returns-clause-items
returns-clause-items c =
    let here = c.row-cells.ensures.cells in
    row_written c.args.screen.now c.args.row _ _
    (ap (λ (cells : List CellParts). are_blank cells) (sym here)
    ∙ c.shown_len-end.ensures.shown 0 (omega (arith, c.if-end-eq0.false)))
    (then_pushed (pushed_function (cursor_position c.args.row 1) c.cursor_to.ensures.value c.push.ensures.items)
    (then_pushed
    (pushed_as (ap (λ (look : Look). look_actions look) (c.look.ensures ∙ ap (λ (cell : CellParts). cell.look) c.blank.ensures))
    c.push_look.ensures.items)
    (pushed_as (ap (λ (cells : List CellParts). cells_actions plain_look cells) here) c.push_cells.ensures.items)))
