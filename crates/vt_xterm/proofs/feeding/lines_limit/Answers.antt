use Rattle.std.proofs.Common.{◌≡◌, ap, arith}
use Rattle.vt_screen.specs.declared.size.Size.{Size}
use Rattle.vt_xterm.proofs.Limits.{lines-few}
use Rattle.vt_xterm.proofs.feeding.lines_limit.Goals as goal

pub returns-clause-few : goal.returns-clause-few
returns-clause-few c =
    let sized = c.size-size.ensures.sound in
    let rows : c.size-size.result.rows ≡ c.args.terminal.now.display.grid.size.rows = ap (λ (z : Size). z.rows) c.size-size.ensures.size in
    lines-few c.max.result c.row_text_limit.result (omega (arith, c.max.ensures, rows, sized.rows.1))
    (omega (arith, c.row_text_limit.ensures, sized.columns))
