use Rattle.std.proofs.Common.{◌≡◌, ap, arith, rules}
use Rattle.vt_term.specs.declared.state.Margins.{Margins}
use Rattle.vt_update.proofs.Arrays.{votes-fit}
use Rattle.vt_update.proofs.scrolling.Scroll.find.Goals as goal

pub new-votes-requires : goal.new-votes-requires
new-votes-requires g c = (search rules, (votes-fit g.row.R c.requires.rows, (c.requires.size, c.requires.fits)))

pub of-cells-requires : goal.of-cells-requires
of-cells-requires g c =
    let bottom : c.margins-top.result.bottom ≡ c.args.to.now.display.margins.bottom =
    ap (λ (m : Margins). m.bottom) c.margins-top.ensures in
    let top : c.margins-top.result.top ≡ c.args.to.now.display.margins.top =
    ap (λ (m : Margins). m.top) c.margins-top.ensures in
    let margins = c.soundness.ensures.display.margins in (
      votes-fit g.row.R c.requires.rows,
      omega (arith, c.loop-by-test.true, bottom, top, margins.from_row_1, margins.to_last_row, c.requires.fits),
    )
