use Rattle.std.proofs.Common.{◌≡◌, ◌∙◌, ap, arith}
use Rattle.vt_screen.specs.declared.size.Size.{Size}
use Rattle.vt_paint.specs.Limits.{paint_limit}
use Rattle.vt_update.proofs.updating.choice_limit.Goals as goal

pub returns : goal.returns
returns c =
    let limit : c.paint_limit-limit.result ≡ paint_limit c.args.to.now.display.grid.size =
    c.paint_limit-limit.ensures ∙ ap (λ (z : Size). paint_limit z) c.size.ensures.size in
    omega (arith, limit)
