use Rattle.std.proofs.Common.{◌∙◌, ap}
use Rattle.vt_screen.specs.declared.size.Size.{Size}
use Rattle.vt_paint.specs.Limits.{changes_limit}
use Rattle.vt_update.proofs.updating.small_limit.Goals as goal

pub returns : goal.returns
returns c = c.changes_limit.ensures ∙ ap (λ (z : Size). changes_limit z c.args.count) c.size.ensures.size
