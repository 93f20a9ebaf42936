use Rattle.std.proofs.Common.{sym, ◌∙◌}
use Rattle.vt_wide.proofs.Parting.{parted_then, parted_else}
use Rattle.vt_wide.proofs.editing.part.Goals as goal

pub returns-then-is_parted-clause-grid : goal.returns-then-is_parted-clause-grid
returns-then-is_parted-clause-grid g c =
    c.erase_with.ensures.grid ∙ parted_then _ _ _ c.args.screen.now c.args.row c.args.col (sym c.is_parted.ensures.parted ∙ c.if-is_parted.true)

pub returns-else-is_parted-clause-grid : goal.returns-else-is_parted-clause-grid
returns-else-is_parted-clause-grid g c =
    parted_else _ _ _ c.args.screen.now c.args.row c.args.col (sym c.is_parted.ensures.parted ∙ c.if-is_parted.false) c.is_parted.ensures.shape
