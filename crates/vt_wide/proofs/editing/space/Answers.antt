use Rattle.std.proofs.Common.{sym, ap, ◌∙◌}
use Rattle.vt_wide.proofs.Parting.{two_then, parted_else}
use Rattle.vt_wide.proofs.editing.space.Goals as goal

pub returns-then-is_parted-clause-grid : goal.returns-then-is_parted-clause-grid
returns-then-is_parted-clause-grid g c =
    two_then g.C.Wide.wide _ _ c.args.screen.now c.put.new.self _ c.args.row c.args.col c.spaced.result c.spaced-then-is_parted.result
    (sym c.is_parted.ensures.parted ∙ c.if-is_parted.true) c.put.ensures.grid (c.spaced.ensures ∙ ap g.C.Wide.wide.spaced c.cell-first.ensures)
    c.put-then-is_parted.ensures.grid (c.spaced-then-is_parted.ensures ∙ ap g.C.Wide.wide.spaced c.cell-second.ensures)

pub returns-else-is_parted-clause-grid : goal.returns-else-is_parted-clause-grid
returns-else-is_parted-clause-grid g c =
    parted_else _ _ _ c.args.screen.now c.args.row c.args.col (sym c.is_parted.ensures.parted ∙ c.if-is_parted.false) c.is_parted.ensures.shape
