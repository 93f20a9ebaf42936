use Rattle.std.proofs.Common.{ap, ◌∙◌}
use Rattle.vt_glyph.specs.GraphicSets.{GraphicSets}
use Rattle.vt_glyph.specs.Invocation.{sets_at_power_up}
use Rattle.vt_xterm_repaint.proofs.Written.{pushed_as, sets_item-same}
use Rattle.vt_xterm_repaint.proofs.items.push_all_sets.Goals as goal

pub returns-clause-items : goal.returns-clause-items
returns-clause-items c =
    (pushed_as
    (sets_item-same _ _ _ _ _ _ sets_at_power_up c.args.sets.now (c.sets_of.ensures.g ∙ ap (λ (x : GraphicSets). x.g) c.power_up.ensures)
    (c.sets_of.ensures.left ∙ ap (λ (x : GraphicSets). x.left) c.power_up.ensures)
    (c.sets_of.ensures.right ∙ ap (λ (x : GraphicSets). x.right) c.power_up.ensures)
    c.sets_of-2.ensures.g c.sets_of-2.ensures.left c.sets_of-2.ensures.right) c.push_sets.ensures.items).is
