use Rattle.std.proofs.Common.{◌∙◌, ℕ, ap}
use Rattle.std.specs.Prelude.{◌==◌}
use Rattle.vt_glyph.specs.GraphicSets.{GraphicSets}
use Rattle.vt_glyph.specs.Invocation.{sets_at_power_up}
use Rattle.vt_term.specs.State.{saved_sets}
use Rattle.vt_screen.specs.declared.size.Size.{Size}
use Rattle.vt_paint.specs.Controls.{cursor_position}
use Rattle.vt_xterm_cell.specs.declared.look.Look.{Look}
use Rattle.vt_xterm_cell.specs.Words.{CellParts}
use Rattle.vt_xterm_repaint.specs.Looks.{look_actions}
use Rattle.vt_xterm_repaint.specs.Cells.{grid_actions}
use Rattle.vt_xterm_repaint.specs.Items.{functions, width_item, sets_item, saved_item, page_item}
use Rattle.vt_xterm_repaint.proofs.Written.{pushed, pushed_as, sets_item-same, pushed_function, then_pushed}
use Rattle.vt_xterm_repaint.proofs.writer.push_page.Goals as goal

pub returns-clause-items : goal.returns-clause-items
unfolding page_item
returns-clause-items c =
    let g = c.args.screen.now in
    (then_pushed
    (pushed_as
    (ap (λ (z : Size). width_item z (c.width.result == z.wide)) c.size-size.ensures.size
    ∙ ap (λ (w : ℕ). width_item g.size (w == g.size.wide)) c.width.ensures.width) c.push_width.ensures.items)
    (then_pushed (pushed (saved_item c.args.saved.now) c.push_saved.ensures.items)
    (then_pushed
    (pushed_as
    (sets_item-same _ _ _ _ _ _ (saved_sets c.args.saved.now) sets_at_power_up c.saved_sets.ensures.g c.saved_sets.ensures.left c.saved_sets.ensures.right
    (c.sets_of.ensures.g ∙ ap (λ (x : GraphicSets). x.g) c.power_up.ensures)
    (c.sets_of.ensures.left ∙ ap (λ (x : GraphicSets). x.left) c.power_up.ensures)
    (c.sets_of.ensures.right ∙ ap (λ (x : GraphicSets). x.right) c.power_up.ensures)) c.push_sets.ensures.items)
    (then_pushed (pushed (grid_actions g) c.push_rows.ensures.items)
    (then_pushed
    (pushed_as (ap (λ (look : Look). look_actions look) (c.look.ensures ∙ ap (λ (cell : CellParts). cell.look) c.blank.ensures))
    c.push_look.ensures.items)
    (pushed_function (cursor_position 1 1) c.cursor_to.ensures.value c.push.ensures.items)))))).is
