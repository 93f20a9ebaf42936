use Rattle.std.proofs.Common.{◌∷◌, [], true, false, ap, ◌∙◌}
use Rattle.vt_glyph.specs.GraphicSets.{GraphicSets}
use Rattle.vt_glyph.specs.Tables.{space}
use Rattle.vt_glyph.specs.Invocation.{sets_at_power_up}
use Rattle.vt_term.specs.State.{saved_sets}
use Rattle.vt_screen.specs.Same.{when}
use Rattle.vt_feed.specs.Actions.{printed}
use Rattle.vt_paint.specs.Controls.{private_mode, cursor_position, save_cursor}
use Rattle.vt_xterm_repaint.specs.Looks.{look_actions}
use Rattle.vt_xterm_repaint.specs.Items.{functions, sets_item, saved_item}
use Rattle.vt_xterm_repaint.proofs.Written.{pushed, pushed_as, sets_item-same, pushed_function, pushed_when, then_pushed}
use Rattle.vt_xterm_repaint.proofs.items.push_saved.Goals as goal

pub returns-clause-items : goal.returns-clause-items
unfolding saved_item
returns-clause-items c =
    let s = c.args.saved.now in
    (then_pushed (pushed (when s.origin (functions (private_mode 6 true ∷ []))) c.push_origin_when.ensures.items)
    (then_pushed (pushed_function (cursor_position s.row s.col) c.cursor_to.ensures.value c.push.ensures.items)
    (then_pushed (pushed_when s.wrap (printed space ∷ []) c.push_when.ensures.items)
    (then_pushed (pushed (look_actions s.brush) c.push_look.ensures.items)
    (then_pushed
    (pushed_as
    (sets_item-same _ _ _ _ _ _ sets_at_power_up (saved_sets s) (c.sets_of.ensures.g ∙ ap (λ (x : GraphicSets). x.g) c.power_up.ensures)
    (c.sets_of.ensures.left ∙ ap (λ (x : GraphicSets). x.left) c.power_up.ensures)
    (c.sets_of.ensures.right ∙ ap (λ (x : GraphicSets). x.right) c.power_up.ensures)
    c.saved_sets.ensures.g c.saved_sets.ensures.left c.saved_sets.ensures.right) c.push_sets.ensures.items)
    (then_pushed (pushed_function save_cursor c.save_cursor.ensures.value c.push-2.ensures.items)
    (pushed (when s.origin (functions (private_mode 6 false ∷ []))) c.push_origin_when-2.ensures.items))))))).is
