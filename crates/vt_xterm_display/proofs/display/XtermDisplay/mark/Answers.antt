use Rattle.std.proofs.Common.{rules, sym, ap, ◌∙◌, arith}
use Rattle.vt_wide.specs.Edits.{joined_column}
use Rattle.vt_xterm_cell.specs.Cells.{blank_cell}
use Rattle.vt_xterm_cell.specs.Wide.{xterm_wide}
use Rattle.vt_xterm_display.specs.declared.display.XtermDisplay.TheInside.{Inside}
use Rattle.vt_xterm_display.specs.State.{XtermState}
use Rattle.vt_xterm_display.specs.Tabs.{is_pending}
use Rattle.vt_xterm_display.proofs.Kept.{of_view, state_of, joined_kept}
use Rattle.vt_xterm_display.proofs.Fits.{joined_none}
use Rattle.vt_xterm_display.proofs.display.XtermDisplay.mark.Goals as goal

pub invariant_of-self : goal.invariant_of-self
invariant_of-self c =
    let old = of_view c.self-inside.view_is c.self.invariant in
    let view = ap state_of c.self-inside.view_is ∙ c.self.view_is in
    let column = c.column_before-col.ensures.column
    ∙ ap (λ (s : XtermState). joined_column xterm_wide blank_cell s.shown.grid s.shown.cursor.row s.shown.cursor.col (is_pending c.args.self.now)) (sym view) in
    record {
      one_size = search rules;
      sides = search rules;
      full = search rules;
      waiting = search rules;
      origin = search rules;
      fits = λ pending near. joined_none c.self-inside.inside.0.0.screen c.join.new.screen c.self-inside.inside.0.0.cursor.row c.column_before-col.result c.args.c c.self-inside.inside.0.1.1.0.right
          c.join.ensures.grid c.self-inside.invariant.cursor.row_1 c.self-inside.invariant.cursor.row_last (omega (arith, old.sides.from_column_1, old.sides.two_columns)) (old.fits pending near);
      kept = record {
        shown_whole = joined_kept c.self-inside.inside.0.0.screen c.join.new.screen c.self-inside.inside.0.0.cursor.row c.self-inside.inside.0.0.cursor.col c.column_before-col.result c.args.c (is_pending c.args.self.now) column
            c.join.ensures.grid (c.self-inside.invariant.cursor.row_1, c.self-inside.invariant.cursor.row_last) c.self-inside.invariant.cursor.col_1 c.self-inside.invariant.cursor.col_last old.kept.shown_whole;
        other_whole = old.kept.other_whole;
      };
    }
