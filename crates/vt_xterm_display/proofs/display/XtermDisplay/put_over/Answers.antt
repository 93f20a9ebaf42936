use Rattle.std.proofs.Common.{rules, ap, ◌∙◌}
use Rattle.vt_wide.specs.Edits.{columns}
use Rattle.vt_xterm_cell.specs.Wide.{xterm_wide}
use Rattle.vt_xterm_display.proofs.Kept.{of_view, state_of, written_kept}
use Rattle.vt_xterm_display.proofs.Fits.{written_ends, written_none}
use Rattle.vt_xterm_display.proofs.display.XtermDisplay.put_over.Goals as goal

pub invariant_of-self : goal.invariant_of-self
invariant_of-self c =
    let old = of_view c.self-inside.view_is c.self.invariant in
    let view = ap state_of c.self-inside.view_is ∙ c.self.view_is in
    let shown = written_kept c.incoming-empty.result c.args.cell c.self-inside.inside.0.0.screen c.put.new.screen c.self-inside.inside.0.0.cursor.row c.self-inside.inside.0.0.cursor.col
    c.incoming-empty.ensures.narrow c.requires.first c.put.ensures.grid (search rules) (search rules) old.kept.shown_whole in
    let ends = written_ends c.incoming-empty.result c.args.cell c.self-inside.inside.0.0.screen c.put.new.screen c.self-inside.inside.0.0.cursor.row c.self-inside.inside.0.0.cursor.col
    c.requires.first c.put.ensures.grid (search rules) (search rules) in
    record {
      one_size = search rules;
      sides = search rules;
      full = search rules;
      waiting = search rules;
      origin = search rules;
      fits = written_none c.args.self.now c.put.new.screen c.columns.result (columns xterm_wide c.args.cell) c.advanced-waits.result.0 c.advanced-waits.result.1 old view c.columns.ensures.value ends shown
          (c.self-inside.invariant.cursor.row_1, c.self-inside.invariant.cursor.row_last) c.self-inside.invariant.cursor.col_last c.put.ensures.size c.put.ensures.width c.requires.room
          c.advanced-waits.ensures.cursor c.advanced-waits.ensures.waits;
      kept = record { shown_whole = shown; other_whole = old.kept.other_whole };
    }
