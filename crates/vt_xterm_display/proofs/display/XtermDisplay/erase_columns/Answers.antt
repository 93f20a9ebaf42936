use Rattle.std.proofs.Common.{rules}
use Rattle.vt_xterm_display.proofs.Kept.{of_view, erased_kept}
use Rattle.vt_xterm_display.proofs.display.XtermDisplay.erase_columns.Goals as goal

pub invariant_of-self : goal.invariant_of-self
invariant_of-self c =
    let old = of_view c.self-inside.view_is c.self.invariant in
    record {
      one_size = search rules;
      sides = search rules;
      full = search rules;
      waiting = search rules;
      origin = search rules;
      fits = search rules;
      kept = record {
        shown_whole = erased_kept c.args.selective c.incoming-empty.result c.self-inside.inside.0.0.screen c.erase.new.screen c.self-inside.inside.0.0.cursor.row c.args.from c.args.to
            c.incoming-empty.ensures.narrow c.erase.ensures.grid (c.self-inside.invariant.cursor.row_1, c.self-inside.invariant.cursor.row_last) (search rules) old.kept.shown_whole;
        other_whole = old.kept.other_whole;
      };
    }
