use Rattle.std.proofs.Common.{rules}
use Rattle.vt_xterm_display.proofs.Kept.{of_view, deleted_kept}
use Rattle.vt_xterm_display.proofs.display.XtermDisplay.delete_character.Goals as goal

pub invariant_of-self : goal.invariant_of-self
invariant_of-self c =
    let old = of_view c.self-inside.view_is c.self.invariant in
    record {
      one_size = search rules;
      sides = search rules;
      full = search rules;
      waiting = search rules;
      origin = search rules;
      fits = search rules;
      kept = record {
        shown_whole = deleted_kept c.incoming-empty.result c.self-inside.inside.0.0.screen c.delete.new.screen c.self-inside.inside.0.0.cursor.row c.self-inside.inside.0.0.cursor.col c.self-inside.inside.0.1.1.0.right c.args.n
            c.incoming-empty.ensures.narrow c.delete.ensures.grid (c.self-inside.invariant.cursor.row_1, c.self-inside.invariant.cursor.row_last) (search rules) old.kept.shown_whole;
        other_whole = old.kept.other_whole;
      };
    }
