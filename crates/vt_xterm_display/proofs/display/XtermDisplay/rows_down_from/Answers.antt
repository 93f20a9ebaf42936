use Rattle.std.proofs.Common.{rules, arith}
use Rattle.vt_xterm_display.proofs.Kept.{of_view, down_kept}
use Rattle.vt_xterm_display.proofs.Fits.{down_none}
use Rattle.vt_xterm_display.proofs.display.XtermDisplay.rows_down_from.Goals as goal

pub invariant_of-self : goal.invariant_of-self
invariant_of-self c =
    let old = of_view c.self-inside.view_is c.self.invariant in
    record {
      one_size = search rules;
      sides = search rules;
      full = search rules;
      waiting = search rules;
      origin = search rules;
      fits = λ pending near. down_none c.incoming-empty.result c.self-inside.inside.0.0.screen c.move_down.new.screen c.self-inside.inside.0.0.cursor.row c.args.top c.self-inside.inside.0.0.margins.bottom c.self-inside.inside.0.1.1.0.left c.self-inside.inside.0.1.1.0.right c.args.n
          c.move_down.ensures.grid c.self-inside.invariant.cursor.row_1 c.self-inside.invariant.cursor.row_last (omega (arith, old.sides.from_column_1, old.sides.two_columns)) (old.fits pending near);
      kept = record {
        shown_whole = down_kept c.incoming-empty.result c.self-inside.inside.0.0.screen c.move_down.new.screen c.args.top c.self-inside.inside.0.0.margins.bottom c.self-inside.inside.0.1.1.0.left
            c.self-inside.inside.0.1.1.0.right c.args.n c.incoming-empty.ensures.narrow c.move_down.ensures.grid (search rules) (search rules) old.kept.shown_whole;
        other_whole = old.kept.other_whole;
      };
    }
