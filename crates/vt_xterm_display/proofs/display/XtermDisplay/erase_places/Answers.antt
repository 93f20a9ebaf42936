use Rattle.std.proofs.Common.{rules}
use Rattle.vt_xterm_display.proofs.Kept.{of_view, span_kept}
use Rattle.vt_xterm_display.proofs.display.XtermDisplay.erase_places.Goals as goal

pub invariant_of-self : goal.invariant_of-self
invariant_of-self c =
    let old = of_view c.self-inside.view_is c.self.invariant in
    record {
      one_size = search rules;
      sides = search rules;
      full = search rules;
      waiting = search rules;
      origin = search rules;
      fits = search rules;
      kept = record {
        shown_whole = span_kept c.args.selective c.incoming-empty.result c.self-inside.inside.0.0.screen c.erase_span.new.screen c.args.row c.args.col c.args.to_row c.args.to_col
            c.incoming-empty.ensures.narrow c.erase_span.ensures.grid c.requires.from.1 c.requires.to.2 old.kept.shown_whole;
        other_whole = old.kept.other_whole;
      };
    }
