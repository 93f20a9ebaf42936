use Rattle.std.proofs.Common.{rules, length, refl, ap, ◌∙◌}
use Rattle.vt_xterm_display.proofs.Kept.{of_view, state_of, letters_kept}
use Rattle.vt_xterm_display.proofs.Fits.{letters_ends, written_none}
use Rattle.vt_xterm_display.proofs.display.XtermDisplay.put_letters.Goals as goal

pub invariant_of-self : goal.invariant_of-self
invariant_of-self c =
    let old = of_view c.self-inside.view_is c.self.invariant in
    let view = ap state_of c.self-inside.view_is ∙ c.self.view_is in
    let shown = letters_kept c.incoming-empty.result c.cleared-pen.result c.self-inside.inside.0.0.screen c.put_bytes.new.screen c.self-inside.inside.0.0.cursor.row c.self-inside.inside.0.0.cursor.col c.args.run.now
    c.incoming-empty.ensures.narrow (search rules) c.put_bytes.ensures.grid (search rules) c.requires.some (search rules) old.kept.shown_whole in
    let ends = letters_ends c.incoming-empty.result c.cleared-pen.result c.self-inside.inside.0.0.screen c.put_bytes.new.screen c.self-inside.inside.0.0.cursor.row c.self-inside.inside.0.0.cursor.col c.args.run.now
    (search rules) c.put_bytes.ensures.grid (search rules) c.requires.some (search rules) in
    record {
      one_size = search rules;
      sides = search rules;
      full = search rules;
      waiting = search rules;
      origin = search rules;
      fits = written_none c.args.self.now c.put_bytes.new.screen (length c.args.run.now) (length c.args.run.now) c.advanced-waits.result.0 c.advanced-waits.result.1 old view refl ends shown
          (c.self-inside.invariant.cursor.row_1, c.self-inside.invariant.cursor.row_last) c.self-inside.invariant.cursor.col_last c.put_bytes.ensures.size c.put_bytes.ensures.width c.requires.room
          c.advanced-waits.ensures.cursor c.advanced-waits.ensures.waits;
      kept = record { shown_whole = shown; other_whole = old.kept.other_whole };
    }
