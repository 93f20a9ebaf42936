use Rattle.std.proofs.Common.{sym, ◌∙◌}
use Rattle.vt_xterm_display.proofs.Letters.{letters-written}
use Rattle.vt_xterm_display.proofs.display.XtermDisplay.write_run.Goals as goal

pub returns-then-fits : goal.returns-then-fits
returns-then-fits c =
    c.put_letters.ensures
    ∙ sym (letters-written c.runs.ensures c.args.run.now c.args.self.now c.if-not-writes_letters.ensures c.if-fits.ensures.none
    c.requires.plain c.requires.some c.soundness.ensures.shown.cursor.row_1 c.soundness.ensures.shown.cursor.row_last
    c.if-fits.ensures.room)
