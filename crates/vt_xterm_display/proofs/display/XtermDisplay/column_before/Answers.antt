use Rattle.std.proofs.Common.{◌≡◌, rules}
use Rattle.vt_wide.specs.Edits.{joined_column}
use Rattle.vt_xterm_cell.specs.Cells.{blank_cell}
use Rattle.vt_xterm_cell.specs.Wide.{xterm_wide}
use Rattle.vt_xterm_display.specs.Tabs.{is_pending}
use Rattle.vt_xterm_display.proofs.Kept.{repeated_first}
use Rattle.vt_xterm_display.proofs.display.XtermDisplay.column_before.Goals as goal

pub returns-clause-first : goal.returns-clause-first
returns-clause-first c =
    let s = c.args.self.now in
    let place = c.soundness.ensures.shown.cursor in
    let column : c.joined_column.result ≡ joined_column xterm_wide blank_cell s.shown.grid s.shown.cursor.row s.shown.cursor.col (is_pending s) =
    search rules in
    rw column (repeated_first s.shown.grid s.shown.cursor.row s.shown.cursor.col (is_pending s) (place.row_1, place.row_last) place.col_1
    place.col_last c.soundness.ensures.own.kept.shown_whole)
