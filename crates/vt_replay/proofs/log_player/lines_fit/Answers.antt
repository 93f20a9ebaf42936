use Rattle.std.proofs.Common.{arith}
use Rattle.vt_term.specs.Text.{row_text_limit}
use Rattle.vt_replay.proofs.Rooms.{text_room, xterm_room}
use Rattle.vt_replay.proofs.log_player.lines_fit.Goals as goal

pub returns-clause-text : goal.returns-clause-text
returns-clause-text c =
    text_room c.args.terminal.now.display.grid.size.rows (row_text_limit c.args.terminal.now.display.grid.size) c.size.ensures.sound.rows.1
    (omega (arith, c.size.ensures.sound.columns))

pub returns-clause-xterm : goal.returns-clause-xterm
returns-clause-xterm c =
    xterm_room c.args.terminal.now.display.grid.size.rows (row_text_limit c.args.terminal.now.display.grid.size) c.size.ensures.sound.rows.1
    (omega (arith, c.size.ensures.sound.columns))
