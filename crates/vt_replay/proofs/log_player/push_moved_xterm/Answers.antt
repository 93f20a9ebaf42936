use Rattle.std.proofs.Common.{vec_len, vec_capacity, sym, arith}
use Rattle.vt_term.specs.Text.{row_text_limit}
use Rattle.vt_xterm.specs.Play.{Whole, behind}
use Rattle.vt_xterm.specs.Resizing.{main_off, main_row, whole_on}
use Rattle.vt_replay.proofs.LogResizing.{moved_fits, moved_bounded}
use Rattle.vt_replay.proofs.MainRows.{main_row_1}
use Rattle.vt_replay.proofs.log_player.push_moved_xterm.Goals as goal

pub unwrap-requires : goal.unwrap-requires
unwrap-requires c =
    let w : Whole = behind c.args.terminal.now c.args.front.now in
    c.log_on.ensures.has_room
    (moved_fits (vec_len c.args.lines.now) (vec_capacity c.args.lines.now) (main_row w) (main_off c.args.size w.state.display w.pages)
    (main_row (whole_on c.args.size w)) (row_text_limit w.state.display.grid.size)
    (sym (c.resizes.ensures.line c.args.size w c.requires.size c.soundness.ensures c.size-2.ensures.page))
    (main_row_1 (whole_on c.args.size w)
    (c.resizes.ensures.sound c.args.size w c.requires.size c.soundness.ensures c.size-2.ensures.page).0
    (c.resizes.ensures.sound c.args.size w c.requires.size c.soundness.ensures c.size-2.ensures.page).1)
    (omega (arith, c.size.ensures.sound.columns)) c.requires.room)

pub returns-clause-lines : goal.returns-clause-lines
returns-clause-lines c = rw c.unwrap.ensures at c.log_on.ensures.ok

pub returns-clause-bounded : goal.returns-clause-bounded
returns-clause-bounded c =
    let w : Whole = behind c.args.terminal.now c.args.front.now in
    moved_bounded (vec_len c.args.lines.now) (vec_len c.log_on.new.out) (main_row w) (main_off c.args.size w.state.display w.pages)
    (main_row (whole_on c.args.size w)) (row_text_limit w.state.display.grid.size)
    (sym (c.resizes.ensures.line c.args.size w c.requires.size c.soundness.ensures c.size-2.ensures.page))
    (omega (arith, c.size.ensures.sound.columns)) c.log_on.ensures.bounded
