use Rattle.std.proofs.Common.{take, sym}
use Rattle.vt_syntax.specs.Event.{event_of}
use Rattle.vt_xterm.specs.Play.{whole_of}
use Rattle.vt_xterm.proofs.Fed.{feeds-event, feeds-part}
use Rattle.vt_xterm.proofs.playing.feed_one.Goals as goal

pub returns-in_default-clause-fed : goal.returns-in_default-clause-fed
returns-in_default-clause-fed c =
    let next = c.next_event-bytes in
    feeds-part (whole_of c.args.terminal.now c.args.pages.now) next.new.self (take next.result.bytes c.args.piece.now)
    c.args.out.now.items (sym (rw c.in_default.is at next.ensures.event)) next.ensures.state

pub returns-clause-fed : goal.returns-clause-fed
returns-clause-fed c =
    let next = c.next_event-bytes in
    feeds-event c.args.terminal.now next.new.self c.carry_out_whole.new.terminal c.args.pages.now c.carry_out_whole.new.pages
    (take next.result.bytes c.args.piece.now) (event_of c.in-Some.kind c.as_slice.result.now) c.args.out.now.items
    c.carry_out_whole.new.out.items (rw c.as_slice.ensures.value (sym (rw c.in-Some.is at next.ensures.event)))
    next.ensures.state c.carry_out_whole.ensures.terminal c.carry_out_whole.ensures.pages c.carry_out_whole.ensures.reports
