use Rattle.std.proofs.Common.{◌+◌, arith, sym, ◌∙◌}
use Rattle.vt_utf8.specs.Limits.{lines_limit as utf8_lines_limit}
use Rattle.vt_xterm.specs.Limits.{lines_limit}
use Rattle.vt_xterm.proofs.Limits.{character-fits}
use Rattle.vt_xterm.proofs.OfOneSize.{played-size}
use Rattle.vt_xterm.proofs.Fed.{leaves-beyond}
use Rattle.vt_xterm.proofs.Logged.{keeps-alternate, keeps-main}
use Rattle.vt_xterm.proofs.sink.feed_unbounded.Goals as goal

pub returns-then-is_alternate-clause-leaves : goal.returns-then-is_alternate-clause-leaves
returns-then-is_alternate-clause-leaves g c =
    leaves-beyond c.args.terminal.now c.feed_beyond_ascii.new.terminal c.args.pages.now c.args.c c.args.out.now.items
    c.feed_beyond_ascii.new.out.items c.requires.beyond c.requires.unbounded c.feed_beyond_ascii.ensures.state
    c.feed_beyond_ascii.ensures.silent c.feed_beyond_ascii.ensures.out

pub returns-then-is_alternate-clause-keeps : goal.returns-then-is_alternate-clause-keeps
returns-then-is_alternate-clause-keeps g c =
    keeps-alternate g.L.Log.Keeps g.L.Log.HasRoom g.L.Log.IsFull g.met.L.Log.kept c.args.terminal.now c.args.pages.now c.args.c c.args.log.now
    c.requires.beyond c.requires.unbounded (sym c.is_alternate.ensures ∙ c.if-is_alternate.true)

pub returns-then-is_alternate-clause-left : goal.returns-then-is_alternate-clause-left
returns-then-is_alternate-clause-left g c = λ n room.
    g.met.L.Log.kept.less c.args.log.now n (n + utf8_lines_limit c.args.terminal.now.display.grid.size) (omega arith) room

pub returns-else-is_alternate-clause-leaves : goal.returns-else-is_alternate-clause-leaves
returns-else-is_alternate-clause-leaves g c =
    leaves-beyond c.args.terminal.now c.character.new.terminal c.args.pages.now c.args.c c.args.out.now.items
    c.character.new.out.items c.requires.beyond c.requires.unbounded c.character.ensures.state c.character.ensures.silent
    c.character.ensures.out

pub returns-else-is_alternate-clause-keeps : goal.returns-else-is_alternate-clause-keeps
returns-else-is_alternate-clause-keeps g c =
    keeps-main g.L.Log.Keeps g.L.Log.HasRoom g.L.Log.IsFull g.met.L.Log.kept c.args.terminal.now c.args.pages.now c.args.c c.args.log.now
    c.character.new.self c.requires.beyond c.requires.unbounded (sym c.is_alternate.ensures ∙ c.if-is_alternate.false) c.character.ensures.keeps

pub character-requires-clause-lines_room : goal.character-requires-clause-lines_room
character-requires-clause-lines_room g c =
    let size = c.args.terminal.now.display.grid.size in
    g.met.L.Log.kept.less c.args.log.now (utf8_lines_limit size) (lines_limit size) (character-fits size) c.requires.lines_room

pub returns-then-is_alternate-clause-size : goal.returns-then-is_alternate-clause-size
returns-then-is_alternate-clause-size g c =
    played-size c.args.terminal.now c.feed_beyond_ascii.new.terminal _ c.feed_beyond_ascii.ensures.state

pub returns-else-is_alternate-clause-size : goal.returns-else-is_alternate-clause-size
returns-else-is_alternate-clause-size g c =
    played-size c.args.terminal.now c.character.new.terminal _ c.character.ensures.state
