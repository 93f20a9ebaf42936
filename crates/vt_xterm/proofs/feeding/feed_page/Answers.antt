use Rattle.std.proofs.Common.{take, sym, ◌∙◌}
use Rattle.vt_xterm.proofs.OfOneSize.{played-size}
use Rattle.vt_xterm.proofs.Fed.{feeds-terminals}
use Rattle.vt_xterm.proofs.Logged.{terminals-alternate, terminals-main}
use Rattle.vt_xterm.proofs.feeding.feed_page.Goals as goal

pub returns-then-is_alternate-clause-fed : goal.returns-then-is_alternate-clause-fed
returns-then-is_alternate-clause-fed g c =
    let fed = c.feed_terminals in
    feeds-terminals c.args.terminal.now fed.new.terminal c.args.pages.now (take fed.result c.args.piece.now)
    c.args.out.now.items fed.new.out.items c.requires.none fed.ensures.terminals fed.ensures.state fed.ensures.reports

pub returns-then-is_alternate-clause-keeps : goal.returns-then-is_alternate-clause-keeps
returns-then-is_alternate-clause-keeps g c =
    terminals-alternate g.L.Log.Keeps g.L.Log.HasRoom g.L.Log.IsFull g.met.L.Log.kept c.args.terminal.now c.args.pages.now
    (take c.feed_terminals.result c.args.piece.now) c.args.log.now c.requires.none c.feed_terminals.ensures.terminals (sym c.is_alternate.ensures ∙ c.if-is_alternate.true)

pub returns-else-is_alternate-clause-fed : goal.returns-else-is_alternate-clause-fed
returns-else-is_alternate-clause-fed g c =
    let fed = c.feed in
    feeds-terminals c.args.terminal.now fed.new.terminal c.args.pages.now (take fed.result c.args.piece.now)
    c.args.out.now.items fed.new.out.items c.requires.none fed.ensures.terminals fed.ensures.state fed.ensures.reports

pub returns-else-is_alternate-clause-keeps : goal.returns-else-is_alternate-clause-keeps
returns-else-is_alternate-clause-keeps g c =
    terminals-main g.L.Log.Keeps g.L.Log.HasRoom g.L.Log.IsFull g.met.L.Log.kept c.args.terminal.now c.args.pages.now (take c.feed.result c.args.piece.now)
    c.args.log.now c.feed.new.self c.requires.none c.feed.ensures.terminals (sym c.is_alternate.ensures ∙ c.if-is_alternate.false) c.feed.ensures.keeps

pub returns-then-is_alternate-clause-size : goal.returns-then-is_alternate-clause-size
returns-then-is_alternate-clause-size g c =
    played-size c.args.terminal.now c.feed_terminals.new.terminal _ c.feed_terminals.ensures.state

pub returns-else-is_alternate-clause-size : goal.returns-else-is_alternate-clause-size
returns-else-is_alternate-clause-size g c = played-size c.args.terminal.now c.feed.new.terminal _ c.feed.ensures.state
