use Rattle.std.proofs.Common.{sym, ◌∙◌}
use Rattle.vt_syntax.specs.Event.{event_of}
use Rattle.vt_xterm.proofs.Logged.{alternate-keeps, main-keeps, between-keeps}
use Rattle.vt_xterm.proofs.feeding.log_event.Goals as goal

pub returns-then-is_alternate : goal.returns-then-is_alternate
returns-then-is_alternate g c =
    alternate-keeps g.L.Log.Keeps g.L.Log.HasRoom g.L.Log.IsFull g.met.L.Log.kept c.args.terminal.now c.args.pages.now
    (event_of c.args.kind c.args.values.now) c.args.log.now (sym c.is_alternate.ensures ∙ c.if-is_alternate.true)

pub returns-in-None : goal.returns-in-None
returns-in-None g c =
    main-keeps g.L.Log.Keeps g.L.Log.HasRoom g.L.Log.IsFull g.met.L.Log.kept c.args.terminal.now c.args.pages.now
    (event_of c.args.kind c.args.values.now) c.args.log.now c.event.new.self (sym c.is_alternate.ensures ∙ c.if-is_alternate.false)
    (rw (← c.width.ensures.width) (sym c.bounds.ensures.bounds ∙ c.in-None.is)) c.event.ensures

pub returns-in-Some : goal.returns-in-Some
returns-in-Some g c =
    between-keeps g.L.Log.Keeps g.L.Log.HasRoom g.L.Log.IsFull g.met.L.Log.kept c.args.terminal.now c.args.pages.now
    (event_of c.args.kind c.args.values.now) c.in-Some.sides c.args.log.now (sym c.is_alternate.ensures ∙ c.if-is_alternate.false)
    (rw (← c.width.ensures.width) (sym c.bounds.ensures.bounds ∙ c.in-Some.is))
