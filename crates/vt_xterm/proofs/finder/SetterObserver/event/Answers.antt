use Rattle.std.proofs.Common.{◌∙◌}
use Rattle.vt_syntax.specs.Event.{event_of}
use Rattle.vt_term.specs.Happenings.{happenings, events_in}
use Rattle.vt_xterm.proofs.NoSides.{none-one}
use Rattle.vt_xterm.proofs.finder.SetterObserver.event.Goals as goal

pub returns : goal.returns
returns c = λ s sound same is last.
    none-one (events_in (happenings s c.args.bytes.now)) (event_of c.args.kind c.args.values.now)
    (c.sized_happened.ensures.events s.display.grid.size s c.args.bytes.now sound ∙ is) c.requires.lets
