use Rattle.std.proofs.Common.{◌∙◌}
use Rattle.vt_term.specs.Happenings.{happenings, events_in}
use Rattle.vt_xterm.specs.Private.Finding.{none-none}
use Rattle.vt_xterm.proofs.finder.SetterObserver.part.Goals as goal

pub returns : goal.returns
returns c = λ s sound none.
    none-none (events_in (happenings s c.args.bytes.now))
    (c.sized_happened.ensures.events s.display.grid.size s c.args.bytes.now sound ∙ none)
