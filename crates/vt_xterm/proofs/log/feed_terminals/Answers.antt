use Rattle.std.proofs.Common.{subst, take}
use Rattle.vt_xterm.specs.Terminals.{AreTerminals}
use Rattle.vt_xterm.proofs.log.feed_terminals.Goals as goal

pub returns-clause-terminals : goal.returns-clause-terminals
returns-clause-terminals c =
    subst AreTerminals
    (c.sized_happened.ensures.events c.args.terminal.now.display.grid.size c.args.terminal.now (take c.feed_observed.result c.args.piece.now) c.soundness.ensures)
    c.feed_observed.ensures.saw
