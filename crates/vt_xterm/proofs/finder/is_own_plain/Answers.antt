use Rattle.vt_xterm.proofs.Terminals.{rendition-own}
use Rattle.vt_xterm.proofs.finder.is_own_plain.Goals as goal

pub returns-in-109 : goal.returns-in-109
returns-in-109 c = rendition-own c.args.values.now c.args.last c.has_colour.result c.in-109.is c.has_colour.ensures
