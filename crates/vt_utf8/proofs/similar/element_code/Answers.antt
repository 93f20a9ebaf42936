use Rattle.std.proofs.Common.{◌∙◌}
use Rattle.vt_utf8.proofs.Tables.{element-code}
use Rattle.vt_utf8.proofs.similar.element_code.Goals as goal

pub returns : goal.returns
returns c = c.in_chart.ensures ∙ element-code c.args.c c.requires.0 c.requires.1
