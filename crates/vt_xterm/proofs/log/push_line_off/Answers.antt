use Rattle.std.proofs.Common.{arith}
use Rattle.vt_xterm.proofs.Limits.{row-fits}
use Rattle.vt_xterm.proofs.log.push_line_off.Goals as goal

pub line_off_reserved-requires : goal.line_off_reserved-requires
line_off_reserved-requires c = λ values off. omega (arith, c.requires, row-fits _ c.size.ensures.sound)

pub line_off_reserved-requires-in-Control : goal.line_off_reserved-requires-in-Control
line_off_reserved-requires-in-Control c = λ values off. omega (arith, c.requires, row-fits _ c.size.ensures.sound)

pub returns-in-Print-clause-bounded : goal.returns-in-Print-clause-bounded
returns-in-Print-clause-bounded c = omega (arith, c.line_off_reserved.ensures.bounded, row-fits _ c.size.ensures.sound)

pub returns-in-Control-clause-bounded : goal.returns-in-Control-clause-bounded
returns-in-Control-clause-bounded c =
    omega (arith, c.line_off_reserved-in-Control.ensures.bounded, row-fits _ c.size.ensures.sound)
