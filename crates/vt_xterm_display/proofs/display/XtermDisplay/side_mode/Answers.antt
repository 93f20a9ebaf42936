use Rattle.std.proofs.Common.{rules, ap, arith}
use Rattle.vt_xterm_display.specs.declared.sides.Sides.{Sides}
use Rattle.vt_xterm_display.proofs.Fits.{edge_none}
use Rattle.vt_xterm_display.proofs.display.XtermDisplay.side_mode.Goals as goal

pub invariant_of-self : goal.invariant_of-self
invariant_of-self c = record {
  one_size = search rules;
  sides = search rules;
  full = search rules;
  waiting = search rules;
  origin = search rules;
  fits = λ pending near. edge_none c.self-inside.inside.0.0.screen _ _ c.width.result (omega (arith, c.width.ensures.width))
      (ap (λ (m : Sides). m.right) c.full-self-inside-inside.ensures);
  kept = search rules;
}
