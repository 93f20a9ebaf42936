use Rattle.std.proofs.Common.{rules, sym, ◌∙◌, arith}
use Rattle.std.proofs.lemmas.Bool.{false≢true}
use Rattle.vt_xterm_display.proofs.Fits.{edge_none, last_of}
use Rattle.vt_xterm_display.proofs.display.XtermDisplay.restore_cursor.Goals as goal
use Rattle.vt_xterm_display.proofs.display.XtermDisplay.restore_cursor.Goals.{then-self, else-self}

pub invariant_of-self-else-not-col-self : goal.invariant_of-self-else-not-col-self
invariant_of-self-else-not-col-self c = record {
  one_size = search rules;
  sides = search rules;
  full = search rules;
  waiting = search rules;
  origin = search rules;
  fits = λ pending near. edge_none c.self-inside.inside.0.0.screen _ _ c.width.result (omega (arith, c.width.ensures.width))
      (elim c.if-self.branch [ then-self w ↦ last_of _ _ _ w.self-is pending | else-self w ↦ absurd (false≢true (sym w.if-self.false ∙ sym w.self-is ∙ pending)) ]);
  kept = search rules;
}

pub invariant_of-self-else-self-2 : goal.invariant_of-self-else-self-2
invariant_of-self-else-self-2 c = record {
  one_size = search rules;
  sides = search rules;
  full = search rules;
  waiting = search rules;
  origin = search rules;
  fits = λ pending near. edge_none c.self-inside.inside.0.0.screen _ _ c.width.result (omega (arith, c.width.ensures.width))
      (elim c.if-self.branch [ then-self w ↦ last_of _ _ _ w.self-is pending | else-self w ↦ absurd (false≢true (sym w.if-self.false ∙ sym w.self-is ∙ pending)) ]);
  kept = search rules;
}
