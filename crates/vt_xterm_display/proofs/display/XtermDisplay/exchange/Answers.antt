use Rattle.std.proofs.Common.{rules, refl, sym, ap, subst, ◌∙◌}
use Rattle.vt_xterm_display.specs.declared.display.XtermDisplay.TheInside.{Inside}
use Rattle.vt_xterm_display.specs.State.{Grid, Shown, PageState}
use Rattle.std.proofs.lemmas.Bool.{false≢true}
use Rattle.vt_xterm_display.proofs.Fits.{edge_none, last_of}
use Rattle.vt_xterm_display.proofs.Kept.{Whole, fitted_kept}
use Rattle.vt_xterm_display.proofs.display.XtermDisplay.exchange.Goals as goal
use Rattle.vt_xterm_display.proofs.display.XtermDisplay.exchange.Goals.{then-self, else-self}

pub invariant_of-self : goal.invariant_of-self
invariant_of-self c = record {
  one_size = search rules;
  sides = search rules;
  full = search rules;
  waiting = search rules;
  origin = search rules;
  fits = λ pending near. edge_none c.swap.new.x _ _ c.width-width.result
      (ap (λ (g : Grid). g.width) (c.swap.ensures.x_after ∙ ap (λ (i : Inside). i.other.grid) c.self-inside-2.view_is) ∙ c.fit.ensures.width)
      (elim c.if-self.branch [ then-self w ↦ last_of _ _ _ w.self-is pending | else-self w ↦ absurd (false≢true (sym w.if-self.false ∙ sym w.self-is ∙ pending)) ]);
  kept = record {
    shown_whole = subst Whole (sym (c.swap.ensures.x_after ∙ ap (λ (i : Inside). i.other.grid) c.self-inside-2.view_is ∙ ap (λ (p : PageState). p.grid) c.fit.ensures.page))
        (fitted_kept _ _ c.self.invariant.kept.other_whole);
    other_whole = subst Whole (sym (c.swap.ensures.y_after ∙ ap (λ (i : Inside). i.shown.grid) c.self-inside-2.view_is))
        c.self.invariant.kept.shown_whole;
  };
}
