use Rattle.std.proofs.Common.{rules, refl, sym, ap, subst, ◌∙◌, false}
use Rattle.vt_xterm_display.specs.declared.display.XtermDisplay.TheInside.{Inside}
use Rattle.vt_xterm_display.specs.State.{Shown, PageState}
use Rattle.vt_xterm_display.proofs.Kept.{blank_kept}
use Rattle.vt_xterm_display.proofs.display.XtermDisplay.reset_to_initial_state.Goals as goal

pub invariant_of-self : goal.invariant_of-self
invariant_of-self c = record {
  one_size = search rules;
  sides = search rules;
  full = search rules;
  waiting = search rules;
  origin = search rules;
  fits = search rules;
  kept = record {
    shown_whole = blank_kept _ _ _ (ap (λ (i : Inside). i.shown.grid) c.self-inside-3.view_is ∙ ap (λ (d : Shown). d.grid) c.column_mode.ensures);
    other_whole = blank_kept _ _ false (ap (λ (i : Inside). i.other.grid) c.self-inside-3.view_is ∙ ap (λ (p : PageState). p.grid) c.reset.ensures.page);
  };
}
