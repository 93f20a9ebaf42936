use Rattle.std.proofs.Common.{rules, refl, sym, ap, subst, ◌∙◌}
use Rattle.vt_xterm_display.specs.declared.display.XtermDisplay.TheInside.{Inside}
use Rattle.vt_xterm_display.specs.State.{Shown, PageState}
use Rattle.vt_xterm_display.proofs.Kept.{Whole, filled_kept}
use Rattle.vt_xterm_display.proofs.display.XtermDisplay.column_mode.Goals as goal

pub invariant_of-self : goal.invariant_of-self
invariant_of-self c = record {
  one_size = search rules;
  sides = search rules;
  full = search rules;
  waiting = search rules;
  origin = search rules;
  fits = search rules;
  kept = record {
    shown_whole = filled_kept _ _ c.fill.new.self c.incoming-empty.result c.incoming-empty.ensures.narrow.wide c.incoming-empty.ensures.narrow.second c.fill.ensures.grid;
    other_whole = subst Whole (sym (ap (λ (i : Inside). i.other.grid) c.self-inside.view_is)) c.self.invariant.kept.other_whole;
  };
}
