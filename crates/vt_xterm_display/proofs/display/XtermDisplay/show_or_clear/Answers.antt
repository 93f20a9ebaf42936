use Rattle.std.proofs.Common.{rules, ap}
use Rattle.vt_xterm_display.specs.State.{Shown, PageState}
use Rattle.vt_xterm_display.proofs.Kept.{filled_kept}
use Rattle.vt_xterm_display.proofs.display.XtermDisplay.show_or_clear.Goals as goal

pub invariant_of-self : goal.invariant_of-self
invariant_of-self c = record {
  one_size = search rules;
  sides = search rules;
  full = search rules;
  waiting = search rules;
  origin = search rules;
  fits = search rules;
  kept = record {
    shown_whole = c.self-then-self.invariant.kept.shown_whole;
    other_whole = filled_kept _ _ _ c.incoming-empty.result c.incoming-empty.ensures.narrow.wide c.incoming-empty.ensures.narrow.second
        (ap (λ (p : PageState). p.grid) c.fill.ensures.page);
  };
}
