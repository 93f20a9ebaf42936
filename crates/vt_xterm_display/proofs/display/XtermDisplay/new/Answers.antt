use Rattle.std.proofs.Common.{rules, ap, false}
use Rattle.vt_xterm_display.specs.State.{Shown, PageState}
use Rattle.vt_xterm_display.proofs.Kept.{blank_kept}
use Rattle.vt_xterm_display.proofs.display.XtermDisplay.new.Goals as goal

pub invariant_of-result : goal.invariant_of-result
invariant_of-result c = record {
  one_size = search rules;
  sides = search rules;
  full = search rules;
  waiting = search rules;
  origin = search rules;
  fits = search rules;
  kept = record {
    shown_whole = blank_kept _ _ false (ap (λ (d : Shown). d.grid) c.in_ok-shown.ensures);
    other_whole = blank_kept _ _ false (ap (λ (p : PageState). p.grid) c.in_ok-other.ensures);
  };
}
