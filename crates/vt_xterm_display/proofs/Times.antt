-- A function that is carried out so many times.
use Rattle.std.proofs.Common.{◌≡◌, ℕ, suc, ◌+◌, ap, ◌∙◌, arith}
use Rattle.vt_xterm_display.specs.State.{XtermState}
use Rattle.vt_xterm_display.specs.Tabs.{times}

pub times-more : (k : ℕ) (f : XtermState → XtermState) (s t u : XtermState) → t ≡ times k f s → u ≡ f t → u ≡ times (k + 1) f s
times-more k f s t u first second = let e : k + 1 ≡ suc k = omega arith in rw e (second ∙ ap f first)
