use Rattle.vt_screen.proofs.Composed.{run-none, run-one, run-append}
use Rattle.vt_screen.proofs.laws.runs.Goals as goal

pub returns : goal.returns
returns c = record {
  none = run-none;
  one = run-one;
  append = run-append;
}
