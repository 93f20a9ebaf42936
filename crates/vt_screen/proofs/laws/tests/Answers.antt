use Rattle.vt_screen.proofs.Composed.{test-at, test-formula}
use Rattle.vt_screen.proofs.laws.tests.Goals as goal

pub returns : goal.returns
returns c = record {
  at = test-at _;
  formula = λ test s w f. test-formula test s w f;
}
