use Rattle.vt_xterm_update.proofs.Turns.{appended_one, appended_then}
use Rattle.vt_xterm_update.proofs.step.push_value.Goals as goal

pub returns-clause-appended : goal.returns-clause-appended
returns-clause-appended c =
    appended_then _ _ _ (appended_one _ _ _ c.push_when.ensures.items) (appended_one _ _ _ c.push_number.ensures.items)
