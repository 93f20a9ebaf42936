use Rattle.vt_xterm_update.proofs.Turns.{appended_one, appended_then}
use Rattle.vt_xterm_update.proofs.step.push_selection.Goals as goal

pub returns-clause-appended : goal.returns-clause-appended
returns-clause-appended c =
    appended_then _ _ _ (appended_then _ _ _ (appended_one _ _ _ c.push_bytes.ensures.items) c.push_values.ensures.appended)
    (appended_one _ _ _ c.push_bytes-2.ensures.items)
