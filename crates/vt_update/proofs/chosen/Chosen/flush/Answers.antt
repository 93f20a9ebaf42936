use Rattle.vt_paint.proofs.Speech.{speaks-none}
use Rattle.vt_update.proofs.chosen.Chosen.flush.Goals as goal

pub invariant_of-self-clause-speaks : goal.invariant_of-self-clause-speaks
invariant_of-self-clause-speaks c = speaks-none
