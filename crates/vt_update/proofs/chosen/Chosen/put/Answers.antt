use Rattle.std.proofs.Common.{take, sym, subst}
use Rattle.vt_paint.specs.Spoken.{Speaks}
use Rattle.vt_paint.proofs.Speech.{speaks-append}
use Rattle.vt_update.proofs.chosen.Chosen.put.Goals as goal

pub invariant_of-self-clause-speaks : goal.invariant_of-self-clause-speaks
invariant_of-self-clause-speaks c =
    subst Speaks (sym c.put-self.ensures.items)
    (speaks-append (take c.args.self.now.len c.args.self.now.bytes) c.args.function c.args.self.now.speaks c.put-self.ensures.speaks)
