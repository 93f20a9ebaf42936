use Rattle.std.proofs.Common.{◌+◌, refl, arith}
use Rattle.vt_update.proofs.Elements.{character_more}
use Rattle.vt_update.proofs.chosen.Chosen.character.Goals as goal

pub invariant_of-self-clause-speaks : goal.invariant_of-self-clause-speaks
invariant_of-self-clause-speaks c =
    let self = c.args.self.now in
    character_more self.bytes self.len (self.len + 1) c.args.code refl (omega arith) (omega arith) (omega arith) self.speaks
