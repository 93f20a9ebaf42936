use Rattle.vt_paint.specs.Spoken.{Sequence}
use Rattle.vt_paint.proofs.Speech.{speaks-one}
use Rattle.vt_paint.proofs.function.Function.sequence.Goals as goal

pub of-requires-clause-speaks : goal.of-requires-clause-speaks
of-requires-clause-speaks c = speaks-one (Sequence c.args.parameters.now c.args.ending.now) c.requires.spoken
