use Rattle.vt_paint.specs.Spoken.{Control}
use Rattle.vt_paint.proofs.Speech.{speaks-one}
use Rattle.vt_paint.proofs.function.Function.control.Goals as goal

pub of-requires-clause-speaks : goal.of-requires-clause-speaks
of-requires-clause-speaks c = speaks-one (Control c.args.code) c.requires
