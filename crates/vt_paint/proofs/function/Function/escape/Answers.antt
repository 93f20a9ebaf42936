use Rattle.std.proofs.Common.{append-nil}
use Rattle.vt_paint.specs.Spoken.{Escape}
use Rattle.vt_paint.proofs.Speech.{speaks-one}
use Rattle.vt_paint.proofs.function.Function.escape.Goals as goal

pub of-requires-clause-speaks : goal.of-requires-clause-speaks
of-requires-clause-speaks c =
    rw (append-nil c.args.ending.now) (speaks-one (Escape c.args.ending.now) c.requires.spoken)
