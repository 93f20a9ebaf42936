use Rattle.std.proofs.Common.{sym, ◌∙◌}
use Rattle.vt_utf8.proofs.Whole.{three-made}
use Rattle.vt_utf8.proofs.decoder.three_bytes.Goals as goal

pub returns-then-continues-2 : goal.returns-then-continues-2
returns-then-continues-2 c =
    three-made c.from_u32.result _ c.args.piece.now c.from_u32.ensures.value c.if-piece-lt3.false c.if-b-lt225.false
    c.if-b-gt236.false (sym c.continues.ensures ∙ c.if-continues.true) (sym c.continues-then-continues.ensures ∙ c.if-continues-2.true)
