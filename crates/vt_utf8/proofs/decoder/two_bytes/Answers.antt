use Rattle.std.proofs.Common.{sym, ◌∙◌}
use Rattle.vt_utf8.proofs.Whole.{two-made}
use Rattle.vt_utf8.proofs.decoder.two_bytes.Goals as goal

pub returns-then-continues : goal.returns-then-continues
returns-then-continues c =
    two-made c.from_u32.result _ c.args.piece.now c.from_u32.ensures.value c.if-piece-lt2.false c.if-b-lt194.false
    c.if-b-gt223.false (sym c.continues.ensures ∙ c.if-continues.true)
