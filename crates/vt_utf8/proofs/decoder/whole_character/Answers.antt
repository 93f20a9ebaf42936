use Rattle.std.proofs.Common.{sym, ◌∙◌}
use Rattle.vt_utf8.proofs.Whole.{decoded-whole}
use Rattle.vt_utf8.proofs.decoder.whole_character.Goals as goal

pub returns : goal.returns
returns c = (
  c.if-c-lt128.false,
  decoded-whole c.args.piece.now c.in-Some-found.c c.decode-found.result.1 (sym c.decode-found.ensures.char ∙ c.in-Some-found.is)
      c.decode-found.ensures.size c.if-c-lt128.false,
)
