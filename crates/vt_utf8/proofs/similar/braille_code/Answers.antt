use Rattle.std.proofs.Common.{arith}
use Rattle.vt_utf8.proofs.Tables.{blank-code, braille-code}
use Rattle.vt_utf8.proofs.similar.braille_code.Goals as goal

pub returns-then-c-eq10240 : goal.returns-then-c-eq10240
returns-then-c-eq10240 c = rw c.if-c-eq10240.true blank-code

pub returns : goal.returns
returns c = braille-code c.args.c (omega (arith, c.requires.0, c.if-c-eq10240.false)) c.requires.1
