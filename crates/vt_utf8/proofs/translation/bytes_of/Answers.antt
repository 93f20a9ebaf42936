use Rattle.std.proofs.Common.{rules}
use Rattle.vt_utf8.proofs.Cuts.{translation-ascii}
use Rattle.vt_utf8.proofs.translation.bytes_of.Goals as goal

pub returns-then-c-lt128 : goal.returns-then-c-lt128
returns-then-c-lt128 c = rw (translation-ascii c.args.terminal.now c.args.c c.if-c-lt128.true) (search rules)
