use Rattle.std.proofs.Common.{nat_eq}
use Rattle.vt_recording.proofs.Searches.{found_at}
use Rattle.vt_recording.proofs.script.line_feed.Goals as goal

pub returns-clause-value : goal.returns-clause-value
returns-clause-value c = found_at (λ b. nat_eq b 0x0A) c.args.bytes.now c.memchr.result c.memchr.ensures
