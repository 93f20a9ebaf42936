use Rattle.std.proofs.Common.{◌∙◌}
use Rattle.vt_utf8.proofs.Reading.{pending-long}
use Rattle.vt_utf8.proofs.decoder.Decoder.of.Goals as goal

pub returns-then-bytes-gt3 : goal.returns-then-bytes-gt3
returns-then-bytes-gt3 c = c.new-then-bytes-gt3.ensures ∙ pending-long c.args.bytes.now c.if-bytes-gt3.true
