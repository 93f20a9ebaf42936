use Rattle.vt_utf8.proofs.Reading.{whole-begun, part-begun}
use Rattle.vt_utf8.proofs.decoder.is_begun.Goals as goal

pub returns-then-size-bytes : goal.returns-then-size-bytes
returns-then-size-bytes c =
    whole-begun c.args.bytes.now c.args.size c.requires.size c.lead_len.result c.if-size-bytes.true c.lead_len.ensures

pub returns-else-size-bytes : goal.returns-else-size-bytes
returns-else-size-bytes c = part-begun c.args.bytes.now c.args.size c.requires.size c.if-size-bytes.false
