use Rattle.std.proofs.Common.{rules}
use Rattle.vt_trace.proofs.Contents.{string_passed}
use Rattle.vt_trace.proofs.skipped.pass_content.Goals as goal

pub returns-clause-passed : goal.returns-clause-passed
returns-clause-passed c =
    let a = c.args in
    let tracer = c.hold.ensures in
    let count = c.content_len-count in
    string_passed a.held.now a.tracer.now c.hold.new.self a.bytes.now count.result
    (search rules) c.requires.held_part tracer.few count.ensures.content tracer.tracer
