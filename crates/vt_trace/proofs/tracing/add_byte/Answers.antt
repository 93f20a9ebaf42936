use Rattle.std.proofs.Common.{◌≡◌, ◌<◌, ◌∙◌, length, sym, arith}
use Rattle.std.proofs.lemmas.Bool.Decides.{nat_tests}
use Rattle.vt_trace.proofs.TracedBytes.{fits, is_full}
use Rattle.vt_trace.proofs.tracing.add_byte.Goals as goal

pub returns-then-not-is_full : goal.returns-then-not-is_full
returns-then-not-is_full c =
    let items = c.args.first.now.items in
    let low : length items < 33 = grind (arith, nat_tests, c.if-not-is_full.ensures.value, c.if-not-is_full.ensures.fits) in
    c.push.ensures.items ∙ sym (fits items c.args.b low)

pub returns-else-not-is_full : goal.returns-else-not-is_full
returns-else-not-is_full c =
    let items = c.args.first.now.items in
    let long : length items ≡ 33 = grind (arith, nat_tests, c.if-not-is_full.ensures.value) in
    sym (is_full items c.args.b long)
