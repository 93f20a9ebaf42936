use Rattle.std.proofs.Common.{rules, ◌≡◌, ◌+◌, ◌≤◌, ◌++◌, ◌∙◌, length, take, arith, length-take}
use Rattle.vt_trace.proofs.Contents.{kept}
use Rattle.vt_trace.proofs.tracing.add_bytes.Goals as goal

pub returns-clause-items : goal.returns-clause-items
returns-clause-items c =
    let xs = c.args.first.now.items in
    let bytes = c.args.bytes.now in
    let n = c.min-count.result in
    let len = c.len.ensures in
    let front = length-take n bytes in
    let few : length xs ≤ 33 = omega (arith, len.value, len.fits) in
    let count = c.min-count.ensures in
    let fits : length xs + length (take n bytes) ≤ 33 = omega (arith, few, front, count, len.value) in
    let items : c.try_extend_from_slice.new.self.items ≡ xs ++ take n bytes = search (rules, fits) in
    items ∙ kept xs bytes n few (omega (arith, count, len.value))
