use Rattle.std.proofs.Common.{◌∙◌, ◌++◌, List, ℕ, ap, sym, arith}
use Rattle.vt_trace.proofs.TracedBytes.{first_long, first_short}
use Rattle.vt_trace.proofs.skipped.push_first_column.Goals as goal

pub slice_bounds-push_all_shown-end : goal.slice_bounds-push_all_shown-end
slice_bounds-push_all_shown-end c = sym (first_long c.args.bytes.now c.if-bytes-gt-SHOWN.true)

pub push_all_shown-requires : goal.push_all_shown-requires
push_all_shown-requires c =
    let long = first_long c.args.bytes.now c.if-bytes-gt-SHOWN.true in omega (arith, long, c.requires)

pub push_bytes-requires : goal.push_bytes-requires
push_bytes-requires c =
    let long = first_long c.args.bytes.now c.if-bytes-gt-SHOWN.true in
    omega (arith, long, c.requires, c.push_all_shown.ensures.bounded, c.push_all_shown.ensures.capacity)

pub returns-then-bytes-gt-SHOWN-clause-bounded : goal.returns-then-bytes-gt-SHOWN-clause-bounded
returns-then-bytes-gt-SHOWN-clause-bounded c =
    let long = first_long c.args.bytes.now c.if-bytes-gt-SHOWN.true in
    omega (arith, long, c.push_all_shown.ensures.bounded, c.push_bytes.ensures.bounded)

pub returns-else-bytes-gt-SHOWN-clause-items : goal.returns-else-bytes-gt-SHOWN-clause-items
returns-else-bytes-gt-SHOWN-clause-items c =
    let low = first_short c.args.bytes.now (omega (arith, c.if-bytes-gt-SHOWN.false)) in
    c.push_all_shown-else-bytes-gt-SHOWN.ensures.items ∙ ap (λ (l : List ℕ). c.args.out.now.items ++ l) low
