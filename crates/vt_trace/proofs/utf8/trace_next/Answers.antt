use Rattle.std.proofs.Common.{◌≡◌, length, arith}
use Rattle.std.proofs.lemmas.Bool.Decides.{nat_tests}
use Rattle.vt_trace.proofs.TracedBytes.{no_items}
use Rattle.vt_trace.proofs.utf8.trace_next.Goals as goal

pub returns-in-Some-clause-traced : goal.returns-in-Some-clause-traced
returns-in-Some-clause-traced g c =
    let zero : length c.args.decoder.now ≡ 0 = grind (arith, nat_tests, c.is_empty.ensures, c.if-is_empty.true) in
    rw (no_items c.args.decoder.now zero) c.trace_whole.ensures.traced
