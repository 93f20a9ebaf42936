use Rattle.std.proofs.Common.{◌≡◌, ◌≤◌, ◌++◌, false, length, take, arith, length-append}
use Rattle.std.proofs.lemmas.List.{length-take}
use Rattle.std.proofs.lemmas.Grind.{common_steps}
use Rattle.std.proofs.lemmas.Result.{err_from_is_err_and}
use Rattle.std.proofs.KnownBytes.{Consumes-trans}
use Rattle.vt_recording.proofs.reading.read_whole.Goals as goal

pub returns-in_err-extend_from_slice-clause-takes : goal.returns-in_err-extend_from_slice-clause-takes
returns-in_err-extend_from_slice-clause-takes g c =
    let fault = err_from_is_err_and c.from_residual.result c.from_residual.ensures.1 in
    let long = simp length-take at c.read.auto.buf in
    let bound : c.in-Ok.count ≤ length c.read.new.buf = c.in-Ok.ensures.bound.0 in
    let part : length (take c.in-Ok.count c.read.new.buf) ≡ c.in-Ok.count = rw length-take (omega arith) in
    let works : c.read.new.self.failed ≡ false = grind (arith, common_steps, c.in-Ok.ensures) in
    rw (fault.1, fault.2) (record {
      b = c.loop-left.bytes.items ++ take c.in-Ok.count c.read.new.buf;
      taken = Consumes-trans _ _ _ _ _ c.loop-left.invariant.taken c.in-Ok.ensures.bytes.0;
      holds = (
        works,
        rw length-append (omega (arith, long, bound, part, c.min-want.ensures, c.loop-left.invariant.total)),
      );
    })
