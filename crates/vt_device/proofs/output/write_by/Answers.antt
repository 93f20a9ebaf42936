use Rattle.std.proofs.Common.{arith}
use Rattle.std.proofs.lemmas.Grind.{common_steps}
use Rattle.std.proofs.lemmas.Result.{err_from_is_err_and}
use Rattle.vt_device.proofs.Steps.{without_memory}
use Rattle.vt_device.proofs.output.write_by.Goals as goal

pub returns-in_err-decoding-clause-answer : goal.returns-in_err-decoding-clause-answer
returns-in_err-decoding-clause-answer g c =
    let fault = err_from_is_err_and c.from_residual.result c.from_residual.ensures.1 in
    rw (fault.1, fault.2)
    (without_memory _ _ _ (record {
      reader_failed = c.requires.reader_works;
      reader_ended = c.requires.reader_goes_on;
      writer_failed = c.requires.writer_works;
    }))

pub write_in_room-requires-clause-decodes : goal.write_in_room-requires-clause-decodes
write_in_room-requires-clause-decodes g c = grind (arith, common_steps)

pub write_in_room-requires-clause-some_room : goal.write_in_room-requires-clause-some_room
write_in_room-requires-clause-some_room g c = grind (arith, common_steps)

pub write_in_room-requires-clause-room : goal.write_in_room-requires-clause-room
write_in_room-requires-clause-room g c = grind (arith, common_steps)

pub returns-clause-answer : goal.returns-clause-answer
returns-clause-answer g c = grind (arith, common_steps)
