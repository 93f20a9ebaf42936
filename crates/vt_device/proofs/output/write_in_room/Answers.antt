use Rattle.std.proofs.Common.{arith}
use Rattle.std.proofs.lemmas.Grind.{common_steps}
use Rattle.std.proofs.Common.{◌∙◌, sym, inr, refl}
use Rattle.vt_device.proofs.OutputSteps.{ends_so, there_so}
use Rattle.vt_device.proofs.Steps.{Moves-write}
use Rattle.vt_device.proofs.output.write_in_room.Goals as goal

pub returns-then-not-is_there-clause-answer : goal.returns-then-not-is_there-clause-answer
returns-then-not-is_there-clause-answer g c =
    let moved = c.in_ok-write_coming.ensures.moves in
    let h = moved.holds in
    record {
      b = moved.b;
      w = moved.w;
      taken = moved.taken;
      given = moved.given;
      holds = (
        h.0,
        h.1,
        record {
          x = h.2.x;
          translates = h.2.translates;
          all = h.2.all;
          holds = there_so _ _ _ _ _ _ _ h.2.holds ∙ sym c.if-not-is_there.ensures;
        },
      );
    }

pub returns-then-write_whole-clause-answer : goal.returns-then-write_whole-clause-answer
returns-then-write_whole-clause-answer g c =
    let gives = c.if-write_whole.ensures.gives in
    let last = gives.holds.1 ∙ c.deref.ensures.value in
    Moves-write _ _ _ _ _ _ _ _ c.in_ok-write_coming.ensures.moves gives.given (λ b w h. (
      record { reader_failed = h.0.reader_failed; reader_ended = h.0.reader_ended; writer_failed = gives.holds.0 },
      h.1,
      record {
        x = h.2.x;
        translates = h.2.translates;
        all = rw (h.2.all, last, c.end.ensures, ends_so _ _ _ _ _ _ _ h.2.holds) refl;
        holds = there_so _ _ _ _ _ _ _ h.2.holds ∙ sym c.if-not-is_there.ensures;
      },
    ))

pub returns-else-write_whole-clause-answer : goal.returns-else-write_whole-clause-answer
returns-else-write_whole-clause-answer g c =
    let gives = c.if-write_whole.ensures.gives in
    Moves-write _ _ _ _ _ _ _ _ c.in_ok-write_coming.ensures.moves gives.given (λ b w h. (
      inr (
        record { reader_failed = h.0.reader_failed; reader_ended = h.0.reader_ended; writer_failed = gives.holds.0 },
        record {
          x = h.2.x;
          translates = h.2.translates;
          is_there = there_so _ _ _ _ _ _ _ h.2.holds ∙ sym c.if-not-is_there.ensures;
          cut = record {
            more = gives.w;
            begins = rw h.2.all refl;
            part = rw (c.deref.ensures.value ∙ c.end.ensures ∙ ends_so _ _ _ _ _ _ _ h.2.holds) at gives.holds.1;
          };
        },
      ),
      h.1,
    ))

pub returns-then-not-is_there-clause-whole : goal.returns-then-not-is_there-clause-whole
returns-then-not-is_there-clause-whole g c = grind (arith, common_steps)

pub returns-then-write_whole-clause-whole : goal.returns-then-write_whole-clause-whole
returns-then-write_whole-clause-whole g c = grind (arith, common_steps)

pub returns-else-write_whole-clause-whole : goal.returns-else-write_whole-clause-whole
returns-else-write_whole-clause-whole g c = grind (arith, common_steps)
