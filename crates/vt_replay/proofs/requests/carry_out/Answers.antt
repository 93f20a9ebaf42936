use Rattle.std.proofs.Common.{arith}
use Rattle.std.proofs.lemmas.Grind.{common_steps}
use Rattle.std.proofs.Common.{◌∙◌, sym, [], refl}
use Rattle.std.proofs.KnownBytes.{Appends-nil}
use Rattle.vt_replay.proofs.Outcomes.{not_streamed}
use Rattle.vt_replay.proofs.requests.carry_out.Goals as goal

pub returns-clause-answer : goal.returns-clause-answer
returns-clause-answer g c =
    let takes = c.in-Err.ensures.takes in
    record {
      b = takes.b;
      w = [];
      taken = takes.taken;
      given = Appends-nil _;
      holds = not_streamed _ _ _ _ _ takes.b [] _ (sym (rw c.needs_whole.ensures at c.is_streamed.ensures) ∙ c.if-is_streamed.false) (record {
        fault = c.in-Err.fault;
        why = takes.holds;
        ended = c.unread-in-Err.ensures.ended;
        none_replaced = c.unread-in-Err.ensures.none_replaced;
        nothing = refl;
        writer_works = c.requires.writer_works;
      });
    }

pub returns-then-is_streamed-clause-answer : goal.returns-then-is_streamed-clause-answer
returns-then-is_streamed-clause-answer g c = grind (arith, common_steps)

pub returns-then-is_streamed-clause-whole : goal.returns-then-is_streamed-clause-whole
returns-then-is_streamed-clause-whole g c = grind (arith, common_steps)

pub returns-in-Ok-prepare-clause-answer : goal.returns-in-Ok-prepare-clause-answer
returns-in-Ok-prepare-clause-answer g c = grind (arith, common_steps)

pub returns-in-Ok-prepare-clause-whole : goal.returns-in-Ok-prepare-clause-whole
returns-in-Ok-prepare-clause-whole g c = grind (arith, common_steps)

pub returns-in-Ok-clause-answer : goal.returns-in-Ok-clause-answer
returns-in-Ok-clause-answer g c = grind (arith, common_steps)

pub returns-in-Ok-clause-whole : goal.returns-in-Ok-clause-whole
returns-in-Ok-clause-whole g c = grind (arith, common_steps)

pub returns-clause-whole : goal.returns-clause-whole
returns-clause-whole g c = grind (arith, common_steps)
