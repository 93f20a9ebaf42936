use Rattle.std.proofs.Common.{refl, sym, ◌∙◌}
use Rattle.vt_replay.proofs.requests.play_prepared.Goals as goal

pub returns : goal.returns
returns g c =
    let moves = c.carry_out_word-played.ensures.answer in
    record {
      w = moves.w;
      given = moves.given;
      holds = record {
        c = moves.b;
        rest = c.carry_out_word-played.new.reader.rest;
        joined = sym c.new-content.ensures.bytes ∙ moves.taken;
        at_end = c.carry_out_word-played.new.reader.ended;
        none_left = c.carry_out_word-played.ensures.whole;
        played = c.carry_out_word-played.result;
        table = rw c.deref.ensures.value at moves.holds;
        ended = c.ended_of.ensures;
        replaces = refl;
      };
    }
