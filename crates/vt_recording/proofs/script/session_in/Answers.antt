use Rattle.std.proofs.Common.{sym, refl}
use Rattle.std.proofs.lemmas.List.{take_rest}
use Rattle.vt_recording.proofs.script.session_in.Goals as goal

pub returns-clause-some : goal.returns-clause-some
returns-clause-some c = record {
  line = c.in_ok-line.line;
  first = sym c.in_ok-line.ensures.value;
  end = c.end_of-end.result;
  ends = rw take_rest at c.end_of-end.ensures;
  output = simp take_rest;
  stop = refl;
  joint = simp take_rest at c.joint_at.ensures;
}
