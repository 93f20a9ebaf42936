-- The law is three lemmas.
use Rattle.vt_syntax.proofs.QuietControls.{carried_out, in_string, by_no_other}
use Rattle.vt_syntax.proofs.laws.controls.Goals as goal

pub returns : goal.returns
returns c = record {
  carried_out = carried_out;
  in_string = in_string;
  by_no_other = by_no_other;
}
