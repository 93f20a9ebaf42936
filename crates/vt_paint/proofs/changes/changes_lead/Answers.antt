use Rattle.vt_paint.proofs.Whole.{changes_played, few, changes_speak}
use Rattle.vt_paint.proofs.changes.changes_lead.Goals as goal

pub returns : goal.returns
returns c = record {
  played = λ size marks s t i j between changes. changes_played size marks t s j between i changes;
  few = λ size marks s t before i changes. few size marks t.display s.display before i.display changes;
  speaks = λ size marks s t before i changes. changes_speak size marks t.display s.display before i.display changes;
}
