-- The laws are lemmas.
use Rattle.vt_syntax.proofs.Splits.{split_of_split, split_only}
use Rattle.vt_syntax.proofs.Steps.{same_held, same_events}
use Rattle.vt_syntax.proofs.Cutting.{held_part, spelled, nil, same, append}
use Rattle.vt_syntax.proofs.laws.one_split.Goals as goal

pub returns : goal.returns
returns c = record {
  some = split_of_split;
  only = split_only;
  held_part = held_part;
  spelled_held = λ held i. same_held (spelled held i);
  spelled_events = λ held i. same_events (spelled held i);
  same_events = λ rest more h. same_events (same rest more h);
  same_held = λ rest more h. same_held (same rest more h);
  events_nil = λ held i. same_events (nil held i);
  held_nil = λ held i. same_held (nil held i);
  events_append = λ held first second. same_events (append held first second);
  held_append = λ held first second. same_held (append held first second);
}
