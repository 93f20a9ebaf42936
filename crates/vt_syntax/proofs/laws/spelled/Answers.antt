-- The laws are lemmas.
use Rattle.std.proofs.Common.{[], ◌∷◌, map, ◌∙◌}
use Rattle.vt_syntax.specs.declared.event.Event.TheVariants.{Print}
use Rattle.vt_syntax.specs.Spelling.{spell_event, spell_events}
use Rattle.vt_syntax.proofs.Steps.{same_held, same_events}
use Rattle.vt_syntax.proofs.Spelled.{event_steps, events_steps, plain_steps}
use Rattle.vt_syntax.proofs.Cutting.{are_events, read, read_as, single, escape}
use Rattle.vt_syntax.proofs.laws.spelled.Goals as goal

pub returns : goal.returns
returns c = record {
  are_events = are_events;
  event = λ e more h. same_events (read_as (spell_event e) more (e ∷ []) (event_steps e h));
  event_held = λ e more h. same_held (read_as (spell_event e) more (e ∷ []) (event_steps e h));
  events = λ es more h. same_events (read_as (spell_events es) more es (events_steps es h));
  events_held = λ es more h. same_held (read_as (spell_events es) more es (events_steps es h));
  all_events = λ es h. same_events (read (spell_events es) ∙ events_steps es h);
  all_held = λ es h. same_held (read (spell_events es) ∙ events_steps es h);
  plain = λ run more h. same_events (read_as run more (map Print run) (plain_steps run h));
  plain_held = λ run more h. same_held (read_as run more (map Print run) (plain_steps run h));
  all_plain = λ run h. same_events (read run ∙ plain_steps run h);
  all_plain_held = λ run h. same_held (read run ∙ plain_steps run h);
  single = λ b e. same_events (single b e);
  single_held = λ b e. same_held (single b e);
  escape = λ held more i. same_events (escape held more i);
  escape_held = λ held more i. same_held (escape held more i);
}
