use Rattle.vt_recording.proofs.Marks.{first_events}
use Rattle.vt_recording.proofs.reached.due.Goals as goal

pub returns : goal.returns
returns c =
    rw (
      c.passed_in-passed.ensures.value,
      c.has_characters-characters.ensures,
      c.deref.ensures.value,
      c.deref-2.ensures.value,
      c.deref-3.ensures.value,
    )
    (first_events _ c.args.timeline.now.events.items c.args.timeline.now.text.items)
