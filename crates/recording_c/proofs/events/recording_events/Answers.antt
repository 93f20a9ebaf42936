use Rattle.recording_c.proofs.events.recording_events.Goals as goal

pub returns-clause-told : goal.returns-clause-told
returns-clause-told c = λ _. record {
  timeline = c.in-Ok.timeline;
  is = rw (c.format_by-format.ensures, c.detect.ensures, c.timing_if.ensures) at c.in-Ok.ensures;
  events_are = rw c.deref.ensures.value at c.put_events.ensures;
  text_is = rw c.deref-2.ensures.value at c.put_bytes.ensures;
  extent_is = c.c_extent.ensures;
}
