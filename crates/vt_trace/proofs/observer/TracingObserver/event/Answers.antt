use Rattle.std.proofs.Common.{◌≡◌, ◌++◌, ◌-◌, ◌∙◌, refl, arith, ap, sym, length, take}
use Rattle.std.specs.Prelude.{slice_index}
use Rattle.vt_syntax.specs.declared.held.Held.{Held}
use Rattle.vt_syntax.specs.Held.{events_from}
use Rattle.vt_syntax.specs.Event.{event_of}
use Rattle.vt_term.specs.State.{Display}
use Rattle.vt_term.specs.Reports.{report}
use Rattle.vt_trace.specs.Trace.{written}
use Rattle.vt_trace.specs.Observed.{Completes}
use Rattle.vt_term.proofs.Happened.{length-happenings}
use Rattle.vt_trace.proofs.Runs.{told_at, with_text, event_told}
use Rattle.vt_trace.proofs.Happened.{told-traced, first-follows}
use Rattle.vt_trace.proofs.observer.TracingObserver.event.Goals as goal

pub returns : goal.returns
unfolding told_at with_text
returns g c = λ s sound same events silent.
    let a = c.args in
    let o = a.self.now in
    let read = c.read_event.ensures in
    let told = c.push_event.ensures in
    let bytes = a.bytes.now in
    let e = event_of a.kind a.values.now in
    let mid = c.read_event.new.out.items in
    let u = c.read_event.new.tracer in
    let d = a.terminal.now.display in
    let last = slice_index bytes (length bytes - 1) in
    let count = length-happenings s bytes in
    let lines : c.push_event.new.out.items ≡ mid ++ told_at g.N.Naming.names s.display u last e =
    told.items ∙ ap (λ n. mid ++ written g.N.Naming.names d.grid.size.rows u.in_text n e (report e d)) (c.place_of-place.ensures a.values.now)
    ∙ ap (λ (d : Display). mid ++ told_at g.N.Naming.names d u last e) (sym same) in (
      refl,
      refl,
      λ follow.
          let is = first-follows s o.parser bytes c.requires.some follow in
          let one : Completes o.parser bytes e = record {
            events = ap (λ (h : Held). events_from h bytes) is ∙ events;
            silent = ap (λ (h : Held). events_from h (take (length bytes - 1) bytes)) is ∙ silent;
          } in
          told-traced c.one_split.ensures g.N.Naming.names s o.parser c.read_event.new.parser o.tracer.now (with_text c.is_text-self.result u)
          bytes o.out.now.items c.push_event.new.out.items sound.held is
          (event_told c.spelled.ensures c.one_split.ensures bytes e c.requires.some g.N.Naming.names s o.parser c.read_event.new.parser
          o.tracer.now u o.out.now.items mid c.push_event.new.out.items c.is_text-self.result one
          (read.read a.values.now) lines (c.is_text-self.ensures a.values.now) is),
      record {
        place = omega (arith, count, read.place);
        bounded = omega (arith, count, c.requires.some, read.bounded, told.bounded);
        capacity_stays = omega (arith, read.capacity, told.capacity);
      },
    )
