use Rattle.std.proofs.Common.{◌≡◌, ◌+◌, ◌++◌, take, drop, length, refl, sym, ap, ◌∙◌, arith, append-nil, length-drop, length-take}
use Rattle.std.proofs.Math.Seq.{take-add}
use Rattle.vt_term.specs.Play.{Played}
use Rattle.vt_trace.specs.declared.tracing.Tracer.{Tracer}
use Rattle.vt_trace.specs.Trace.{trace, tracer_all}
use Rattle.vt_trace.proofs.Traces.{more-state, more-reports, more-lines, more-tracer, place_of_all, rest-of}
use Rattle.vt_trace.proofs.tracing.trace_reserved.Goals as goal

pub loop-at-init : goal.loop-at-init
unfolding trace tracer_all
loop-at-init c =
    let nothing = c.sized_cuts.ensures.none c.args.terminal.now.display.grid.size c.args.terminal.now c.soundness.ensures in
    let old = c.args.reports.now.items in
    record {
      within = omega arith;
      state = sym (ap (λ (p : Played). p.state) nothing);
      reports = sym (ap (λ (p : Played). old ++ p.reports) nothing ∙ append-nil old);
      lines = sym (append-nil c.args.out.now.items);
      tracer = refl;
      place = omega arith;
      reports_bounded = omega arith;
      bounded = omega arith;
      reports_capacity = omega arith;
      capacity = omega arith;
    }

-- one more front
pub loop-at-preserved : goal.loop-at-preserved
loop-at-preserved c =
    let s = c.args.terminal.now in
    let t = c.args.tracer.now in
    let was = c.loop-at.invariant in
    let made = c.trace_front-at.ensures in
    let n = c.trace_front-at.result in
    let chunk = c.args.chunk.now in
    let front = take c.loop-at.at chunk in
    let part = take n (drop c.loop-at.at chunk) in
    let rest = rest-of chunk c.loop-at.at in
    let fits = rw rest at made.within in
    let inside = simp length-drop at fits in
    let next : take (c.loop-at.at + n) chunk ≡ front ++ part = take-add c.loop-at.at n chunk in
    let tracer : c.trace_front-at.new.tracer ≡ tracer_all s t (take (c.loop-at.at + n) chunk) = rw next (more-tracer (c.sized_cuts-2.ensures.tracer c.args.terminal.now.display.grid.size) s c.loop-at.terminal t c.loop-at.tracer
    c.trace_front-at.new.tracer front part c.soundness.ensures was.state was.tracer (rw rest at made.tracer)) in
    let place : c.trace_front-at.new.tracer.place ≡ t.place + length (take (c.loop-at.at + n) chunk) =
    ap (λ (t : Tracer). t.place) tracer ∙ place_of_all s t (take (c.loop-at.at + n) chunk) in
    let len = length-take (c.loop-at.at + n) chunk in
    record {
      within = omega (arith, inside);
      state = rw next (more-state c.sized_cuts.ensures.two s c.loop-at.terminal c.trace_front-at.new.terminal front part was.state
          (rw rest at made.state));
      reports = rw next (more-reports c.sized_cuts.ensures.two s c.loop-at.terminal front part c.args.reports.now.items
          c.loop-at.reports.items c.trace_front-at.new.reports.items was.state was.reports (rw rest at made.reports));
      lines = rw next (more-lines (c.sized_cuts-2.ensures.lines c.args.terminal.now.display.grid.size) s c.loop-at.terminal t c.loop-at.tracer front part
          c.args.out.now.items c.loop-at.out.items c.trace_front-at.new.out.items c.soundness.ensures was.state was.tracer
          was.lines (rw rest at made.lines));
      tracer = tracer;
      place = omega (arith, place, len, inside);
      reports_bounded = omega (arith, was.reports_bounded, made.reports_bounded);
      bounded = omega (arith, was.bounded, made.bounded);
      reports_capacity = omega (arith, was.reports_capacity, made.reports_capacity);
      capacity = omega (arith, was.capacity, made.capacity);
    }
