use Rattle.std.proofs.Common.{◌≡◌, ◌+◌, ◌∙◌, take, drop, length, refl, ap, arith, length-drop, length-take}
use Rattle.std.proofs.Math.Seq.{take-add}
use Rattle.vt_trace.specs.declared.tracing.Tracer.{Tracer}
use Rattle.vt_trace.specs.Utf8.{Traces}
use Rattle.vt_trace.proofs.Traces.{rest-of}
use Rattle.vt_trace.proofs.Beyond.{place_dialect, traces_nothing, traces_both}
use Rattle.vt_trace.proofs.utf8.trace_dialect.Goals as goal

pub loop-at-init : goal.loop-at-init
loop-at-init g c = record {
  within = omega arith;
  one_size = c.requires.one_size;
  size = refl;
  traced = traces_nothing g.T.Traceable.dialect (g.T.Traceable.whole c.args.terminal.now c.args.kept.now) c.args.tracer.now c.args.decoder.now
      c.args.reports.now.items c.args.out.now.items;
  place = omega arith;
  reports_bounded = omega arith;
  bounded = omega arith;
  reports_capacity = omega arith;
  capacity = omega arith;
}

-- one more front
pub loop-at-preserved : goal.loop-at-preserved
loop-at-preserved g c =
    let d = g.T.Traceable.dialect in
    let was = c.loop-at.invariant in
    let made = c.trace_next-at.ensures in
    let n = c.trace_next-at.result in
    let chunk = c.args.chunk.now in
    let new = c.trace_next-at.new in
    let rest = rest-of chunk c.loop-at.at in
    let fits = rw rest at made.within in
    let inside = simp length-drop at fits in
    let w = g.T.Traceable.whole c.args.terminal.now c.args.kept.now in
    let traced : Traces d w c.args.tracer.now c.args.decoder.now (take (c.loop-at.at + n) chunk)
    (g.T.Traceable.whole new.terminal new.kept) new.tracer new.decoder c.args.reports.now.items new.reports.items c.args.out.now.items
    new.out.items =
    rw (take-add c.loop-at.at n chunk) (traces_both d w (g.T.Traceable.whole c.loop-at.terminal c.loop-at.kept) (g.T.Traceable.whole new.terminal new.kept)
    c.args.tracer.now c.loop-at.tracer new.tracer c.args.decoder.now c.loop-at.decoder new.decoder (take c.loop-at.at chunk)
    (take n (drop c.loop-at.at chunk)) c.args.reports.now.items c.loop-at.reports.items new.reports.items c.args.out.now.items
    c.loop-at.out.items new.out.items was.traced (rw rest at made.traced)) in
    let place : new.tracer.place ≡ c.args.tracer.now.place + length (take (c.loop-at.at + n) chunk) =
    ap (λ (t : Tracer). t.place) traced.tracer ∙ place_dialect d w c.args.tracer.now c.args.decoder.now
    (take (c.loop-at.at + n) chunk) in
    let len = length-take (c.loop-at.at + n) chunk in
    record {
      within = omega (arith, inside);
      one_size = made.one_size;
      size = made.size ∙ was.size;
      traced = traced;
      place = omega (arith, place, len, inside);
      reports_bounded = omega (arith, was.reports_bounded, made.reports_bounded);
      bounded = omega (arith, was.bounded, made.bounded);
      reports_capacity = omega (arith, was.reports_capacity, made.reports_capacity);
      capacity = omega (arith, was.capacity, made.capacity);
    }
