use Rattle.std.proofs.Common.{refl, arith}
use Rattle.vt_term.proofs.Happened.{length-happenings}
use Rattle.vt_trace.proofs.Runs.{run_told}
use Rattle.vt_trace.proofs.Happened.{told-traced, first-follows}
use Rattle.vt_trace.proofs.observer.TracingObserver.run.Goals as goal

pub returns : goal.returns
returns g c = λ s sound same nothing.
    let o = c.args.self.now in
    let bytes = c.args.bytes.now in
    let count = length-happenings s bytes in (
      refl,
      refl,
      λ follow.
          let is = first-follows s o.parser bytes c.requires.some follow in
          rw c.pass.ensures (told-traced c.one_split.ensures g.N.Naming.names s o.parser o.parser o.tracer.now _ bytes o.out.now.items
          c.push_run.new.out.items sound.held is
          (run_told c.spelled.ensures c.one_split.ensures g.N.Naming.names s o.parser o.tracer.now bytes o.out.now.items
          c.push_text_begin.new.out.items c.push_run.new.out.items c.requires.some c.requires.graphic nothing
          c.push_text_begin.ensures.items c.push_run.ensures.items is)),
      record {
        place = rw c.pass.ensures (omega (arith, count, c.requires.some));
        bounded = omega (arith, count, c.requires.some, c.push_text_begin.ensures.bounded, c.push_run.ensures.bounded);
        capacity_stays = omega (arith, c.push_text_begin.ensures.capacity, c.push_run.ensures.capacity);
      },
    )
