use Rattle.std.proofs.Common.{refl, arith}
use Rattle.vt_term.proofs.Happened.{length-happenings}
use Rattle.vt_trace.proofs.Happened.{told-part}
use Rattle.vt_trace.proofs.observer.TracingObserver.part.Goals as goal

pub returns : goal.returns
returns g c = λ s sound none.
    let made = c.skip_all.ensures in
    let count = length-happenings s c.args.bytes.now in (
      refl,
      refl,
      λ follow. told-part c.spelled.ensures c.one_split.ensures g.N.Naming.names s c.args.self.now.parser c.skip_all.new.parser
          c.args.self.now.tracer.now c.skip_all.new.tracer c.args.bytes.now c.args.self.now.out.now.items
          c.skip_all.new.out.items sound.held made.held_part none made.read follow,
      record {
        place = omega (arith, count, made.place);
        bounded = omega (arith, count, made.bounded);
        capacity_stays = made.capacity;
      },
    )
