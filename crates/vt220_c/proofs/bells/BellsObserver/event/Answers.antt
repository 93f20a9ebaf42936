use Rattle.std.proofs.Common.{refl}
use Rattle.vt_syntax.specs.Event.{event_of}
use Rattle.vt220_c.proofs.Rung.{one-rang}
use Rattle.vt220_c.proofs.bells.BellsObserver.event.Goals as goal

pub returns : goal.returns
returns c = λ s sound same is last.
    let bytes = c.args.bytes.now in
    one-rang s bytes (event_of c.args.kind c.args.values.now) c.args.self.now.count _ c.rung_by.result
    (c.sized_happened.ensures.events s.display.grid.size s bytes sound) (c.sized_happened.ensures.count s bytes) c.requires.some is
    (c.rung_by.ensures.bells c.args.values.now) c.rung_by.ensures.few refl
