use Rattle.vt220_c.proofs.Rung.{none-rang}
use Rattle.vt220_c.proofs.bells.BellsObserver.part.Goals as goal

pub returns : goal.returns
returns c = λ s sound none.
    let bytes = c.args.bytes.now in
    none-rang s bytes c.args.self.now.count (c.sized_happened.ensures.events s.display.grid.size s bytes sound) (c.sized_happened.ensures.count s bytes) none
