use Rattle.vt220_c.proofs.Rung.{run-rang}
use Rattle.vt220_c.proofs.bells.BellsObserver.run.Goals as goal

pub returns : goal.returns
returns c = λ s sound same between.
    let bytes = c.args.bytes.now in
    run-rang c.spelled.ensures s bytes c.args.self.now.count (c.sized_happened.ensures.events s.display.grid.size s bytes sound)
    (c.sized_happened.ensures.count s bytes) between c.requires.graphic
