use Rattle.vt220_c.proofs.Turns.{one-rings, none-rings}
use Rattle.vt220_c.proofs.playing.next_turn.Goals as goal

pub returns-then-counts-clause-rings : goal.returns-then-counts-clause-rings
returns-then-counts-clause-rings g c =
    rw c.if-counts.true (one-rings g.P.Player.told c.args.inner.now c.args.player.now c.args.piece.now c.rings.result
    c.requires (rw c.inner.view_is at c.rings.ensures.bells))

pub returns-else-counts-clause-rings : goal.returns-else-counts-clause-rings
returns-else-counts-clause-rings g c =
    rw c.if-counts.false (λ n one within. none-rings g.P.Player.told c.args.inner.now c.args.player.now c.args.piece.now n)
