use Rattle.std.proofs.Common.{◌∙◌, refl, subst, arith, length-drop}
use Rattle.vt_screen.specs.declared.size.Size.{Size}
use Rattle.vt220_c.proofs.Pieces.{rest-of}
use Rattle.vt220_c.proofs.Turns.{plays-nothing, plays-turn}
use Rattle.vt220_c.proofs.playing.play.Goals as goal

pub loop-done-init : goal.loop-done-init
loop-done-init g c = record {
  within = omega arith;
  fed = plays-nothing g.P.Player.told c.cuts.ensures c.args.logs c.args.counts c.args.inner.now c.args.player.now
      c.args.out.now c.args.lines.now (rw c.inner.view_is at c.soundness.ensures);
  fits = omega arith;
  few = omega arith;
  size = refl;
  kept = c.requires.kept_fits;
  capacity = omega arith;
}

pub loop-done-preserved : goal.loop-done-preserved
loop-done-preserved g c =
    let piece = c.args.piece.now in
    let rest = rest-of piece c.loop-done.done.taken in
    let turn = rw rest at c.next_turn-turn.ensures in
    let sent = rw rest at c.any_turn-sent.ensures in
    let inside = simp length-drop at turn.within in
    let before = c.loop-done.invariant in
    let taken = c.loop-done.done.taken in
    let n = c.any_turn-sent.result.taken in
    record {
      within = omega (arith, inside, sent.within);
      fed = plays-turn g.P.Player.told c.cuts.ensures c.args.logs c.args.counts c.args.inner.now c.loop-done.inner
          c.any_turn-sent.new.inner c.args.player.now c.loop-done.player c.any_turn-sent.new.player piece taken n
          c.args.out.now c.loop-done.out c.any_turn-sent.new.out c.args.lines.now c.loop-done.lines
          c.any_turn-sent.new.lines _ _ _ _ _ _ (rw c.inner.view_is at c.soundness.ensures) before.fed (record {
            state = sent.state;
            kept = sent.kept;
            sent = sent.sent;
            off = sent.off;
            rings = turn.rings n sent.some sent.within;
          });
      fits = omega (arith, sent.fits, c.loop-done.auto.out);
      few = omega (arith, before.few, turn.few, sent.some);
      size = sent.size ∙ before.size;
      kept = subst (λ (z : Size). g.P.Player.Fits z c.any_turn-sent.new.player) before.size sent.kept_fits;
      capacity = omega (arith, before.capacity, sent.capacity);
    }
