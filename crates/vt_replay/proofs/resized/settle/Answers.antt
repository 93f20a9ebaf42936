use Rattle.std.proofs.Common.{◌∙◌, Bool, not, sym, ap}
use Rattle.vt_replay.proofs.Resizing.{carried_out, carried_out_kept, sizes_then, fewer}
use Rattle.vt_replay.proofs.resized.settle.Goals as goal

pub loop-player-preserved : goal.loop-player-preserved
loop-player-preserved g c =
    let comes = sym c.is_now.ensures ∙ ap (λ (b : Bool). not b) c.loop-player-test.true in
    record {
      on = λ bytes. c.loop-player.invariant.on bytes
          ∙ carried_out c.loop-player.later.items (λ l. l.after) (λ l. g.P.Player.screen l.target) g.P.Player.session _ _ _ c.loop-player.left _ _
          bytes comes c.sized.ensures.state c.sized.ensures.kept c.change.ensures.kept c.change.ensures.rest c.bytes_before.ensures;
      kept = λ bytes. c.loop-player.invariant.kept bytes
          ∙ carried_out_kept c.loop-player.later.items (λ l. l.after) (λ l. g.P.Player.screen l.target) g.P.Player.session _ _ c.loop-player.left _ _
          bytes comes c.sized.ensures.kept c.change.ensures.kept c.change.ensures.rest c.bytes_before.ensures;
      sizes = λ holds all.
          sizes_then c.loop-player.later.items (λ l. l.after) (λ l. g.P.Player.screen l.target) holds _ _ c.loop-player.left _ comes
          c.change.ensures.screen c.change.ensures.rest (c.loop-player.invariant.sizes holds all);
    }

pub loop-player-smaller : goal.loop-player-smaller
loop-player-smaller g c =
    fewer c.loop-player.later.items _ c.loop-player.left (sym c.is_now.ensures ∙ ap (λ (b : Bool). not b) c.loop-player-test.true) c.change.ensures.rest

pub returns-clause-settled : goal.returns-clause-settled
returns-clause-settled g c = sym c.is_now.ensures ∙ ap (λ (b : Bool). not b) c.loop-player-test.false
