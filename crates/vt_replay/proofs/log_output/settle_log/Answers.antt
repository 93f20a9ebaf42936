use Rattle.std.proofs.Common.{◌≡◌, ◌∙◌, Bool, true, false, not, sym, ap, arith}
use Rattle.vt_replay.specs.Resizes.{is_settled}
use Rattle.vt_replay.proofs.Resizing.{carried_out, fewer}
use Rattle.vt_replay.proofs.LogResizing.{carried_out_logged, unsettled}
use Rattle.vt_replay.proofs.log_output.settle_log.Goals as goal

pub change_log-requires : goal.change_log-requires
change_log-requires g c =
    let comes : is_settled c.loop-player.left c.loop-player.later.items ≡ false = sym c.is_now.ensures ∙ ap (λ (b : Bool). not b) c.loop-player-test.true in
    let room = c.requires (unsettled (is_settled c.args.left.now c.args.later.now.items) _ c.loop-player.invariant.stays comes) in
    omega (arith, room, c.loop-player.invariant.bounded, c.loop-player.invariant.capacity)

pub loop-player-preserved : goal.loop-player-preserved
loop-player-preserved g c =
    let comes : is_settled c.loop-player.left c.loop-player.later.items ≡ false = sym c.is_now.ensures ∙ ap (λ (b : Bool). not b) c.loop-player-test.true in
    record {
      on = λ bytes. c.loop-player.invariant.on bytes
          ∙ carried_out c.loop-player.later.items (λ l. l.after) (λ l. g.P.Player.screen l.target) g.P.Player.session _ _ _ c.loop-player.left _ _
          bytes comes c.sized.ensures.state c.sized.ensures.kept c.change_log.ensures.kept c.change_log.ensures.rest c.bytes_before.ensures;
      lines = λ bytes. c.loop-player.invariant.lines bytes
          ∙ carried_out_logged c.loop-player.later.items (λ l. l.after) (λ l. g.P.Player.screen l.target) g.P.Player.session _ _ _ _
          c.loop-player.left _ _ bytes comes c.rows.ensures.none c.sized.ensures.kept c.change_log.ensures.kept c.change_log.ensures.lines
          c.change_log.ensures.rest c.bytes_before.ensures;
      bounded = omega (arith, c.change_log.ensures.bounded, c.loop-player.invariant.bounded);
      capacity = omega (arith, c.change_log.ensures.capacity, c.loop-player.invariant.capacity);
      stays = λ settled.
          let bad : true ≡ false = sym (c.loop-player.invariant.stays settled) ∙ comes in
          absurd (cc bad);
    }

pub loop-player-smaller : goal.loop-player-smaller
loop-player-smaller g c =
    fewer c.loop-player.later.items _ c.loop-player.left (sym c.is_now.ensures ∙ ap (λ (b : Bool). not b) c.loop-player-test.true)
    c.change_log.ensures.rest

pub returns-clause-settled : goal.returns-clause-settled
returns-clause-settled g c = sym c.is_now.ensures ∙ ap (λ (b : Bool). not b) c.loop-player-test.false
