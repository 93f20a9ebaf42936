use Rattle.std.proofs.Common.{◌≡◌, ◌∙◌, ◌<◌, ◌≤◌, Bool, true, false, not, sym, ap, arith, length}
use Rattle.vt_replay.specs.Resizes.{is_settled}
use Rattle.vt_replay.specs.Traces.{traced}
use Rattle.vt_replay.proofs.Resizing.{carried_out_kept, fewer}
use Rattle.vt_replay.proofs.LogResizing.{carried_out_logged, unsettled}
use Rattle.vt_replay.proofs.TraceResizing.{some_later, kept_with, changed}
use Rattle.vt_replay.proofs.trace_output.settle_trace.Goals as goal

pub change_trace-requires : goal.change_trace-requires
change_trace-requires g c =
    let comes : is_settled c.loop-player.left c.loop-player.later.items ≡ false = sym c.is_now.ensures ∙ ap (λ (b : Bool). not b) c.loop-player-test.true in
    let room = c.requires (unsettled (is_settled c.args.left.now c.args.later.now.items) _ c.loop-player.invariant.stays comes) in
    let some : 1 ≤ length c.loop-player.later.items = some_later c.loop-player.later.items c.loop-player.left comes in
    omega (arith, room, some, c.loop-player.invariant.bounded, c.loop-player.invariant.capacity)

pub loop-player-preserved : goal.loop-player-preserved
loop-player-preserved g c =
    let comes : is_settled c.loop-player.left c.loop-player.later.items ≡ false = sym c.is_now.ensures ∙ ap (λ (b : Bool). not b) c.loop-player-test.true in
    let less : length c.change_trace.new.later.items < length c.loop-player.later.items =
    fewer c.loop-player.later.items _ c.loop-player.left comes c.change_trace.ensures.rest in
    let same = kept_with _ _ _ _ c.sized.ensures.kept (c.no_trace.ensures.stays c.loop-player.tracer) in
    let on = changed g.P.Player.session c.loop-player.later.items (λ l. g.P.Player.screen l.target) (g.P.Player.kept c.loop-player.player)
    (g.P.Player.kept c.change_trace.new.player) c.loop-player.tracer c.change_trace.new.tracer c.change_trace.ensures.kept
    c.change_trace.ensures.tracer in
    record {
      kept = λ bytes. c.loop-player.invariant.kept bytes
          ∙ carried_out_kept c.loop-player.later.items (λ l. l.after) (λ l. g.P.Player.screen l.target) (traced g.P.Player.session) _ _ c.loop-player.left _ _
          bytes comes same on c.change_trace.ensures.rest c.bytes_before.ensures;
      lines = λ bytes. c.loop-player.invariant.lines bytes
          ∙ carried_out_logged c.loop-player.later.items (λ l. l.after) (λ l. g.P.Player.screen l.target) (traced g.P.Player.session) _ _ _ _
          c.loop-player.left _ _ bytes comes (c.no_trace.ensures.none c.loop-player.tracer) same on c.change_trace.ensures.lines
          c.change_trace.ensures.rest c.bytes_before.ensures;
      place = c.change_trace.ensures.place ∙ c.loop-player.invariant.place;
      fewer = omega (arith, less, c.loop-player.invariant.fewer);
      bounded = omega (arith, less, c.change_trace.ensures.bounded, c.loop-player.invariant.bounded);
      capacity = omega (arith, c.change_trace.ensures.capacity, c.loop-player.invariant.capacity);
      stays = λ settled.
          let bad : true ≡ false = sym (c.loop-player.invariant.stays settled) ∙ comes in
          absurd (cc bad);
    }

pub loop-player-smaller : goal.loop-player-smaller
loop-player-smaller g c =
    fewer c.loop-player.later.items _ c.loop-player.left (sym c.is_now.ensures ∙ ap (λ (b : Bool). not b) c.loop-player-test.true)
    c.change_trace.ensures.rest

pub returns-clause-settled : goal.returns-clause-settled
returns-clause-settled g c = sym c.is_now.ensures ∙ ap (λ (b : Bool). not b) c.loop-player-test.false
