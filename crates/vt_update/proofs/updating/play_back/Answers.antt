use Rattle.std.proofs.Common.{◌+◌, ◌∙◌, arith, rules, take, drop, ap, sym, subst}
use Rattle.vt_term.specs.State.{State}
use Rattle.vt_term.specs.Sound.{IsSoundAt}
use Rattle.vt_update.proofs.Chunks.{state_more, silent_more}
use Rattle.vt_update.proofs.updating.play_back.Goals as goal
use Rattle.vt_update.proofs.updating.play_back.Goals.{then-play_chunk, else-play_chunk}

pub loop-at-preserved : goal.loop-at-preserved
loop-at-preserved c =
    let two = c.sized_cuts.ensures.two in
    let items = c.args.out.now.items in
    let part = ap (λ xs. take c.min-count.result (drop (c.args.start + c.loop-at.at) xs)) c.loop-at.invariant.items in
    let first = c.loop-at.invariant.silent in
    let second = rw part at c.play_chunk.ensures.silent in
    let more = silent_more two c.args.shown.now c.loop-at.shown items c.args.start c.loop-at.at c.min-count.result
    c.loop-at.invariant.state in
    record {
      within = omega arith;
      some = c.loop-at.invariant.some;
      chunk = c.loop-at.invariant.chunk;
      room = c.loop-at.invariant.room;
      items = c.play_chunk.ensures.items ∙ c.loop-at.invariant.items;
      capacity = omega arith;
      state = state_more two c.args.shown.now c.loop-at.shown c.play_chunk.new.shown items c.args.start c.loop-at.at
          c.min-count.result c.loop-at.invariant.state (rw part at c.play_chunk.ensures.state);
      silent = λ h. elim c.if-play_chunk.branch [
        | then-play_chunk w ↦ more (first (search (rules, h, w.silent-is)))
            (second (search (rules, w.if-play_chunk.true)))
        | else-play_chunk w ↦ search (rules, h, w.silent-is)
      ];
    }

pub returns-clause-sound : goal.returns-clause-sound
returns-clause-sound c size sound =
    let bytes = take c.loop-at.at (drop c.args.start c.args.out.now.items) in
    subst (λ (s : State). IsSoundAt size s) (sym c.loop-at.invariant.state)
    (c.sized_soundness.ensures.play size c.args.shown.now bytes sound)
