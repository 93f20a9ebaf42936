use Rattle.std.proofs.Common.{◌≡◌, length, vec_len, ◌+◌, ◌-◌, arith, ap, ◌∙◌, ◌++◌, append-nil, ℕ, List}
use Rattle.vt_utf8.proofs.Silence.{part-silent, state-more}
use Rattle.vt_utf8.proofs.feeding.feed_silently.Goals as goal

pub loop-at-preserved : goal.loop-at-preserved
loop-at-preserved c =
    let at = c.loop-at.at in
    let n = c.min-count.result in
    let part : at + n - at ≡ n = omega arith in
    let two = c.sized_cuts.ensures.two in
    let state = rw part at c.feed_reserved.ensures.state in
    let reports = rw part at c.feed_reserved.ensures.reports in
    let items : c.feed_reserved.new.out.items ≡ c.loop-at.out.items =
    reports ∙ ap (λ (r : List ℕ). c.loop-at.out.items ++ r)
    (part-silent two c.args.terminal.now c.loop-at.terminal c.args.bytes.now at n c.requires.silent
    c.loop-at.invariant.state)
    ∙ append-nil c.loop-at.out.items in
    let same : length c.feed_reserved.new.out.items ≡ length c.loop-at.out.items = ap (λ (xs : List ℕ). length xs) items in
    let same_len : vec_len c.feed_reserved.new.out ≡ vec_len c.loop-at.out =
    omega (arith, same, c.feed_reserved.new.out.ok, c.loop-at.out.ok) in
    record {
      within = omega arith;
      some = c.loop-at.invariant.some;
      room = omega (arith, same_len, c.loop-at.invariant.room, c.feed_reserved.ensures.capacity);
      state = state-more two c.args.terminal.now c.loop-at.terminal c.feed_reserved.new.self c.args.bytes.now at n
          c.loop-at.invariant.state state;
      items = items ∙ c.loop-at.invariant.items;
      capacity = omega arith;
    }
