use Rattle.std.proofs.Common.{◌≡◌, length, vec_len, vec_capacity, ◌+◌, ◌-◌, ◌*◌, ◌≤◌, ◌<◌, arith, ap, subst, ◌∙◌, ◌++◌, append-nil, ℕ, List, take, drop, length-drop}
use Rattle.std.proofs.lemmas.List.{length-take-le}
use Rattle.std.proofs.lemmas.Nat.{mul-le}
use Rattle.vt_screen.specs.declared.size.Size.{Size}
use Rattle.vt_term.specs.State.{State}
use Rattle.vt_term.specs.Play.{play}
use Rattle.vt_term.specs.Text.{row_text_limit}
use Rattle.vt_term.proofs.Scrolled.{all-fit}
use Rattle.vt_term.proofs.SizeKept.{play_kept}
use Rattle.vt_term.specs.Scrolling.{log}
use Rattle.vt_utf8.proofs.Silence.{part-silent, state-more, log-more, all-of}
use Rattle.vt_utf8.proofs.feeding.feed_silently_log.Goals as goal

-- a part of the bytes has capacity for a line for each byte, after those of the bytes before it
part-room : (limit at n count len now capacity : ℕ) → at + n ≤ count → now ≤ len + limit * at
    → len + limit * count ≤ capacity → now + n * limit ≤ capacity
part-room limit at n count len now capacity within bounded room =
    let few : (at + n) * limit ≤ count * limit = mul-le (at + n) limit count limit within (omega arith) in
    omega (arith, few, bounded, room)

more-bounded : (limit at n len now after : ℕ) → now ≤ len + limit * at → after ≤ now + limit * n
    → after ≤ len + limit * (at + n)
more-bounded limit at n len now after first second = omega (arith, first, second)

pub loop-at-preserved : goal.loop-at-preserved
loop-at-preserved c =
    let at = c.loop-at.at in
    let n = c.min-count.result in
    let piece = take n (drop at c.args.bytes.now) in
    let t = c.loop-at.terminal in
    let fed = c.feed_log_reserved in
    let part : at + n - at ≡ n = omega arith in
    let long : n ≤ length (drop at c.args.bytes.now) = simp length-drop (omega arith) in
    let len : length piece ≡ n = length-take-le n (drop at c.args.bytes.now) long in
    let within : fed.result ≤ length piece = rw part at fed.ensures.within in
    let limit : ℕ = row_text_limit c.args.terminal.now.display.grid.size in
    let same_size : t.display.grid.size ≡ c.args.terminal.now.display.grid.size =
    ap (λ (u : State). u.display.grid.size) c.loop-at.invariant.state ∙ play_kept c.args.terminal.now (take at c.args.bytes.now) in
    let lines_bounded : vec_len fed.new.lines ≤ vec_len c.loop-at.lines + limit * fed.result =
    subst (λ (z : Size). vec_len fed.new.lines ≤ vec_len c.loop-at.lines + row_text_limit z * fed.result) same_size
    fed.ensures.lines_bounded in
    let early : fed.result < length piece → vec_capacity fed.new.lines < vec_len fed.new.lines + limit =
    subst (λ (z : Size). fed.result < length piece → vec_capacity fed.new.lines < vec_len fed.new.lines + row_text_limit z) same_size
    (rw part at fed.ensures.all) in
    let room : vec_len c.loop-at.lines + n * limit ≤ vec_capacity fed.new.lines =
    part-room limit at n (length c.args.bytes.now) (vec_len c.args.lines.now) (vec_len c.loop-at.lines)
    (vec_capacity fed.new.lines) (omega arith) c.loop-at.invariant.bounded
    (omega (arith, c.requires.lines_room, c.loop-at.invariant.lines_capacity, fed.ensures.lines_capacity)) in
    let is : fed.result ≡ n =
    all-fit (length piece) fed.result limit (vec_len c.loop-at.lines) (vec_len fed.new.lines) (vec_capacity fed.new.lines)
    within (rw len room) lines_bounded early ∙ len in
    let whole : take fed.result piece ≡ piece = all-of piece fed.result (omega (arith, is, len)) in
    let two = c.sized_cuts.ensures.two in
    let state : fed.new.self ≡ (play t piece).state =
    rw part at fed.ensures.state ∙ ap (λ (xs : List ℕ). (play t xs).state) whole in
    let reports : fed.new.reports.items ≡ c.loop-at.out.items ++ (play t piece).reports =
    rw part at fed.ensures.reports ∙ ap (λ (xs : List ℕ). c.loop-at.out.items ++ (play t xs).reports) whole in
    let lines : fed.new.lines.items ≡ c.loop-at.lines.items ++ log t piece =
    rw part at fed.ensures.lines ∙ ap (λ (xs : List ℕ). c.loop-at.lines.items ++ log t xs) whole in
    let items : fed.new.reports.items ≡ c.loop-at.out.items =
    reports ∙ ap (λ (r : List ℕ). c.loop-at.out.items ++ r)
    (part-silent two c.args.terminal.now t c.args.bytes.now at n c.requires.silent c.loop-at.invariant.state)
    ∙ append-nil c.loop-at.out.items in
    let same : length fed.new.reports.items ≡ length c.loop-at.out.items = ap (λ (xs : List ℕ). length xs) items in
    let same_len : vec_len fed.new.reports ≡ vec_len c.loop-at.out =
    omega (arith, same, fed.new.reports.ok, c.loop-at.out.ok) in
    record {
      within = omega arith;
      some = c.loop-at.invariant.some;
      room = omega (arith, same_len, c.loop-at.invariant.room, fed.ensures.reports_capacity);
      state = state-more two c.args.terminal.now t fed.new.self c.args.bytes.now at n c.loop-at.invariant.state state;
      items = items ∙ c.loop-at.invariant.items;
      capacity = omega arith;
      lines = log-more c.sized_log_cuts.ensures.two c.args.terminal.now t c.args.bytes.now at n c.args.lines.now.items
          c.loop-at.lines.items fed.new.lines.items c.loop-at.invariant.state c.loop-at.invariant.lines lines;
      bounded = more-bounded limit at n (vec_len c.args.lines.now) (vec_len c.loop-at.lines) (vec_len fed.new.lines)
          c.loop-at.invariant.bounded (rw is at lines_bounded);
      lines_capacity = omega (arith, fed.ensures.lines_capacity, c.loop-at.invariant.lines_capacity);
    }
