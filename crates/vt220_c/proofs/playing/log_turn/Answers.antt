use Rattle.std.proofs.lemmas.Grind.{common_steps}
use Rattle.std.proofs.Common.{◌≡◌, ◌≤◌, ◌-◌, length, take, vec_len, vec_capacity, arith}
use Rattle.std.proofs.lemmas.List.{length-take-le}
use Rattle.vt220_c.proofs.Turns.{none-off, some-taken}
use Rattle.vt220_c.proofs.playing.log_turn.Goals as goal

pub returns-clause-some : goal.returns-clause-some
returns-clause-some g c =
    let fed = c.feed_log-taken in
    let k = c.min.result in
    let piece = take k c.args.piece.now in
    let few : k ≤ length c.args.piece.now = omega arith in
    let len : length piece ≡ k = length-take-le k c.args.piece.now few in
    let one : 1 ≤ k = omega arith in
    let none : fed.result ≡ 0 → vec_len fed.new.lines ≡ 0 = λ zero.
    let empty : length fed.new.lines.items ≡ 0 = none-off g.P.Player.told c.cuts.ensures c.inner.inside.terminal
    c.args.player.now piece c.clear-2.new.self.items fed.new.lines.items fed.result c.soundness.ensures zero
    c.clear-2.ensures.items fed.ensures.lines in
    omega (arith, empty, fed.new.lines.ok) in
    let enough : g.P.Player.room c.args.inner.now.display.grid.size ≤ vec_capacity c.clear-2.new.self =
    omega (arith, c.clear-2.ensures.capacity, c.requires.capacity) in
    let free : g.P.Player.room c.args.inner.now.display.grid.size ≤ length c.args.lines.now - c.args.lines_written = omega (arith, c.requires.lines_room) in
    some-taken fed.result (length piece) (vec_capacity c.clear-2.new.self) (vec_capacity fed.new.lines)
    (vec_len c.clear-2.new.self) (vec_len fed.new.lines) (length c.args.lines.now - c.args.lines_written) (g.P.Player.room c.args.inner.now.display.grid.size)
    (rw c.inner.view_is at fed.ensures.all) none (omega (arith, len, one)) enough fed.ensures.lines_capacity free

pub overflow_sub-out : goal.overflow_sub-out
overflow_sub-out g c = grind (arith, common_steps)

pub slice_bounds-feed_log-end : goal.slice_bounds-feed_log-end
slice_bounds-feed_log-end g c = grind (arith, common_steps)

pub overflow_sub-lines : goal.overflow_sub-lines
overflow_sub-lines g c = grind (arith, common_steps)

pub invariant_of-inner : goal.invariant_of-inner
invariant_of-inner g c = grind (arith, common_steps)

pub returns-clause-within : goal.returns-clause-within
returns-clause-within g c = grind (arith, common_steps)

pub returns-clause-state : goal.returns-clause-state
returns-clause-state g c = grind (arith, common_steps)

pub returns-clause-kept : goal.returns-clause-kept
returns-clause-kept g c = grind (arith, common_steps)

pub returns-clause-sent : goal.returns-clause-sent
returns-clause-sent g c = grind (arith, common_steps)

pub returns-clause-off : goal.returns-clause-off
returns-clause-off g c = grind (arith, common_steps)

pub returns-clause-fits : goal.returns-clause-fits
returns-clause-fits g c = grind (arith, common_steps)

pub returns-clause-capacity : goal.returns-clause-capacity
returns-clause-capacity g c = grind (arith, common_steps)
