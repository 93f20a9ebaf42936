use Rattle.std.proofs.Common.{rules, ◌≡◌, ◌≤◌, ◌<◌, length, get_or, arith}
use Rattle.std.specs.VecDeque.{deque_len}
use Rattle.vt_replay.specs.Sized.{room_of}
use Rattle.vt_replay.proofs.Resizing.{one_more_fits, all_fit}
use Rattle.vt_replay.proofs.resized.ResizedPlaying.most.Goals as goal

pub loop-i-preserved : goal.loop-i-preserved
loop-i-preserved g c =
    let size : deque_len c.args.self.now.later ≡ length c.args.self.now.later.items = search rules in
    let there : c.loop-i.i < length c.args.self.now.later.items = omega (arith, size, c.len.ensures, c.loop-i-test.true) in
    let is : c.room_of.result ≡ room_of c.args.ending (g.P.Player.screen (get_or c.args.self.now.later.items c.loop-i.i c.index.result.now).target) =
    search rules in
    record {
      within = omega (arith, there);
      fits =
          one_more_fits c.args.self.now.later.items (λ l. l.after) (λ l. g.P.Player.screen l.target) (λ s. room_of c.args.ending s) _ c.loop-i.i
          c.loop-i.most _ c.room_of.result c.index.result.now there is c.max-most.ensures c.loop-i.invariant.fits;
    }

pub returns : goal.returns
returns g c =
    let size : deque_len c.args.self.now.later ≡ length c.args.self.now.later.items = search rules in
    let end : length c.args.self.now.later.items ≤ c.loop-i.i = omega (arith, size, c.len.ensures, c.loop-i-test.false) in
    all_fit c.args.self.now.later.items (λ l. l.after) (λ l. g.P.Player.screen l.target) (λ s. room_of c.args.ending s) _ c.loop-i.i c.loop-i.most end
    c.loop-i.invariant.fits
