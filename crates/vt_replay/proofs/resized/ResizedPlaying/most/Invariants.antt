use Rattle.std.proofs.Common.{◌≡◌, ◌-◌, ◌≤◌, ◌∷◌, length, take, map, true, nat_le}
use Rattle.std.specs.List.{list_all}
use Rattle.vt_replay.specs.Sized.{room_of}
use Rattle.vt_replay.proofs.resized.ResizedPlaying.most.Given as goal

abbrev pub invariant-loop-i : goal.invariant-loop-i
invariant-loop-i g l = record {
  within : l.i ≤ length l.self.later.items;
  fits : list_all (λ size. nat_le (room_of l.ending size) l.most)
      (g.P.Player.screen l.self.player ∷ map (λ x. g.P.Player.screen x.target) (take l.i l.self.later.items)) ≡ true;
}

abbrev pub decreases-loop-i : goal.decreases-loop-i
decreases-loop-i g l = length l.self.later.items - l.i
