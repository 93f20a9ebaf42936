use Rattle.std.proofs.Common.{◌≡◌, ℕ, List, Bool, true, length}
use Rattle.std.specs.List.{list_all}
use Rattle.vt_screen.specs.declared.size.Size.{Size}
use Rattle.vt_replay.specs.Resizes.{played_on, kept_on, due, coming, sizes_of}
use Rattle.vt_replay.proofs.resized.settle.Given as goal

abbrev pub invariant-loop-player : goal.invariant-loop-player
invariant-loop-player g l = record {
  on : (bytes : List ℕ)
      → played_on g.P.Player.session (g.P.Player.kept l.initial.player) (due l.initial.left (coming l.initial.later.items (λ x. x.after) (λ x. g.P.Player.screen x.target))) bytes
      ≡ played_on g.P.Player.session (g.P.Player.kept l.player) (due l.left (coming l.later.items (λ x. x.after) (λ x. g.P.Player.screen x.target))) bytes;
  kept : (bytes : List ℕ)
      → kept_on g.P.Player.session (g.P.Player.kept l.initial.player) (due l.initial.left (coming l.initial.later.items (λ x. x.after) (λ x. g.P.Player.screen x.target))) bytes
      ≡ kept_on g.P.Player.session (g.P.Player.kept l.player) (due l.left (coming l.later.items (λ x. x.after) (λ x. g.P.Player.screen x.target))) bytes;
  sizes : (holds : Size → Bool)
      → list_all holds (sizes_of (g.P.Player.screen l.initial.player) (coming l.initial.later.items (λ x. x.after) (λ x. g.P.Player.screen x.target))) ≡ true
      → list_all holds (sizes_of (g.P.Player.screen l.player) (coming l.later.items (λ x. x.after) (λ x. g.P.Player.screen x.target))) ≡ true;
}

abbrev pub decreases-loop-player : goal.decreases-loop-player
decreases-loop-player g l = length l.later.items
