use Rattle.std.proofs.Common.{◌≡◌, ◌+◌, ◌*◌, ◌≤◌, ◌++◌, ℕ, List, true, length, vec_len, vec_capacity}
use Rattle.vt_replay.specs.Log.{lines_on}
use Rattle.vt_replay.specs.Resizes.{played_on, due, coming, is_settled}
use Rattle.vt_replay.proofs.log_output.settle_log.Given as goal

abbrev pub invariant-loop-player : goal.invariant-loop-player
invariant-loop-player g l = record {
  on : (bytes : List ℕ)
      → played_on g.P.Player.session (g.P.Player.kept l.initial.player) (due l.initial.left (coming l.initial.later.items (λ x. x.after) (λ x. g.P.Player.screen x.target))) bytes
      ≡ played_on g.P.Player.session (g.P.Player.kept l.player) (due l.left (coming l.later.items (λ x. x.after) (λ x. g.P.Player.screen x.target))) bytes;
  lines : (bytes : List ℕ)
      → l.initial.lines.items ++ lines_on g.P.Player.session (g.P.Player.kept l.initial.player) (due l.initial.left (coming l.initial.later.items (λ x. x.after) (λ x. g.P.Player.screen x.target))) bytes
      ≡ l.lines.items ++ lines_on g.P.Player.session (g.P.Player.kept l.player) (due l.left (coming l.later.items (λ x. x.after) (λ x. g.P.Player.screen x.target))) bytes;
  bounded : vec_len l.lines + 766 * g.P.LogPlayer.line l.player ≤ vec_len l.initial.lines + 766 * g.P.LogPlayer.line l.initial.player;
  capacity : vec_capacity l.initial.lines ≤ vec_capacity l.lines;
  stays : is_settled l.initial.left l.initial.later.items ≡ true → is_settled l.left l.later.items ≡ true;
}

abbrev pub decreases-loop-player : goal.decreases-loop-player
decreases-loop-player g l = length l.later.items
