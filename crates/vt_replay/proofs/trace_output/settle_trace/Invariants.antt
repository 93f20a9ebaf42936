use Rattle.std.proofs.Common.{◌≡◌, ◌+◌, ◌*◌, ◌≤◌, ◌++◌, ℕ, List, true, length, vec_len, vec_capacity}
use Rattle.vt_replay.specs.Log.{lines_on}
use Rattle.vt_replay.specs.Resizes.{kept_on, due, coming, is_settled}
use Rattle.vt_replay.specs.Traces.{traced}
use Rattle.vt_replay.proofs.trace_output.settle_trace.Given as goal

abbrev pub invariant-loop-player : goal.invariant-loop-player
invariant-loop-player g l = record {
  kept : (bytes : List ℕ)
      → kept_on (traced g.P.Player.session) (record { kept = g.P.Player.kept l.initial.player; tracer = l.initial.tracer }) (due l.initial.left (coming l.initial.later.items (λ x. x.after) (λ x. g.P.Player.screen x.target))) bytes
      ≡ kept_on (traced g.P.Player.session) (record { kept = g.P.Player.kept l.player; tracer = l.tracer }) (due l.left (coming l.later.items (λ x. x.after) (λ x. g.P.Player.screen x.target))) bytes;
  lines : (bytes : List ℕ)
      → l.initial.out.items ++ lines_on (traced g.P.Player.session) (record { kept = g.P.Player.kept l.initial.player; tracer = l.initial.tracer }) (due l.initial.left (coming l.initial.later.items (λ x. x.after) (λ x. g.P.Player.screen x.target))) bytes
      ≡ l.out.items ++ lines_on (traced g.P.Player.session) (record { kept = g.P.Player.kept l.player; tracer = l.tracer }) (due l.left (coming l.later.items (λ x. x.after) (λ x. g.P.Player.screen x.target))) bytes;
  place : l.tracer.place ≡ l.initial.tracer.place;
  fewer : length l.later.items ≤ length l.initial.later.items;
  bounded : vec_len l.out + 80 * length l.later.items ≤ vec_len l.initial.out + 80 * length l.initial.later.items;
  capacity : vec_capacity l.initial.out ≤ vec_capacity l.out;
  stays : is_settled l.initial.left l.initial.later.items ≡ true → is_settled l.left l.later.items ≡ true;
}

abbrev pub decreases-loop-player : goal.decreases-loop-player
decreases-loop-player g l = length l.later.items
