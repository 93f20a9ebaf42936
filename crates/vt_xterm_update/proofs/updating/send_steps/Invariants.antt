use Rattle.std.proofs.Common.{◌≡◌, ◌+◌, ◌≤◌, vec_len, vec_capacity}
use Rattle.vt_xterm_repaint.specs.Limits.{repaint_limit}
use Rattle.vt_xterm_update.specs.Updates.{Updates}
use Rattle.vt_xterm_update.proofs.updating.send_steps.Given as goal

abbrev pub invariant-loop : goal.invariant-loop
invariant-loop l = record {
  led : Updates l.initial.shown l.shown l.initial.out.items l.out.items;
  size : l.shown.screen.shown.grid.size ≡ l.initial.shown.screen.shown.grid.size;
  limit : l.limit ≡ repaint_limit l.to.screen.shown.grid.size;
  end : l.end ≡ vec_len l.initial.out + l.limit;
  room : l.end + 640 ≤ vec_capacity l.initial.out;
  bounded : vec_len l.out ≤ l.end;
  capacity : vec_capacity l.initial.out ≤ vec_capacity l.out;
}
