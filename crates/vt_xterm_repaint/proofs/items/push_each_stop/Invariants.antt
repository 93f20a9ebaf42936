use Rattle.std.proofs.Common.{◌≡◌, ◌+◌, ◌*◌, ◌≤◌, ◌++◌, vec_len, vec_capacity}
use Rattle.std.specs.List.{flat_map, range_with_len}
use Rattle.vt_feed.specs.Spelled.{spell}
use Rattle.vt_xterm_repaint.specs.Items.{stop_item}
use Rattle.vt_xterm_repaint.proofs.items.push_each_stop.Given as goal

abbrev pub invariant-loop-i : goal.invariant-loop-i
invariant-loop-i l = record {
  items : l.out.items ≡ l.fn.out.items ++ spell (flat_map (stop_item l.stops) (range_with_len 1 l.i));
  bounded : vec_len l.out ≤ vec_len l.fn.out + 10 * l.i;
  capacity : vec_capacity l.fn.out ≤ vec_capacity l.out;
}
