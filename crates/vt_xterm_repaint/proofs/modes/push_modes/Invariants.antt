use Rattle.std.proofs.Common.{◌≡◌, ◌+◌, ◌*◌, ◌≤◌, ◌++◌, false, take, vec_len, vec_capacity}
use Rattle.std.specs.List.{flat_map}
use Rattle.vt_syntax.specs.Spelling.{spell_events}
use Rattle.vt_paint.specs.Controls.{mode_rows}
use Rattle.vt_paint.specs.Items.{row_item}
use Rattle.vt_xterm_repaint.proofs.modes.push_modes.Given as goal

abbrev pub invariant-loop-i : goal.invariant-loop-i
invariant-loop-i l = record {
  items : l.out.items ≡ l.fn.out.items ++ spell_events (flat_map (row_item false l.fn.m) (take l.i mode_rows));
  bounded : vec_len l.out ≤ vec_len l.fn.out + 6 * l.i;
  capacity : vec_capacity l.fn.out ≤ vec_capacity l.out;
}
