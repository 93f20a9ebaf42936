-- It is written so often as the counter says.
use Rattle.std.proofs.Common.{◌≡◌}
use Rattle.vt_term.specs.Writing.{write_glyph}
use Rattle.vt_xterm.specs.Repeating.{times}
use Rattle.vt_xterm.proofs.repeating.write_times.Given as goal

abbrev pub invariant-loop : goal.invariant-loop
invariant-loop l = l.terminal
    ≡ record l.initial.terminal { display = times l.counter (write_glyph l.glyph) l.initial.terminal.display }
