-- What the rest still gives is what all of them give.
use Rattle.std.proofs.Common.{◌≡◌, ◌-◌}
use Rattle.vt_xterm.specs.Sides.{AreSides}
use Rattle.vt_xterm.specs.Pages.{screens}
use Rattle.vt_xterm.specs.Bounded.{writing_times}
use Rattle.vt_xterm.proofs.bounded.write_times.Given as goal

abbrev pub invariant-loop : goal.invariant-loop
invariant-loop l = record {
  rest : writing_times (l.n - l.counter) l.glyph l.after (screens l.terminal l.pages)
      ≡ writing_times l.n l.glyph l.fn.sides (screens l.initial.terminal l.initial.pages);
  held : l.terminal.held ≡ l.initial.terminal.held;
  fits : AreSides l.terminal.display.grid.width l.after;
}
