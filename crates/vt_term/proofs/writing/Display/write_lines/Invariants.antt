use Rattle.std.proofs.Common.{◌≡◌, ◌-◌, ◌≤◌, length, map, take}
use Rattle.vt_syntax.specs.declared.event.Event.TheVariants.{Print}
use Rattle.vt_term.specs.Runs.{WritesAscii}
use Rattle.vt_term.specs.Play.{after_events}
use Rattle.vt_term.proofs.writing.Display.write_lines.Given as goal

abbrev pub invariant-loop-at : goal.invariant-loop-at
invariant-loop-at l = record {
  within : l.at ≤ length l.run;
  written : l.self ≡ after_events (map Print (take l.at l.run)) l.initial.self;
  writes : WritesAscii l.self;
}

abbrev pub decreases-loop-at : goal.decreases-loop-at
decreases-loop-at l = length l.run - l.at
