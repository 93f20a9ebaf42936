use Rattle.std.proofs.Common.{◌≡◌, ◌≤◌, length, take}
use Rattle.vt_term.specs.Text.{trimmed}
use Rattle.vt_term.proofs.line.end_of_text.Given as goal

-- what is after the end is spaces
abbrev pub invariant-loop-end : goal.invariant-loop-end
invariant-loop-end l = record {
  within : l.end ≤ length l.codes;
  same : trimmed l.codes ≡ trimmed (take l.end l.codes);
}

abbrev pub decreases-loop-end : goal.decreases-loop-end
decreases-loop-end l = l.end

abbrev pub invariant-loop-end-2 : goal.invariant-loop-end-2
invariant-loop-end-2 l = record {
  within : l.end ≤ length l.codes;
  same : trimmed l.codes ≡ trimmed (take l.end l.codes);
}

abbrev pub decreases-loop-end-2 : goal.decreases-loop-end-2
decreases-loop-end-2 l = l.end
