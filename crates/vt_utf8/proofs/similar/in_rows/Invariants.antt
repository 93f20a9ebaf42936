-- No row so far has the character.
use Rattle.std.proofs.Common.{◌≡◌, drop}
use Rattle.vt_utf8.specs.Similar.{in_rows}
use Rattle.vt_utf8.specs.declared.similar.TheConstants.{SUBSTITUTE}
use Rattle.vt_utf8.proofs.similar.in_rows.Given as goal

abbrev pub invariant-loop-first : goal.invariant-loop-first
invariant-loop-first l = in_rows SUBSTITUTE l.rows l.c ≡ in_rows SUBSTITUTE (drop l.first-index l.rows) l.c
