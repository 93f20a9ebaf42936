use Rattle.std.proofs.Common.{◌≡◌, ◌+◌, ◌*◌, ◌≤◌, ◌++◌, ◌-◌, drop, length}
use Rattle.std.specs.Prelude.{encode_utf8_all}
use Rattle.arrayvec.specs.ArrayVec.{array_vec_len}
use Rattle.vt_term.specs.Text.{glyphs_of}
use Rattle.vt_term.proofs.line.push_characters.Given as goal

-- what is appended, and what the other cells show
abbrev pub invariant-loop-at : goal.invariant-loop-at
invariant-loop-at l = record {
  within : l.at ≤ length l.codes;
  shown : l.text.items ++ encode_utf8_all (glyphs_of (drop l.at l.cells))
      ≡ l.initial.text.items ++ encode_utf8_all (glyphs_of l.cells);
  bounded : array_vec_len l.text ≤ array_vec_len l.initial.text + 3 * l.at;
}

abbrev pub decreases-loop-at : goal.decreases-loop-at
decreases-loop-at l = length l.codes - l.at
