use Rattle.std.proofs.Common.{◌≡◌, ◌-◌, ◌≤◌, ◌==◌, find}
use Rattle.std.specs.List.{range_with_len}
use Rattle.vt_glyph.specs.declared.set.Set.TheVariants.{Supplemental}
use Rattle.vt_glyph.specs.Tables.{glyph_of, set_codes}
use Rattle.vt_recording.proofs.characters.byte_of.Given as goal

abbrev pub invariant-loop-code : goal.invariant-loop-code
invariant-loop-code l = record {
  from : 0x21 ≤ l.code;
  upto : l.code ≤ 0x7F;
  rest : find (λ code. glyph_of Supplemental code == l.c) (range_with_len l.code (0x7F - l.code))
      ≡ find (λ code. glyph_of Supplemental code == l.c) set_codes;
}

abbrev pub decreases-loop-code : goal.decreases-loop-code
decreases-loop-code l = 0x7F - l.code
