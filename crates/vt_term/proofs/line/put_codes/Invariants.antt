use Rattle.std.proofs.Common.{◌≡◌, ℕ, ◌<◌, get_or}
use Rattle.vt_glyph.specs.Encoding.{encoded_glyph, encoding_of}
use Rattle.vt_screen.specs.Cells.{blank}
use Rattle.vt_term.proofs.line.put_codes.Given as goal

-- the codes before this one are written
abbrev pub invariant-loop-i : goal.invariant-loop-i
invariant-loop-i l = record {
  glyphs : (k : ℕ) → k < l.i → encoded_glyph (get_or l.codes k 0) ≡ (get_or l.cells k blank).glyph;
  codes : (k : ℕ) → k < l.i → get_or l.codes k 0 ≡ encoding_of (get_or l.cells k blank).glyph;
}
