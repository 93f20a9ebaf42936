-- Brush, sets and saved record as C sees them. (this profile)
use Rattle.std.specs.Prelude.{unwrap_or}
use Rattle.vt_glyph.specs.GraphicSets.{GraphicSets}
use Rattle.vt_glyph.specs.Designation.{final_of}
use Rattle.vt_glyph.specs.Invocation.{set_at}
use Rattle.vt_screen.specs.declared.cell.Brush.{Brush}
use Rattle.vt_term.specs.State.{saved_sets}
use Rattle.vt_term.specs.State.{Saved}
use Rattle.vt220_c.specs.declared.parts.Vt220Brush.{Vt220Brush}
use Rattle.vt220_c.specs.declared.parts.Vt220Sets.{Vt220Sets}
use Rattle.vt220_c.specs.declared.parts.Vt220Saved.{Vt220Saved}

abbrev pub c_brush : Brush → Vt220Brush
c_brush b = record {
  bold = b.rendition.bold;
  underline = b.rendition.underline;
  blink = b.rendition.blink;
  reverse = b.rendition.reverse;
  is_protected = b.protected;
}

-- each set as its final byte; no pending single shift is 0
abbrev pub c_sets : GraphicSets → Vt220Sets
c_sets sets = record {
  g0 = final_of (set_at sets 0);
  g1 = final_of (set_at sets 1);
  g2 = final_of (set_at sets 2);
  g3 = final_of (set_at sets 3);
  gl = sets.left;
  gr = sets.right;
  single_shift = unwrap_or sets.pending 0;
}

abbrev pub c_saved : Saved → Vt220Saved
c_saved s = record {
  row = s.row;
  col = s.col;
  wrap = s.wrap;
  origin = s.origin;
  bold = s.brush.rendition.bold;
  underline = s.brush.rendition.underline;
  blink = s.brush.rendition.blink;
  reverse = s.brush.rendition.reverse;
  is_protected = s.brush.protected;
  g0 = final_of (set_at (saved_sets s) 0);
  g1 = final_of (set_at (saved_sets s) 1);
  g2 = final_of (set_at (saved_sets s) 2);
  g3 = final_of (set_at (saved_sets s) 3);
  gl = s.gl;
  gr = s.gr;
}
