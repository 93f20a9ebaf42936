use Rattle.std.proofs.Common.{◌≡◌, take, map}
use Rattle.vt_glyph.specs.Encoding.{encoded_glyph}
use Rattle.vt_term.specs.Writing.{write_glyphs}
use Rattle.vt_term.proofs.writing.Display.write_each.Given as goal

abbrev pub invariant-loop-code : goal.invariant-loop-code
invariant-loop-code l = l.self ≡ write_glyphs (map encoded_glyph (take l.code-index l.codes)) l.initial.self
