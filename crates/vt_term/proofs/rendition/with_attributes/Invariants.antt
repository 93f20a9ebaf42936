use Rattle.std.proofs.Common.{◌≡◌, take}
use Rattle.vt_screen.specs.Cells.{brush_of}
use Rattle.vt_term.specs.Rendition.{vt220_own}
use Rattle.vt_term.proofs.rendition.with_attributes.Given as goal

abbrev pub invariant-loop-p : goal.invariant-loop-p
invariant-loop-p l = brush_of l.pen ≡ vt220_own.attributes (take l.p-index l.params) (brush_of l.initial.pen)
