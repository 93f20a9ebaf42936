use Rattle.vt_wide.proofs.Runs.{bytes_one, bytes_append}
use Rattle.vt_wide.proofs.laws.runs.Goals as goal

pub returns : goal.returns
returns g c = record {
  one = λ e d row col b pen. bytes_one g.C.Wide.wide g.C.Cells.cells.blank e d row col b pen g.met.C.Wide.halves;
  append = λ e d row col a b pen. bytes_append g.C.Wide.wide g.C.Cells.cells.blank e d row col a b pen;
}
