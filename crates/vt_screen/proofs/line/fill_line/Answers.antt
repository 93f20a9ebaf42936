use Rattle.std.proofs.Common.{◌≡◌, ◌-◌, ◌++◌, List, drop, length, length-drop, inl, inr, arith, ◌∙◌}
use Rattle.std.proofs.lemmas.Bool.{cases_lt}
use Rattle.std.proofs.lemmas.List.{length-append}
use Rattle.std.proofs.Math.ListN.{get_or-append}
use Rattle.std.proofs.Common.{take}
use Rattle.std.proofs.lemmas.List.{length-take}
use Rattle.vt_screen.proofs.Lists.{before-put_mid, within-put_mid, length-mid_of}
use Rattle.vt_screen.proofs.line.fill_line.Goals as goal

-- the first 80 cells are written, and then the rest
pub returns-then-line-gt80 : goal.returns-then-line-gt80
returns-then-line-gt80 g c = λ k below.
    let front : List g.row.C.Denot = c.fill_cells.new.cells in
    let line : List g.row.C.Denot = front ++ drop 80 c.args.line.now in
    let end : List g.row.C.Denot = c.fill_cells-then-line-gt80.new.cells in
    let taken : length (take 80 c.args.line.now) ≡ 80 = rw length-take (omega arith) in
    let long : length front ≡ 80 = omega (arith, taken, c.fill_cells.auto.cells) in
    let whole : length line ≡ length c.args.line.now =
    omega (arith, long, length-append front (drop 80 c.args.line.now), length-drop 80 c.args.line.now) in
    let rest : length end ≡ length line - 80 = omega (
      arith,
      c.fill_cells-then-line-gt80.auto.cells,
      length-mid_of 80 (length line - 80) line
          (omega (arith, whole)),
    ) in
    elim (cases_lt k 80) [
      | inl low ↦ before-put_mid 80 (length line - 80) line end k g.C.Cells.cells.blank (omega (arith, whole)) low
          ∙ get_or-append front (drop 80 c.args.line.now) g.C.Cells.cells.blank k (omega (arith, long))
          ∙ c.fill_cells.ensures k (omega (arith, long))
      | inr high ↦ within-put_mid 80 (length line - 80) line end k g.C.Cells.cells.blank (omega (arith, whole)) rest (omega arith)
          (omega (arith, whole))
          ∙ c.fill_cells-then-line-gt80.ensures (k - 80) (omega (arith, whole))
    ]

-- there are no others
pub returns-else-line-gt80 : goal.returns-else-line-gt80
returns-else-line-gt80 g c = λ k below.
    let front : List g.row.C.Denot = c.fill_cells.new.cells in
    let line : List g.row.C.Denot = front ++ drop 80 c.args.line.now in
    let taken : length (take 80 c.args.line.now) ≡ 80 = rw length-take (omega arith) in
    let long : length front ≡ 80 = omega (arith, taken, c.fill_cells.auto.cells) in
    let whole : length line ≡ length c.args.line.now =
    omega (arith, long, length-append front (drop 80 c.args.line.now), length-drop 80 c.args.line.now) in
    get_or-append front (drop 80 c.args.line.now) g.C.Cells.cells.blank k (omega (arith, long, whole))
    ∙ c.fill_cells.ensures k (omega (arith, long, whole))
