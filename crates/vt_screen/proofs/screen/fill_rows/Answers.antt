use Rattle.std.proofs.Common.{arith, ◌≡◌, ◌≢◌, ◌⊎◌, ◌+◌, ◌-◌, ◌<◌, ◌≤◌, length, inl, inr, ◌∙◌}
use Rattle.std.proofs.lemmas.Bool.Decides.{eqb_tells}
use Rattle.vt_screen.specs.Sizes.{room}
use Rattle.vt_screen.proofs.Maps.{row-filled}
use Rattle.vt_screen.proofs.screen.fill_rows.Goals as goal

pub loop-row-preserved : goal.loop-row-preserved
loop-row-preserved g c =
    let bound = c.start-start.ensures.bound in
    let long : length c.loop-row.cells ≡ room c.args.order.now.size = omega arith in
    let step = row-filled g.C.Cells.cells.blank c.args.order.now c.loop-row.cells c.fill_line.new.line c.args.width c.loop-row.row
    c.start-start.result (c.start-start.result + c.args.width - c.start-start.result) c.args.cell.now
    c.start-start.ensures.order long (omega arith) (omega arith) c.requires.width c.start-start.ensures.place
    (omega arith) c.fill_line.auto.line c.fill_line.ensures in
    record {
      written = λ r col low high col1 colw. elim (eqb_tells r c.loop-row.row) [
        | inl e ↦ rw e.1 (step.0 col col1 colw)
        | inr e ↦ step.1 r col (omega arith) (omega arith) e.1 col1 colw
            ∙ c.loop-row.invariant.written r col low (omega (arith, e)) col1 colw
      ];
      left = λ r col r1 r24 out col1 colw.
          let other : r ≢ c.loop-row.row = λ e. elim out [ inl l ↦ omega arith | inr l ↦ omega arith ] in
          let before : (r < c.args.first) ⊎ (c.loop-row.row ≤ r) =
          elim out [ inl l ↦ inl l | inr l ↦ inr (omega arith) ] in
          step.1 r col r1 r24 other col1 colw ∙ c.loop-row.invariant.left r col r1 r24 before col1 colw;
    }
