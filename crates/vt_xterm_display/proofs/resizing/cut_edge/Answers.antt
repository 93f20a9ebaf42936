use Rattle.std.proofs.Common.{◌≡◌, ◌≤◌, ◌<◌, ◌+◌, ℕ, ◌∙◌, refl, arith, ap, subst}
use Rattle.vt_screen.specs.declared.size.Size.{Size}
use Rattle.vt_screen.specs.Grid.{IsGrid}
use Rattle.vt_screen.proofs.Places.{width-bounds}
use Rattle.vt_xterm_display.specs.State.{Grid}
use Rattle.vt_xterm_display.proofs.Edges.{edged-none, edged-more, edged-all}
use Rattle.vt_xterm_display.proofs.resizing.cut_edge.Goals as goal

pub loop-row-init : goal.loop-row-init
loop-row-init c = record {
  cells = edged-none _ c.width-width.ensures.grid;
  size = refl;
  width = refl;
  sound = c.width-width.ensures.sound;
}

pub loop-row-preserved : goal.loop-row-preserved
loop-row-preserved c = record {
  cells = edged-more c.args.screen.now c.loop-row.screen c.put.new.self c.loop-row.row c.width-width.result c.cell-cell.result c.halved.result
      (omega (arith, c.loop-row.auto.row)) (rows c.loop-row.row c.size-row-end.result c.args.screen.now.size c.size-row-end.ensures.size c.loop-row-test.true)
      (some c.args.screen.now c.width-width.ensures.grid) c.width-width.ensures.width c.loop-row.invariant.cells c.cell-cell.ensures
      c.halved.ensures c.put.ensures.grid;
  size = ap (λ (g : Grid). g.size) c.put.ensures.grid ∙ c.loop-row.invariant.size;
  width = ap (λ (g : Grid). g.width) c.put.ensures.grid ∙ c.loop-row.invariant.width;
  sound = c.put.ensures.sound;
}
  where
    rows : (row : ℕ) (s t : Size) → s ≡ t → row < s.rows + 1 → row ≤ t.rows
    rows row s t same low = subst (λ (x : Size). row ≤ x.rows) same (omega (arith, low))

    some : (g : Grid) → IsGrid g → 1 ≤ g.width
    some g grid = omega (arith, (width-bounds g.size g.width grid.size grid.width).0)

pub returns-clause-grid : goal.returns-clause-grid
returns-clause-grid c =
    c.loop-row.invariant.cells ∙ edged-all c.args.screen.now c.loop-row.row (end c.loop-row.row c.size-row-end.result c.args.screen.now.size
    c.size-row-end.ensures.size c.loop-row-test.false (c.loop-row.auto.row-end (omega arith)))
  where
    end : (row : ℕ) (s t : Size) → s ≡ t → s.rows + 1 ≤ row → row ≤ s.rows + 1 → row ≡ t.rows + 1
    end row s t same low high = subst (λ (x : Size). row ≡ x.rows + 1) same (omega (arith, low, high))
