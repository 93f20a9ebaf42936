use Rattle.std.proofs.Common.{◌≡◌, ◌≤◌, ap, length, length-take, take, vec_len, vec_capacity, arith}
use Rattle.vt_screen.specs.declared.size.Size.{Size}
use Rattle.vt_render.specs.Limits.{shown_row_limit}
use Rattle.vt_render.proofs.RowLimits.{then_kept, row-fits, one_row, shown-fits}
use Rattle.vt_render.proofs.showing.show_reserved.Goals as goal

pub push_row-requires : goal.push_row-requires
push_row-requires g c =
    let size : Size = g.S.Renderable.size_of c.args.screen.now in
    let width = c.read_row-width.result in
    let cells = c.read_row-width.new.cells in
    let end : c.size-row-end.result.rows ≡ size.rows = ap (λ (z : Size). z.rows) c.size-row-end.ensures.size in
    let len : length (take width cells) ≤ size.wide = omega (arith, length-take width cells, c.read_row-width.ensures) in
    let fits = row-fits (shown_row_limit size) c.loop-row.row size.rows (vec_len c.loop-row.out) (vec_len c.args.out.now) (vec_capacity c.args.out.now)
    _ (omega arith) (omega (arith, end)) c.loop-row.invariant.bounded c.requires (shown-fits size _ len) in
    omega (arith, fits, c.loop-row.invariant.capacity)

pub loop-row-preserved : goal.loop-row-preserved
loop-row-preserved g c =
    let size : Size = g.S.Renderable.size_of c.args.screen.now in
    let width = c.read_row-width.result in
    let cells = c.read_row-width.new.cells in
    let len : length (take width cells) ≤ size.wide = omega (arith, length-take width cells, c.read_row-width.ensures) in
    record {
      kept = then_kept _ _ _ c.loop-row.invariant.kept c.push_row.ensures.kept;
      bounded = one_row (shown_row_limit size) c.loop-row.row _ _ _ (omega arith) c.loop-row.invariant.bounded
          (omega (arith, c.push_row.ensures.bounded, shown-fits size _ len));
      capacity = omega (arith, c.loop-row.invariant.capacity, c.push_row.ensures.capacity);
    }
