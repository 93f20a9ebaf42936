use Rattle.std.proofs.Common.{◌≡◌, true, ◌==◌, append_assoc, ap, arith}
use Rattle.std.proofs.lemmas.Grind.{common_steps}
use Rattle.vt_screen.specs.declared.size.Size.{Size}
use Rattle.vt_picture.specs.Draw.{draw_from_at, changes_at}
use Rattle.vt_picture.proofs.drawing.draw_from_reserved.Goals as goal

pub returns-clause-items : goal.returns-clause-items
unfolding draw_from_at changes_at
returns-clause-items c =
    let old : c.size.result.rows ≡ c.args.shown.now.display.grid.size.rows = ap (λ (z : Size). z.rows) c.size.ensures.size in
    let new : c.size-2.result.rows ≡ c.args.t.now.display.grid.size.rows = ap (λ (z : Size). z.rows) c.size-2.ensures.size in
    let rows : (c.args.shown.now.display.grid.size.rows == c.args.t.now.display.grid.size.rows) ≡ true =
    grind (arith, common_steps, old, new, c.if-size.false) in
    let same : (c.args.shown.now.display.grid.width == c.args.t.now.display.grid.width) ≡ true =
    grind (arith, common_steps, c.width.ensures.width, c.width-2.ensures.width, c.if-width.false) in
    rw (
      rows,
      same,
      c.push_end.ensures.items,
      c.push_rows-pen.ensures.items,
      c.push_rows-pen.ensures.pen,
      c.modes.ensures,
      c.modes-2.ensures,
      c.modes-3.ensures,
      c.cursor-cursor.ensures.cursor,
      c.plain.ensures,
    )
    (simp append_assoc)
