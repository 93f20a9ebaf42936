use Rattle.std.proofs.Common.{◌≡◌, ◌+◌, length, sym, arith}
use Rattle.std.proofs.lemmas.Grind.{common_steps}
use Rattle.vt_picture.proofs.Kept.{kept-bytes, kept-pen}
use Rattle.vt_picture.proofs.RowLimits.{some-places}
use Rattle.vt_picture.proofs.drawing.row.push_row.Goals as goal

pub returns-then-same_cells-clause-items : goal.returns-then-same_cells-clause-items
returns-then-same_cells-clause-items c =
    let same : c.args.old.now ≡ c.args.new.now = grind (arith, common_steps, c.same_cells.ensures, c.if-same_cells.true) in
    kept-bytes c.args.looks c.args.row c.args.old.now c.args.new.now c.args.pen c.args.out.now.items
    (sym c.if-keeps.ensures) same

pub returns-then-same_cells-clause-pen : goal.returns-then-same_cells-clause-pen
returns-then-same_cells-clause-pen c =
    let same : c.args.old.now ≡ c.args.new.now = grind (arith, common_steps, c.same_cells.ensures, c.if-same_cells.true) in
    kept-pen c.args.looks c.args.row c.args.old.now c.args.new.now c.args.pen (sym c.if-keeps.ensures) same

pub push_place-pen-requires-clause-room : goal.push_place-pen-requires-clause-room
push_place-pen-requires-clause-room c =
    let fits = some-places c.args.row (c.loop-i.i + 1) (length c.args.new.now) (omega arith) in
    omega (arith, c.loop-i.invariant.bounded, c.loop-i.invariant.capacity, c.requires.room, fits)

pub returns-clause-bounded : goal.returns-clause-bounded
returns-clause-bounded c =
    let fits = some-places c.args.row c.loop-i.i (length c.args.new.now) c.loop-i.invariant.within in
    omega (arith, c.loop-i.invariant.bounded, fits)
