use Rattle.std.proofs.Common.{◌≡◌, arith, drop}
use Rattle.vt_xterm_repaint.proofs.Written.{all-written}
use Rattle.vt_xterm_repaint.proofs.cells.push_cells.Goals as goal

pub returns-clause-items : goal.returns-clause-items
returns-clause-items c =
    let end : c.loop-i.i ≡ c.args.end = omega (arith, c.loop-i.auto) in
    all-written c.loop-i.before.look (drop c.args.end c.args.cells.now) _ _ c.requires.blank (rw end at c.loop-i.invariant.items)
