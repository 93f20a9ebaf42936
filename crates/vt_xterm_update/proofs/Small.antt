-- The limit of a repaint is a small number.
use Rattle.std.proofs.Common.{◌+◌, ◌*◌, ◌≤◌, ℕ, arith}
use Rattle.std.proofs.lemmas.Nat.{mul-le}
use Rattle.vt_screen.specs.Sizes.{IsSize}
use Rattle.vt_screen.specs.declared.size.Size.{Size}
use Rattle.vt_xterm_repaint.specs.Limits.{row_limit, page_limit, repaint_limit}

pub repaint-small : (size : Size) → IsSize size → repaint_limit size ≤ 10186054
unfolding page_limit row_limit
repaint-small size is =
    let all : size.rows * (78 * size.wide + 76) ≤ 255 * 19966 =
    mul-le size.rows (78 * size.wide + 76) 255 19966 is.rows.1 (omega (arith, is.columns)) in
    omega (arith, all, is.columns)
