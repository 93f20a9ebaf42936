use Rattle.std.proofs.Common.{rules, ◌≤◌, ◌+◌, ◌*◌, ℕ, vec_len, vec_capacity, arith}
use Rattle.std.proofs.lemmas.Nat.{mul-le}
use Rattle.vt_xterm_display.specs.Text.{xterm_row_limit}
use Rattle.vt_xterm_log.proofs.observer.push_off.Goals as goal

-- some rows have at most the text of all rows
rows-fit : (n rows limit : ℕ) → n ≤ rows → n * limit ≤ rows * limit
rows-fit n rows limit few = mul-le n limit rows limit few (omega arith)

pub push_rows-requires-clause-room : goal.push_rows-requires-clause-room
push_rows-requires-clause-room c =
    let size = c.args.screen.now.shown.grid.size in
    let few = rows-fit c.args.count size.rows (xterm_row_limit size) c.requires.rows in
    let fits : vec_len c.args.lines.now + c.args.count * xterm_row_limit size ≤ vec_capacity c.args.lines.now =
    omega (arith, few, c.requires.room, c.text_limit.ensures) in
    search (rules, fits)
