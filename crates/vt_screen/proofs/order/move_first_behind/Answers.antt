use Rattle.std.proofs.Common.{◌≡◌, ℕ, List, ◌+◌, ◌-◌, ◌<◌, length, get_or, slice_set, slice_index_or, rules}
use Rattle.vt_screen.proofs.Lists.{first-behind}
use Rattle.vt_screen.proofs.order.move_first_behind.Goals as goal

pub returns-clause-permutation : goal.returns-clause-permutation
returns-clause-permutation c =
    let xs : List ℕ = c.args.rows.now in
    let ys : List ℕ = slice_set c.copy_within.new.self (length xs - 1) (slice_index_or xs 0 0) in
    let long : length ys ≡ length xs = search rules in
    let moved : (k : ℕ) → k + 1 < length xs → get_or ys k 0 ≡ get_or xs (k + 1) 0 = search rules in
    let last : get_or ys (length xs - 1) 0 ≡ get_or xs 0 0 = search rules in
    first-behind xs ys c.requires long moved last
