use Rattle.std.proofs.Common.{◌≡◌, ℕ, List, ◌+◌, ◌-◌, ◌<◌, length, get_or, slice_set, slice_index_or, rules, arith}
use Rattle.std.proofs.lemmas.List.Sorted.{IsPermutation-sym}
use Rattle.vt_screen.proofs.Lists.{first-behind}
use Rattle.vt_screen.proofs.order.move_last_before.Goals as goal

pub returns-clause-permutation : goal.returns-clause-permutation
returns-clause-permutation c =
    let xs : List ℕ = c.args.rows.now in
    let ys : List ℕ = slice_set c.copy_within.new.self 0 (slice_index_or xs (length xs - 1) 0) in
    let long : length xs ≡ length ys = search rules in
    let moved : (k : ℕ) → k + 1 < length ys → get_or xs k 0 ≡ get_or ys (k + 1) 0 = search rules in
    let first : get_or xs (length ys - 1) 0 ≡ get_or ys 0 0 = search rules in
    IsPermutation-sym ys xs (first-behind ys xs (omega (arith, long, c.requires)) long moved first)
