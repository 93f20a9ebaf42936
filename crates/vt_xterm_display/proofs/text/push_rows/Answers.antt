use Rattle.std.proofs.Common.{◌≡◌, ◌∙◌, ◌-◌, ◌+◌, ◌*◌, ◌≤◌, ◌++◌, ℕ, suc, List, ap, append_assoc, arith, refl}
use Rattle.std.specs.List.{range_with_len, flat_map}
use Rattle.std.proofs.lemmas.Nat.{mul-le}
use Rattle.vt_screen.specs.Grid.{row_or}
use Rattle.vt_xterm_cell.specs.Cells.{blank_cell, row_text}
use Rattle.vt_xterm_display.specs.Text.{rows_text, xterm_row_limit}
use Rattle.vt_xterm_display.proofs.text.push_rows.Goals as goal

-- one row more fits in all rows
one-more : (limit row rows : ℕ) → 1 ≤ row → row ≤ rows → (row - 1) * limit + limit ≤ rows * limit
one-more limit row rows some few =
    let step : (row - 1 + 1) * limit ≤ rows * limit = mul-le (row - 1 + 1) limit rows limit (omega arith) (omega arith) in
    omega (arith, step)

pub loop-row-init : goal.loop-row-init
unfolding rows_text
loop-row-init c =
    let same : c.args.count + 1 - 1 ≡ c.args.count = omega arith in
    record { items = rw same refl; bounded = omega arith; capacity = omega arith }

pub push_row-requires-clause-room : goal.push_row-requires-clause-room
push_row-requires-clause-room c =
    let limit : ℕ = xterm_row_limit c.args.screen.now.size in
    omega (
      arith,
      c.loop-row.invariant.bounded,
      c.loop-row.invariant.capacity,
      c.requires.room,
      one-more limit c.loop-row.row c.args.count (omega arith) (omega arith),
    )

pub loop-row-preserved : goal.loop-row-preserved
loop-row-preserved c =
    let row : ℕ = c.loop-row.row in
    let line : List ℕ = row_text (row_or blank_cell c.args.screen.now row) in
    let rest : List ℕ = flat_map (λ r. row_text (row_or blank_cell c.args.screen.now r))
    (range_with_len (row + 1) (c.args.count + 1 - (row + 1))) in
    let more : c.args.count + 1 - row ≡ suc (c.args.count + 1 - (row + 1)) = omega arith in
    let next : row + 1 - 1 ≡ row - 1 + 1 = omega arith in
    record {
      items = ap (λ (t : List ℕ). t ++ rest) c.push_row.ensures.items
          ∙ append_assoc c.loop-row.out.items line rest
          ∙ rw more at c.loop-row.invariant.items;
      bounded = rw next (omega (arith, c.push_row.ensures.bounded, c.loop-row.invariant.bounded));
      capacity = omega (arith, c.push_row.ensures.capacity, c.loop-row.invariant.capacity);
    }
