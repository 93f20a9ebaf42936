use Rattle.std.proofs.Common.{◌≡◌, ◌∙◌, ◌-◌, ◌+◌, ◌++◌, ℕ, suc, List, ap, append_assoc, arith, refl, flat_map, map}
use Rattle.std.specs.List.{range_with_len}
use Rattle.vt_screen.specs.Grid.{row_of}
use Rattle.vt_term.specs.Text.{line_text, row_text_limit}
use Rattle.vt_xterm.specs.Log.{first_rows}
use Rattle.vt_xterm.proofs.Limits.{one-more}
use Rattle.vt_xterm.proofs.log.push_first.Goals as goal

pub loop-row-init : goal.loop-row-init
unfolding first_rows
loop-row-init c =
    let count : ℕ = c.args.count in
    let all : count + 1 - 1 ≡ count = omega arith in
    record { items = rw all refl; bounded = omega arith; capacity = omega arith }

pub loop-row-preserved : goal.loop-row-preserved
loop-row-preserved c =
    let row : ℕ = c.loop-row.row in
    let count : ℕ = c.args.count in
    let g = c.args.terminal.now.display.grid in
    let line : List ℕ = line_text (row_of g row) in
    let rest : List ℕ = flat_map line_text (map (λ r. row_of g r) (range_with_len (row + 1) (count + 1 - (row + 1)))) in
    let next : row + 1 - 1 ≡ row - 1 + 1 = omega arith in
    let more : count + 1 - row ≡ suc (count + 1 - (row + 1)) = omega arith in
    record {
      items = ap (λ (t : List ℕ). t ++ rest) c.row_text_reserved.ensures.items
          ∙ append_assoc c.loop-row.lines.items line rest
          ∙ rw more at c.loop-row.invariant.items;
      bounded = rw next (omega (arith, c.row_text_reserved.ensures.bounded, c.loop-row.invariant.bounded));
      capacity = omega arith;
    }

pub row_text_reserved-requires-clause-room : goal.row_text_reserved-requires-clause-room
row_text_reserved-requires-clause-room c =
    let size = c.args.terminal.now.display.grid.size in
    omega (
      arith,
      c.loop-row.invariant.bounded,
      c.loop-row.invariant.capacity,
      c.requires.room,
      one-more (row_text_limit size) c.loop-row.row size.rows (omega arith) (omega (arith, c.requires.few)),
    )
