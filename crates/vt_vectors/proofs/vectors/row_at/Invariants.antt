use Rattle.std.proofs.Common.{◌≡◌, ◌+◌, length, take, sum_by}
use Rattle.std.specs.List.{All}
use Rattle.vt_vectors.specs.declared.vectors.TheConstants.{VECTOR_COUNT}
use Rattle.vt_vectors.specs.Vectors.{AreFit}
use Rattle.vt_vectors.proofs.vectors.row_at.Given as goal

abbrev pub invariant-loop-rows : goal.invariant-loop-rows
invariant-loop-rows l = record {
  all : sum_by (λ rows. length rows.now) l.rows-items ≡ VECTOR_COUNT;
  passed : sum_by (λ rows. length rows.now) (take l.rows-index l.rows-items) + l.left ≡ l.i;
  fit : All (λ rows. AreFit rows.now) l.rows-items;
}
