use Rattle.vt_glyph.proofs.Spelled.{spelling_writes, spelling_leaves, spelling_code, spelling_injective}
use Rattle.vt_glyph.proofs.laws.spelling.Goals as goal

pub returns : goal.returns
returns c = record {
  writes = spelling_writes;
  leaves = spelling_leaves;
  code = spelling_code;
  distinct =
      spelling_injective;
}
