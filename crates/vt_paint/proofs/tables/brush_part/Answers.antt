use Rattle.std.proofs.Common.{rules}
use Rattle.vt_paint.proofs.Entries.{brush_length_at}
use Rattle.vt_paint.proofs.tables.brush_part.Goals as goal

pub returns-clause-short : goal.returns-clause-short
returns-clause-short c =
    let few = brush_length_at c.index_of-index.result c.index_of-index.ensures.below in
    search (rules, few)
