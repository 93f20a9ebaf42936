use Rattle.std.proofs.Common.{◌≤◌, arith, rules}
use Rattle.vt_paint.proofs.RowLimits.{three_digits}
use Rattle.vt_paint.proofs.Entries.{row_length, row_length_at}
use Rattle.vt_paint.proofs.tables.row_part.Goals as goal

pub returns-clause-few : goal.returns-clause-few
returns-clause-few c =
    let few : row_length c.args.row ≤ 6 =
    omega (arith, row_length_at c.args.row c.requires.0 c.requires.1, three_digits c.args.row) in
    search (rules, few)
