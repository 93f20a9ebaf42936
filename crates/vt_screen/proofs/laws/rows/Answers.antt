use Rattle.vt_screen.proofs.Places.{length-row_of, get_or-row_of}
use Rattle.vt_screen.proofs.laws.rows.Goals as goal

pub returns : goal.returns
returns c = record {
  len = length-row_of _;
  cell = get_or-row_of _;
}
