use Rattle.vt_utf8.proofs.Cuts.{ascii-translated, ascii-played, ascii-pending}
use Rattle.vt_utf8.proofs.laws.ascii.Goals as goal

pub returns : goal.returns
returns c = record {
  translated = ascii-translated;
  played = ascii-played;
  pending = ascii-pending;
}
