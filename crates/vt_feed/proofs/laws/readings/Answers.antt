use Rattle.vt_feed.proofs.Spelled.{between-reading, reading-kept}
use Rattle.vt_feed.proofs.laws.readings.Goals as goal

pub returns : goal.returns
returns c = record {
  first = between-reading c.one_split.ensures c.spelled.ensures;
  kept = reading-kept c.one_split.ensures c.spelled.ensures;
}
