use Rattle.std.proofs.Common.{None, refl}
use Rattle.vt_cli.specs.declared.what.What.TheVariants as what
use Rattle.vt_cli.specs.declared.what.Word.TheVariants.{Replay, Log}
use Rattle.vt_replay.proofs.Found.{text-asks, repaint-asks, show-asks, log-asks}
use Rattle.vt_replay.proofs.PlainTables.{plain-table, auto-table}
use Rattle.vt_replay.proofs.laws.plain.Goals as goal

pub returns : goal.returns
returns c = record {
  text = plain-table (Replay what.Text) text-asks refl;
  repaint = plain-table (Replay what.Repaint) repaint-asks refl;
  show = auto-table None (Replay what.Show) show-asks refl;
  log = auto-table None Log log-asks refl;
}
