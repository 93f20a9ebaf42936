use Rattle.std.proofs.Common.{ap, arith}
use Rattle.vt_replay.specs.Resizes.{Utf8Kept}
use Rattle.vt_replay.proofs.Players.{utf8_log_none}
use Rattle.vt_replay.proofs.log_player.Utf8PlayerLogPlayer.rows.Goals as goal

pub returns-clause-none : goal.returns-clause-none
returns-clause-none c =
    utf8_log_none c.args.self.now.terminal c.args.self.now.decoder c.sized_log_cuts.ensures.none c.soundness.ensures

pub returns-clause-some : goal.returns-clause-some
returns-clause-some c = c.soundness.ensures.display.cursor.row_1

pub returns-clause-most : goal.returns-clause-most
returns-clause-most c = omega (arith, c.soundness.ensures.display.cursor.row_last, c.size.ensures.sound.rows.1)

pub returns-clause-begun : goal.returns-clause-begun
returns-clause-begun c = λ size is. ap (λ (k : Utf8Kept). k.state.display.cursor.row) is
