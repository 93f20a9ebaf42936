use Rattle.std.proofs.Common.{◌≡◌, ◌+◌, length, take, vec_len, vec_capacity, arith}
use Rattle.vt_term.specs.Scrolling.{log}
use Rattle.vt_utf8.specs.Limits.{utf8_lines_limit}
use Rattle.vt_utf8.specs.Play.{translated}
use Rattle.vt_replay.proofs.Players.{utf8_on, utf8_kept, utf8_lines, utf8_log_none}
use Rattle.vt_replay.proofs.LogSteps.{goes-on, no-lines}
use Rattle.vt_replay.proofs.log_player.Utf8PlayerLogPlayer.feed_log.Goals as goal

pub returns-clause-some : goal.returns-clause-some
returns-clause-some c =
    let fed = c.feed_utf8_log_reserved in
    let lines = c.args.lines.now in
    let none : fed.result ≡ 0 → vec_len fed.new.lines ≡ vec_len lines =
    λ zero. omega (
      arith,
      no-lines (λ bytes. log c.args.self.now.terminal (translated c.args.self.now.terminal c.args.self.now.decoder bytes)) c.args.chunk.now lines.items fed.new.lines.items fed.result
          (utf8_log_none c.args.self.now.terminal c.args.self.now.decoder c.sized_log_cuts.ensures.none c.soundness.ensures)
          fed.ensures.lines zero,
      fed.new.lines.ok,
      lines.ok,
    ) in
    goes-on fed.result (length c.args.chunk.now) (utf8_lines_limit c.args.self.now.terminal.display.grid.size) (vec_len lines)
    (vec_len fed.new.lines) (vec_len lines + 390660) (vec_capacity fed.new.lines) 390660 c.requires.some fed.ensures.all none
    (omega (arith, c.lines_fit.ensures.utf8)) (omega arith) (omega (arith, c.requires.room, fed.ensures.lines_capacity))

pub returns-clause-lines_on : goal.returns-clause-lines_on
returns-clause-lines_on c = λ more.
    let fed = c.feed_utf8_log_reserved in
    utf8_lines _ _ _ _ (take fed.result c.args.chunk.now) more c.sized_cuts.ensures.translated c.sized_log_cuts.ensures.two
    c.soundness.ensures fed.ensures.state fed.ensures.pending

pub returns-clause-on : goal.returns-clause-on
returns-clause-on c = λ more.
    let fed = c.feed_utf8_log_reserved in
    utf8_on _ _ _ _ (take fed.result c.args.chunk.now) more c.sized_cuts.ensures.two c.soundness.ensures fed.ensures.state
    fed.ensures.pending

pub returns-clause-after : goal.returns-clause-after
returns-clause-after c = λ more.
    let fed = c.feed_utf8_log_reserved in
    utf8_kept _ _ _ _ (take fed.result c.args.chunk.now) more c.sized_cuts.ensures.two c.sized_cuts.ensures.pending
    c.soundness.ensures fed.ensures.state fed.ensures.pending

pub returns-clause-one : goal.returns-clause-one
returns-clause-one c = λ one. c.feed_utf8_log_reserved.ensures.lines_bounded
