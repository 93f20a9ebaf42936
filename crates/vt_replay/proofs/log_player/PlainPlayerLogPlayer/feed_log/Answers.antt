use Rattle.std.proofs.Common.{◌≡◌, ◌+◌, length, take, vec_len, vec_capacity, inl, ap, arith}
use Rattle.vt_term.specs.Play.{Played}
use Rattle.vt_term.specs.Scrolling.{log}
use Rattle.vt_term.specs.Text.{row_text_limit}
use Rattle.vt_replay.proofs.Players.{plain_on, plain_lines}
use Rattle.vt_replay.proofs.LogSteps.{goes-on, no-lines}
use Rattle.vt_replay.proofs.LogResizing.{one_line}
use Rattle.vt_replay.proofs.log_player.PlainPlayerLogPlayer.feed_log.Goals as goal

pub returns-clause-some : goal.returns-clause-some
returns-clause-some c =
    let fed = c.feed_log_reserved in
    let lines = c.args.lines.now in
    let none : fed.result ≡ 0 → vec_len fed.new.lines ≡ vec_len lines =
    λ zero. omega (
      arith,
      no-lines (λ bytes. log c.args.self.now.terminal bytes) c.args.chunk.now lines.items fed.new.lines.items fed.result
          (c.sized_log_cuts.ensures.none _ c.args.self.now.terminal c.soundness.ensures)
          fed.ensures.lines zero,
      fed.new.lines.ok,
      lines.ok,
    ) in
    goes-on fed.result (length c.args.chunk.now) (row_text_limit c.args.self.now.terminal.display.grid.size) (vec_len lines)
    (vec_len fed.new.lines) (vec_len lines + 390660) (vec_capacity fed.new.lines) 390660 c.requires.some (λ less. inl (fed.ensures.all less)) none
    (omega (arith, c.lines_fit.ensures.line)) (omega arith) (omega (arith, c.requires.room, fed.ensures.lines_capacity))

pub returns-clause-lines_on : goal.returns-clause-lines_on
returns-clause-lines_on c = λ more.
    plain_lines _ _ (take c.feed_log_reserved.result c.args.chunk.now) more c.sized_log_cuts.ensures.two c.feed_log_reserved.ensures.state

pub returns-clause-on : goal.returns-clause-on
returns-clause-on c = λ more.
    plain_on _ _ (take c.feed_log_reserved.result c.args.chunk.now) more c.sized_cuts.ensures.two c.feed_log_reserved.ensures.state

pub returns-clause-after : goal.returns-clause-after
returns-clause-after c = λ more.
    ap (λ (p : Played). p.state)
    (plain_on _ _ (take c.feed_log_reserved.result c.args.chunk.now) more c.sized_cuts.ensures.two c.feed_log_reserved.ensures.state)

pub returns-clause-one : goal.returns-clause-one
returns-clause-one c = λ one.
    let fed = c.feed_log_reserved.ensures in
    let line = one_line _ _ _ _ fed.within one c.lines_fit.ensures.line in
    omega (arith, line, fed.lines_bounded)
