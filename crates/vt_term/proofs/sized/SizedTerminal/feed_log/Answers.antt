use Rattle.std.proofs.Common.{◌≡◌, ◌∙◌, ◌+◌, ◌*◌, ◌≤◌, ◌++◌, ℕ, List, ap, arith, length, take, vec_len, vec_capacity}
use Rattle.std.proofs.Math.Seq.{take-length}
use Rattle.vt_term.specs.Play.{Played, play}
use Rattle.vt_term.specs.Scrolling.{log}
use Rattle.vt_term.specs.Text.{row_text_limit}
use Rattle.vt_term.proofs.Scrolled.{all-fit}
use Rattle.vt_term.proofs.sized.SizedTerminal.feed_log.Goals as goal

all-played : (c : goal.After-feed_log_reserved) → take c.feed_log_reserved.result c.args.piece.now ≡ c.args.piece.now
all-played c =
    let limit : ℕ = row_text_limit c.args.self.now.display.grid.size in
    let is : c.row_text_limit.result ≡ limit = c.row_text_limit.ensures in
    let asked : c.in-Some-checked_mul.lines_room ≡ length c.args.piece.now * limit =
    (rw is at c.in-Some-checked_mul.ensures).1 in
    let room : vec_len c.args.lines.now + length c.args.piece.now * limit ≤ vec_capacity c.reserve-2.new.self =
    omega (arith, asked, c.in_ok-reserve-2.ensures.ok, c.in_ok-reserve-2.ensures.len) in
    let whole : c.feed_log_reserved.result ≡ length c.args.piece.now =
    all-fit (length c.args.piece.now) c.feed_log_reserved.result limit (vec_len c.args.lines.now)
    (vec_len c.feed_log_reserved.new.lines) (vec_capacity c.feed_log_reserved.new.lines)
    c.feed_log_reserved.ensures.within (omega (arith, room, c.feed_log_reserved.ensures.lines_capacity))
    (omega (arith, c.feed_log_reserved.ensures.lines_bounded)) c.feed_log_reserved.ensures.all in
    ap (λ n. take n c.args.piece.now) whole ∙ take-length c.args.piece.now

pub returns-clause-state : goal.returns-clause-state
returns-clause-state c =
    c.feed_log_reserved.ensures.state ∙ ap (λ (xs : List ℕ). (play c.args.self.now xs).state) (all-played c)

pub returns-clause-reports : goal.returns-clause-reports
returns-clause-reports c =
    rw c.in_ok-reserve.ensures.items at c.feed_log_reserved.ensures.reports
    ∙ ap (λ (xs : List ℕ). c.args.reports.now.items ++ (play c.args.self.now xs).reports) (all-played c)

pub returns-clause-lines : goal.returns-clause-lines
returns-clause-lines c =
    rw c.in_ok-reserve-2.ensures.items at c.feed_log_reserved.ensures.lines
    ∙ ap (λ (xs : List ℕ). c.args.lines.now.items ++ log c.args.self.now xs) (all-played c)
