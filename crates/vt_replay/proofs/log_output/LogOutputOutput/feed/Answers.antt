use Rattle.std.proofs.Common.{◌∙◌, ◌≤◌, ◌++◌, ℕ, List, length, take, ap, refl, arith}
use Rattle.std.proofs.lemmas.List.{length-take}
use Rattle.vt_term.specs.Play.{Played}
use Rattle.vt_term.specs.Text.{text}
use Rattle.vt_replay.proofs.Resizing.{fed_on}
use Rattle.vt_replay.proofs.LogResizing.{fed_written, fed_more, none_left, front_is, front_takes, front_less, one_before}
use Rattle.vt_replay.proofs.log_output.LogOutputOutput.feed.Goals as goal

pub feed_log-taken-requires-clause-some : goal.feed_log-taken-requires-clause-some
feed_log-taken-requires-clause-some g c =
    let front = c.front_for.ensures.some c.requires.some (omega (arith, c.requires.takes, c.clear.ensures.capacity)) in
    let count = c.front_before-count.ensures.some front in
    omega (arith, c.requires.some, count, length-take c.front_before-count.result c.args.chunk.now)

pub settle_log-requires : goal.settle_log-requires
settle_log-requires g c = λ comes.
    let fed = c.feed_log-taken.ensures in
    let short : c.feed_log-taken.result ≤ c.front_before-count.result =
    omega (arith, fed.within, length-take c.front_before-count.result c.args.chunk.now) in
    let one =
    one_before c.args.self.now.later.items c.args.self.now.left _ c.feed_log-taken.result _ c.front_before-count.ensures.one short
    c.saturating_sub-self.ensures comes in
    let few = fed.one (omega (arith, one, length-take c.front_before-count.result c.args.chunk.now)) in
    omega (
      arith,
      few,
      ap (λ (l : List ℕ). length l) c.requires.empty,
      c.args.out.now.ok,
      c.requires.room,
      c.rows.ensures.most,
      fed.capacity,
    )

pub returns-clause-written : goal.returns-clause-written
returns-clause-written g c =
    let fed = c.feed_log-taken.ensures in
    let n = c.feed_log-taken.result in
    let count = c.front_before-count.result in
    rw (← front_is n count c.args.chunk.now fed.within)
    (fed_written c.args.self.now.later.items _ (λ l. l.after) (λ l. g.P.Player.screen l.target) g.P.Player.session _ _ _
    (take n (take count c.args.chunk.now)) _ _ c.args.self.now.left _ fed.lines_on fed.after
    (front_takes c.args.self.now.later.items n count c.args.self.now.left c.args.chunk.now fed.within
    (c.front_before-count.ensures.before c.args.self.now.settled))
    _ (front_less n count c.args.self.now.left _ c.args.chunk.now fed.within c.saturating_sub-self.ensures)
    (fed.lines ∙ ap (λ (x : List ℕ). x ++ g.P.Player.session.lines (g.P.Player.kept c.args.self.now.player) (take n (take count c.args.chunk.now))) c.requires.empty)
    c.settle_log.ensures.lines c.settle_log.ensures.settled c.rows-2.ensures.none)

pub returns-clause-after : goal.returns-clause-after
returns-clause-after g c =
    let fed = c.feed_log-taken.ensures in
    let n = c.feed_log-taken.result in
    let count = c.front_before-count.result in
    let takes =
    front_takes c.args.self.now.later.items n count c.args.self.now.left c.args.chunk.now fed.within
    (c.front_before-count.ensures.before c.args.self.now.settled) in
    let less = front_less n count c.args.self.now.left _ c.args.chunk.now fed.within c.saturating_sub-self.ensures in
    let lines =
    fed.lines ∙ ap (λ (x : List ℕ). x ++ g.P.Player.session.lines (g.P.Player.kept c.args.self.now.player) (take n (take count c.args.chunk.now))) c.requires.empty in
    rw (← front_is n count c.args.chunk.now fed.within)
    (record {
      on = λ more. fed_more c.args.self.now.later.items _ (λ l. l.after) (λ l. g.P.Player.screen l.target) g.P.Player.session _ _ _
          (take n (take count c.args.chunk.now)) _ _ c.args.self.now.left _ fed.lines_on fed.after takes _ less lines
          c.settle_log.ensures.lines c.settle_log.ensures.settled c.rows-2.ensures.none more;
      end_on = λ more. ap (λ (p : Played). text p.state)
          (fed_on c.args.self.now.later.items _ (λ l. l.after) (λ l. g.P.Player.screen l.target) g.P.Player.session _ _ _ _
          (take n (take count c.args.chunk.now)) c.args.self.now.left _ fed.on fed.after takes _ less c.settle_log.ensures.on
          c.settle_log.ensures.settled c.sized.ensures.state more);
      there_on = λ more. refl;
      none = none_left c.settle_log.new.later.items (λ l. l.after) (λ l. g.P.Player.screen l.target) g.P.Player.session _ c.settle_log.new.left
          c.settle_log.ensures.settled c.rows-2.ensures.none;
    })
