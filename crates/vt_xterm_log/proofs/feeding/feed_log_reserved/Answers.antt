use Rattle.std.proofs.Common.{rules, ◌≡◌, ◌++◌, take, refl, subst, arith}
use Rattle.vt_xterm_display.specs.State.{XtermState}
use Rattle.vt_xterm_log.specs.Log.{log_of}
use Rattle.vt_xterm_log.proofs.Sizes.{happenings-short}
use Rattle.vt_xterm_log.proofs.feeding.feed_log_reserved.Goals as goal

pub returns-clause-lines : goal.returns-clause-lines
unfolding log_of
returns-clause-lines c =
    let s = c.args.xterm.now in
    let saw = c.feed_observed.ensures.saw in
    let same = subst (λ (x : XtermState). x.other.grid.size ≡ x.shown.grid.size) c.screen.ensures c.soundness.ensures.own.one_size in
    let lines : c.feed_observed.new.observer.lines.now.items ≡ c.args.lines.now.items ++ log_of s (take c.feed_observed.result c.args.piece.now) =
    saw.3 (happenings-short c.text_limit-limit.result s.screen.shown.grid.size (omega (arith, c.text_limit-limit.ensures)) s.reading s.screen
    (take c.feed_observed.result c.args.piece.now) (refl, same)) in
    search (rules, lines, saw.0)
