use Rattle.std.proofs.Common.{◌∙◌, ◌≤◌, List, length, ap, sym, arith}
use Rattle.vt_replay.specs.declared.resized.Resize.{Resize}
use Rattle.vt_replay.specs.Resizes.{played_on}
use Rattle.vt_replay.specs.Log.{lines_on}
use Rattle.vt_replay.proofs.LogResizing.{begun_lines, none_left}
use Rattle.vt_replay.proofs.log_output.LogOutput.new_with.Goals as goal

pub settle_log-requires : goal.settle_log-requires
settle_log-requires g c = λ comes.
    let begun = c.rows.ensures.begun c.args.size c.in_ok-player.ensures.kept in
    omega (arith, begun, c.in_ok-reports.ensures.len)

pub returns-clause-lines : goal.returns-clause-lines
returns-clause-lines g c = λ ι bytes.
    let begun = c.rows.ensures.begun c.args.size c.in_ok-player.ensures.kept in
    let few : length c.settle_log.new.lines.items ≤ 0 =
    omega (arith, begun, c.settle_log.ensures.bounded, c.rows-2.ensures.some, c.in_ok-reports.ensures.len, c.settle_log.new.lines.ok) in
    (sym (begun_lines _ _ _ _ c.in_ok-reports.ensures.items few (c.settle_log.ensures.lines bytes))
    ∙ ap (λ (l : List Resize). lines_on g.P.Player.session (g.P.Player.kept c.in_ok-player.player) l bytes) (c.bytes_before-left.ensures ∙ c.in_ok-later.ensures)
    ∙ ap (λ (k : g.P.Player.Kept). lines_on g.P.Player.session k c.args.resizes.now bytes) c.in_ok-player.ensures.kept) ι

pub returns-clause-played : goal.returns-clause-played
returns-clause-played g c = λ ι bytes.
    (sym (c.settle_log.ensures.on bytes)
    ∙ ap (λ (l : List Resize). played_on g.P.Player.session (g.P.Player.kept c.in_ok-player.player) l bytes) (c.bytes_before-left.ensures ∙ c.in_ok-later.ensures)
    ∙ ap (λ (k : g.P.Player.Kept). played_on g.P.Player.session k c.args.resizes.now bytes) c.in_ok-player.ensures.kept) ι

pub returns-clause-none : goal.returns-clause-none
returns-clause-none g c =
    none_left c.settle_log.new.later.items (λ l. l.after) (λ l. g.P.Player.screen l.target) g.P.Player.session _ c.settle_log.new.left
    c.settle_log.ensures.settled c.rows-2.ensures.none
