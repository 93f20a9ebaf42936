use Rattle.std.proofs.Common.{◌∙◌, List, ap, sym}
use Rattle.vt_replay.specs.declared.resized.Resize.{Resize}
use Rattle.vt_replay.specs.Resizes.{played_on, kept_on}
use Rattle.vt_replay.proofs.resized.Resized.new.Goals as goal

pub returns-clause-played : goal.returns-clause-played
returns-clause-played g c = λ ι bytes.
    (sym (c.settle.ensures.on bytes)
    ∙ ap (λ (l : List Resize). played_on g.P.Player.session (g.P.Player.kept c.in_ok-player.player) l bytes) (c.bytes_before-left.ensures ∙ c.in_ok-later.ensures)
    ∙ ap (λ (k : g.P.Player.Kept). played_on g.P.Player.session k c.args.resizes.now bytes) c.in_ok-player.ensures.kept) ι

pub returns-clause-kept : goal.returns-clause-kept
returns-clause-kept g c = λ ι bytes.
    (sym (c.settle.ensures.kept bytes)
    ∙ ap (λ (l : List Resize). kept_on g.P.Player.session (g.P.Player.kept c.in_ok-player.player) l bytes) (c.bytes_before-left.ensures ∙ c.in_ok-later.ensures)
    ∙ ap (λ (k : g.P.Player.Kept). kept_on g.P.Player.session k c.args.resizes.now bytes) c.in_ok-player.ensures.kept) ι
