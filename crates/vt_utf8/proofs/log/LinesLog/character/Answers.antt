use Rattle.std.proofs.Common.{refl, arith}
use Rattle.vt_term.specs.Scrolling.{log}
use Rattle.vt_utf8.proofs.log.LinesLog.character.Goals as goal

pub returns-clause-keeps : goal.returns-clause-keeps
unfolding log
returns-clause-keeps g c =
    let fed = c.feed_beyond_ascii_log.ensures in (
      refl,
      refl,
      fed.lines,
      fed.lines_capacity,
      λ fits. omega (arith, fed.lines_bounded, c.requires.lines_room.1),
    )
