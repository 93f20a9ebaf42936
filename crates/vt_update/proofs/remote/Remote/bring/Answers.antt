use Rattle.std.proofs.Common.{arith}
use Rattle.vt_update.proofs.Elements.{appended_then}
use Rattle.vt_update.proofs.remote.Remote.bring.Goals as goal

pub set_saved-requires-clause-row : goal.set_saved-requires-clause-row
set_saved-requires-clause-row g c = let place = c.cursor-cursor.ensures.sound.display.saved in
    rw c.saved.ensures (place.row_1, place.row_last)

pub set_saved-requires-clause-left : goal.set_saved-requires-clause-left
set_saved-requires-clause-left g c = rw c.saved.ensures c.cursor-cursor.ensures.sound.display.saved_sets.left

pub set_saved-requires-clause-right : goal.set_saved-requires-clause-right
set_saved-requires-clause-right g c = rw c.saved.ensures c.cursor-cursor.ensures.sound.display.saved_sets.right

pub returns-clause-appended : goal.returns-clause-appended
returns-clause-appended g c = appended_then _ _ _ c.set_cells.ensures.appended c.flush.ensures.appended

pub shared_whole_as_front-blank : goal.shared_whole_as_front-blank
shared_whole_as_front-blank g c = (omega (arith, c.min.ensures), omega (arith, c.requires.columns))
