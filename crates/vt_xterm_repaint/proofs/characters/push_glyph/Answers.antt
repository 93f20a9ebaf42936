use Rattle.vt_xterm_display.proofs.Graphic.{shown-scalars}
use Rattle.vt_xterm_repaint.proofs.characters.push_glyph.Goals as goal

pub push_character-requires-clause-scalar : goal.push_character-requires-clause-scalar
push_character-requires-clause-scalar c = rw c.character.ensures (shown-scalars c.args.cell c.is_sound.ensures).0

pub push_mark-requires-clause-scalar : goal.push_mark-requires-clause-scalar
push_mark-requires-clause-scalar c = rw c.mark.ensures (shown-scalars c.args.cell c.is_sound.ensures).1

pub push_mark-requires-2-clause-scalar : goal.push_mark-requires-2-clause-scalar
push_mark-requires-2-clause-scalar c = rw c.other_mark.ensures (shown-scalars c.args.cell c.is_sound.ensures).2
