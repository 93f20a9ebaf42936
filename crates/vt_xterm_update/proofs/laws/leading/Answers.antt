use Rattle.vt_xterm_update.proofs.Turns.{leads-nothing, leads-in-turn, leads-cut}
use Rattle.vt_xterm_update.proofs.laws.leading.Goals as goal

pub returns : goal.returns
returns c = record { nothing = leads-nothing; in_turn = leads-in-turn; cut = leads-cut }
