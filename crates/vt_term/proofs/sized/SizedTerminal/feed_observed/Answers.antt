-- A VT220 as a profile.
use Rattle.std.proofs.Common.{take}
use Rattle.vt_term.proofs.Playing.{feeds-vt220, happenings-vt220}
use Rattle.vt_term.proofs.sized.SizedTerminal.feed_observed.Goals as goal

pub returns-clause-state : goal.returns-clause-state
returns-clause-state g c =
    (feeds-vt220 c.args.self.now c.feed_as.new.self _ _ (take c.feed_as.result c.args.piece.now) c.args.out.now.items
    c.feed_as.new.out.items c.feed_as.ensures.fed).0

pub returns-clause-reports : goal.returns-clause-reports
returns-clause-reports g c =
    (feeds-vt220 c.args.self.now c.feed_as.new.self _ _ (take c.feed_as.result c.args.piece.now) c.args.out.now.items
    c.feed_as.new.out.items c.feed_as.ensures.fed).1

pub returns-clause-saw : goal.returns-clause-saw
returns-clause-saw g c =
    rw (happenings-vt220 c.args.self.now (take c.feed_as.result c.args.piece.now)) at c.feed_as.ensures.saw
