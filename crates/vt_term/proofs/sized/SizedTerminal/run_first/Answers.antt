use Rattle.vt_term.proofs.Bytes.{graphic, graphic-front, plain-have}
use Rattle.std.proofs.Common.{rules, ℕ, List, All, take, refl}
use Rattle.vt_glyph.specs.Invocation.{HasGlyph}
use Rattle.vt_term.proofs.Playing.{takes-front, feeds-prints, happenings-printed}
use Rattle.vt_term.proofs.sized.SizedTerminal.run_first.Goals as goal

pub event_first-requires-clause-front : goal.event_first-requires-clause-front
event_first-requires-clause-front g c = graphic-front c.args.piece.now c.requires.some (graphic _ c.requires.graphic)

pub run-requires-clause-takes : goal.run-requires-clause-takes
run-requires-clause-takes g c = takes-front g.O.Observer.Saw g.O.Observer.Takes g.met.O.Observer.joined _ c.args.piece.now _ c.requires.takes

pub run-requires-2-clause-takes : goal.run-requires-2-clause-takes
run-requires-2-clause-takes g c = takes-front g.O.Observer.Saw g.O.Observer.Takes g.met.O.Observer.joined _ c.args.piece.now _ c.requires.takes

pub returns-then-not-right_half_at-clause-fed : goal.returns-then-not-right_half_at-clause-fed
returns-then-not-right_half_at-clause-fed g c =
    let run = take c.plain_run-run.result c.args.piece.now in
    let have : All HasGlyph run = plain-have run (search rules) in
    feeds-prints g.P.Profile.machine g.P.Profile.screens g.met.P.Profile.prints c.spelled.ensures c.args.self.now c.write_ascii.new.self c.args.profile.now run c.args.out.now.items
    have c.requires.between c.write_ascii.ensures.held c.write_ascii.ensures.written

pub returns-then-not-right_half_at-clause-saw : goal.returns-then-not-right_half_at-clause-saw
returns-then-not-right_half_at-clause-saw g c =
    let run = take c.plain_run-run.result c.args.piece.now in
    let have : All HasGlyph run = plain-have run (search rules) in
    let saw = c.run.ensures c.args.self.now c.soundness.ensures refl c.requires.between in
    rw (happenings-printed g.P.Profile.machine g.P.Profile.screens g.met.P.Profile.prints c.spelled.ensures c.args.self.now c.args.profile.now run have c.requires.between) at saw

pub returns-clause-fed : goal.returns-clause-fed
returns-clause-fed g c =
    let run = take c.graphic_run-run.result c.args.piece.now in
    let have : All HasGlyph run = search rules in
    feeds-prints g.P.Profile.machine g.P.Profile.screens g.met.P.Profile.prints c.spelled.ensures c.args.self.now c.write_in_use.new.self c.args.profile.now run c.args.out.now.items
    have c.requires.between c.write_in_use.ensures.held c.write_in_use.ensures.written

pub returns-clause-saw : goal.returns-clause-saw
returns-clause-saw g c =
    let run = take c.graphic_run-run.result c.args.piece.now in
    let have : All HasGlyph run = search rules in
    let saw = c.run-2.ensures c.args.self.now c.soundness.ensures refl c.requires.between in
    rw (happenings-printed g.P.Profile.machine g.P.Profile.screens g.met.P.Profile.prints c.spelled.ensures c.args.self.now c.args.profile.now run have c.requires.between) at saw
