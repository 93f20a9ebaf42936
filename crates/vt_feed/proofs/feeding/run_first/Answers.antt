use Rattle.std.proofs.Common.{rules, List, ℕ, All, take}
use Rattle.vt_glyph.specs.Invocation.{HasGlyph}
use Rattle.vt_feed.proofs.Fronts.{prints-play, prints-saw, plain-have}
use Rattle.vt_feed.proofs.feeding.run_first.Goals as goal

pub returns-then-not-right_half_at-clause-plays : goal.returns-then-not-right_half_at-clause-plays
returns-then-not-right_half_at-clause-plays g c =
    let run : List ℕ = take c.plain_run-run.result c.args.piece.now in
    let have : All HasGlyph run = plain-have run (search rules) in
    prints-play c.spelled.ensures g.M.Machine.machine g.met.M.Machine.prints_silently _ _ _ run _ have c.requires.between c.write_plain.ensures

pub returns-then-not-right_half_at-clause-saw : goal.returns-then-not-right_half_at-clause-saw
returns-then-not-right_half_at-clause-saw g c =
    let run : List ℕ = take c.plain_run-run.result c.args.piece.now in
    let have : All HasGlyph run = plain-have run (search rules) in
    prints-saw c.spelled.ensures g.M.Machine.machine g.O.Observer.Saw _ _ _ _ run have c.requires.between c.run.ensures

pub returns-clause-plays : goal.returns-clause-plays
returns-clause-plays g c =
    let run : List ℕ = take c.graphic_run-run.result c.args.piece.now in
    let have : All HasGlyph run = search rules in
    prints-play c.spelled.ensures g.M.Machine.machine g.met.M.Machine.prints_silently _ _ _ run _ have c.requires.between c.write_graphic.ensures

pub returns-clause-saw : goal.returns-clause-saw
returns-clause-saw g c =
    let run : List ℕ = take c.graphic_run-run.result c.args.piece.now in
    let have : All HasGlyph run = search rules in
    prints-saw c.spelled.ensures g.M.Machine.machine g.O.Observer.Saw _ _ _ _ run have c.requires.between c.run-2.ensures
