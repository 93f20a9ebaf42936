use Rattle.std.proofs.Common.{[], ◌∷◌}
use Rattle.vt_utf8.specs.Translation.{translation}
use Rattle.vt_utf8.proofs.TakenAs.{takes-as, translated-one, no-report}
use Rattle.vt_utf8.proofs.sink.Vt220Sink.take_beyond.Goals as goal

pub returns-clause-takes : goal.returns-clause-takes
returns-clause-takes g c =
    let s = c.args.terminal.now in
    let fed = c.character.ensures in
    takes-as g.L.Log.Keeps s c.character.new.terminal _ (c.args.c ∷ []) (translation s c.args.c) _ _ _ _
    (translated-one s c.args.c) fed.state (no-report _ _ _ fed.out fed.silent) fed.keeps
