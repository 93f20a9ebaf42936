use Rattle.std.proofs.Common.{◌≡◌, [], Some, refl}
use Rattle.std.proofs.lemmas.Result.{IfOk-weaker}
use Rattle.vt_recording.specs.declared.timeline.Timeline.{Timeline}
use Rattle.vt_recording.specs.Timeline.{at_once}
use Rattle.vt_recording.specs.Gathered.{IsRead}
use Rattle.vt_recording.proofs.events.script_timeline.Goals as goal

pub returns-in-None : goal.returns-in-None
returns-in-None c =
    let none = c.in-None.ensures.none in
    IfOk-weaker _ _ _
    (λ (t : Timeline) (r : IsRead (λ x. x ≡ at_once [] (Some 0)) t). record {
      events = r.events;
      is = ([], Some 0, rw none (refl, refl), r.is);
      are = r.are;
    })
    c.at_once-in-None.ensures
