-- What passes before an event that doesn't, at one of the events.
use Rattle.std.proofs.Common.{◌≡◌, ◌∷◌, [], List, Bool, true, false, Option}
use Rattle.vt_recording.specs.declared.format.Moment.{Moment}
use Rattle.vt_recording.specs.declared.reached.Passed.{Passed}
use Rattle.vt_recording.specs.Timeline.{Event}
use Rattle.vt_recording.specs.Reached.{with_event, stops, passed}

module _ (until characters : Bool) (moment : Option Moment) (so_far whole : Passed) (e : Event) (here rest : List Event)
    (is_next : here ≡ e ∷ rest) (ahead : passed until characters moment so_far here ≡ whole) where
  pub one_more : (next : Passed) → next ≡ with_event characters so_far e → stops until moment so_far e.micros e.kind ≡ false
      → passed until characters moment next rest ≡ whole
  unfolding passed
  one_more next is goes = rw is (rw (is_next, goes) at ahead)

  pub stops_here : stops until moment so_far e.micros e.kind ≡ true → so_far ≡ whole
  unfolding passed
  stops_here ends = rw (is_next, ends) at ahead

pub none_left : (until characters : Bool) (moment : Option Moment) (so_far whole : Passed) (here : List Event) → here ≡ []
    → passed until characters moment so_far here ≡ whole → so_far ≡ whole
unfolding passed
none_left until characters moment so_far whole here none ahead = rw none at ahead
