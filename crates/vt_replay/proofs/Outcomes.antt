-- The outcome of an input that wasn't read whole.
use Rattle.std.proofs.Common.{rules, ◌≡◌, ℕ, List, Bool, true, false, Option, inr}
use Rattle.vt_device.specs.Runs.{Flags}
use Rattle.vt_cli.specs.declared.asked.Request.{Request}
use Rattle.vt_recording.specs.declared.format.Format.{Format}
use Rattle.vt_replay.specs.declared.requests.Outcome.{Outcome}
use Rattle.vt_replay.specs.Request.{IsUnread, OutcomeBy}

-- an input that isn't played as it comes
pub not_streamed : (streamed : Bool) (o : Outcome) (r : Request) (format : Format) (timing : Option (List ℕ)) (b w : List ℕ) (f : Flags)
    → streamed ≡ false → IsUnread o r b w f → OutcomeBy streamed o r format timing b w f
not_streamed false o r format timing b w f e unread = inr unread
not_streamed true o r format timing b w f e unread = search (rules, e)
