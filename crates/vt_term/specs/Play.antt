-- The state and the reports after bytes. (this profile)
use Rattle.std.specs.Prelude.{ℕ, List, [], ◌∷◌, ◌++◌}
use Rattle.vt_syntax.specs.declared.event.Event.{Event}
use Rattle.vt_syntax.specs.Held.{events_from, held_from}
use Rattle.vt_term.specs.State.{Display, State}
use Rattle.vt_term.specs.Machines.{screens_after, reports_after, vt220}

-- the state after events
abbrev pub after_events : List Event → Display → Display
after_events events s = screens_after vt220 events s

-- the reports of events, each in the state before its event
abbrev pub reports_of : List Event → Display → List ℕ
reports_of events s = reports_after vt220 events s

-- a state and reports
pub record Played : Type 0 where
  pub state : State
  pub reports : List ℕ

-- bytes after what is held: the events of their one split are carried out, and what their rest leaves is held
unfoldable pub play : State → List ℕ → Played
play s bytes = record {
  state = record {
    display = after_events (events_from s.held bytes) s.display;
    held = held_from s.held bytes;
  };
  reports = reports_of (events_from s.held bytes) s.display;
}

-- two plays, one after the other
abbrev pub both : Played → Played → Played
both before after = record { state = after.state; reports = before.reports ++ after.reports }

-- chunks played in turn
abbrev pub play_all : State → List (List ℕ) → Played
play_all s [] = record { state = s; reports = [] }
play_all s (piece ∷ pieces) = both (play s piece) (play_all (play s piece).state pieces)

-- chunks joined
abbrev pub joined : List (List ℕ) → List ℕ
joined [] = []
joined (piece ∷ pieces) = piece ++ joined pieces
