-- The trace of what a host sends under TERM=xterm. (this profile)
use Rattle.std.specs.Prelude.{◌≡◌, ℕ, List, [], ◌∷◌, true, nat_lt, ⊤}
use Rattle.vt_syntax.specs.declared.event.Event.{Event}
use Rattle.vt_syntax.specs.Held.{events_from}
use Rattle.vt_term.specs.Names.{name_on}
use Rattle.vt_term.specs.Scrolling.{lines_off}
use Rattle.vt_trace.specs.declared.tracing.Tracer.{Tracer}
use Rattle.vt_trace.specs.Utf8.{Dialect, dialect_trace, dialect_tracer}
use Rattle.vt_xterm.specs.Play.{Whole, play_character}
use Rattle.vt_xterm.specs.Terminals.{PlaysTerminals}
use Rattle.vt_xterm_trace.specs.Names.{xterm_names}

-- the dialect: xterm's names, and the states and the reports that characters have under TERM=xterm
abbrev pub xterm_dialect : Dialect Whole
xterm_dialect = record {
  names = xterm_names;
  happens = λ w c. record {
    held = w.state.held;
    byte = c;
    before = w.state.display;
    events = events_from w.state.held (c ∷ []);
    lines = lines_off (events_from w.state.held (c ∷ [])) w.state.display;
  };
  after = λ w c. (play_character w c).whole;
  reports = λ w c. (play_character w c).reports;
}

-- what is written of bytes after a pending part
abbrev pub trace_xterm : Whole → Tracer → (pending bytes : List ℕ) → List ℕ
trace_xterm w t pending bytes = dialect_trace xterm_dialect w t pending bytes

-- the tracer after bytes
abbrev pub tracer_xterm : Whole → Tracer → (pending bytes : List ℕ) → Tracer
tracer_xterm w t pending bytes = dialect_tracer xterm_dialect w t pending bytes

-- ---- for laws

-- events have a VT220's names
abbrev pub HaveNames : List Event → Type 0
HaveNames [] = ⊤
HaveNames (event ∷ events) = ((rows : ℕ) → xterm_names rows event ≡ name_on rows event) × HaveNames events

-- the events of ASCII characters have a VT220's names and effect, each in the state that those before it leave
abbrev pub PlaysVt220s : Whole → List ℕ → Type 0
PlaysVt220s w [] = ⊤
PlaysVt220s w (c ∷ cs) =
    (nat_lt c 0x80 ≡ true → PlaysTerminals w.state (c ∷ []) × HaveNames (events_from w.state.held (c ∷ [])))
    × PlaysVt220s (play_character w c).whole cs
