-- Events that a front leaves to the terminal. (this profile)
use Rattle.std.specs.Prelude.{◌≡◌, ℕ, List, [], ◌∷◌, None, ⊤}
use Rattle.vt_syntax.specs.declared.event.Event.{Event}
use Rattle.vt_syntax.specs.Held.{events_from}
use Rattle.vt_term.specs.State.{State}
use Rattle.vt_term.specs.Functions.{effect}
use Rattle.vt_term.specs.Scrolling.{line_off}
use Rattle.vt_xterm.specs.Pages.{Screens, on_display}
use Rattle.vt_xterm.specs.Front.{screen_effect}
use Rattle.vt_xterm.specs.Log.{page_line_off}

-- while DECLRMM is reset the event has a VT220's effect, and scrolls off what it scrolls off there
abbrev pub IsTerminals : Event → Type 0
IsTerminals event = (s : Screens) → s.pages.sides ≡ None
    → (screen_effect event s ≡ on_display (effect event) s) × (page_line_off event s.display ≡ line_off event s.display)

unfoldable pub AreTerminals : List Event → Type 0
AreTerminals [] = ⊤
AreTerminals (event ∷ events) = IsTerminals event × AreTerminals events

-- all events of bytes have a VT220's effect
abbrev pub PlaysTerminals : State → List ℕ → Type 0
PlaysTerminals s bytes = AreTerminals (events_from s.held bytes)
