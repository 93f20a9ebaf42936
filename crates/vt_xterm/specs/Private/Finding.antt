-- The laws of the observers: of the one that finds the events that a front doesn't leave to the terminal, and of the one that finds
-- those that set DECLRMM.
use Rattle.std.specs.Prelude.{◌≡◌, ◌++◌, ◌∷◌, List, [], ⊤, false, Some, None}
use Rattle.std.proofs.Common.{subst, sym}
use Rattle.std.proofs.lemmas.Grind.{flat_map-append}
use Rattle.vt_syntax.specs.declared.event.Event.{Event}
use Rattle.vt_syntax.specs.declared.event.Event.TheVariants.{Print, Control, Escape, Sequence}
use Rattle.vt_term.specs.Happenings.{Happening, events_in}
use Rattle.vt_term.specs.Observing.{AreJoined}
use Rattle.vt_term.specs.Functions.{effect}
use Rattle.vt_term.specs.Scrolling.{line_off}
use Rattle.vt_xterm.specs.Pages.{Screens, on_display}
use Rattle.vt_xterm.specs.Front.{screen_effect, sets_sides}
use Rattle.vt_xterm.specs.Log.{page_line_off}
use Rattle.vt_xterm.specs.Terminals.{IsTerminals, AreTerminals}

-- the event has a VT220's effect if left and right margins bound nothing, whatever they are, and scrolls off what it scrolls off there
abbrev pub IsVt220 : Event → Type 0
IsVt220 event = (s : Screens)
    → (screen_effect event s ≡ on_display (effect event) s) × (page_line_off event s.display ≡ line_off event s.display)

pub is-terminals : (event : Event) → IsVt220 event → IsTerminals event
is-terminals event own s none = own s

pub terminals-append : (xs ys : List Event) → AreTerminals xs → AreTerminals ys → AreTerminals (xs ++ ys)
unfolding AreTerminals
terminals-append [] ys first second = second
terminals-append (x ∷ xs) ys first second = (first.0, terminals-append xs ys first.1 second)

pub terminals-none : (events : List Event) → events ≡ [] → AreTerminals events
unfolding AreTerminals
terminals-none events is = subst AreTerminals (sym is) tt

-- all events of the happenings have a VT220's effect
abbrev pub FindsNone : List Happening → Type 0
FindsNone hs = AreTerminals (events_in hs)

pub finder_joined : {O : Type 0} → AreJoined {O = O} (λ o hs p. FindsNone hs) (λ o n. ⊤)
unfolding AreTerminals
finder_joined = record {
  nothing = λ o. tt;
  more = λ o p q xs ys first second. subst AreTerminals (sym (flat_map-append (λ h. h.events) xs ys))
      (terminals-append (events_in xs) (events_in ys) first second);
  fewer = λ o m n few takes. tt;
  left = λ o p hs n saw takes. tt;
}

-- ---- DECLRMM

-- an event that doesn't set DECLRMM
abbrev pub KeepsNone : Event → Type 0
KeepsNone (Print b) = ⊤
KeepsNone (Control b) = ⊤
KeepsNone (Escape inter last) = ⊤
KeepsNone (Sequence None params inter last) = ⊤
KeepsNone (Sequence (Some marker) params None last) = sets_sides marker last params.items ≡ false
KeepsNone (Sequence (Some marker) params (Some inter) last) = ⊤

unfoldable pub AllKeepNone : List Event → Type 0
AllKeepNone [] = ⊤
AllKeepNone (event ∷ events) = KeepsNone event × AllKeepNone events

pub none-append : (xs ys : List Event) → AllKeepNone xs → AllKeepNone ys → AllKeepNone (xs ++ ys)
unfolding AllKeepNone
none-append [] ys first second = second
none-append (x ∷ xs) ys first second = (first.0, none-append xs ys first.1 second)

pub none-none : (events : List Event) → events ≡ [] → AllKeepNone events
unfolding AllKeepNone
none-none events is = subst AllKeepNone (sym is) tt

-- no event of the happenings sets DECLRMM
abbrev pub SetsNone : List Happening → Type 0
SetsNone hs = AllKeepNone (events_in hs)

pub setter_joined : {O : Type 0} → AreJoined {O = O} (λ o hs p. SetsNone hs) (λ o n. ⊤)
unfolding AllKeepNone
setter_joined = record {
  nothing = λ o. tt;
  more = λ o p q xs ys first second. subst AllKeepNone (sym (flat_map-append (λ h. h.events) xs ys))
      (none-append (events_in xs) (events_in ys) first second);
  fewer = λ o m n few takes. tt;
  left = λ o p hs n saw takes. tt;
}
