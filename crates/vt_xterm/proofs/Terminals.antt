-- Bytes whose events all have a VT220's effect are played as on a VT220, while DECLRMM is reset.
use Rattle.std.proofs.Common.{◌≡◌, ℕ, List, [], ◌∷◌, ◌++◌, All, map, refl, sym, ap, ◌∙◌, subst, Bool, true, false, None}
use Rattle.std.specs.Bool.{OnFalse}
use Rattle.std.specs.Prelude.{◌==◌, if◌then◌else◌}
use Rattle.std.specs.List.{list_any}
use Rattle.vt_syntax.specs.declared.event.Event.{Event}
use Rattle.vt_syntax.specs.declared.event.Event.TheVariants.{Print, Control, Sequence}
use Rattle.vt_syntax.specs.declared.held.Held.{Held}
use Rattle.vt_syntax.specs.declared.held.Held.TheVariants.{Nothing}
use Rattle.vt_syntax.specs.Held.{events_from}
use Rattle.vt_syntax.specs.Laws.{SpellingLaw}
use Rattle.vt_glyph.specs.Invocation.{HasGlyph}
use Rattle.vt_term.specs.State.{State}
use Rattle.vt_term.specs.Functions.{effect, sequence_in}
use Rattle.vt_term.specs.Rendition.{select_graphic_rendition}
use Rattle.vt_term.specs.Reports.{report}
use Rattle.vt_term.specs.Play.{play, after_events, reports_of}
use Rattle.vt_screen.specs.declared.cell.Cell.{Cell}
use Rattle.vt_term.specs.Scrolling.{line_off, lines_off, scrolled_off}
use Rattle.vt_term.proofs.Bytes.{graphic-events}
use Rattle.vt_xterm.specs.Pages.{Screens, on_display}
use Rattle.vt_xterm.specs.Attributes.{begins_colour}
use Rattle.vt_xterm.specs.Front.{functions_of, function_in, xterm_effect}
use Rattle.vt_xterm.specs.Log.{function_off, page_line_off, xterm_lines_off}
use Rattle.vt_xterm.specs.Play as xterm
use Rattle.vt_xterm.specs.Play.{Whole, play_bytes}
use Rattle.vt_xterm.specs.Tabs.{tab}
use Rattle.vt_xterm.specs.Private.Finding.{IsVt220}
use Rattle.vt_xterm.specs.Terminals.{IsTerminals, AreTerminals, PlaysTerminals}
use Rattle.vt_xterm.proofs.Colours.{without-colours}
use Rattle.vt_xterm.proofs.NoSides.{effect-none, line-none}
use Rattle.vt_term.specs.Functions.{sequences_any}

-- SGR without a colour
plain-rendition : (values : List ℕ) → list_any begins_colour values ≡ false
    → IsVt220 (Sequence None (record { items = values }) None 0x6D)
unfolding functions_of function_in sequence_in sequences_any function_off
plain-rendition values none = λ s. (
  ap (λ (params : List ℕ). on_display (select_graphic_rendition params) s) (without-colours values none),
  refl,
)

pub rendition-own : (values : List ℕ) (last : ℕ) (r : Bool) → last ≡ 0x6D → r ≡ list_any begins_colour values
    → OnFalse r (IsVt220 (Sequence None (record { items = values }) None last))
rendition-own values last true is found = tt
rendition-own values last false is found =
    subst (λ (n : ℕ). IsVt220 (Sequence None (record { items = values }) None n)) (sym is)
    (plain-rendition values (sym found))

-- a control but HT
pub control-own : (b : ℕ) (tabs : Bool) → tabs ≡ (b == 0x09) → OnFalse tabs (IsVt220 (Control b))
control-own b true is = tt
control-own b false is = λ s. (ap (λ (tabs : Bool). on_display (λ d. if tabs then tab d else effect (Control b) d) s) (sym is), refl)

pub terminals-one : (events : List Event) (event : Event) → events ≡ event ∷ [] → IsTerminals event → AreTerminals events
unfolding AreTerminals
terminals-one events event is own = subst AreTerminals (sym is) (own, tt)

prints-terminals : (bytes : List ℕ) → AreTerminals (map Print bytes)
unfolding AreTerminals
prints-terminals [] = tt
prints-terminals (b ∷ bytes) = (λ s h. (refl, refl), prints-terminals bytes)

pub terminals-run : SpellingLaw → (s : State) (bytes : List ℕ) → s.held ≡ Nothing → All HasGlyph bytes
    → PlaysTerminals s bytes
terminals-run spelling s bytes between have =
    subst AreTerminals (sym (ap (λ (h : Held). events_from h bytes) between ∙ graphic-events spelling bytes have))
    (prints-terminals bytes)

one-effect : (event : Event) (s : Screens) → s.pages.sides ≡ None → IsTerminals event → xterm_effect event s ≡ on_display (effect event) s
one-effect event s none own = effect-none event s none ∙ (own s none).0

after-terminals : (events : List Event) (s : Screens) → s.pages.sides ≡ None → AreTerminals events
    → xterm.after_events events s ≡ on_display (after_events events) s
unfolding AreTerminals
after-terminals [] s none all = refl
after-terminals (event ∷ events) s none all =
    ap (λ (t : Screens). xterm.after_events events t) (one-effect event s none all.0)
    ∙ after-terminals events (on_display (effect event) s) none all.1

reports-terminals : (events : List Event) (s : Screens) → s.pages.sides ≡ None → AreTerminals events
    → xterm.reports_of events s ≡ reports_of events s.display
unfolding AreTerminals
reports-terminals [] s none all = refl
reports-terminals (event ∷ events) s none all =
    ap (λ (r : List ℕ). report event s.display ++ r)
    (ap (λ (t : Screens). xterm.reports_of events t) (one-effect event s none all.0)
    ∙ reports-terminals events (on_display (effect event) s) none all.1)

-- no line on the alternate page, and those of a VT220 on the main one
alternate-off : (events : List Event) (s : Screens) → s.pages.sides ≡ None → s.pages.alternate ≡ true → AreTerminals events
    → xterm_lines_off events s ≡ []
unfolding AreTerminals
alternate-off [] s none is all = refl
alternate-off (event ∷ events) s none is all =
    ap (λ (t : List (List Cell)). t ++ xterm_lines_off events (xterm_effect event s))
    (line-none event s none ∙ ap (λ (b : Bool). if b then [] else page_line_off event s.display) is)
    ∙ ap (λ (t : Screens). xterm_lines_off events t) (one-effect event s none all.0)
    ∙ alternate-off events (on_display (effect event) s) none is all.1

main-off : (events : List Event) (s : Screens) → s.pages.sides ≡ None → s.pages.alternate ≡ false → AreTerminals events
    → xterm_lines_off events s ≡ lines_off events s.display
unfolding AreTerminals
main-off [] s none is all = refl
main-off (event ∷ events) s none is all =
    ap (λ (t : List (List Cell)). t ++ xterm_lines_off events (xterm_effect event s))
    (line-none event s none ∙ ap (λ (b : Bool). if b then [] else page_line_off event s.display) is ∙ (all.0 s none).1)
    ∙ ap (λ (t : List (List Cell)). line_off event s.display ++ t)
    (ap (λ (t : Screens). xterm_lines_off events t) (one-effect event s none all.0)
    ∙ main-off events (on_display (effect event) s) none is all.1)

lines-terminals : (events : List Event) (s : Screens) (alternate : Bool) → s.pages.sides ≡ None → s.pages.alternate ≡ alternate
    → AreTerminals events → xterm_lines_off events s ≡ if s.pages.alternate then [] else lines_off events s.display
lines-terminals events s true none is all =
    alternate-off events s none is all ∙ ap (λ (b : Bool). if b then [] else lines_off events s.display) (sym is)
lines-terminals events s false none is all =
    main-off events s none is all ∙ ap (λ (b : Bool). if b then [] else lines_off events s.display) (sym is)

pub bytes-terminals : (w : Whole) (bytes : List ℕ) → w.pages.sides ≡ None → PlaysTerminals w.state bytes → play_bytes w bytes ≡ record {
  whole = record w { state = (play w.state bytes).state };
  reports = (play w.state bytes).reports;
  lines = if w.pages.alternate then [] else scrolled_off w.state bytes;
}
unfolding play_bytes play scrolled_off
bytes-terminals w bytes none all =
    rw (
      after-terminals (events_from w.state.held bytes) (xterm.screens_of w) none all,
      reports-terminals (events_from w.state.held bytes) (xterm.screens_of w) none all,
      lines-terminals (events_from w.state.held bytes) (xterm.screens_of w) w.pages.alternate none refl all,
    ) refl
