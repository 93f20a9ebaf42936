-- While DECLRMM is reset, events have the effect that they have without left and right margins.
use Rattle.std.proofs.Common.{rules, ◌≡◌, ℕ, Bool, true, false, List, [], ◌∷◌, ◌++◌, Option, Some, None, All, map, refl, sym, ap, ◌∙◌, subst}
use Rattle.std.specs.Prelude.{◌==◌, ◌||◌, ◌&&◌, if◌then◌else◌}
use Rattle.std.specs.List.{list_any}
use Rattle.vt_syntax.specs.declared.event.Event.{Event}
use Rattle.vt_syntax.specs.declared.event.Event.TheVariants.{Print, Control, Escape, Sequence}
use Rattle.vt_syntax.specs.declared.held.Held.{Held}
use Rattle.vt_syntax.specs.Held.{IsHeldPart, events_from, held_from, spell}
use Rattle.vt_syntax.specs.declared.held.Held.TheVariants.{Nothing}
use Rattle.vt_syntax.specs.Laws.{SplitLaw, SpellingLaw}
use Rattle.vt_glyph.specs.Invocation.{HasGlyph}
use Rattle.vt_term.proofs.Bytes.{graphic-events}
use Rattle.vt_term.specs.State.{State, last_column}
use Rattle.vt_term.specs.Parameters.{first, second}
use Rattle.vt_term.specs.Resets.{is_level}
use Rattle.vt_term.specs.Modes.{private_modes, with_mode}
use Rattle.vt_term.specs.Functions.{byte, effect}
use Rattle.vt_term.specs.Reports.{report}
use Rattle.vt_term.specs.Machines.{Machine, screens_after, reports_after}
use Rattle.vt_term.specs.Happenings.{happenings_on, events_in}
use Rattle.vt_term.proofs.Tables.{AllRows, looked_up-holds}
use Rattle.vt_xterm.specs.declared.sides.Sides.{Sides}
use Rattle.vt_xterm.specs.Sides.{bounds}
use Rattle.vt_xterm.specs.Pages.{PagesState, Screens, on_display, bounds_of, page_modes, with_page_mode, change_page_modes, restore_screens}
use Rattle.vt_xterm.specs.Pages.{show_page, exchanged, with_blank, show_or_clear, save_or_restore, show_and_save}
use Rattle.vt_xterm.specs.Pages.{allowed_column_mode, sided_origin_mode, origin_mode_between, autowrap_mode_between}
use Rattle.vt_xterm.specs.Pages.{change_sides, side_mode, unwrapped, sided}
use Rattle.vt_xterm.specs.Bounded.{is_bare}
use Rattle.vt_xterm.specs.Front.{function_in, functions_of, plain_functions, private_functions, exclamation_functions}
use Rattle.vt_xterm.specs.Front.{quote_functions, intermediate_functions, plain_escapes, alignments, escapes_with}
use Rattle.vt_xterm.specs.Front.{save_or_set_sides, restore_if_bare, set_level_without_sides, set_level_wrapping}
use Rattle.vt_xterm.specs.Front.{screen_effect, effect_between, xterm_effect}
use Rattle.vt_xterm.specs.Log.{page_line_off, line_off_between, xterm_line_off}
use Rattle.vt_xterm.specs.Play.{after_events, reports_of}
use Rattle.vt_xterm.specs.Front.{sets_sides, is_side_function}
use Rattle.vt_xterm.specs.Private.Finding.{KeepsNone, AllKeepNone}
use Rattle.vt_xterm.specs.Private.Profiles.{unbounded}

pub none-bounds : (s : Screens) → s.pages.sides ≡ None → bounds_of s ≡ None
unfolding bounds
none-bounds s none = ap (λ (m : Option Sides). bounds (last_column s.display) m) none

-- so they have if the margins leave no column out
pub effect-unbounded : (event : Event) (s : Screens) → bounds_of s ≡ None → xterm_effect event s ≡ screen_effect event s
effect-unbounded event s none = ap (λ (b : Option Sides). effect_between event b s) none

pub effect-none : (event : Event) (s : Screens) → s.pages.sides ≡ None → xterm_effect event s ≡ screen_effect event s
effect-none event s none = effect-unbounded event s (none-bounds s none)

-- the lines that scroll off, by the margins that bound functions
pub line-by : (event : Event) (s : Screens) (b : Option Sides) → bounds_of s ≡ b
    → xterm_line_off event s ≡ if s.pages.alternate then [] else line_off_between event b s.display
line-by event s b is =
    ap (λ (b : Option Sides). if s.pages.alternate then [] else line_off_between event b s.display) is

pub line-none : (event : Event) (s : Screens) → s.pages.sides ≡ None
    → xterm_line_off event s ≡ if s.pages.alternate then [] else page_line_off event s.display
line-none event s none = line-by event s None (none-bounds s none)

-- ---- events keep it reset, but for ?69h

abbrev pub KeepNone : (Screens → Screens) → Type 0
KeepNone f = (s : Screens) → s.pages.sides ≡ None → (f s).pages.sides ≡ None

one-none : (b : Bool) (s t : Screens) → s.pages.sides ≡ None → t.pages.sides ≡ None → (if b then s else t).pages.sides ≡ None
one-none true s t one two = one
one-none false s t one two = two

changed-none : (f : Sides → Sides) (sides : Option Sides) → sides ≡ None → change_sides f sides ≡ None
changed-none f sides none = ap (λ (m : Option Sides). change_sides f m) none

restore-none : KeepNone restore_screens
restore-none s none = changed-none (λ m. record m { wrap = false }) s.pages.sides none

restore_if_bare-none : (params : List ℕ) → KeepNone (restore_if_bare params)
restore_if_bare-none params s none = one-none (is_bare params) (restore_screens s) s (restore-none s none) none

s-none : (params : List ℕ) → KeepNone (λ s. save_or_set_sides params s.pages.sides s)
s-none params s none =
    subst (λ (m : Option Sides). (save_or_set_sides params m s).pages.sides ≡ None) (sym none)
    (one-none (is_bare params) _ s none none)

show_page-none : (alternate : Bool) → KeepNone (show_page alternate)
show_page-none alternate s none =
    one-none s.pages.alternate (if alternate then s else exchanged false s) (if alternate then exchanged true s else s)
    (one-none alternate s (exchanged false s) none none) (one-none alternate (exchanged true s) s none none)

show_or_clear-none : (alternate : Bool) → KeepNone (show_or_clear alternate)
show_or_clear-none true s none = show_page-none true s none
show_or_clear-none false s none =
    one-none s.pages.alternate (with_blank (show_page false s)) s (show_page-none false s none) none

save_or_restore-none : (save : Bool) → KeepNone (save_or_restore save)
save_or_restore-none true s none = none
save_or_restore-none false s none = restore-none s none

show_and_save-none : (alternate : Bool) → KeepNone (show_and_save alternate)
show_and_save-none true s none =
    let t = show_page true (record s { display = (save_or_restore true s).display }) in
    changed-none (λ m. record m { wrap = false }) t.pages.sides
    (show_page-none true (record s { display = (save_or_restore true s).display }) none)
show_and_save-none false s none = restore-none (show_page false s) (show_page-none false s none)

allowed_column_mode-none : (wide : Bool) → KeepNone (allowed_column_mode wide)
allowed_column_mode-none wide s none = one-none s.pages.resizes _ s (changed-none _ s.pages.sides none) none

origin_mode_between-none : (on : Bool) → KeepNone (origin_mode_between on)
origin_mode_between-none on s none = go (bounds_of s)
  where
    go : (b : Option Sides) → (unwrapped (sided_origin_mode on b s)).pages.sides ≡ None
    go None = changed-none (λ m. record m { wrap = false }) s.pages.sides none
    go (Some m) = changed-none (λ m. record m { wrap = false }) s.pages.sides none

autowrap_mode_between-none : (on : Bool) → KeepNone (autowrap_mode_between on)
autowrap_mode_between-none true s none = none
autowrap_mode_between-none false s none = changed-none (λ m. record m { wrap = false }) s.pages.sides none

-- ?69l, and what isn't ?69
abbrev pub is_side_mode : Bool → ℕ → Bool
is_side_mode on p = on && p == 69

side_mode-none : (on : Bool) → is_side_mode on 69 ≡ false → KeepNone (side_mode on)
side_mode-none true h s none = absurd cc
side_mode-none false h s none = refl

page_mode-none : (on : Bool) (p : ℕ) → is_side_mode on p ≡ false → KeepNone (with_page_mode on p)
unfolding with_page_mode AllRows
page_mode-none on p =
    looked_up-holds (λ key f. is_side_mode on key ≡ false → KeepNone (f on)) page_modes p
    (λ on. on_display (with_mode private_modes on p)) (λ h s none. none) (
      λ h. allowed_column_mode-none on,
      (
        λ h. origin_mode_between-none on,
        (
          λ h. autowrap_mode_between-none on,
          (
            λ h s none. none,
            (
              λ h. show_page-none on,
              (
                side_mode-none on,
                (
                  λ h. show_or_clear-none on,
                  (λ h. save_or_restore-none on, (λ h. show_and_save-none on, (λ h s none. none, tt))),
                ),
              ),
            ),
          ),
        ),
      ),
    )

neither : (a b : Bool) → (a || b) ≡ false → (a ≡ false) × (b ≡ false)
neither true b h = absurd cc
neither false b h = (refl, h)

page_modes-none : (on : Bool) (params : List ℕ) → list_any (is_side_mode on) params ≡ false
    → KeepNone (change_page_modes on params)
page_modes-none on [] h s none = none
page_modes-none on (p ∷ params) h s none =
    let k = neither (is_side_mode on p) (list_any (is_side_mode on) params) h in
    page_modes-none on params k.1 (with_page_mode on p s) (page_mode-none on p k.0 s none)

never : (params : List ℕ) → list_any (is_side_mode false) params ≡ false
never [] = refl
never (p ∷ params) = never params

own-none : (event : Event) (last : ℕ) (params : List ℕ) → KeepNone (function_in plain_functions event last params)
unfolding function_in AllRows
own-none event last params =
    looked_up-holds (λ key f. KeepNone (f params)) plain_functions last (λ params. on_display (effect event))
    (λ s none. none) (search (rules, s-none, restore_if_bare-none))

private-none : (event : Event) (last : ℕ) (params : List ℕ)
    → (last == byte "h" && list_any (is_side_mode true) params) ≡ false
    → KeepNone (function_in private_functions event last params)
unfolding function_in AllRows
private-none event last params =
    looked_up-holds
    (λ key f. (key == byte "h" && list_any (is_side_mode true) params) ≡ false → KeepNone (f params))
    private_functions last (λ params. on_display (effect event)) (λ h s none. none)
    (λ h. page_modes-none true params h, (λ h. page_modes-none false params (never params), tt))

marked-none : (event : Event) (marker last : ℕ) (params : List ℕ) → sets_sides marker last params ≡ false
    → KeepNone (function_in (functions_of (Some marker) None) event last params)
unfolding functions_of function_in AllRows
marked-none event marker last params =
    looked_up-holds (λ key table. sets_sides key last params ≡ false → KeepNone (function_in table event last params))
    ((byte "?", private_functions) ∷ []) marker [] (λ h s none. none)
    (λ h. private-none event last params h, tt)

level-none : (params : List ℕ) → KeepNone (set_level_without_sides params)
level-none params s none =
    one-none (is_level (first params) (second params)) (sided None (on_display (set_level_wrapping params) s))
    (on_display (set_level_wrapping params) s) refl none

inter-none : (event : Event) (inter last : ℕ) (params : List ℕ)
    → KeepNone (function_in (functions_of None (Some inter)) event last params)
unfolding functions_of function_in AllRows
inter-none event inter last params =
    looked_up-holds (λ key table. KeepNone (function_in table event last params)) intermediate_functions inter []
    (λ s none. none) (
      looked_up-holds (λ key f. KeepNone (f params)) quote_functions last (λ params. on_display (effect event))
          (λ s none. none) (level-none params, tt),
      (
        looked_up-holds (λ key f. KeepNone (f params)) exclamation_functions last (λ params. on_display (effect event))
            (λ s none. none) (λ s none. refl, tt),
        tt,
      ),
    )

escape-none : (last : ℕ) → KeepNone (function_in plain_escapes (Escape None last) last [])
unfolding function_in AllRows
escape-none last =
    looked_up-holds (λ key f. KeepNone (f [])) plain_escapes last (λ params. on_display (effect (Escape None last)))
    (λ s none. none) (restore-none, (λ s none. refl, tt))

escapes_with-none : (inter last : ℕ) → KeepNone (function_in (escapes_with inter) (Escape (Some inter) last) last [])
unfolding function_in AllRows
escapes_with-none inter last =
    looked_up-holds (λ key table. KeepNone (function_in table (Escape (Some inter) last) last []))
    ((byte "#", alignments) ∷ []) inter [] (λ s none. none) (
      looked_up-holds (λ key f. KeepNone (f [])) alignments last (λ params. on_display (effect (Escape (Some inter) last)))
          (λ s none. none) (λ s none. changed-none _ s.pages.sides none, tt),
      tt,
    )

both-none : (event : Event) (marker inter last : ℕ) (params : List ℕ)
    → KeepNone (function_in (functions_of (Some marker) (Some inter)) event last params)
unfolding functions_of function_in
both-none event marker inter last params s none = none

pub event-none : (event : Event) → KeepsNone event → KeepNone (screen_effect event)
unfolding functions_of
event-none (Print b) h s none = none
event-none (Control b) h s none = none
event-none (Escape None last) h s none = escape-none last s none
event-none (Escape (Some inter) last) h s none = escapes_with-none inter last s none
event-none (Sequence None params None last) h s none = own-none (Sequence None params None last) last params.items s none
event-none (Sequence (Some marker) params None last) h s none =
    marked-none (Sequence (Some marker) params None last) marker last params.items h s none
event-none (Sequence None params (Some inter) last) h s none =
    inter-none (Sequence None params (Some inter) last) inter last params.items s none
event-none (Sequence (Some marker) params (Some inter) last) h s none =
    both-none (Sequence (Some marker) params (Some inter) last) marker inter last params.items s none

-- ---- an event but ?69h

side-none : (event : Event) → is_side_function event ≡ false → KeepsNone event
side-none (Print b) h = tt
side-none (Control b) h = tt
side-none (Escape inter last) h = tt
side-none (Sequence None params inter last) h = tt
side-none (Sequence (Some marker) params None last) h = h
side-none (Sequence (Some marker) params (Some inter) last) h = tt

pub xterm-none : (event : Event) (s : Screens) → s.pages.sides ≡ None → is_side_function event ≡ false
    → (xterm_effect event s).pages.sides ≡ None
xterm-none event s none h =
    ap (λ (t : Screens). t.pages.sides) (effect-none event s none) ∙ event-none event (side-none event h) s none

-- margins that stay reset don't change the pages
pub same-pages : (p q : PagesState) → q ≡ record p { sides = q.sides } → p.sides ≡ None → q.sides ≡ None → q ≡ p
same-pages p q stays one two = stays ∙ ap (λ (b : Option Sides). record p { sides = b }) (two ∙ sym one)

pub same-but : (p q : PagesState) → q ≡ record p { brackets = q.brackets; sides = q.sides } → p.sides ≡ None → q.sides ≡ None
    → q ≡ record p { brackets = q.brackets }
same-but p q stays one two =
    stays ∙ ap (λ (b : Option Sides). record p { brackets = q.brackets; sides = b }) (two ∙ sym one)

pub events-none : (events : List Event) (s : Screens) → s.pages.sides ≡ None → list_any is_side_function events ≡ false
    → (after_events events s).pages.sides ≡ None
events-none [] s none h = none
events-none (event ∷ events) s none h =
    let no = neither (is_side_function event) (list_any is_side_function events) h in
    events-none events (xterm_effect event s) (xterm-none event s none no.0) no.1

-- ---- several events

pub after-none : (events : List Event) (s : Screens) → AllKeepNone events → s.pages.sides ≡ None
    → screens_after unbounded events s ≡ after_events events s
unfolding AllKeepNone
after-none [] s all none = refl
after-none (event ∷ events) s all none =
    after-none events (screen_effect event s) all.1 (event-none event all.0 s none)
    ∙ ap (λ (t : Screens). after_events events t) (sym (effect-none event s none))

pub reports-none : (events : List Event) (s : Screens) → AllKeepNone events → s.pages.sides ≡ None
    → reports_after unbounded events s ≡ reports_of events s
unfolding AllKeepNone
reports-none [] s all none = refl
reports-none (event ∷ events) s all none =
    ap (λ (r : List ℕ). report event s.display ++ r)
    (reports-none events (screen_effect event s) all.1 (event-none event all.0 s none)
    ∙ ap (λ (t : Screens). reports_of events t) (sym (effect-none event s none)))

-- the events of happenings on any machine
pub events-on : SplitLaw → {S : Type 0} (m : Machine S) (s : S) (held : Held) (bytes : List ℕ) → IsHeldPart held
    → events_in (happenings_on m s held bytes) ≡ events_from held bytes
events-on split m s held [] is = sym (split.events_nil held is)
events-on split m s held (b ∷ bytes) is =
    ap (λ (events : List Event). events_from held (b ∷ []) ++ events)
    (events-on split m (screens_after m (events_from held (b ∷ [])) s) (held_from held (b ∷ [])) bytes
    (split.held_part (spell held ++ b ∷ [])))
    ∙ sym (split.events_append held (b ∷ []) bytes)

-- ---- what the observer is told of

pub none-one : (events : List Event) (event : Event) → events ≡ event ∷ [] → KeepsNone event → AllKeepNone events
unfolding AllKeepNone
none-one events event is keeps = subst AllKeepNone (sym is) (keeps, tt)

prints-none : (bytes : List ℕ) → AllKeepNone (map Print bytes)
unfolding AllKeepNone
prints-none [] = tt
prints-none (b ∷ bytes) = (tt, prints-none bytes)

pub run-none : SpellingLaw → (s : State) (bytes : List ℕ) → s.held ≡ Nothing → All HasGlyph bytes
    → AllKeepNone (events_from s.held bytes)
run-none spelling s bytes between have =
    subst AllKeepNone (sym (ap (λ (h : Held). events_from h bytes) between ∙ graphic-events spelling bytes have)) (prints-none bytes)
