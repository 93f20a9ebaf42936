-- The session that the repaint leads to.
use Rattle.std.proofs.Common.{◌≡◌, ◌↔◌, ◌≤◌, ◌<◌, Bool, true, false, not, ℕ, List, [], ◌∷◌, ◌++◌, length, All, refl, sym, ap, ◌∙◌}
use Rattle.std.proofs.Common.{arith, subst, cond, eqb, leb, ltb, min, Option, Some, None}
use Rattle.std.specs.Str.{IsAscii}
use Rattle.std.proofs.lemmas.Bool.{eq-eqb, le-leb, lt-ltb}
use Rattle.std.proofs.lemmas.List.Elements.{All-tail}
use Rattle.std.proofs.lemmas.Str.Ascii.{All-from_ascii}
use Rattle.vt_syntax.specs.declared.event.Event.{Event}
use Rattle.vt_syntax.specs.declared.held.Held.TheVariants.{Nothing}
use Rattle.vt_syntax.specs.Spelling.{IsEvent, spell_events}
use Rattle.vt_syntax.specs.Held.{IsHeldPart, events_from, held_from}
use Rattle.vt_syntax.specs.Laws.{SplitLaw}
use Rattle.vt_syntax.specs.Steps.{step_to}
use Rattle.vt_syntax.proofs.Steps.{same_held, same_events}
use Rattle.vt_syntax.proofs.Spelled.{ascii_bytes, events_steps}
use Rattle.vt_syntax.proofs.Cutting.{read, escape}
use Rattle.vt_screen.specs.declared.size.Size.{Size}
use Rattle.vt_screen.specs.Sizes.{IsSize}
use Rattle.vt_screen.specs.Grid.{Grid}
use Rattle.vt_term.specs.State.{Saved}
use Rattle.vt_screen.proofs.Places.{width-bounds}
use Rattle.vt_term.specs.State.{Display, State, display_of, state_of, power_up, saved_at_power_up, modes_at_power_up}
use Rattle.vt_term.specs.Sound.{IsSoundDisplayAt, IsSoundAt, IsSound}
use Rattle.vt_term.specs.Pages.{PageState, IsSoundPageAt, blank_page, fitted, resized, with_page}
use Rattle.vt_term.specs.Reports.{report}
use Rattle.vt_term.specs.Play.{play}
use Rattle.vt_paint.specs.Controls.{reset_to_initial_state, private_mode}
use Rattle.vt_paint.specs.Items.{first_items}
use Rattle.vt_paint.specs.Repaint.{made_events}
use Rattle.vt_paint.proofs.AfterEvents.{Makes}
use Rattle.vt_paint.proofs.Chain.{part}
use Rattle.vt_term.proofs.SizeKept.{own-display}
use Rattle.vt_paint.proofs.Within.{made_within, first_within}
use Rattle.vt_paint.proofs.Whole.{made_leaves, first_leaves}
use Rattle.bstr.specs.Utf8.{replacement}
use Rattle.vt_utf8.specs.Decoding.{characters, pending_of, pending_after, given_up}
use Rattle.vt_utf8.specs.Translation.{translation}
use Rattle.vt_xterm.specs.declared.sides.Sides.{Sides}
use Rattle.vt_xterm.specs.Sides.{AreSides, FitsSides, is_pending}
use Rattle.vt_xterm.specs.Pages as front
use Rattle.vt_xterm.specs.Pages.{PagesState, Screens, with_page_mode, pages_of, bounds_of}
use Rattle.vt_xterm.specs.Bounded.{bounded_effect}
use Rattle.vt_xterm.specs.Front.{functions_of, function_in, effect_between, xterm_effect}
use Rattle.vt_xterm.specs.Play.{Whole, WholePlayed, screens_of, play_bytes, play_beyond, play_character, play_characters}
use Rattle.vt_xterm.specs.Play.{IsSoundWhole, IsSoundWholeAt, play_xterm, both, nothing_played, behind, front_at_power_up}
use Rattle.vt_xterm.proofs.Beyond.{beyond-size, beyond-held}
use Rattle.vt_xterm.proofs.Cuts.{characters-two, characters-ascii, xterm-two}
use Rattle.vt_utf8.proofs.Cuts.{pending-append}
use Rattle.vt_xterm_paint.specs.Repaint.{other_shown, paste_item, xterm_paint_limit, IsRebuiltAt}
use Rattle.vt_xterm_paint.specs.Repaint.{are_sent, sent_sides, shown_events, shown_sides}
use Rattle.vt_xterm_paint.specs.Repaint.{xterm_repaint_events, xterm_repaint, Rebuilds, IsReachedWhole, IsRebuilt, IsPart}
use Rattle.vt_xterm_paint.proofs.Painted.{on_pages, on_sides, first-painted, made-painted}
use Rattle.vt_xterm_paint.proofs.Leading.{Leads, then-leads, one-leads, none-leads, on-leads}
use Rattle.vt_xterm_paint.proofs.Between.{sides-placed-lead}
use Rattle.vt_xterm_paint.proofs.Pending.{escape-characters, escape-pending, part-read}
use Rattle.vt_xterm_paint.proofs.Spelled.{repaint-within}
use Rattle.vt_term.specs.Reports.{sequence_report_any}
use Rattle.vt_term.specs.Functions.{sequences_any}

-- the items of a page while DECLRMM is reset
items-lead : (size : Size) (s : Display) (other : PageState) (alternate : Bool) → IsSoundDisplayAt size s
    → Leads (made_events s) (on_pages other alternate (display_of size)) (on_pages other alternate s)
items-lead size s other alternate i =
    let own = own-display size s i in
    on-leads (on_pages other alternate) (λ d. refl) (made_events s) (display_of size) s (made-painted other alternate s)
    (made_within s own).silent (subst (λ (z : Size). Makes (made_events s) (display_of z) s) i.of_size (made_leaves s own))

-- ---- the display that is shown, and its left and right margins

abbrev on_shown : PageState → Bool → Option Sides → Display → Screens
on_shown other alternate sides s = record {
  display = s;
  pages = record { other = other; alternate = alternate; resizes = true; brackets = false; sides = sides };
}

sent-is : (width : ℕ) (m : Sides) → AreSides width m → sent_sides width (Some m) ≡ Some m
sent-is width m fits =
    ap (λ (b : Bool). cond b (Some m) None) (all (le-leb 1 m.left fits.from_column_1) (lt-ltb m.left m.right fits.two_columns)
    (le-leb m.right width fits.to_last_column))
  where
    all : leb 1 m.left ≡ true → ltb m.left m.right ≡ true → leb m.right width ≡ true → are_sent width m ≡ true
    all first two last = rw (first, two, last) refl

shown-leads : (size : Size) (s : Display) (other : PageState) (alternate : Bool) (sides : Option Sides)
    → IsSoundDisplayAt size s → FitsSides s sides
    → Leads (shown_events (sent_sides s.grid.width sides) s) (on_pages other alternate (display_of size))
    (on_shown other alternate sides s)
unfolding shown_events made_events
shown-leads size s other alternate None i fits = items-lead size s other alternate i
shown-leads size s other alternate (Some m) i fits =
    subst (λ (x : Option Sides). Leads (shown_events x s) (on_pages other alternate (display_of size)) (on_sides other alternate m s))
    (sym (sent-is s.grid.width m fits.sides)) (go i.of_size)
  where
    own : IsSoundDisplayAt s.grid.size s
    own = own-display size s i

    wrap : Bool
    wrap = is_pending m s

    go : s.grid.size ≡ size
        → Leads (shown_events (Some m) s) (on_pages other alternate (display_of size)) (on_sides other alternate m s)
    go is =
        let first = first_leaves s wrap own in
        let x = part s modes_at_power_up first.cursor first.brush first.sets s.margins false in
        let makes = subst (λ (z : Size). Makes (first_items s wrap) (display_of z) x) is first.makes in
        then-leads (first_items s wrap) _ (on_pages other alternate (display_of size)) (on_pages other alternate x) _
        (on-leads (on_pages other alternate) (λ d. refl) (first_items s wrap) (display_of size) x
        (first-painted other alternate s wrap) (first_within s wrap own).silent makes)
        (sides-placed-lead other alternate s m first.sets own fits first.cursor first.brush first.four first.none first.spells)

-- ---- what is between the items

-- SM or RM of one private mode is never bounded
private-effect : (n : ℕ) (on : Bool) (s : Screens) → xterm_effect (private_mode n on) s ≡ with_page_mode on n s
unfolding functions_of function_in bounded_effect
private-effect n on s = go on (bounds_of s)
  where
    go : (on : Bool) (b : Option Sides) → effect_between (private_mode n on) b s ≡ with_page_mode on n s
    go true None = refl
    go true (Some m) = refl
    go false None = refl
    go false (Some m) = refl

reset-effect : (s : Screens) → xterm_effect reset_to_initial_state s ≡ front.reset_to_initial_state s
unfolding function_in bounded_effect
reset-effect s = go (bounds_of s)
  where
    go : (b : Option Sides) → effect_between reset_to_initial_state b s ≡ front.reset_to_initial_state s
    go None = refl
    go (Some m) = refl

private-leads : (n : ℕ) (on : Bool) (x y : Screens) → with_page_mode on n x ≡ y → report (private_mode n on) x.display ≡ []
    → Leads (private_mode n on ∷ []) x y
private-leads n on x y is silent = one-leads (private_mode n on) x y (private-effect n on x ∙ is) silent

start-of : (alternate : Bool) (u : Screens) → min 1 u.display.grid.size.narrow ≡ 1
    → Leads (private_mode 40 true ∷ reset_to_initial_state ∷ private_mode 47 (not alternate) ∷ []) u
    (on_pages (blank_page u.display.grid.size) (not alternate) (display_of u.display.grid.size))
unfolding with_page_mode sequences_any sequence_report_any
start-of alternate u col =
    then-leads (private_mode 40 true ∷ []) _ u allowed _ (private-leads 40 true u allowed refl refl)
    (then-leads (reset_to_initial_state ∷ []) (private_mode 47 (not alternate) ∷ []) allowed reset _
    (one-leads reset_to_initial_state allowed reset (reset-effect allowed) refl)
    (private-leads 47 (not alternate) reset _ (shown alternate) (silent alternate)))
  where
    size : Size
    size = u.display.grid.size

    allowed : Screens
    allowed = record u { pages = record u.pages { resizes = true } }

    reset : Screens
    reset = front.reset_to_initial_state allowed

    shown : (alternate : Bool) → with_page_mode (not alternate) 47 reset ≡ on_pages (blank_page size) (not alternate) (display_of size)
    shown true = rw col refl
    shown false =
        let fits : eqb size.narrow size.narrow ≡ true = eq-eqb size.narrow size.narrow refl in
        rw (fits, col) refl

    silent : (alternate : Bool) → report (private_mode 47 (not alternate)) reset.display ≡ []
    silent true = refl
    silent false = refl

start-leads : (size : Size) (alternate : Bool) (u : Screens) → IsSize size → u.display.grid.size ≡ size
    → Leads (private_mode 40 true ∷ reset_to_initial_state ∷ private_mode 47 (not alternate) ∷ []) u
    (on_pages (blank_page size) (not alternate) (display_of size))
start-leads size alternate u sized is =
    subst (λ (z : Size). Leads (private_mode 40 true ∷ reset_to_initial_state ∷ private_mode 47 (not alternate) ∷ []) u
    (on_pages (blank_page z) (not alternate) (display_of z))) is
    (start-of alternate u (let narrow = ap (λ (z : Size). z.narrow) is in omega (arith, sized.narrow, narrow)))

-- the blank page that fits a screen is blank, and has its size
record IsFit (size : Size) (page : PageState) : Type 0 where
  of_size : page.grid.size ≡ size
  saved : page.saved ≡ saved_at_power_up

blank-fits : (size : Size) (width : ℕ) → IsSize size → IsFit size (fitted width (blank_page size))
blank-fits size width sized = go (eqb size.narrow width) (eqb width size.wide)
  where
    go : (same wide : Bool) → IsFit size (cond same (blank_page size) (resized wide (blank_page size)))
    go true wide = record { of_size = refl; saved = refl }
    go false true =
        let col : min 1 size.wide ≡ 1 = omega (arith, sized.narrow, sized.wide) in
        record { of_size = refl; saved = rw col refl }
    go false false =
        let col : min 1 size.narrow ≡ 1 = omega (arith, sized.narrow) in
        record { of_size = refl; saved = rw col refl }

exchange-leads : (size : Size) (alternate : Bool) (page : PageState)
    → Leads (private_mode 47 alternate ∷ [])
    (on_pages (blank_page size) (not alternate) (with_page page (display_of size)))
    (on_pages page alternate (with_page (fitted page.grid.width (blank_page size)) (display_of size)))
unfolding with_page_mode sequences_any sequence_report_any
exchange-leads size true page = private-leads 47 true _ _ refl refl
exchange-leads size false page = private-leads 47 false _ _ refl refl

narrow-leads : (size : Size) (alternate : Bool) (page : PageState) (g : Grid) → IsSize size → g.size ≡ size
    → Leads (private_mode 3 false ∷ [])
    (on_pages page alternate (with_page (record { grid = g; saved = saved_at_power_up }) (display_of size)))
    (on_pages page alternate (display_of size))
unfolding with_page_mode sequences_any sequence_report_any
narrow-leads size alternate page g sized is =
    let col : min 1 size.narrow ≡ 1 = omega (arith, sized.narrow) in private-leads 3 false _ _ (rw (is, col) refl) refl

between-leads : (size : Size) (alternate : Bool) (page : PageState) → IsSize size
    → Leads (private_mode 47 alternate ∷ private_mode 3 false ∷ [])
    (on_pages (blank_page size) (not alternate) (with_page page (display_of size)))
    (on_pages page alternate (display_of size))
between-leads size alternate page sized =
    let fit = fitted page.grid.width (blank_page size) in
    let fits = blank-fits size page.grid.width sized in
    let shown : PageState → Screens = λ p. on_pages page alternate (with_page p (display_of size)) in
    let made : Saved → PageState = λ saved. record { grid = fit.grid; saved = saved } in
    let narrow : Leads (private_mode 3 false ∷ []) (shown fit) (on_pages page alternate (display_of size)) =
    subst (λ (saved : Saved). Leads (private_mode 3 false ∷ []) (shown (made saved)) (on_pages page alternate (display_of size)))
    (sym fits.saved) (narrow-leads size alternate page fit.grid sized fits.of_size) in
    then-leads (private_mode 47 alternate ∷ []) (private_mode 3 false ∷ []) _ (shown fit) _ (exchange-leads size alternate page)
    narrow

end-leads : (s : Display) (pages : PagesState)
    → Leads (private_mode 40 pages.resizes ∷ paste_item pages.brackets) (on_shown pages.other pages.alternate pages.sides s)
    (record { display = s; pages = pages })
unfolding with_page_mode sequences_any sequence_report_any
end-leads s pages =
    then-leads (private_mode 40 pages.resizes ∷ []) (paste_item pages.brackets)
    (on_shown pages.other pages.alternate pages.sides s) allowed _ (allow pages.resizes) (paste pages.brackets)
  where
    allowed : Screens
    allowed = record { display = s; pages = record pages { brackets = false } }

    allow : (on : Bool) → Leads (private_mode 40 on ∷ []) (on_shown pages.other pages.alternate pages.sides s)
        (record { display = s; pages = record pages { resizes = on; brackets = false } })
    allow true = private-leads 40 true _ _ refl refl
    allow false = private-leads 40 false _ _ refl refl

    paste : (on : Bool) → Leads (paste_item on) allowed (record { display = s; pages = record pages { brackets = on } })
    paste true = private-leads 2004 true _ _ refl refl
    paste false = none-leads _ _ refl

-- the display that shows a sound page is sound
other-sound : (size : Size) (page : PageState) → IsSoundPageAt size page → IsSoundDisplayAt size (display_of size)
    → IsSoundDisplayAt size (with_page page (display_of page.grid.size))
other-sound size page i start =
    let bounds = width-bounds page.grid.size page.grid.width i.grid.shape.size i.grid.shape.width in
    subst (λ (z : Size). IsSoundDisplayAt size (with_page page (display_of z))) (sym i.of_size) (record {
      of_size = i.of_size;
      grid = i.grid;
      cursor = record {
        row_1 = omega arith;
        row_last = omega (arith, start.cursor.row_last);
        col_1 = omega arith;
        col_last = omega (arith, bounds.0);
        wrap_last = λ e. absurd (cc e);
      };
      wrap = start.wrap;
      origin = start.origin;
      sets = start.sets;
      margins = start.margins;
      stops = start.stops;
      saved = i.saved;
      saved_sets = i.saved_sets;
    })

-- ---- the whole

all-leads : (size : Size) (w : Whole) (u : Screens) → IsSize size → IsSoundWholeAt size w
    → IsSoundDisplayAt size (display_of size) → u.display.grid.size ≡ size
    → Leads (xterm_repaint_events w) u (screens_of w)
unfolding xterm_repaint_events
all-leads size w u sized i start is =
    let alternate = w.pages.alternate in
    let other = w.pages.other in
    let hidden = with_page other (display_of size) in
    let blank = blank_page size in
    let s = w.state.display in
    let own : hidden ≡ other_shown w.pages = ap (λ (z : Size). with_page other (display_of z)) (sym i.other.of_size) in
    let items = subst (λ (d : Display). Leads (made_events d) (on_pages blank (not alternate) (display_of size))
    (on_pages blank (not alternate) d)) (sym own)
    (items-lead size (other_shown w.pages) blank (not alternate) (other-sound size other i.other start)) in
    let events = ap (λ (d : Display). made_events d) own in
    let hidden-items = subst (λ (es : List Event). Leads es (on_pages blank (not alternate) (display_of size))
    (on_pages blank (not alternate) hidden)) events items in
    then-leads (private_mode 40 true ∷ reset_to_initial_state ∷ private_mode 47 (not alternate) ∷ []) _ u
    (on_pages blank (not alternate) (display_of size)) (screens_of w)
    (start-leads size alternate u sized is)
    (then-leads (made_events (other_shown w.pages)) _ (on_pages blank (not alternate) (display_of size))
    (on_pages blank (not alternate) hidden) (screens_of w) hidden-items
    (then-leads (private_mode 47 alternate ∷ private_mode 3 false ∷ []) _ (on_pages blank (not alternate) hidden)
    (on_pages other alternate (display_of size)) (screens_of w)
    (between-leads size alternate other sized)
    (then-leads (shown_events (shown_sides w) s) _ (on_pages other alternate (display_of size))
    (on_shown other alternate w.pages.sides s) (screens_of w)
    (shown-leads size s other alternate w.pages.sides i.state.display i.sides)
    (end-leads s w.pages))))

-- ---- bytes

-- bytes that begin with ESC are read as the events that they spell, whatever is held before them
bytes-played : (es : List Event) (more : List ℕ) (w u : Whole) → All IsEvent es → spell_events es ≡ 0x1B ∷ more
    → IsHeldPart u.state.held → w.state.held ≡ Nothing → Leads es (screens_of u) (screens_of w)
    → ((play_bytes u (spell_events es)).whole ≡ w) × ((play_bytes u (spell_events es)).reports ≡ [])
unfolding play_bytes
bytes-played es more w u are begins held between leads =
    let bytes = spell_events es in
    let step : step_to (held_from u.state.held bytes) (events_from u.state.held bytes) ≡ step_to Nothing es =
    rw begins (rw (escape u.state.held more held, ← begins) (read bytes ∙ events_steps es are)) in
    let events : events_from u.state.held bytes ≡ es = same_events step in
    let rest : held_from u.state.held bytes ≡ w.state.held = same_held step ∙ sym between in
    (rw (events, rest, leads.is) refl, rw events leads.silent)

-- U+FFFD for what was pending, which keeps the size and leaves a held part
record AreKept (size : Size) (p : WholePlayed) : Type 0 where
  of_size : p.whole.state.display.grid.size ≡ size
  held : IsHeldPart p.whole.state.held
  silent : p.reports ≡ []

beyond-played : (size : Size) → ((s : State) (bytes : List ℕ) → IsSoundAt size s → IsSoundAt size (play s bytes).state)
    → ((s : State) (c : ℕ) → IsSoundAt size s → 0x80 ≤ c → (play s (translation s c)).reports ≡ [])
    → (u : Whole) (c : ℕ) (b : Option Sides) → 0x80 ≤ c → IsSoundAt size u.state → AreKept size (play_beyond u b c)
beyond-played size kept silent u c None high sound =
    let after = kept u.state (translation u.state c) sound in
    record { of_size = after.display.of_size; held = after.held; silent = silent u.state c sound high }
beyond-played size kept silent u c (Some m) high sound = record {
  of_size = beyond-size m c u ∙ sound.display.of_size;
  held = beyond-held u.state.held sound.held;
  silent = refl;
}

lost-played : (size : Size) → ((s : State) (bytes : List ℕ) → IsSoundAt size s → IsSoundAt size (play s bytes).state)
    → ((s : State) (c : ℕ) → IsSoundAt size s → 0x80 ≤ c → (play s (translation s c)).reports ≡ [])
    → (u : Whole) (part : List ℕ) → IsSoundAt size u.state → AreKept size (play_characters u (given_up part))
unfolding play_character
lost-played size kept silent u [] sound = record { of_size = sound.display.of_size; held = sound.held; silent = refl }
lost-played size kept silent u (b ∷ part) sound =
    let quiet = beyond-played size kept silent u replacement (bounds_of (screens_of u)) (omega arith) sound in
    record { of_size = quiet.of_size; held = quiet.held; silent = ap (λ (r : List ℕ). r ++ []) quiet.silent }

module _ (size : Size) (sized : IsSize size) (split : SplitLaw) (start : IsSoundAt size (state_of size))
    (kept : (s : State) (bytes : List ℕ) → IsSoundAt size s → IsSoundAt size (play s bytes).state)
    (silent : (s : State) (c : ℕ) → IsSoundAt size s → 0x80 ≤ c → (play s (translation s c)).reports ≡ []) where
  events-rebuild : (es : List Event) (more : List ℕ) (w u : Whole) (part : List ℕ) → All IsEvent es
      → spell_events es ≡ 0x1B ∷ more → All (λ b. b < 0x80) (spell_events es) → w.state.held ≡ Nothing
      → ((s : Screens) → s.display.grid.size ≡ size → Leads es s (screens_of w)) → IsSoundAt size u.state → pending_of part ≡ part
      → Rebuilds (spell_events es) w [] u part
  unfolding play_xterm
  events-rebuild es more w u part are begins ascii between leads sound is =
      let bytes = spell_events es in
      let lost = play_characters u (given_up part) in
      let before = lost-played size kept silent u part sound in
      let small : All (λ b. b < 0x80) (0x1B ∷ more) = subst (λ (t : List ℕ). All (λ b. b < 0x80) t) begins ascii in
      let rest : All (λ b. b < 0x80) more = All-tail (λ b. b < 0x80) 0x1B more small in
      let chars : characters part bytes ≡ given_up part ++ bytes =
      ap (λ (t : List ℕ). characters part t) begins ∙ escape-characters part more is rest
      ∙ ap (λ (t : List ℕ). given_up part ++ t) (sym begins) in
      let played = bytes-played es more w lost.whole are begins before.held between (leads (screens_of lost.whole) before.of_size) in
      let all : play_xterm u part bytes ≡ both lost (play_bytes lost.whole bytes) =
      ap (λ (cs : List ℕ). play_characters u cs) chars ∙ characters-two u (given_up part) bytes
      ∙ ap (λ (p : WholePlayed). both lost p) (characters-ascii split lost.whole bytes before.held ascii) in
      record {
        whole = ap (λ (p : WholePlayed). p.whole) all ∙ played.0;
        reports = ap (λ (p : WholePlayed). p.reports) all
            ∙ ap (λ (r : List ℕ). r ++ (play_bytes lost.whole bytes).reports) before.silent ∙ played.1;
        pending = ap (λ (t : List ℕ). pending_after part t) begins ∙ escape-pending part more is rest;
      }

  pub rebuilds : (w : Whole) → IsSoundWholeAt size w → w.state.held ≡ Nothing → IsRebuiltAt size w
  unfolding xterm_repaint xterm_repaint_events
  rebuilds w i between u part sound is =
      let within = repaint-within size w (other-sound size w.pages.other i.other start.display) i.state.display in
      events-rebuild (xterm_repaint_events w) _ w u part within.events refl
      (All-from_ascii (spell_events (xterm_repaint_events w)) within.ascii) between (λ s is. all-leads size w s sized i start.display is) sound is

-- the session at power-up is sound, and what is played keeps it so
pub reached : IsSound power_up → ((w : Whole) → IsSoundWhole w → w.state.held ≡ Nothing → IsRebuilt w)
    → IsSoundWhole (behind power_up front_at_power_up)
    → ((w : Whole) (pending bytes : List ℕ) → IsSoundWhole w → IsSoundWhole (play_xterm w pending bytes).whole)
    → ((w : Whole) → IsSoundWhole w → IsAscii (xterm_repaint w)) → (w : Whole) → w.state.held ≡ Nothing
    → IsSoundWhole w ↔ IsReachedWhole w
reached start rebuilds power keeps ascii w between = (
  λ i. (
    xterm_repaint w,
    ascii_bytes (xterm_repaint w) (ascii w i),
    (rebuilds w i between (behind power_up front_at_power_up) [] start refl).whole,
  ),
  λ i. subst (λ (x : Whole). IsSoundWhole x) i.2 (keeps (behind power_up front_at_power_up) [] i.0 power),
)

pub short : (size : Size) (w : Whole) → IsSoundAt size (state_of size) → IsSoundWholeAt size w
    → length (xterm_repaint w) ≤ xterm_paint_limit size
unfolding xterm_repaint
short size w start i =
    (repaint-within size w (other-sound size w.pages.other i.other start.display) i.state.display).short

pub ascii : (size : Size) (w : Whole) → IsSoundAt size (state_of size) → IsSoundWholeAt size w → IsAscii (xterm_repaint w)
unfolding xterm_repaint
ascii size w start i =
    (repaint-within size w (other-sound size w.pages.other i.other start.display) i.state.display).ascii

pub size-of : (size : Size) (w : Whole) → IsSoundWholeAt size w → IsSize size
size-of size w i = subst (λ (z : Size). IsSize z) i.state.display.of_size i.state.display.grid.shape.size

-- equal repaints are of equal wholes
abbrev whole-power-up : Size → Whole
whole-power-up size = record { state = state_of size; pages = pages_of size }

module _ (size : Size) (start : IsSoundAt size (state_of size))
    (rebuilds : (w : Whole) → IsSoundWholeAt size w → w.state.held ≡ Nothing → IsRebuiltAt size w) where
  same-repaint : (w v : Whole) → IsSoundWholeAt size w → IsSoundWholeAt size v → w.state.held ≡ Nothing
      → v.state.held ≡ Nothing → xterm_repaint w ≡ xterm_repaint v → w ≡ v
  same-repaint w v i j h k e =
      sym (rebuilds w i h (whole-power-up size) [] start refl).whole
      ∙ ap (λ (bytes : List ℕ). (play_xterm (whole-power-up size) [] bytes).whole) e
      ∙ (rebuilds v j k (whole-power-up size) [] start refl).whole

  pub same : (w v : Whole) → IsSoundWholeAt size w → IsSoundWholeAt size v → w.state.held ≡ Nothing → v.state.held ≡ Nothing
      → (w ≡ v) ↔ (xterm_repaint w ≡ xterm_repaint v)
  same w v i j h k = (λ e. ap (λ (x : Whole). xterm_repaint x) e, same-repaint w v i j h k)

-- what is pending, after the repaint
pub rebuilds-pending : (size : Size) → ((w : Whole) → IsSoundWholeAt size w → w.state.held ≡ Nothing → IsRebuiltAt size w)
    → (w u : Whole) (part left : List ℕ) → IsSoundWholeAt size w → w.state.held ≡ Nothing → IsSoundAt size u.state
    → IsPart part → IsPart left
    → Rebuilds (xterm_repaint w ++ left) w left u part
unfolding play_xterm
rebuilds-pending size rebuilds w u part left i between sound is rest =
    let bytes = xterm_repaint w in
    let made = rebuilds w i between u part sound is in
    let two = xterm-two u part bytes left in
    let reads = part-read left rest in
    let then : play_xterm (play_xterm u part bytes).whole (pending_after part bytes) left ≡ nothing_played w =
    rw (made.whole, made.pending) (ap (λ (cs : List ℕ). play_characters w cs) reads.0) in
    record {
      whole = ap (λ (p : WholePlayed). p.whole) two ∙ ap (λ (p : WholePlayed). p.whole) then;
      reports = ap (λ (p : WholePlayed). p.reports) two
          ∙ ap (λ (r : List ℕ). r ++ (play_xterm (play_xterm u part bytes).whole (pending_after part bytes) left).reports) made.reports
          ∙ ap (λ (p : WholePlayed). p.reports) then;
      pending = pending-append part bytes left ∙ ap (λ (p : List ℕ). pending_after p left) made.pending ∙ reads.1;
    }
