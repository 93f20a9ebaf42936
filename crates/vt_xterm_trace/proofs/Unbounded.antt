-- Bytes of lines, which are fed while DECLRMM is reset, and what happens at them.
use Rattle.std.proofs.Common.{◌≡◌, ℕ, zero, suc, take, Bool, true, false, List, [], ◌∷◌, ◌++◌, None, All, refl, sym, ap, ◌∙◌, arith, subst, inl, inr}
use Rattle.std.specs.Prelude.{◌==◌, ◌||◌, nat_le, if◌then◌else◌}
use Rattle.std.proofs.lemmas.Bool.Decides.{nat_tests}
use Rattle.std.proofs.lemmas.List.Elements.{All-nil, All-cons, All-tail}
use Rattle.vt_syntax.specs.declared.event.Event.{Event}
use Rattle.vt_syntax.specs.declared.event.Event.TheVariants.{Print, Control}
use Rattle.vt_syntax.specs.declared.held.Held.{Held}
use Rattle.vt_syntax.specs.declared.held.Held.TheVariants.{Nothing}
use Rattle.vt_syntax.specs.Class.{is_plain, is_opener, opens_string, IsOfLines}
use Rattle.vt_syntax.specs.Held.{events_from, held_from}
use Rattle.vt_syntax.specs.Laws.{SpellingLaw}
use Rattle.vt_syntax.specs.Reading.{single_function}
use Rattle.vt_term.specs.Happenings.{Happening, happenings_on, events_in}
use Rattle.vt_term.specs.Machines.{Machine, screens_after}
use Rattle.vt_term.specs.Scrolling.{lines_off}
use Rattle.vt_xterm.specs.Pages.{Screens}
use Rattle.vt_xterm.specs.Front.{screen_effect}
use Rattle.vt_xterm.specs.Play.{xterm}
use Rattle.vt_xterm.specs.Private.Finding.{AllKeepNone, SetsNone, none-append}
use Rattle.vt_xterm.specs.Private.Profiles.{unbounded}
use Rattle.vt_xterm.proofs.NoSides.{event-none, after-none}

-- ---- bytes of lines set no DECLRMM

opens-nothing : (b : ℕ) → IsOfLines b → is_opener b ≡ false
unfolding opens_string
opens-nothing b (inl h) = grind (arith, nat_tests)
opens-nothing b (inr (inl h)) = grind (arith, nat_tests)
opens-nothing b (inr (inr h)) = grind (arith, nat_tests)

single-none : (b : ℕ) → AllKeepNone (single_function b)
unfolding AllKeepNone
single-none b = go (b == 0x18 || b == 0x7F) (is_plain b || nat_le 0xA0 b)
  where
    go : (none print : Bool) → AllKeepNone (if none then [] else (if print then Print b ∷ [] else Control b ∷ []))
    go true print = tt
    go false true = (tt, tt)
    go false false = (tt, tt)

pub lines-none : SpellingLaw → {S : Type 0} (m : Machine S) (s : S) (bytes : List ℕ) → All IsOfLines bytes
    → SetsNone (happenings_on m s Nothing bytes)
unfolding AllKeepNone
lines-none law m s [] all = tt
lines-none law m s (b ∷ bytes) all =
    let opens = opens-nothing b (all 0 0 (omega arith)) in
    let next = screens_after m (events_from Nothing (b ∷ [])) s in
    none-append (events_from Nothing (b ∷ [])) _ (subst AllKeepNone (sym (law.single b opens)) (single-none b))
    (subst (λ (k : Held). SetsNone (happenings_on m next k bytes)) (sym (law.single_held b opens))
    (lines-none law m next bytes (All-tail IsOfLines b bytes all)))

-- their front
pub shorter-lines : (n : ℕ) (bytes : List ℕ) → All IsOfLines bytes → All IsOfLines (take n bytes)
shorter-lines zero bytes all = All-nil IsOfLines
shorter-lines (suc n) [] all = All-nil IsOfLines
shorter-lines (suc n) (b ∷ bytes) all =
    All-cons IsOfLines b (take n bytes) (all 0 0 (omega arith)) (shorter-lines n bytes (All-tail IsOfLines b bytes all))

-- ---- margins that bound nothing

front-none : (xs ys : List Event) → AllKeepNone (xs ++ ys) → AllKeepNone xs
unfolding AllKeepNone
front-none [] ys all = tt
front-none (x ∷ xs) ys all = (all.0, front-none xs ys all.1)

rest-none : (xs ys : List Event) → AllKeepNone (xs ++ ys) → AllKeepNone ys
unfolding AllKeepNone
rest-none [] ys all = all
rest-none (x ∷ xs) ys all = rest-none xs ys all.1

still-none : (events : List Event) (s : Screens) → AllKeepNone events → s.pages.sides ≡ None
    → (screens_after unbounded events s).pages.sides ≡ None
unfolding AllKeepNone
still-none [] s all none = none
still-none (event ∷ events) s all none = still-none events (screen_effect event s) all.1 (event-none event all.0 s none)

-- what happens is what happens to an xterm
pub happens-same : (s : Screens) (held : Held) (bytes : List ℕ) → s.pages.sides ≡ None
    → SetsNone (happenings_on unbounded s held bytes) → happenings_on unbounded s held bytes ≡ happenings_on xterm s held bytes
happens-same s held [] none saw = refl
happens-same s held (b ∷ bytes) none saw =
    let events = events_from held (b ∷ []) in
    let next = screens_after unbounded events s in
    let rest = happenings_on unbounded next (held_from held (b ∷ [])) bytes in
    let all = front-none events (events_in rest) saw in
    let first : Happening = record {
      held = held;
      byte = b;
      before = s.display;
      events = events;
      lines = lines_off events s.display;
    } in
    ap (λ (hs : List Happening). first ∷ hs)
    (happens-same next (held_from held (b ∷ [])) bytes (still-none events s all none) (rest-none events (events_in rest) saw)
    ∙ ap (λ (t : Screens). happenings_on xterm t (held_from held (b ∷ [])) bytes) (after-none events s all none))
