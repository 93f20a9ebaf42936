-- What bytes and characters leave is sound: the display, the page that isn't shown, and the left and right margins.
use Rattle.std.proofs.Common.{arith, ◌≡◌, ℕ, ◌≤◌, Bool, true, false, List, [], ◌∷◌, Option, Some, None, refl, subst, sym, ap, ◌∙◌}
use Rattle.std.specs.Prelude.{◌++◌, not, nat_lt, ◌==◌, if◌then◌else◌}
use Rattle.std.proofs.lemmas.Bool.Decides.{nat_tests}
use Rattle.vt_syntax.specs.declared.event.Event.{Event}
use Rattle.vt_syntax.specs.declared.held.Held.{Held}
use Rattle.vt_syntax.specs.declared.held.Held.TheVariants as held
use Rattle.vt_syntax.specs.declared.held.Held.TheVariants.{Nothing, Text, Spoilt}
use Rattle.vt_syntax.specs.Held.{IsHeldPart, events_from, spell}
use Rattle.vt_syntax.specs.Laws.{SplitLaw, SpellingLaw}
use Rattle.vt_glyph.specs.Tables.{IsGlyph, space}
use Rattle.vt_glyph.specs.Laws.{GlyphLaws, SetsLaws, SpellingLaws}
use Rattle.vt_screen.specs.Laws.{RowLaws, TestLaws}
use Rattle.vt_screen.specs.declared.size.Size.{Size}
use Rattle.vt_term.specs.State.{State, last_column, display_of, state_of}
use Rattle.vt_term.specs.Sound.{IsSoundAt}
use Rattle.vt_term.specs.Play.{play}
use Rattle.vt_term.proofs.Bytes.{nothing-held}
use Rattle.vt_term.proofs.SizeKept.{own-display}
use Rattle.vt_utf8.specs.Decoding.{characters}
use Rattle.vt_utf8.specs.Cells.{cells}
use Rattle.vt_utf8.specs.Similar.{shown}
use Rattle.vt_utf8.specs.Translation.{translation, unshifted}
use Rattle.vt_xterm.specs.declared.sides.Sides.{Sides}
use Rattle.vt_xterm.specs.Sides.{AreSides, FitsMargins, FitsSides, are_narrow}
use Rattle.vt_xterm.specs.Sides as between
use Rattle.vt_xterm.specs.Pages.{Screens, on_display, bounds_of}
use Rattle.vt_xterm.specs.Bounded.{writing, writing_both, writing_wide, writing_beyond, is_at_end, beyond_in, held_beyond}
use Rattle.vt_xterm.specs.Front.{xterm_effect}
use Rattle.vt_xterm.specs.Play.{Whole, IsSoundWholeAt, behind, front_of, screens_of, after_events, play_bytes, play_character}
use Rattle.vt_xterm.specs.Play.{play_characters, play_xterm, play_beyond}
use Rattle.vt_xterm.proofs.Bounds.{next_line-in, next_line-part, width-part}
use Rattle.vt_xterm.proofs.SoundScreens.{AreSound, writing-keeps, after-fit, one-screen, with-sets, event-keeps, after_events-keeps}
use Rattle.vt_xterm.proofs.SoundScreens.{page_of-sound}
use Rattle.vt_xterm.proofs.Fitting.{Fit, wide-sides}
use Rattle.vt_xterm.proofs.Landing.{event-fit, beyond-fit}
use Rattle.vt_xterm.proofs.Translated.{translation-width}

-- what playing bytes keeps
abbrev pub PlaySound : Type 0
PlaySound = (size : Size) (s : State) (bytes : List ℕ) → IsSoundAt size s → IsSoundAt size (play s bytes).state

abbrev pub PlaysNothing : Type 0
PlaysNothing = (size : Size) (s : State) → IsSoundAt size s → play s [] ≡ record { state = s; reports = [] }

abbrev pub ShownGlyph : Type 0
ShownGlyph = (c : ℕ) → IsGlyph (shown c)

held_beyond-part : (h : Held) → IsHeldPart h → IsHeldPart (held_beyond h)
held_beyond-part Nothing is = is
held_beyond-part (Text osc) is = is
held_beyond-part (held.Escape inters) is = nothing-held
held_beyond-part (held.Control marker params full phase) is = nothing-held
held_beyond-part Spoilt is = nothing-held

beyond_in-holds : (holds : Screens → Type 0) (h : Held) (f : Screens → Screens) (s : Screens) → holds s → holds (f s)
    → holds (beyond_in h f s)
beyond_in-holds holds Nothing f s i done = done
beyond_in-holds holds (Text osc) f s i done = i
beyond_in-holds holds (held.Escape inters) f s i done = done
beyond_in-holds holds (held.Control marker params full phase) f s i done = done
beyond_in-holds holds Spoilt f s i done = done

module _ (glyphs : GlyphLaws) (sets : SetsLaws) (rows : RowLaws) (tests : TestLaws) where
  after_events-fit : (events : List Event) (size : Size) (s : Screens) → AreSound size s → Fit s → Fit (after_events events s)
  after_events-fit [] size s i fit = fit
  after_events-fit (event ∷ events) size s i fit =
      after_events-fit events size (xterm_effect event s) (event-keeps glyphs sets rows tests event size s i)
      (event-fit glyphs sets rows tests event size s i fit)

  bytes-sound : SplitLaw → (size : Size) (w : Whole) (bytes : List ℕ) → IsSoundWholeAt size w
      → IsSoundWholeAt size (play_bytes w bytes).whole
  unfolding play_bytes
  bytes-sound split size w bytes i =
      let events = events_from w.state.held bytes in
      let after = after_events-keeps glyphs sets rows tests events size (screens_of w) (i.state.display, i.other) in record {
        state = record { display = after.0; held = split.held_part (spell w.state.held ++ bytes) };
        other = after.1;
        sides = after_events-fit events size (screens_of w) (i.state.display, i.other) i.sides;
      }

  -- ---- a character beyond ASCII between left and right margins

  unshifted-sound : (size : Size) (s : Screens) → AreSound size s → AreSound size (on_display unshifted s)
  unshifted-sound size s i = (
    with-sets glyphs sets rows tests size s.display (record s.display.sets { pending = None }) i.0 (record {
      four = i.0.sets.four;
      left = i.0.sets.left;
      right = i.0.sets.right;
      pending = λ slot none. absurd cc;
    }),
    i.1,
  )

  writing_both-keeps : (glyph : ℕ) → IsGlyph glyph → (size : Size) (m : Sides) (s : Screens)
      → AreSides (last_column s.display) m → AreSound size s → AreSound size (writing_both glyph m s)
  writing_both-keeps glyph is size m s fits i =
      writing-keeps glyphs sets rows tests space glyphs.space size (between.sides_after m s.display) (writing glyph m s) (after-fit glyphs sets rows tests glyph m s fits)
      (writing-keeps glyphs sets rows tests glyph is size m s fits i)

  writing_wide-keeps : (glyph : ℕ) → IsGlyph glyph → (size : Size) (m : Sides) (s : Screens)
      → AreSides (last_column s.display) m → AreSound size s → AreSound size (writing_wide glyph m s)
  writing_wide-keeps glyph is size m s fits i =
      let below = on_display (between.next_line m) s in
      let there : AreSound size below = (next_line-in size m s.display fits i.0, i.1) in
      let still : AreSides (last_column below.display) m =
      subst (λ w. AreSides w m) (sym (next_line-part (λ g. g.width) width-part m s.display)) fits in
      let next = on_display (λ d. unshifted (between.next_line m d)) s in
      one-screen size (not (is_at_end m s.display)) (writing_both glyph m (on_display unshifted s))
      (if s.display.modes.decawm then writing_both glyph m next else s)
      (writing_both-keeps glyph is size m (on_display unshifted s) fits (unshifted-sound size s i))
      (one-screen size s.display.modes.decawm (writing_both glyph m next) s
      (writing_both-keeps glyph is size m next still (unshifted-sound size below there)) i)

  writing_beyond-keeps : ShownGlyph → (c : ℕ) (size : Size) (m : Sides) (s : Screens) → AreSides (last_column s.display) m
      → AreSound size s → AreSound size (writing_beyond c m s)
  writing_beyond-keeps are c size m s fits i =
      one-screen size (cells c == 0) s
      (if cells c == 1 then writing (shown c) m (on_display unshifted s) else writing_wide (shown c) m s) i
      (one-screen size (cells c == 1) (writing (shown c) m (on_display unshifted s)) (writing_wide (shown c) m s)
      (writing-keeps glyphs sets rows tests (shown c) (are c) size m (on_display unshifted s) fits (unshifted-sound size s i))
      (writing_wide-keeps (shown c) (are c) size m s fits i))

  between-sound : ShownGlyph → (size : Size) (w : Whole) (c : ℕ) (m : Sides) → IsSoundWholeAt size w
      → FitsMargins m w.state.display → IsSoundWholeAt size (play_beyond w (Some m) c).whole
  between-sound are size w c m i at =
      let s = screens_of w in
      let both = beyond_in-holds (AreSound size) w.state.held (writing_beyond c m) s (i.state.display, i.other)
      (writing_beyond-keeps are c size m s at.sides (i.state.display, i.other)) in record {
        state = record { display = both.0; held = held_beyond-part w.state.held i.state.held };
        other = both.1;
        sides = beyond_in-holds Fit w.state.held (writing_beyond c m) s i.sides
            (beyond-fit c m s (own-display size w.state.display i.state.display) at i.sides);
      }

  module _ (split : SplitLaw) (spelled : SpellingLaw) (spelling : SpellingLaws) (played : PlaySound) (nothing : PlaysNothing)
      (are : ShownGlyph) where
    translated-sound : (size : Size) (w : Whole) (c : ℕ) → 0x80 ≤ c → IsSoundWholeAt size w → bounds_of (screens_of w) ≡ None
        → IsSoundWholeAt size (play_beyond w None c).whole
    translated-sound size w c beyond i none =
        let after = played size w.state (translation w.state c) i.state in record {
          state = after;
          other = i.other;
          sides = wide-sides size w.pages.sides w.state.display (play w.state (translation w.state c)).state.display after.display
              (translation-width (nothing size) spelled glyphs spelling w.state c i.state beyond) none i.sides;
        }

    beyond-sound : (size : Size) (w : Whole) (c : ℕ) → 0x80 ≤ c → IsSoundWholeAt size w
        → IsSoundWholeAt size (play_beyond w (bounds_of (screens_of w)) c).whole
    unfolding between.bounds
    beyond-sound size w c beyond i = go w.pages.sides refl i.sides
      where
        last : ℕ
        last = last_column w.state.display

        narrow : (m : Sides) → w.pages.sides ≡ Some m → FitsMargins m w.state.display → (b : Bool) → are_narrow last m ≡ b
            → IsSoundWholeAt size (play_beyond w (if b then Some m else None) c).whole
        narrow m e at true is = between-sound are size w c m i at
        narrow m e at false is =
            translated-sound size w c beyond i
            (ap (between.bounds last) e ∙ ap (λ (b : Bool). if b then Some m else None) is)

        go : (sides : Option Sides) → w.pages.sides ≡ sides → FitsSides w.state.display sides
            → IsSoundWholeAt size (play_beyond w (between.bounds last sides) c).whole
        go None e at = translated-sound size w c beyond i (ap (between.bounds last) e)
        go (Some m) e at = narrow m e at (are_narrow last m) refl

    pub character-sound : (size : Size) (w : Whole) (c : ℕ) → IsSoundWholeAt size w → IsSoundWholeAt size (play_character w c).whole
    unfolding play_character
    character-sound size w c i = go (nat_lt c 0x80) refl
      where
        go : (b : Bool) → nat_lt c 0x80 ≡ b → IsSoundWholeAt size (if b then play_bytes w (c ∷ [])
            else play_beyond w (bounds_of (screens_of w)) c).whole
        go true low = bytes-sound split size w (c ∷ []) i
        go false high = beyond-sound size w c (grind (arith, nat_tests)) i

    characters-sound : (size : Size) (w : Whole) (cs : List ℕ) → IsSoundWholeAt size w
        → IsSoundWholeAt size (play_characters w cs).whole
    characters-sound size w [] i = i
    characters-sound size w (c ∷ cs) i = characters-sound size (play_character w c).whole cs (character-sound size w c i)

    pub xterm-sound : (size : Size) (w : Whole) (pending bytes : List ℕ) → IsSoundWholeAt size w
        → IsSoundWholeAt size (play_xterm w pending bytes).whole
    unfolding play_xterm
    xterm-sound size w pending bytes i = characters-sound size w (characters pending bytes) i

pub power_up-sound : (size : Size) → IsSoundAt size (state_of size) → IsSoundWholeAt size (behind (state_of size) (front_of size))
power_up-sound size i = record { state = i; other = page_of-sound size (display_of size) i.display; sides = tt }
