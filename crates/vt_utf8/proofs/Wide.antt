-- A character of two cells leaves its glyph and a space, in one row, and scrolls off what its glyph does.
use Rattle.std.proofs.Common.{◌≡◌, ℕ, ◌≤◌, Bool, true, false, not, List, [], ◌∷◌, ◌++◌, All, None, inr, refl, sym, ap, subst, ◌∙◌, arith, append-nil, ◌<◌, rules}
use Rattle.std.specs.Prelude.{nat_lt, ◌==◌, if◌then◌else◌}
use Rattle.std.proofs.lemmas.Bool.Decides.{nat_tests}
use Rattle.std.proofs.lemmas.List.Elements.{All-from_recursion}
use Rattle.vt_syntax.specs.declared.event.Event.TheVariants.{Control}
use Rattle.vt_syntax.specs.declared.held.Held.TheVariants.{Nothing}
use Rattle.vt_syntax.specs.Class.{opens_string}
use Rattle.vt_syntax.specs.Held.{held_after}
use Rattle.vt_syntax.specs.Reading.{events_of}
use Rattle.vt_syntax.specs.Spelling.{IsEvent}
use Rattle.vt_syntax.specs.Laws.{SpellingLaw}
use Rattle.vt_glyph.specs.GraphicSets.{GraphicSets}
use Rattle.vt_glyph.specs.Tables.{IsGlyph, space}
use Rattle.vt_glyph.specs.Laws.{GlyphLaws, SpellingLaws}
use Rattle.vt_term.specs.State.{Display, State, last_column}
use Rattle.vt_screen.specs.declared.cell.Cell.{Cell}
use Rattle.vt_screen.specs.declared.size.Size.{Size}
use Rattle.vt_screen.specs.Sizes.{vt220_size, width_of, IsSize}
use Rattle.vt_screen.specs.Grid.{scroll_up}
use Rattle.vt_syntax.specs.Laws.{SplitLaw}
use Rattle.vt_term.specs.Observers.{scrolled-append}
use Rattle.vt_term.specs.Scrolling.{scrolled_off}
use Rattle.vt_term.specs.Sound.{IsSoundAt, IsSoundDisplayAt}
use Rattle.vt_term.specs.Moving.{next_line}
use Rattle.vt_term.specs.Writing.{write_glyph, after_wrap}
use Rattle.vt_term.specs.Play.{Played, play, both}
use Rattle.vt_utf8.specs.Translation.{written, both_halves, is_at_end, translation, write_wide, glyph_off}
use Rattle.vt_utf8.specs.Similar.{shown}
use Rattle.vt_utf8.specs.Cells.{cells}
use Rattle.vt_utf8.proofs.Silence.{shown-glyph}
use Rattle.vt_utf8.proofs.Written.{writes, off-written, unshifted-same, leaves-sets}
use Rattle.vt_term.specs.Reports.{control_report_any}
use Rattle.vt_term.specs.Functions.{control_any}

-- a state of another display, without a report
abbrev pub silently : State → Display → Played
silently s d = record { state = record s { display = d }; reports = [] }

abbrev pub KeepsSoundAt : Size → Type 0
KeepsSoundAt size = (s : State) (bytes : List ℕ) → IsSoundAt size s → IsSoundAt size (play s bytes).state

abbrev pub KeepsSound : Type 0
KeepsSound = KeepsSoundAt vt220_size

abbrev pub PlaysTwo : Type 0
PlaysTwo = (s : State) (a b : List ℕ) → play s (a ++ b) ≡ both (play s a) (play (play s a).state b)

pub is-beyond : (c : ℕ) → 0x80 ≤ c → nat_lt c 0x80 ≡ false
is-beyond c beyond = grind (arith, nat_tests)

-- ---- after a glyph with a cell to its right, no wrap is pending

next_line-width : (d : Display) → last_column (next_line d) ≡ last_column d
next_line-width d = go (d.cursor.row == d.margins.bottom)
  where
    go : (b : Bool) → (if b then scroll_up d.grid d.margins.top d.margins.bottom 1 else d.grid).width ≡ d.grid.width
    go true = refl
    go false = refl

wide-columns : (size : Size) (w : ℕ) → IsSize size → (wide : Bool) × (w ≡ width_of size wide) → 1 < w
wide-columns size w is (true, wide) = omega (arith, is.narrow, is.wide, wide)
wide-columns size w is (false, narrow) = omega (arith, is.narrow, narrow)

has-cell : {size : Size} (d : Display) → IsSoundDisplayAt size d → is_at_end d ≡ false
    → nat_lt (after_wrap d).cursor.col (last_column (after_wrap d)) ≡ true
has-cell d sound inside = go d.cursor.wrap refl
  where
    go : (b : Bool) → d.cursor.wrap ≡ b → nat_lt (after_wrap d).cursor.col (last_column (after_wrap d)) ≡ true
    go true wrap =
        let first : 1 < last_column d = wide-columns d.grid.size (last_column d) sound.grid.shape.size sound.grid.shape.width in
        rw (wrap, next_line-width d) (grind (arith, nat_tests, first))
    go false wrap =
        let other : (d.cursor.col == last_column d) ≡ false = rw (← wrap) (search rules) in
        let within : d.cursor.col ≤ last_column d = sound.cursor.col_last in
        rw wrap (grind (arith, nat_tests, other, within))

no-wrap : {size : Size} (n : ℕ) (d : Display) → IsSoundDisplayAt size d → is_at_end d ≡ false → (write_glyph n d).cursor.wrap ≡ false
no-wrap n d sound inside = rw (has-cell d sound inside) refl

no-glyph_off : (d : Display) → d.cursor.wrap ≡ false → glyph_off d ≡ []
no-glyph_off d none = rw none refl

module _ (spelled : SpellingLaw) where
  pub nel : (s : State) → s.held ≡ Nothing → play s (0x1B ∷ 0x45 ∷ []) ≡ silently s (next_line s.display)
  unfolding play control_any control_report_any opens_string
  nel s between =
      let is : All IsEvent (Control 0x85 ∷ []) =
      All-from_recursion IsEvent (Control 0x85 ∷ []) (inr (omega arith, omega arith, refl), tt) in
      let are : events_of (0x1B ∷ 0x45 ∷ []) ≡ Control 0x85 ∷ [] = spelled.all_events (Control 0x85 ∷ []) is in
      let left : held_after (0x1B ∷ 0x45 ∷ []) ≡ Nothing = spelled.all_held (Control 0x85 ∷ []) is in
      rw (between, are, left) refl

module _ (spelled : SpellingLaw) (spelling : SpellingLaws) where
  pub plays-glyph : {size : Size} (s : State) (n : ℕ) → IsSoundAt size s → s.held ≡ Nothing → s.display.sets.pending ≡ None → IsGlyph n
      → play s (written n s.display.sets) ≡ silently s (write_glyph n s.display)
  plays-glyph s n sound between none is =
      writes spelled spelling s n sound between is
      ∙ ap (λ (d : Display). silently s (write_glyph n d)) (unshifted-same s.display none)

  -- a glyph and a space
  pub plays-halves : {size : Size} → KeepsSoundAt size → PlaysTwo → (s : State) (n : ℕ) → IsSoundAt size s → s.held ≡ Nothing
      → s.display.sets.pending ≡ None → IsGlyph n → IsGlyph space
      → play s (both_halves n s.display.sets) ≡ silently s (write_glyph space (write_glyph n s.display))
  plays-halves {size} keeps two s n sound between none is blank =
      let d = s.display in
      let a = written n d.sets in
      let t : State = record s { display = write_glyph n d } in
      let first : play s a ≡ silently s (write_glyph n d) = plays-glyph s n sound between none is in
      let sets = leaves-sets n d in
      two s a (written space d.sets)
      ∙ ap (λ (p : Played). both p (play p.state (written space d.sets))) first
      ∙ ap (λ (g : GraphicSets). both (silently s (write_glyph n d)) (play t (written space g))) (sym sets)
      ∙ ap (λ (p : Played). both (silently s (write_glyph n d)) p)
      (plays-glyph t space (subst (IsSoundAt size) (ap (λ (p : Played). p.state) first) (keeps s a sound)) between
      (ap (λ (g : GraphicSets). g.pending) sets ∙ none) blank)

  pub plays-wide : {size : Size} → GlyphLaws → KeepsSoundAt size → PlaysTwo
      → ((s : State) → IsSoundAt size s → play s [] ≡ record { state = s; reports = [] })
      → (s : State) (c : ℕ) → IsSoundAt size s → s.held ≡ Nothing → s.display.sets.pending ≡ None → 0x80 ≤ c → cells c ≡ 2
      → play s (translation s c) ≡ silently s (write_wide (shown c) s.display)
  unfolding translation
  plays-wide {size} glyphs keeps two nothing s c sound between none beyond is = by_end (is_at_end d) refl
    where
      d : Display
      d = s.display

      n : ℕ
      n = shown c

      left : Bool → Bool → Display
      left last wraps =
          if not last then write_glyph space (write_glyph n d) else (
          if wraps then write_glyph space (write_glyph n (next_line d)) else d)

      high : nat_lt c 0x80 ≡ false
      high = is-beyond c beyond

      by_mode : (b : Bool) → d.modes.decawm ≡ b → is_at_end d ≡ true
          → play s (translation s c) ≡ silently s (write_wide n d)
      by_mode true on last =
          let bytes : translation s c ≡ (0x1B ∷ 0x45 ∷ []) ++ both_halves n d.sets = rw (high, between, is, last, on) refl in
          let here : write_wide n d ≡ write_glyph space (write_glyph n (next_line d)) =
          ap (λ (b : Bool). left b d.modes.decawm) last ∙ ap (λ (b : Bool). left true b) on in
          let t : State = record s { display = next_line d } in
          let first : play s (0x1B ∷ 0x45 ∷ []) ≡ silently s (next_line d) = nel spelled s between in
          ap (λ (b : List ℕ). play s b) bytes
          ∙ two s (0x1B ∷ 0x45 ∷ []) (both_halves n d.sets)
          ∙ ap (λ (p : Played). both p (play p.state (both_halves n d.sets))) first
          ∙ ap (λ (p : Played). both (silently s (next_line d)) p)
          (plays-halves keeps two t n
          (subst (IsSoundAt size) (ap (λ (p : Played). p.state) first) (keeps s (0x1B ∷ 0x45 ∷ []) sound)) between none
          (shown-glyph glyphs c) glyphs.space)
          ∙ ap (λ (e : Display). silently s e) (sym here)
      by_mode false off last =
          let bytes : translation s c ≡ [] = rw (high, between, is, last, off) refl in
          let here : write_wide n d ≡ d = ap (λ (b : Bool). left b d.modes.decawm) last ∙ ap (λ (b : Bool). left true b) off in
          ap (λ (b : List ℕ). play s b) bytes ∙ nothing s sound ∙ ap (λ (e : Display). silently s e) (sym here)

      by_end : (b : Bool) → is_at_end d ≡ b → play s (translation s c) ≡ silently s (write_wide n d)
      by_end true last = by_mode d.modes.decawm refl last
      by_end false inside =
          let bytes : translation s c ≡ both_halves n d.sets = rw (high, between, is, inside) refl in
          let here : write_wide n d ≡ write_glyph space (write_glyph n d) =
          ap (λ (b : Bool). left b d.modes.decawm) inside in
          ap (λ (b : List ℕ). play s b) bytes
          ∙ plays-halves keeps two s n sound between none (shown-glyph glyphs c) glyphs.space
          ∙ ap (λ (e : Display). silently s e) (sym here)

  -- the glyph's line; the space begins without the wrap flag
  pub off-wide : {size : Size} → GlyphLaws → SplitLaw → KeepsSoundAt size → (s : State) (c : ℕ) → IsSoundAt size s → s.held ≡ Nothing
      → s.display.sets.pending ≡ None → 0x80 ≤ c → cells c ≡ 2 → is_at_end s.display ≡ false
      → scrolled_off s (translation s c) ≡ glyph_off s.display
  unfolding translation
  off-wide {size} glyphs split keeps s c sound between none beyond is inside =
      let high : nat_lt c 0x80 ≡ false = is-beyond c beyond in
      let d = s.display in
      let n = shown c in
      let a = written n d.sets in
      let t : State = record s { display = write_glyph n d } in
      let bytes : translation s c ≡ both_halves n d.sets = rw (high, between, is, inside) refl in
      let first : play s a ≡ silently s (write_glyph n d) =
      plays-glyph s n sound between none (shown-glyph glyphs c) in
      let after : (play s a).state ≡ t = ap (λ (p : Played). p.state) first in
      let sets = leaves-sets n d in
      ap (λ (b : List ℕ). scrolled_off s b) bytes
      ∙ scrolled-append split s a (written space d.sets)
      ∙ ap (λ (u : State). scrolled_off s a ++ scrolled_off u (written space d.sets)) after
      ∙ ap (λ (g : GraphicSets). scrolled_off s a ++ scrolled_off t (written space g)) (sym sets)
      ∙ ap (λ (rows : List (List Cell)). scrolled_off s a ++ rows)
      (off-written spelled spelling t space (subst (IsSoundAt size) after (keeps s a sound)) between glyphs.space
      ∙ no-glyph_off t.display (no-wrap n d sound.display inside))
      ∙ append-nil (scrolled_off s a)
      ∙ off-written spelled spelling s n sound between (shown-glyph glyphs c)
