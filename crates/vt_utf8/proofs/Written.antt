-- The bytes that write a glyph write it, and leave the sets with no single shift pending.
use Rattle.std.proofs.Common.{◌≡◌, ℕ, ◌%◌, ◌<◌, ◌≤◌, Bool, true, false, List, [], ◌∷◌, ◌++◌, length, Option, Some, None, refl, sym, ap, subst, ◌∙◌, arith, append_assoc, append-nil}
use Rattle.std.specs.Prelude.{nat_lt, ◌==◌, ◌&&◌, not, if◌then◌else◌, is_none}
use Rattle.std.proofs.lemmas.Bool.{and_parts, eqb-true}
use Rattle.std.proofs.lemmas.Bool.Decides.{nat_tests}
use Rattle.std.proofs.lemmas.List.{set-set, set-get_or, get_or-set_same}
use Rattle.std.proofs.lemmas.List.Sums.{fold-append}
use Rattle.vt_syntax.specs.declared.event.Event.{Event}
use Rattle.vt_syntax.specs.declared.event.Event.TheVariants.{Print, Control, Escape}
use Rattle.vt_syntax.specs.declared.held.Held.TheVariants.{Nothing}
use Rattle.vt_syntax.specs.Held.{held_after}
use Rattle.vt_syntax.specs.Reading.{events_of}
use Rattle.vt_syntax.specs.Laws.{SpellingLaw}
use Rattle.vt_glyph.specs.declared.set.Set.{Set}
use Rattle.vt_glyph.specs.declared.set.Set.TheVariants.{Ascii, Special, Supplemental}
use Rattle.vt_glyph.specs.declared.glyph.Spelling.{Spelling}
use Rattle.vt_glyph.specs.declared.glyph.Spelling.TheVariants.{Plain, Second, Third}
use Rattle.vt_glyph.specs.Tables.{IsGlyph, glyph_of, space}
use Rattle.vt_glyph.specs.Designation.{final_of, set_of_final}
use Rattle.vt_glyph.specs.GraphicSets.{GraphicSets}
use Rattle.vt_glyph.specs.Invocation.{set_at, invoked, has_no_glyph, glyph_read, after_read, shifted_once, designated}
use Rattle.vt_glyph.specs.Spell.{spelling_of, code_of, shifted_for, AreSpellingSets}
use Rattle.vt_glyph.specs.Laws.{GlyphLaws, SpellingLaws}
use Rattle.vt_glyph.proofs.EachSet.{same_for}
use Rattle.vt_glyph.proofs.Designations.{set_of_final-final_of}
use Rattle.vt_screen.specs.declared.cell.Cell.{Cell}
use Rattle.vt_screen.specs.Grid.{row_of}
use Rattle.vt_term.specs.Scrolling.{is_at_end, line_off, lines_off, scrolled_off}
use Rattle.vt_term.specs.State.{Display, State}
use Rattle.vt_screen.specs.declared.size.Size.{Size}
use Rattle.vt_term.specs.Sound.{IsSoundAt}
use Rattle.vt_term.specs.Moving.{next_line}
use Rattle.vt_term.specs.Writing.{write_glyph, put_glyph, print}
use Rattle.vt_term.specs.Functions.{effect, with_sets}
use Rattle.vt_term.specs.Play.{Played, play, after_events}
use Rattle.vt_utf8.specs.Translation.{shifted, designation, while_designated, through_g2, reads_ascii}
use Rattle.vt_utf8.specs.Translation.{spelled_in, written, unshifted, translation, glyph_off, write_wide}
use Rattle.vt_utf8.specs.Translation.{is_at_end as is_full}
use Rattle.vt_utf8.specs.Similar.{shown}
use Rattle.vt_utf8.specs.Cells.{cells}
use Rattle.vt_utf8.proofs.Silence.{silent-reports, SpellQuietly, spell-append, spell-printed, spell-ss2, spell-ss3, spell-designation, shown-glyph}
use Rattle.vt_term.specs.Functions.{control_any, escape_with_any}

-- ---- bytes that make one display of another, without a report, and the lines that they scroll off

pub record Does (bytes : List ℕ) (d e : Display) (off : List (List Cell)) : Type 0 where
  pub events : List Event
  pub spell : SpellQuietly events bytes
  pub after : after_events events d ≡ e
  pub lines : lines_off events d ≡ off

lines-append : (xs ys : List Event) (d : Display)
    → lines_off (xs ++ ys) d ≡ lines_off xs d ++ lines_off ys (after_events xs d)
lines-append [] ys d = refl
lines-append (x ∷ xs) ys d =
    ap (λ (t : List (List Cell)). line_off x d ++ t) (lines-append xs ys (effect x d))
    ∙ sym (append_assoc (line_off x d) (lines_off xs (effect x d)) (lines_off ys (after_events xs (effect x d))))

does-append : (a b : List ℕ) (d e f : Display) (p q : List (List Cell)) → Does a d e p → Does b e f q
    → Does (a ++ b) d f (p ++ q)
does-append a b d e f p q x y = record {
  events = x.events ++ y.events;
  spell = spell-append x.events y.events a b x.spell y.spell;
  after = fold-append (λ t event. effect event t) d x.events y.events ∙ rw x.after y.after;
  lines = lines-append x.events y.events d ∙ rw (x.lines, x.after, y.lines) refl;
}

-- a graphic byte of ASCII
has-glyph : (code : ℕ) → 0x20 ≤ code → code ≤ 0x7E → has_no_glyph code ≡ false
has-glyph code low high = let same : code % 0x80 ≡ code = omega arith in rw same (grind (arith, nat_tests))

print-off : (d : Display) (code : ℕ) → 0x20 ≤ code → code ≤ 0x7E → lines_off (Print code ∷ []) d ≡ glyph_off d
print-off d code low high = rw (has-glyph code low high) (go d.cursor.wrap)
  where
    go : (wrap : Bool) → (if (wrap && true) && is_at_end d then row_of d.grid 1 ∷ [] else []) ++ []
        ≡ if wrap && is_at_end d then row_of d.grid 1 ∷ [] else []
    go true = append-nil (if is_at_end d then row_of d.grid 1 ∷ [] else [])
    go false = refl

pub does-printed : (d : Display) (code : ℕ) → 0x20 ≤ code → code ≤ 0x7E → Does (code ∷ []) d (print code d) (glyph_off d)
does-printed d code low high = record {
  events = Print code ∷ [];
  spell = spell-printed code low high;
  after = refl;
  lines = print-off d code low high;
}

-- ---- G2 by SS2, and G3 by SS3

-- a single shift to a slot, `ESC last`, and the designation of a set there by `ESC inter`
record IsShift (slot last inter : ℕ) : Type 0 where
  few : slot < 4
  low : 0x20 ≤ inter
  high : inter ≤ 0x2F
  shifts : (d : Display) → Does (0x1B ∷ last ∷ []) d (with_sets (shifted_once slot) d) []
  designates : (set : Set) (d : Display) → effect (Escape (Some inter) (final_of set)) d
      ≡ record d { sets = designated slot set d.sets }

effect-g2 : (set : Set) (d : Display) → effect (Escape (Some 0x2A) (final_of set)) d ≡ record d { sets = designated 2 set d.sets }
unfolding escape_with_any
effect-g2 set d =
    same_for (λ set. effect (Escape (Some 0x2A) (final_of set)) d) (λ set. record d { sets = designated 2 set d.sets }) refl set

to-g2 : IsShift 2 0x4E 0x2A
unfolding control_any
to-g2 = record {
  few = omega arith;
  low = omega arith;
  high = omega arith;
  shifts = λ d. record { events = Control 0x8E ∷ []; spell = spell-ss2; after = refl; lines = refl };
  designates = effect-g2;
}

effect-g3 : (set : Set) (d : Display) → effect (Escape (Some 0x2B) (final_of set)) d ≡ record d { sets = designated 3 set d.sets }
unfolding escape_with_any
effect-g3 set d =
    same_for (λ set. effect (Escape (Some 0x2B) (final_of set)) d) (λ set. record d { sets = designated 3 set d.sets }) refl set

to-g3 : IsShift 3 0x4F 0x2B
unfolding control_any
to-g3 = record {
  few = omega arith;
  low = omega arith;
  high = omega arith;
  shifts = λ d. record { events = Control 0x8F ∷ []; spell = spell-ss3; after = refl; lines = refl };
  designates = effect-g3;
}

-- ---- a glyph doesn't look at the sets, and leaves them

with-sets : (n : ℕ) (d : Display) (x : GraphicSets)
    → record (write_glyph n d) { sets = x } ≡ write_glyph n (record d { sets = x })
with-sets n d x = go d.cursor.wrap
  where
    go : (w : Bool) → record (put_glyph n (if w then next_line d else d)) { sets = x }
        ≡ put_glyph n (if w then next_line (record d { sets = x }) else record d { sets = x })
    go true = refl
    go false = refl

pub leaves-sets : (n : ℕ) (d : Display) → (write_glyph n d).sets ≡ d.sets
leaves-sets n d = go d.cursor.wrap
  where
    go : (w : Bool) → (put_glyph n (if w then next_line d else d)).sets ≡ d.sets
    go true = refl
    go false = refl

-- ---- a code after a shift

-- the sets that the spellings are for
abbrev spelling_sets : GraphicSets
spelling_sets =
    record { g = Ascii ∷ Ascii ∷ Supplemental ∷ Special ∷ []; left = 0; right = 2; pending = None }

spelling_sets-are : AreSpellingSets spelling_sets
spelling_sets-are = record { g0 = refl; g2 = refl; g3 = refl; left = refl; pending = refl }

-- a byte is read through the set that it invokes
same-read : (a b : GraphicSets) (code : ℕ) → invoked a code ≡ invoked b code → glyph_read a code ≡ glyph_read b code
unfolding glyph_read
same-read a b code e =
    ap (λ (set : Set). if has_no_glyph code then None else (
    if code == 0x20 then Some space else Some (glyph_of set (code % 0x80)))) e

left-half : (code : ℕ) → code ≤ 0x7E → nat_lt code 0x80 ≡ true
left-half code high = grind (arith, nat_tests)

after-graphic : (sets : GraphicSets) (code : ℕ) → 0x20 ≤ code → code ≤ 0x7E
    → after_read sets code ≡ record sets { pending = None }
unfolding after_read
after-graphic sets code low high = rw (has-glyph code low high) refl

-- a graphic byte that is read as this glyph
pub prints : (d : Display) (code n : ℕ) → 0x20 ≤ code → code ≤ 0x7E → glyph_read d.sets code ≡ Some n
    → print code d ≡ write_glyph n (unshifted d)
prints d code n low high read = rw (read, after-graphic d.sets code low high) refl

some-same : (a b : Set) → Some a ≡ Some b → a ≡ b
some-same a b h = cc

same-final : (a b : Set) → final_of a ≡ final_of b → a ≡ b
same-final a b e = some-same a b (sym (set_of_final-final_of a) ∙ ap set_of_final e ∙ set_of_final-final_of b)

module _ (slot last inter : ℕ) (is : IsShift slot last inter) (code n : ℕ) (low : 0x20 ≤ code) (high : code ≤ 0x7E) where
  does-designated : (set : Set) (d : Display) → Does (designation inter set) d (record d { sets = designated slot set d.sets }) []
  does-designated set d = record {
    events = Escape (Some inter) (final_of set) ∷ [];
    spell = spell-designation inter set is.low is.high;
    after = is.designates set d;
    lines = refl;
  }

  does-shifted : (d : Display) → glyph_read (shifted_once slot d.sets) code ≡ Some n
      → Does (shifted last code) d (write_glyph n (unshifted d)) (glyph_off d)
  does-shifted d read =
      let e = with_sets (shifted_once slot) d in
      subst (λ (f : Display). Does (shifted last code) d f (glyph_off d)) (prints e code n low high read)
      (does-append (0x1B ∷ last ∷ []) (code ∷ []) d e (print code e) [] (glyph_off e) (is.shifts d) (does-printed e code low high))

  does-through : (d : Display) → length d.sets.g ≡ 4 → (set : Set)
      → ((sets : GraphicSets) → invoked sets code ≡ set → glyph_read sets code ≡ Some n)
      → Does (while_designated inter set (set_at d.sets slot) (shifted last code)) d (write_glyph n (unshifted d)) (glyph_off d)
  does-through d four set reads = go (final_of before == final_of set) refl
    where
      before : Set
      before = set_at d.sets slot

      d1 : Display
      d1 = record d { sets = designated slot set d.sets }

      d3 : Display
      d3 = write_glyph n (unshifted d1)

      back : record d3 { sets = designated slot before d3.sets } ≡ write_glyph n (unshifted d)
      back =
          ap (λ (x : GraphicSets). record d3 { sets = designated slot before x }) (leaves-sets n (unshifted d1))
          ∙ with-sets n (unshifted d1) (designated slot before (unshifted d1).sets)
          ∙ ap (λ (g : List Set). write_glyph n (record d { sets = record d.sets { g = g; pending = None } }))
          (set-set d.sets.g slot set before ∙ set-get_or d.sets.g slot Ascii)

      go : (b : Bool) → (final_of before == final_of set) ≡ b
          → Does (if b then shifted last code
          else designation inter set ++ (shifted last code ++ designation inter before)) d (write_glyph n (unshifted d))
          (glyph_off d)
      go true e = does-shifted d (reads (shifted_once slot d.sets) (same-final before set (eqb-true _ _ e)))
      go false e =
          let bytes = designation inter set ++ (shifted last code ++ designation inter before) in
          let end = record d3 { sets = designated slot before d3.sets } in
          let designates = get_or-set_same d.sets.g slot set Ascii (omega (arith, four, is.few)) in
          subst (λ (rows : List (List Cell)). Does bytes d (write_glyph n (unshifted d)) rows) (append-nil (glyph_off d))
          (subst (λ (f : Display). Does bytes d f (glyph_off d ++ [])) back
          (does-append (designation inter set) (shifted last code ++ designation inter before) d d1 end []
          (glyph_off d1 ++ []) (does-designated set d)
          (does-append (shifted last code) (designation inter before) d1 d3 end (glyph_off d1) []
          (does-shifted d1 (reads (shifted_once slot d1.sets) designates)) (does-designated before d3))))

-- ---- a glyph by its spelling

pub none-is : (o : Option ℕ) → is_none o ≡ true → o ≡ None
none-is None h = refl
none-is (Some x) h = absurd cc

-- ASCII is read as itself
invokes-ascii : (sets : GraphicSets) (code : ℕ) → code ≤ 0x7E → reads_ascii sets ≡ true → invoked sets code ≡ Ascii
invokes-ascii sets code high h =
    let parts = and_parts (final_of (set_at sets sets.left) == final_of Ascii) (is_none sets.pending) h in
    rw (none-is sets.pending parts.1, left-half code high)
    (same-final (set_at sets sets.left) Ascii (eqb-true _ _ parts.0))

-- a glyph of ASCII through G2, whatever single shift is pending
does-shifted-ascii : (d : Display) (code n : ℕ) → length d.sets.g ≡ 4 → 0x20 ≤ code → code ≤ 0x7E
    → glyph_read spelling_sets code ≡ Some n
    → Does (through_g2 d.sets Ascii code) d (write_glyph n (unshifted d)) (glyph_off d)
does-shifted-ascii d code n four low high law =
    does-through 2 0x4E 0x2A to-g2 code n low high d four Ascii
    (λ sets e. same-read sets spelling_sets code (e ∙ sym (invokes-ascii spelling_sets code high refl)) ∙ law)

pub does-shifted-space : (d : Display) → length d.sets.g ≡ 4
    → Does (through_g2 d.sets Ascii space) d (write_glyph space (unshifted d)) (glyph_off d)
unfolding glyph_read
does-shifted-space d four = does-shifted-ascii d space space four (omega arith) (omega arith) refl

does-spelled : (d : Display) (s : Spelling) (n : ℕ) → length d.sets.g ≡ 4 → 0x20 ≤ code_of s → code_of s ≤ 0x7E
    → glyph_read (shifted_for s spelling_sets) (code_of s) ≡ Some n
    → Does (spelled_in d.sets s) d (write_glyph n (unshifted d)) (glyph_off d)
does-spelled d (Plain code) n four low high law = go (reads_ascii d.sets) refl
  where
    reads : (sets : GraphicSets) → invoked sets code ≡ Ascii → glyph_read sets code ≡ Some n
    reads sets e =
        same-read sets spelling_sets code (e ∙ sym (invokes-ascii spelling_sets code high refl)) ∙ law

    go : (b : Bool) → reads_ascii d.sets ≡ b
        → Does (if b then code ∷ [] else through_g2 d.sets Ascii code) d (write_glyph n (unshifted d)) (glyph_off d)
    go true e =
        subst (λ (f : Display). Does (code ∷ []) d f (glyph_off d))
        (prints d code n low high (reads d.sets (invokes-ascii d.sets code high e))) (does-printed d code low high)
    go false e = does-shifted-ascii d code n four low high law
does-spelled d (Second code) n four low high law =
    does-through 2 0x4E 0x2A to-g2 code n low high d four Supplemental
    (λ sets e. same-read sets (shifted_once 2 spelling_sets) code e ∙ law)
does-spelled d (Third code) n four low high law =
    does-through 3 0x4F 0x2B to-g3 code n low high d four Special
    (λ sets e. same-read sets (shifted_once 3 spelling_sets) code e ∙ law)

module _ (spelled : SpellingLaw) (spelling : SpellingLaws) where
  -- the bytes between sequences are those events
  reads : (d e : Display) (bytes : List ℕ) (off : List (List Cell)) (does : Does bytes d e off)
      → events_of bytes ≡ does.events
  reads d e bytes off does =
      ap events_of (sym does.spell.spelled) ∙ spelled.all_events does.events does.spell.are_events

  pub plays : (d e : Display) (bytes : List ℕ) (off : List (List Cell)) → Does bytes d e off
      → play (record { display = d; held = Nothing }) bytes
      ≡ record { state = record { display = e; held = Nothing }; reports = [] }
  unfolding play
  plays d e bytes off does =
      let left : held_after bytes ≡ Nothing =
      ap held_after (sym does.spell.spelled) ∙ spelled.all_held does.events does.spell.are_events in
      rw (reads d e bytes off does, left, does.after, silent-reports does.events does.spell.silent d) refl

  scrolls : (d e : Display) (bytes : List ℕ) (off : List (List Cell)) → Does bytes d e off
      → scrolled_off (record { display = d; held = Nothing }) bytes ≡ off
  unfolding scrolled_off
  scrolls d e bytes off does = rw (reads d e bytes off does) does.lines

  written-does : {size : Size} (s : State) (n : ℕ) → IsSoundAt size s → IsGlyph n
      → Does (written n s.display.sets) s.display (write_glyph n (unshifted s.display)) (glyph_off s.display)
  written-does s n sound is =
      let code = spelling.code n is in
      does-spelled s.display (spelling_of n) n sound.display.sets.four code.0 code.1
      (spelling.writes spelling_sets n spelling_sets-are is)

  pub writes : {size : Size} (s : State) (n : ℕ) → IsSoundAt size s → s.held ≡ Nothing → IsGlyph n
      → play s (written n s.display.sets)
      ≡ record { state = record s { display = write_glyph n (unshifted s.display) }; reports = [] }
  writes s n sound between is =
      let d = s.display in
      let does = written-does s n sound is in
      ap (λ h. play (record { display = d; held = h }) (written n d.sets)) between
      ∙ plays d (write_glyph n (unshifted d)) (written n d.sets) (glyph_off d) does
      ∙ ap (λ h. record { state = record { display = write_glyph n (unshifted d); held = h }; reports = [] })
      (sym between)

  -- a character of one cell
  pub writes-one : {size : Size} → GlyphLaws → (s : State) (c : ℕ) → IsSoundAt size s → s.held ≡ Nothing → 0x80 ≤ c → cells c ≡ 1
      → play s (translation s c)
      ≡ record { state = record s { display = write_glyph (shown c) (unshifted s.display) }; reports = [] }
  unfolding translation
  writes-one glyphs s c sound between beyond one =
      let high : nat_lt c 0x80 ≡ false = grind (arith, nat_tests) in
      let bytes : translation s c ≡ written (shown c) s.display.sets = rw (high, between, one) refl in
      ap (λ (b : List ℕ). play s b) bytes ∙ writes s (shown c) sound between (shown-glyph glyphs c)

  pub off-written : {size : Size} (s : State) (n : ℕ) → IsSoundAt size s → s.held ≡ Nothing → IsGlyph n
      → scrolled_off s (written n s.display.sets) ≡ glyph_off s.display
  off-written s n sound between is =
      let d = s.display in
      ap (λ h. scrolled_off (record { display = d; held = h }) (written n d.sets)) between
      ∙ scrolls d (write_glyph n (unshifted d)) (written n d.sets) (glyph_off d) (written-does s n sound is)

  -- the line that it scrolls off
  pub off-one : {size : Size} → GlyphLaws → (s : State) (c : ℕ) → IsSoundAt size s → s.held ≡ Nothing → 0x80 ≤ c → cells c ≡ 1
      → scrolled_off s (translation s c) ≡ glyph_off s.display
  unfolding translation
  off-one glyphs s c sound between beyond one =
      let high : nat_lt c 0x80 ≡ false = grind (arith, nat_tests) in
      let bytes : translation s c ≡ written (shown c) s.display.sets = rw (high, between, one) refl in
      ap (λ (b : List ℕ). scrolled_off s b) bytes ∙ off-written s (shown c) sound between (shown-glyph glyphs c)

  -- a character without a cell
  pub writes-none : (s : State) (c : ℕ) → s.held ≡ Nothing → 0x80 ≤ c → cells c ≡ 0 → translation s c ≡ []
  unfolding translation
  writes-none s c between beyond none =
      let high : nat_lt c 0x80 ≡ false = grind (arith, nat_tests) in
      rw (high, between, none) refl

-- ---- without a pending single shift

pub unshifted-same : (d : Display) → d.sets.pending ≡ None → unshifted d ≡ d
unshifted-same d none =
    ap (λ (p : Option ℕ). record d { sets = record d.sets { pending = p } }) (sym none)

-- a character's glyph is written as it is
pub written-itself : (s t : State) (c n : ℕ) → s.display.sets.pending ≡ None
    → play s (translation s c)
    ≡ record { state = record s { display = write_glyph (shown c) (unshifted s.display) }; reports = [] }
    → n ≡ shown c → t ≡ record s { display = write_glyph n s.display } → t ≡ (play s (translation s c)).state
written-itself s t c n none played is written =
    written
    ∙ ap (λ (m : ℕ). record s { display = write_glyph m s.display }) is
    ∙ ap (λ (d : Display). record s { display = write_glyph (shown c) d }) (sym (unshifted-same s.display none))
    ∙ sym (ap (λ (p : Played). p.state) played)

-- a wide character's glyph and the space after it are, if two cells are left in the row
pub wide-itself : (s t : State) (c n : ℕ) → is_full s.display ≡ false
    → play s (translation s c) ≡ record { state = record s { display = write_wide (shown c) s.display }; reports = [] }
    → n ≡ shown c → t ≡ record s { display = write_glyph space (write_glyph n s.display) } → t ≡ (play s (translation s c)).state
wide-itself s t c n fits played is written =
    written
    ∙ ap (λ (m : ℕ). record s { display = write_glyph space (write_glyph m s.display) }) is
    ∙ ap (λ (b : Bool). record s {
      display = if not b then write_glyph space (write_glyph (shown c) s.display) else (
          if s.display.modes.decawm then write_glyph space (write_glyph (shown c) (next_line s.display)) else s.display);
    }) (sym fits)
    ∙ sym (ap (λ (p : Played). p.state) played)
