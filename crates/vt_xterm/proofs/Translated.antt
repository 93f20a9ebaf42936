-- The bytes of a character beyond ASCII leave the width.
use Rattle.std.proofs.Common.{◌≡◌, ℕ, ◌≤◌, Bool, true, false, not, List, [], ◌∷◌, ◌++◌, Some, inr, refl, sym, ap, ◌∙◌, arith, append-nil}
use Rattle.std.specs.Prelude.{nat_lt, ◌==◌, if◌then◌else◌}
use Rattle.std.proofs.lemmas.Bool.Decides.{nat_tests}
use Rattle.std.proofs.lemmas.List.Elements.{All-from_recursion}
use Rattle.vt_syntax.specs.declared.event.Event.{Event}
use Rattle.vt_syntax.specs.declared.event.Event.TheVariants.{Print, Control, Escape}
use Rattle.vt_syntax.specs.declared.held.Held.{Held}
use Rattle.vt_syntax.specs.declared.held.Held.TheVariants as held
use Rattle.vt_syntax.specs.Class.{opens_string}
use Rattle.vt_syntax.specs.Held.{IsHeldPart, events_from}
use Rattle.vt_syntax.specs.Reading.{events_of}
use Rattle.vt_syntax.specs.Spelling.{IsEvent, spell_event}
use Rattle.vt_syntax.specs.Laws.{SpellingLaw}
use Rattle.vt_glyph.specs.declared.set.Set.{Set}
use Rattle.vt_glyph.specs.declared.set.Set.TheVariants.{Ascii, Special, Supplemental}
use Rattle.vt_glyph.specs.declared.glyph.Spelling.{Spelling}
use Rattle.vt_glyph.specs.declared.glyph.Spelling.TheVariants.{Plain, Second, Third}
use Rattle.vt_glyph.specs.Tables.{IsGlyph, space}
use Rattle.vt_glyph.specs.Designation.{final_of}
use Rattle.vt_glyph.specs.GraphicSets.{GraphicSets}
use Rattle.vt_glyph.specs.Invocation.{set_at}
use Rattle.vt_glyph.specs.Spell.{spelling_of, code_of}
use Rattle.vt_glyph.specs.Laws.{GlyphLaws, SpellingLaws}
use Rattle.vt_screen.specs.declared.size.Size.{Size}
use Rattle.vt_term.specs.State.{Display, State}
use Rattle.vt_term.specs.Sound.{IsSoundAt}
use Rattle.vt_term.specs.Functions.{effect}
use Rattle.vt_term.specs.Reports.{report}
use Rattle.vt_term.specs.Play.{Played, play, after_events}
use Rattle.vt_utf8.specs.Similar.{shown}
use Rattle.vt_utf8.specs.Cells.{cells}
use Rattle.vt_utf8.specs.Translation.{shifted, designation, while_designated, through_g2, through_g3, reads_ascii}
use Rattle.vt_utf8.specs.Translation.{spelled_in, written, both_halves, is_at_end, written_wide, put, beyond_ascii, translation}
use Rattle.vt_utf8.proofs.Silence.{SpellQuietly, spell-append, spell-printed, spell-ss2, spell-ss3, spell-designation, shown-glyph}
use Rattle.vt_xterm.specs.Front.{is_page_function}
use Rattle.vt_xterm.proofs.Stays.{effect-fits}
use Rattle.vt_term.specs.Reports.{control_report_any}

-- ---- bytes that are events without a function of the pages

abbrev AreTame : List Event → Type 0
AreTame [] = Unit {0}
AreTame (event ∷ events) = (is_page_function event ≡ false) × AreTame events

tame-both : (xs ys : List Event) → AreTame xs → AreTame ys → AreTame (xs ++ ys)
tame-both [] ys first second = second
tame-both (x ∷ xs) ys (first, others) second = (first, tame-both xs ys others second)

-- they leave the width
tame-width : (events : List Event) → AreTame events → (d : Display) → (after_events events d).grid.width ≡ d.grid.width
tame-width [] h d = refl
tame-width (event ∷ events) (first, others) d = tame-width events others (effect event d) ∙ effect-fits event first d

record SpellTame (bytes : List ℕ) : Type 0 where
  events : List Event
  spell : SpellQuietly events bytes
  tame : AreTame events

one : (event : Event) (bytes : List ℕ) → SpellQuietly (event ∷ []) bytes → is_page_function event ≡ false → SpellTame bytes
one event bytes spell tame = record { events = event ∷ []; spell = spell; tame = (tame, tt) }

nothing : SpellTame []
nothing = record {
  events = [];
  spell = record { spelled = refl; are_events = All-from_recursion IsEvent [] tt; silent = tt };
  tame = tt;
}

both : (a b : List ℕ) → SpellTame a → SpellTame b → SpellTame (a ++ b)
both a b x y = record {
  events = x.events ++ y.events;
  spell = spell-append x.events y.events a b x.spell y.spell;
  tame = tame-both x.events y.events x.tame y.tame;
}

one-of : (b : Bool) (x y : List ℕ) → SpellTame x → SpellTame y → SpellTame (if b then x else y)
one-of true x y first second = first
one-of false x y first second = second

-- a control of C1, by ESC
control : (c last : ℕ) → spell_event (Control c) ≡ 0x1B ∷ last ∷ [] → IsEvent (Control c)
    → ((s : Display) → report (Control c) s ≡ []) → SpellTame (0x1B ∷ last ∷ [])
control c last spelled is silent =
    one (Control c) (0x1B ∷ last ∷ []) (record {
      spelled = append-nil (spell_event (Control c)) ∙ spelled;
      are_events = All-from_recursion IsEvent (Control c ∷ []) (is, tt);
      silent = (silent, refl, tt);
    }) refl

st : SpellTame (0x1B ∷ 0x5C ∷ [])
unfolding opens_string control_report_any
st = control 0x9C 0x5C refl (inr (omega arith, omega arith, refl)) (λ s. refl)

nel : SpellTame (0x1B ∷ 0x45 ∷ [])
unfolding opens_string control_report_any
nel = control 0x85 0x45 refl (inr (omega arith, omega arith, refl)) (λ s. refl)

-- ---- the bytes of a character

printed : (code : ℕ) → 0x20 ≤ code → code ≤ 0x7E → SpellTame (code ∷ [])
printed code low high = one (Print code) (code ∷ []) (spell-printed code low high) refl

designated : (inter : ℕ) (set : Set) → 0x20 ≤ inter → inter ≤ 0x2F → SpellTame (designation inter set)
designated inter set low high =
    one (Escape (Some inter) (final_of set)) (designation inter set) (spell-designation inter set low high) refl

while : (inter : ℕ) (set before : Set) (bytes : List ℕ) → 0x20 ≤ inter → inter ≤ 0x2F → SpellTame bytes
    → SpellTame (while_designated inter set before bytes)
while inter set before bytes low high tame =
    one-of (final_of before == final_of set) _ _ tame
    (both (designation inter set) (bytes ++ designation inter before) (designated inter set low high)
    (both bytes (designation inter before) tame (designated inter before low high)))

module _ (sets : GraphicSets) (code : ℕ) (low : 0x20 ≤ code) (high : code ≤ 0x7E) where
  by_g2 : (set : Set) → SpellTame (through_g2 sets set code)
  by_g2 set =
      while 0x2A set (set_at sets 2) (shifted 0x4E code) (omega arith) (omega arith)
      (both (0x1B ∷ 0x4E ∷ []) (code ∷ []) (one (Control 0x8E) (0x1B ∷ 0x4E ∷ []) spell-ss2 refl) (printed code low high))

  by_g3 : (set : Set) → SpellTame (through_g3 sets set code)
  by_g3 set =
      while 0x2B set (set_at sets 3) (shifted 0x4F code) (omega arith) (omega arith)
      (both (0x1B ∷ 0x4F ∷ []) (code ∷ []) (one (Control 0x8F) (0x1B ∷ 0x4F ∷ []) spell-ss3 refl) (printed code low high))

spelled : (sets : GraphicSets) (s : Spelling) → 0x20 ≤ code_of s → code_of s ≤ 0x7E → SpellTame (spelled_in sets s)
spelled sets (Plain code) low high =
    one-of (reads_ascii sets) _ _ (printed code low high) (by_g2 sets code low high Ascii)
spelled sets (Second code) low high = by_g2 sets code low high Supplemental
spelled sets (Third code) low high = by_g3 sets code low high Special

module _ (glyphs : GlyphLaws) (spelling : SpellingLaws) where
  glyph : (n : ℕ) (sets : GraphicSets) → IsGlyph n → SpellTame (written n sets)
  glyph n sets is = let code = spelling.code n is in spelled sets (spelling_of n) code.0 code.1

  halves : (n : ℕ) (sets : GraphicSets) → IsGlyph n → SpellTame (both_halves n sets)
  halves n sets is = both (written n sets) (written space sets) (glyph n sets is) (glyph space sets glyphs.space)

  wide : (n : ℕ) (s : Display) → IsGlyph n → SpellTame (written_wide n s)
  wide n s is =
      one-of (not (is_at_end s)) _ _ (halves n s.sets is)
      (one-of s.modes.decawm _ _ (both (0x1B ∷ 0x45 ∷ []) (both_halves n s.sets) nel (halves n s.sets is)) nothing)

  character : (c : ℕ) (s : Display) → SpellTame (put c s)
  character c s =
      let is = shown-glyph glyphs c in
      one-of (cells c == 0) _ _ nothing (one-of (cells c == 1) _ _ (glyph (shown c) s.sets is) (wide (shown c) s is))

-- ---- they leave the width

module _ {size : Size} (none : (s : State) → IsSoundAt size s → play s [] ≡ record { state = s; reports = [] }) (spelled : SpellingLaw) where
  between-width : (d : Display) (bytes : List ℕ) → SpellTame bytes
      → (play (record { display = d; held = held.Nothing }) bytes).state.display.grid.width ≡ d.grid.width
  unfolding play
  between-width d bytes tame =
      let are : events_of bytes ≡ tame.events =
      ap events_of (sym tame.spell.spelled) ∙ spelled.all_events tame.events tame.spell.are_events in
      rw are (tame-width tame.events tame.tame d)

  cut-width : (d : Display) (h : Held) (bytes : List ℕ) → IsHeldPart h → SpellTame bytes
      → (play (record { display = d; held = h }) (0x1B ∷ 0x5C ∷ bytes)).state.display.grid.width ≡ d.grid.width
  unfolding play
  cut-width d h bytes is tame =
      let all : SpellTame (0x1B ∷ 0x5C ∷ bytes) = both (0x1B ∷ 0x5C ∷ []) bytes st tame in
      let are : events_from h (0x1B ∷ 0x5C ∷ bytes) ≡ all.events =
      spelled.escape h (0x5C ∷ bytes) is ∙ ap events_of (sym all.spell.spelled)
      ∙ spelled.all_events all.events all.spell.are_events in
      rw are (tame-width all.events all.tame d)

  beyond-width : (d : Display) (h : Held) (bytes : List ℕ) → IsSoundAt size (record { display = d; held = h }) → SpellTame bytes
      → (play (record { display = d; held = h }) (beyond_ascii h bytes)).state.display.grid.width ≡ d.grid.width
  beyond-width d held.Nothing bytes sound tame = between-width d bytes tame
  beyond-width d (held.Escape inters) bytes sound tame = cut-width d (held.Escape inters) bytes sound.held tame
  beyond-width d (held.Control marker params full phase) bytes sound tame =
      cut-width d (held.Control marker params full phase) bytes sound.held tame
  beyond-width d held.Spoilt bytes sound tame = cut-width d held.Spoilt bytes sound.held tame
  beyond-width d (held.Text osc) bytes sound tame =
      ap (λ (p : Played). p.state.display.grid.width) (none (record { display = d; held = held.Text osc }) sound)

  pub translation-width : GlyphLaws → SpellingLaws → (s : State) (c : ℕ) → IsSoundAt size s → 0x80 ≤ c
      → (play s (translation s c)).state.display.grid.width ≡ s.display.grid.width
  unfolding translation
  translation-width glyphs spelling s c sound beyond =
      let is : nat_lt c 0x80 ≡ false = grind (arith, nat_tests) in
      rw is (beyond-width s.display s.held (put c s.display) sound (character glyphs spelling c s.display))
