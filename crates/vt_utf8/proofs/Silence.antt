-- A character beyond ASCII causes no report, and has no function that erases the screen.
use Rattle.std.proofs.Common.{◌≡◌, ℕ, zero, suc, take, drop, ◌+◌, ◌-◌, ◌≤◌, Bool, true, false, not, List, [], ◌∷◌, ◌++◌, All, length, None, Some, inl, inr, refl, sym, ap, subst, ◌∙◌, arith, append_assoc, append-nil}
use Rattle.std.specs.Prelude.{nat_lt, nat_le, ◌==◌, ◌&&◌, slice_index_or, if◌then◌else◌}
use Rattle.std.specs.List.{list_all}
use Rattle.std.proofs.lemmas.Bool.{and_parts, leb-true}
use Rattle.std.proofs.lemmas.List.{take-append-drop}
use Rattle.std.proofs.Math.Seq.{take-add, take-length}
use Rattle.std.proofs.lemmas.Bool.Decides.{nat_tests}
use Rattle.std.proofs.lemmas.List.Elements.{All-append, All-from_recursion}
use Rattle.std.proofs.lemmas.Grind.{flat_map-append}
use Rattle.vt_syntax.specs.declared.event.Event.{Event}
use Rattle.vt_syntax.specs.declared.event.Event.TheVariants.{Print, Control, Escape, Sequence}
use Rattle.vt_syntax.specs.declared.held.Held.{Held}
use Rattle.vt_syntax.specs.declared.held.Held.TheVariants as held
use Rattle.vt_syntax.specs.Class.{opens_string}
use Rattle.vt_syntax.specs.Held.{IsHeldPart, events_from}
use Rattle.vt_syntax.specs.Reading.{events_of}
use Rattle.vt_syntax.specs.Spelling.{IsEvent, spell_event, spell_events}
use Rattle.vt_syntax.specs.Laws.{SpellingLaw}
use Rattle.vt_glyph.specs.declared.set.Set.{Set}
use Rattle.vt_glyph.specs.declared.set.Set.TheVariants.{Ascii, Special, Supplemental}
use Rattle.vt_glyph.specs.declared.glyph.Spelling.{Spelling}
use Rattle.vt_glyph.specs.declared.glyph.Spelling.TheVariants.{Plain, Second, Third}
use Rattle.vt_glyph.specs.Tables.{IsGlyph, is_glyph, glyph_of, space, substitute_glyph}
use Rattle.vt_glyph.specs.Designation.{final_of}
use Rattle.vt_glyph.specs.GraphicSets.{GraphicSets}
use Rattle.vt_glyph.specs.Invocation.{set_at}
use Rattle.vt_glyph.specs.Spell.{spelling_of, code_of}
use Rattle.vt_glyph.specs.Laws.{GlyphLaws, SpellingLaws}
use Rattle.vt_glyph.proofs.EachSet as each_set
use Rattle.vt_term.specs.Scrolling.{log}
use Rattle.vt_term.specs.State.{Display, State}
use Rattle.vt_screen.specs.declared.size.Size.{Size}
use Rattle.vt_term.specs.Sound.{IsSoundAt}
use Rattle.vt_term.specs.Functions.{effect}
use Rattle.vt_term.specs.Reports.{report}
use Rattle.vt_term.specs.Play.{Played, play, both, reports_of}
use Rattle.vt_utf8.specs.Similar.{latin, lines, letters, signs, shown, in_rows, ascii_of_fullwidth}
use Rattle.vt_utf8.specs.Cells.{cells}
use Rattle.vt_utf8.specs.Translation.{shifted, designation, while_designated, through_g2, through_g3, reads_ascii}
use Rattle.vt_utf8.specs.Translation.{spelled_in, written, both_halves, is_at_end, written_wide, put}
use Rattle.vt_utf8.specs.Translation.{beyond_ascii, translation}
use Rattle.vt_term.specs.Reports.{control_report_any}

-- ---- bytes that are events without a report

-- a character, a control or a designation
abbrev pub is_part : Event → Bool
is_part (Print b) = true
is_part (Control b) = true
is_part (Escape None last) = false
is_part (Escape (Some inter) last) = true
is_part (Sequence marker params inter last) = false

abbrev pub AreSilent : List Event → Type 0
AreSilent [] = Unit {0}
AreSilent (event ∷ events) = ((s : Display) → report event s ≡ []) × (is_part event ≡ true) × AreSilent events

pub silent-reports : (events : List Event) → AreSilent events → (s : Display) → reports_of events s ≡ []
silent-reports [] h s = refl
silent-reports (event ∷ events) (first, part, others) s = rw (first s) (silent-reports events others (effect event s))

silent-append : (xs ys : List Event) → AreSilent xs → AreSilent ys → AreSilent (xs ++ ys)
silent-append [] ys first second = second
silent-append (x ∷ xs) ys (first, part, others) second = (first, part, silent-append xs ys others second)

-- events that make no report, and the bytes that spell them
pub record SpellQuietly (events : List Event) (bytes : List ℕ) : Type 0 where
  pub spelled : spell_events events ≡ bytes
  pub are_events : All IsEvent events
  pub silent : AreSilent events

pub spell-append : (xs ys : List Event) (a b : List ℕ) → SpellQuietly xs a → SpellQuietly ys b → SpellQuietly (xs ++ ys) (a ++ b)
spell-append xs ys a b x y = record {
  spelled = flat_map-append spell_event xs ys ∙ rw (x.spelled, y.spelled) refl;
  are_events = All-append IsEvent xs ys x.are_events y.are_events;
  silent = silent-append xs ys x.silent y.silent;
}

pub spell-printed : (code : ℕ) → 0x20 ≤ code → code ≤ 0x7E → SpellQuietly (Print code ∷ []) (code ∷ [])
spell-printed code low high = record {
  spelled = refl;
  are_events = All-from_recursion IsEvent (Print code ∷ []) (inl (low, high), tt);
  silent = (λ s. refl, refl, tt);
}

-- a control of C1, by ESC
spell-control : (control last : ℕ) → spell_event (Control control) ≡ 0x1B ∷ last ∷ [] → IsEvent (Control control)
    → ((s : Display) → report (Control control) s ≡ []) → SpellQuietly (Control control ∷ []) (0x1B ∷ last ∷ [])
spell-control control last spelled is silent = record {
  spelled = append-nil (spell_event (Control control)) ∙ spelled;
  are_events = All-from_recursion IsEvent (Control control ∷ []) (is, tt);
  silent = (silent, refl, tt);
}

spell-st : SpellQuietly (Control 0x9C ∷ []) (0x1B ∷ 0x5C ∷ [])
unfolding opens_string control_report_any
spell-st = spell-control 0x9C 0x5C refl (inr (omega arith, omega arith, refl)) (λ s. refl)

spell-nel : SpellQuietly (Control 0x85 ∷ []) (0x1B ∷ 0x45 ∷ [])
unfolding opens_string control_report_any
spell-nel = spell-control 0x85 0x45 refl (inr (omega arith, omega arith, refl)) (λ s. refl)

pub spell-ss2 : SpellQuietly (Control 0x8E ∷ []) (0x1B ∷ 0x4E ∷ [])
unfolding opens_string control_report_any
spell-ss2 = spell-control 0x8E 0x4E refl (inr (omega arith, omega arith, refl)) (λ s. refl)

pub spell-ss3 : SpellQuietly (Control 0x8F ∷ []) (0x1B ∷ 0x4F ∷ [])
unfolding opens_string control_report_any
spell-ss3 = spell-control 0x8F 0x4F refl (inr (omega arith, omega arith, refl)) (λ s. refl)

pub final : (set : Set) → (0x30 ≤ final_of set) × (final_of set ≤ 0x7E)
final set =
    let two = and_parts (nat_le 0x30 (final_of set)) (nat_le (final_of set) 0x7E)
    (each_set.passes (λ set. nat_le 0x30 (final_of set) && nat_le (final_of set) 0x7E) refl set) in
    (leb-true 0x30 (final_of set) two.0, leb-true (final_of set) 0x7E two.1)

pub spell-designation : (inter : ℕ) (set : Set) → 0x20 ≤ inter → inter ≤ 0x2F
    → SpellQuietly (Escape (Some inter) (final_of set) ∷ []) (designation inter set)
spell-designation inter set low high = record {
  spelled = refl;
  are_events = All-from_recursion IsEvent (Escape (Some inter) (final_of set) ∷ []) (((low, high), final set), tt);
  silent = (λ s. refl, refl, tt);
}

-- ---- bytes that spell some such events

pub record AreQuiet (bytes : List ℕ) : Type 0 where
  pub events : List Event
  pub spell : SpellQuietly events bytes

quietly : (events : List Event) (bytes : List ℕ) → SpellQuietly events bytes → AreQuiet bytes
quietly events bytes spell = record { events = events; spell = spell }

quiet-nothing : AreQuiet []
quiet-nothing =
    quietly [] [] (record { spelled = refl; are_events = All-from_recursion IsEvent [] tt; silent = tt })

quiet-append : (a b : List ℕ) → AreQuiet a → AreQuiet b → AreQuiet (a ++ b)
quiet-append a b x y = quietly (x.events ++ y.events) (a ++ b) (spell-append x.events y.events a b x.spell y.spell)

quiet-if : (b : Bool) (x y : List ℕ) → AreQuiet x → AreQuiet y → AreQuiet (if b then x else y)
quiet-if true x y first second = first
quiet-if false x y first second = second

-- ---- the bytes of a translation

quiet-printed : (code : ℕ) → 0x20 ≤ code → code ≤ 0x7E → AreQuiet (code ∷ [])
quiet-printed code low high = quietly (Print code ∷ []) (code ∷ []) (spell-printed code low high)

quiet-designation : (inter : ℕ) (set : Set) → 0x20 ≤ inter → inter ≤ 0x2F → AreQuiet (designation inter set)
quiet-designation inter set low high = quietly _ (designation inter set) (spell-designation inter set low high)

quiet-while : (inter : ℕ) (set before : Set) (bytes : List ℕ) → 0x20 ≤ inter → inter ≤ 0x2F → AreQuiet bytes
    → AreQuiet (while_designated inter set before bytes)
quiet-while inter set before bytes low high quiet =
    quiet-if (final_of before == final_of set) _ _ quiet
    (quiet-append (designation inter set) (bytes ++ designation inter before) (quiet-designation inter set low high)
    (quiet-append bytes (designation inter before) quiet (quiet-designation inter before low high)))

module _ (sets : GraphicSets) (code : ℕ) (low : 0x20 ≤ code) (high : code ≤ 0x7E) where
  -- by a single shift, whatever set it shifts to
  quiet-shifted : (event : Event) (last inter : ℕ) (set before : Set) → 0x20 ≤ inter → inter ≤ 0x2F
      → SpellQuietly (event ∷ []) (0x1B ∷ last ∷ []) → AreQuiet (while_designated inter set before (shifted last code))
  quiet-shifted event last inter set before from to shift =
      quiet-while inter set before (shifted last code) from to
      (quiet-append (0x1B ∷ last ∷ []) (code ∷ []) (quietly (event ∷ []) _ shift) (quiet-printed code low high))

  quiet-g2 : (set : Set) → AreQuiet (through_g2 sets set code)
  quiet-g2 set = quiet-shifted (Control 0x8E) 0x4E 0x2A set (set_at sets 2) (omega arith) (omega arith) spell-ss2

  quiet-g3 : (set : Set) → AreQuiet (through_g3 sets set code)
  quiet-g3 set = quiet-shifted (Control 0x8F) 0x4F 0x2B set (set_at sets 3) (omega arith) (omega arith) spell-ss3

quiet-spelled : (sets : GraphicSets) (s : Spelling) → 0x20 ≤ code_of s → code_of s ≤ 0x7E → AreQuiet (spelled_in sets s)
quiet-spelled sets (Plain code) low high =
    quiet-if (reads_ascii sets) _ _ (quiet-printed code low high) (quiet-g2 sets code low high Ascii)
quiet-spelled sets (Second code) low high = quiet-g2 sets code low high Supplemental
quiet-spelled sets (Third code) low high = quiet-g3 sets code low high Special

-- ---- each character is shown by one of the 204 glyphs

abbrev passes : ℕ × ℕ × ℕ → Bool
passes row = is_glyph row.2

either : (b : Bool) (x y : ℕ) → (b ≡ true → is_glyph x ≡ true) → (b ≡ false → is_glyph y ≡ true)
    → is_glyph (if b then x else y) ≡ true
either true x y first second = first refl
either false x y first second = second refl

in-rows : (d : ℕ) (rows : List (ℕ × ℕ × ℕ)) (c : ℕ) → is_glyph d ≡ true → list_all passes rows ≡ true
    → is_glyph (in_rows d rows c) ≡ true
in-rows d [] c other all = other
in-rows d (row ∷ rows) c other all =
    let parts = and_parts _ _ all in
    either (nat_le row.0 c && nat_le c row.1) row.2 (in_rows d rows c) (λ _. parts.0)
    (λ _. in-rows d rows c other parts.1)

in-chart : (d : ℕ) (xs : List ℕ) (i : ℕ) → is_glyph d ≡ true → list_all is_glyph xs ≡ true
    → is_glyph (slice_index_or xs i d) ≡ true
in-chart d [] i other all = other
in-chart d (x ∷ xs) zero other all = (and_parts _ _ all).0
in-chart d (x ∷ xs) (suc i) other all = in-chart d xs i other (and_parts _ _ all).1

glyph-other : is_glyph substitute_glyph ≡ true
unfolding is_glyph glyph_of
glyph-other = refl

glyph-latin : list_all is_glyph latin ≡ true
unfolding is_glyph glyph_of latin
glyph-latin = refl

glyph-lines : list_all is_glyph lines ≡ true
unfolding is_glyph glyph_of lines
glyph-lines = refl

glyph-letters : list_all passes letters ≡ true
unfolding is_glyph glyph_of letters
glyph-letters = refl

glyph-signs : list_all passes signs ≡ true
unfolding is_glyph glyph_of signs
glyph-signs = refl

module _ (glyphs : GlyphLaws) where
  pub shown-glyph : (c : ℕ) → IsGlyph (shown c)
  unfolding shown
  shown-glyph c =
      either (nat_lt c 0x180) _ _ (λ _. in-chart substitute_glyph latin (c - 0xA0) glyph-other glyph-latin)
      (λ _. either (nat_lt c 0x2000) _ _ (λ _. in-rows substitute_glyph letters c glyph-other glyph-letters)
      (λ _. either (nat_le 0x2500 c && nat_le c 0x257F) _ _
      (λ _. in-chart substitute_glyph lines (c - 0x2500) glyph-other glyph-lines)
      (λ _. either (nat_lt c 0x3100) _ _ (λ _. in-rows substitute_glyph signs c glyph-other glyph-signs)
      (λ _. either (nat_le 0xFF01 c && nat_le c 0xFF5E) _ _
      (λ is. glyphs.ascii (ascii_of_fullwidth c) (grind (arith, nat_tests)) (grind (arith, nat_tests)))
      (λ _. glyph-other)))))

-- ---- a character

module _ (glyphs : GlyphLaws) (spelling : SpellingLaws) where
  quiet-written : (glyph : ℕ) (sets : GraphicSets) → IsGlyph glyph → AreQuiet (written glyph sets)
  quiet-written glyph sets is =
      let code = spelling.code glyph is in
      quiet-spelled sets (spelling_of glyph) code.0 code.1

  quiet-both : (glyph : ℕ) (sets : GraphicSets) → IsGlyph glyph → AreQuiet (both_halves glyph sets)
  quiet-both glyph sets is =
      quiet-append (written glyph sets) (written space sets) (quiet-written glyph sets is)
      (quiet-written space sets glyphs.space)

  quiet-wide : (glyph : ℕ) (s : Display) → IsGlyph glyph → AreQuiet (written_wide glyph s)
  quiet-wide glyph s is =
      quiet-if (not (is_at_end s)) _ _ (quiet-both glyph s.sets is)
      (quiet-if s.modes.decawm _ _
      (quiet-append (0x1B ∷ 0x45 ∷ []) (both_halves glyph s.sets) (quietly _ _ spell-nel) (quiet-both glyph s.sets is)) quiet-nothing)

  pub quiet-put : (c : ℕ) (s : Display) → AreQuiet (put c s)
  quiet-put c s =
      let is = shown-glyph glyphs c in
      quiet-if (cells c == 0) _ _ quiet-nothing
      (quiet-if (cells c == 1) _ _ (quiet-written (shown c) s.sets is) (quiet-wide (shown c) s is))

-- ---- the events of a character beyond ASCII

no-ascii : (c : ℕ) → 0x80 ≤ c → nat_lt c 0x80 ≡ false
no-ascii c beyond = grind (arith, nat_tests)

module _ (spelled : SpellingLaw) where
  -- quiet bytes between sequences
  events-between : (bytes : List ℕ) → AreQuiet bytes → AreSilent (events_of bytes)
  events-between bytes quiet =
      subst AreSilent (sym (ap events_of (sym quiet.spell.spelled) ∙ spelled.all_events quiet.events quiet.spell.are_events)) quiet.spell.silent

  -- and after ST, which ends anything
  events-cut : (h : Held) (bytes : List ℕ) → IsHeldPart h → AreQuiet bytes → AreSilent (events_from h (0x1B ∷ 0x5C ∷ bytes))
  events-cut h bytes is quiet =
      subst AreSilent (sym (spelled.escape h (0x5C ∷ bytes) is))
      (events-between (0x1B ∷ 0x5C ∷ bytes) (quiet-append (0x1B ∷ 0x5C ∷ []) bytes (quietly _ _ spell-st) quiet))

  events-beyond : (h : Held) (bytes : List ℕ) → events_from h [] ≡ [] → IsHeldPart h → AreQuiet bytes
      → AreSilent (events_from h (beyond_ascii h bytes))
  events-beyond held.Nothing bytes none is quiet = events-between bytes quiet
  events-beyond (held.Escape inters) bytes none is quiet = events-cut (held.Escape inters) bytes is quiet
  events-beyond (held.Control marker params full phase) bytes none is quiet =
      events-cut (held.Control marker params full phase) bytes is quiet
  events-beyond held.Spoilt bytes none is quiet = events-cut held.Spoilt bytes is quiet
  events-beyond (held.Text osc) bytes none is quiet = subst AreSilent (sym none) tt

  -- after what is held
  pub character-events : GlyphLaws → SpellingLaws → (s : State) (c : ℕ) → events_from s.held [] ≡ [] → IsHeldPart s.held → 0x80 ≤ c
      → AreSilent (events_from s.held (translation s c))
  unfolding translation
  character-events glyphs spelling s c none is beyond =
      rw (no-ascii c beyond) (events-beyond s.held (put c s.display) none is (quiet-put glyphs spelling c s.display))

  -- which make no report
  pub silent-translation : GlyphLaws → SpellingLaws → ((h : Held) → IsHeldPart h → events_from h [] ≡ []) → (size : Size) (s : State)
      (c : ℕ) → IsSoundAt size s → 0x80 ≤ c → (play s (translation s c)).reports ≡ []
  unfolding play
  silent-translation glyphs spelling none size s c sound beyond =
      silent-reports (events_from s.held (translation s c)) (character-events glyphs spelling s c (none s.held sound.held) sound.held beyond)
      s.display

-- ---- a part of bytes without a report

both-nothing : (xs ys : List ℕ) → xs ++ ys ≡ [] → (xs ≡ []) × (ys ≡ [])
both-nothing [] ys h = (refl, h)
both-nothing (x ∷ xs) ys h = absurd cc

module _ (two : (s : State) (a b : List ℕ) → play s (a ++ b) ≡ both (play s a) (play (play s a).state b)) where
  parts-silent : (s : State) (a b : List ℕ) → (play s (a ++ b)).reports ≡ []
      → ((play s a).reports ≡ []) × ((play (play s a).state b).reports ≡ [])
  parts-silent s a b h =
      both-nothing (play s a).reports (play (play s a).state b).reports
      (sym (ap (λ (p : Played). p.reports) (two s a b)) ∙ h)

  pub part-silent : (s t : State) (bytes : List ℕ) (at n : ℕ) → (play s bytes).reports ≡ []
      → t ≡ (play s (take at bytes)).state → (play t (take n (drop at bytes))).reports ≡ []
  part-silent s t bytes at n h is =
      let rest = (parts-silent s (take at bytes) (drop at bytes)
      (ap (λ (xs : List ℕ). (play s xs).reports) (take-append-drop at bytes) ∙ h)).1 in
      let front = (parts-silent (play s (take at bytes)).state (take n (drop at bytes)) (drop n (drop at bytes))
      (ap (λ (xs : List ℕ). (play (play s (take at bytes)).state xs).reports) (take-append-drop n (drop at bytes))
      ∙ rest)).0 in
      rw is front

  pub state-more : (s t u : State) (bytes : List ℕ) (at n : ℕ) → t ≡ (play s (take at bytes)).state
      → u ≡ (play t (take n (drop at bytes))).state → u ≡ (play s (take (at + n) bytes)).state
  state-more s t u bytes at n first second =
      rw (take-add at n bytes, two s (take at bytes) (take n (drop at bytes)), ← first) second

-- ---- the lines of a part of bytes

pub log-more : ((s : State) (a b : List ℕ) → log s (a ++ b) ≡ log s a ++ log (play s a).state b) → (s t : State)
    (bytes : List ℕ) (at n : ℕ) (before mid after : List ℕ) → t ≡ (play s (take at bytes)).state
    → mid ≡ before ++ log s (take at bytes) → after ≡ mid ++ log t (take n (drop at bytes))
    → after ≡ before ++ log s (take (at + n) bytes)
log-more two s t bytes at n before mid after is first second =
    let a = take at bytes in
    let b = take n (drop at bytes) in
    second ∙ ap (λ (x : List ℕ). x ++ log t b) first ∙ append_assoc before (log s a) (log t b)
    ∙ ap (λ (x : List ℕ). before ++ x)
    (ap (λ (u : State). log s a ++ log u b) is ∙ sym (ap (λ (xs : List ℕ). log s xs) (take-add at n bytes) ∙ two s a b))

-- all of a list
pub all-of : (xs : List ℕ) (n : ℕ) → n ≡ length xs → take n xs ≡ xs
all-of xs n is = ap (λ (k : ℕ). take k xs) is ∙ take-length xs
