-- The trace of bytes that are taken at once.
use Rattle.std.proofs.Common.{◌≡◌, ◌≢◌, inl, inr, ℕ, suc, ◌+◌, ◌-◌, cond, ◌≤◌, List, [], ◌∷◌, ◌++◌, Bool, true, false, not, ◌||◌}
use Rattle.std.proofs.Common.{refl, sym, ap, ◌∙◌, arith, length, map, append-nil, append_assoc, take, eqb}
use Rattle.std.proofs.lemmas.List.{take_more}
use Rattle.std.proofs.Math.Seq.{take-length}
use Rattle.std.specs.Prelude.{All, slice_index, ◌&&◌}
use Rattle.std.proofs.lemmas.Bool.Decides.{nat_tests}
use Rattle.vt_syntax.specs.declared.event.Event.{Event}
use Rattle.vt_syntax.specs.declared.event.Event.TheVariants.{Print}
use Rattle.vt_syntax.specs.declared.held.Held.{Held}
use Rattle.vt_syntax.specs.declared.held.Held.TheVariants.{Nothing}
use Rattle.vt_syntax.specs.declared.held.Held.TheVariants as held
use Rattle.vt_syntax.specs.Class.{IsPlain, is_opener, opens_string}
use Rattle.vt_syntax.specs.Reading.{single_function}
use Rattle.vt_syntax.specs.Held.{events_from, held_from, spell, IsHeldPart}
use Rattle.vt_syntax.specs.Laws.{SplitLaw, SpellingLaw}
use Rattle.vt_glyph.specs.Invocation.{has_no_glyph, HasGlyph}
use Rattle.vt_term.specs.State.{Display, State}
use Rattle.vt_term.specs.Reports.{report}
use Rattle.vt_term.specs.Play.{play, after_events}
use Rattle.vt_term.specs.Happenings.{happening, happenings}
use Rattle.vt_term.proofs.Bytes.{nothing-held}
use Rattle.vt_trace.specs.declared.tracing.Tracer.{Tracer}
use Rattle.vt_trace.specs.Lines.{Names, shown_byte, shown, event_line_by}
use Rattle.vt_trace.specs.Skipped.{is_empty}
use Rattle.vt_trace.specs.Trace.{begins, item_place, place_of, is_text, text_of, text_begin, text_end, written, written_all, text_after}
use Rattle.vt_trace.specs.Trace.{between, is_nothing, is_string, cuts_off, ends_silent, item_first, code_after, ended_kind, skipped_lines}
use Rattle.vt_trace.specs.Trace.{skipped, goes_on, traced_at, tracer_at}
use Rattle.vt_trace.specs.Runs.{IsShown, IsItem, is_graphic}
use Rattle.vt_trace.specs.Observed.{AreRead, Completes, skim, skimmed, skipped_all, held_all, traced_told, tracer_told}
use Rattle.vt_trace.proofs.Leaves.{single_leaves, plain_leaves}

-- what is written of bytes by names, and the tracer after them
abbrev pub traced_by : Names → State → Tracer → List ℕ → List ℕ
traced_by names s t bytes = traced_told names t (happenings s bytes)

abbrev pub tracer_of : State → Tracer → List ℕ → Tracer
tracer_of s t bytes = tracer_told t (happenings s bytes)

abbrev made : ℕ → ℕ → Bool → Tracer
made n m v = between m n v

same_tracer : (a b c d : ℕ) (v : Bool) → a ≡ b → c ≡ d → made a c v ≡ made b d v
same_tracer a b c d v e f = ap (λ n. made n c v) e ∙ ap (λ m. made b m v) f

pub tail_of_all : (b : ℕ) (run : List ℕ) → All HasGlyph (b ∷ run) → All HasGlyph run
tail_of_all b run all = λ k d low. all (suc k) d (omega (arith, low))

pub tail_of_plain : (b : ℕ) (run : List ℕ) → All IsPlain (b ∷ run) → All IsPlain run
tail_of_plain b run all = λ k d low. all (suc k) d (omega (arith, low))

-- ---- bytes that end no item without a function

and_true : (v : Bool) → v && true ≡ v
and_true true = refl
and_true false = refl

pub and_false : (v : Bool) → v && false ≡ false
and_false true = refl
and_false false = refl

pub none_skipped : (t : Tracer) (h : Held) (b : ℕ) → cuts_off h b ≡ false → ends_silent h b ≡ false → skipped t h b ≡ []
unfolding skipped
none_skipped t h b whole inner =
    let place = item_place t h b in
    let kind = ended_kind t.code h b in
    let first = item_first t h b in
    ap (λ (v : Bool). skipped_lines t v (ends_silent h b) place kind first) whole
    ∙ ap (λ (v : Bool). skipped_lines t false v place kind first) inner

pub still_on : (t : Tracer) (h : Held) (b : ℕ) → cuts_off h b ≡ false → ends_silent h b ≡ false → goes_on t h b ≡ t.in_text
unfolding goes_on
still_on t h b whole inner =
    ap (λ (v : Bool). t.in_text && not (v || ends_silent h b)) whole
    ∙ ap (λ (v : Bool). t.in_text && not v) inner ∙ and_true t.in_text

-- the tracer after the last byte of an item, but for its event
skim_between : (h : Held) (t : Tracer) (b : ℕ) → cuts_off h b ≡ false → ends_silent h b ≡ false
    → held_from h (b ∷ []) ≡ Nothing → skim h t b ≡ made (item_place t h b) (t.place + 1) t.in_text
skim_between h t b whole inner none =
    let n = item_place t h b in
    let first = item_first t h b in
    ap (λ (k : Held). record { place = t.place + 1; begin = n; in_text = goes_on t h b; code = code_after t.code (is_string h) k b; first = record { items = cond (is_nothing k) [] first } }) none
    ∙ ap (λ (v : Bool). made n (t.place + 1) v) (still_on t h b whole inner)

-- ---- a byte and its event

quiet_line : (names : Names) (s : State) (t : Tracer) (b : ℕ) → events_from s.held (b ∷ []) ≡ [] → traced_at names t (happening s b) ≡ skipped t s.held b
quiet_line names s t b none =
    ap (λ (es : List Event). skipped t s.held b
    ++ written_all names (goes_on t s.held b) (place_of t.place (item_place t s.held b) b) es s.display) none
    ∙ append-nil (skipped t s.held b)

-- the tracer after a byte with these events
unfoldable pub with_text : Bool → Tracer → Tracer
with_text v t = record t { in_text = v }

quiet_skim : (s : State) (t : Tracer) (b : ℕ) → events_from s.held (b ∷ []) ≡ [] → tracer_at t (happening s b) ≡ skim s.held t b
unfolding with_text
quiet_skim s t b none =
    ap (λ (es : List Event). with_text (text_after (goes_on t s.held b) es) (skim s.held t b)) none

event_skim : (s : State) (t : Tracer) (b : ℕ) (e : Event) → events_from s.held (b ∷ []) ≡ e ∷ []
    → tracer_at t (happening s b) ≡ with_text (is_text e) (skim s.held t b)
unfolding with_text
event_skim s t b e events =
    ap (λ (es : List Event). with_text (text_after (goes_on t s.held b) es) (skim s.held t b)) events

-- what is written of an event whose bytes led to a tracer
unfoldable pub told_at : Names → Display → Tracer → ℕ → Event → List ℕ
told_at names d t last e = written names d.grid.size.rows t.in_text (place_of (t.place - 1) t.begin last e) e (report e d)

event_line_of : (names : Names) (s : State) (t : Tracer) (b : ℕ) (e : Event) → events_from s.held (b ∷ []) ≡ e ∷ []
    → traced_at names t (happening s b) ≡ skipped t s.held b ++ told_at names s.display (skim s.held t b) b e
unfolding told_at
event_line_of names s t b e events =
    let here : t.place ≡ t.place + 1 - 1 = omega arith in
    let begin = item_place t s.held b in
    let on = goes_on t s.held b in
    ap (λ (es : List Event). skipped t s.held b ++ written_all names on (place_of t.place begin b) es s.display) events
    ∙ ap (λ (l : List ℕ). skipped t s.held b ++ l) (append-nil (written names s.display.grid.size.rows on (place_of t.place begin b e) e (report e s.display)))
    ∙ ap (λ n. skipped t s.held b ++ written names s.display.grid.size.rows on (place_of n begin b e) e (report e s.display)) here

-- ---- texts

pub shown-itself : (b : ℕ) → IsShown b → shown_byte b ≡ b ∷ []
unfolding shown_byte
shown-itself b i = grind (arith, nat_tests)

-- a run that is shown as itself
pub shown-run : (run : List ℕ) → All IsShown run → shown run ≡ run
shown-run [] all = refl
shown-run (b ∷ run) all =
    ap (λ (l : List ℕ). l ++ shown run) (shown-itself b (all 0 0 (omega arith)))
    ∙ ap (λ (l : List ℕ). b ∷ l) (shown-run run (λ k d low. all (suc k) d (omega (arith, low))))

pub has-glyph : (b : ℕ) → HasGlyph b → has_no_glyph b ≡ false
has-glyph b i = grind (arith, nat_tests, i)

opens-nothing : (b : ℕ) → HasGlyph b → is_opener b ≡ false
unfolding opens_string
opens-nothing b i = grind (arith, nat_tests, i)

printed : (b : ℕ) → HasGlyph b → single_function b ≡ Print b ∷ []
printed b i = grind (arith, nat_tests, i)

-- a character between sequences, and the state after it
pub glyph_events : SpellingLaw → (b : ℕ) → HasGlyph b → events_from Nothing (b ∷ []) ≡ Print b ∷ []
glyph_events law b i = law.single b (opens-nothing b i) ∙ printed b i

pub glyph_held : SpellingLaw → (b : ℕ) → HasGlyph b → held_from Nothing (b ∷ []) ≡ Nothing
glyph_held law b i = law.single_held b (opens-nothing b i)

-- characters between sequences
glyphs_held : SpellingLaw → SplitLaw → (run : List ℕ) → All HasGlyph run → held_from Nothing run ≡ Nothing
glyphs_held law split [] all = split.held_nil Nothing nothing-held
glyphs_held law split (b ∷ run) all =
    split.held_append Nothing (b ∷ []) run
    ∙ ap (λ (h : Held). held_from h run) (glyph_held law b (all 0 0 (omega arith)))
    ∙ glyphs_held law split run (tail_of_all b run all)

text_written : (names : Names) (in_text : Bool) (place b : ℕ) (s : Display) (at : Event → ℕ) → HasGlyph b → at (Print b) ≡ place
    → written_all names in_text at (Print b ∷ []) s ≡ text_of in_text place b
text_written names in_text place b s at i here =
    ap (λ n. written names s.grid.size.rows in_text n (Print b) (report (Print b) s) ++ []) here
    ∙ append-nil (written names s.grid.size.rows in_text place (Print b) (report (Print b) s))
    ∙ ap (λ (v : Bool). cond v (text_end in_text ++ event_line_by names s.grid.size.rows place (Print b)) (text_of in_text place b)) (has-glyph b i)

module _ (law : SpellingLaw) (s : State) (t : Tracer) (b : ℕ) (nothing : s.held ≡ Nothing) (i : HasGlyph b) where
  character : events_from s.held (b ∷ []) ≡ Print b ∷ []
  character = ap (λ (h : Held). events_from h (b ∷ [])) nothing ∙ glyph_events law b i

  still : held_from s.held (b ∷ []) ≡ Nothing
  still = ap (λ (h : Held). held_from h (b ∷ [])) nothing ∙ glyph_held law b i

  whole_character : cuts_off s.held b ≡ false
  whole_character = ap (λ (h : Held). cuts_off h b) nothing

  has_event : ends_silent s.held b ≡ false
  has_event = ap (λ (es : List Event). is_empty es && is_nothing (held_from s.held (b ∷ []))) character

  pub traced_character : (names : Names) → traced_at names t (happening s b) ≡ text_of t.in_text t.place b
  traced_character names =
      ap (λ (l : List ℕ). l ++ written_all names (goes_on t s.held b) (place_of t.place (item_place t s.held b) b) (events_from s.held (b ∷ [])) s.display)
      (none_skipped t s.held b whole_character has_event)
      ∙ ap (λ (v : Bool). written_all names v (place_of t.place (item_place t s.held b) b) (events_from s.held (b ∷ [])) s.display)
      (still_on t s.held b whole_character has_event)
      ∙ ap (λ (es : List Event). written_all names t.in_text (place_of t.place (item_place t s.held b) b) es s.display) character
      ∙ text_written names t.in_text t.place b s.display (place_of t.place (item_place t s.held b) b) i refl

  pub tracer_character : tracer_at t (happening s b) ≡ made t.place (t.place + 1) true
  unfolding with_text
  tracer_character =
      event_skim s t b (Print b) character
      ∙ ap (λ (u : Tracer). with_text (not (has_no_glyph b)) u)
      (skim_between s.held t b whole_character has_event still
      ∙ ap (λ (h : Held). made (item_place t h b) (t.place + 1) t.in_text) nothing)
      ∙ ap (λ (v : Bool). made t.place (t.place + 1) v) (ap not (has-glyph b i))

  pub next_nothing : (play s (b ∷ [])).state.held ≡ Nothing
  unfolding play
  next_nothing = still

module _ (law : SpellingLaw) where
  -- a text
  pub tracer_text : (s : State) (t : Tracer) (b : ℕ) (run : List ℕ) → s.held ≡ Nothing → All HasGlyph (b ∷ run)
      → tracer_of s t (b ∷ run) ≡ made (t.place + length run) (t.place + length run + 1) true
  tracer_text s t b [] nothing all =
      tracer_character law s t b nothing (all 0 0 (omega arith))
      ∙ same_tracer t.place (t.place + 0) (t.place + 1) (t.place + 0 + 1) true (omega arith) (omega arith)
  tracer_text s t b (c ∷ run) nothing all =
      let first : HasGlyph b = all 0 0 (omega arith) in
      let u : Tracer = made t.place (t.place + 1) true in
      ap (λ (u : Tracer). tracer_of (play s (b ∷ [])).state u (c ∷ run)) (tracer_character law s t b nothing first)
      ∙ tracer_text (play s (b ∷ [])).state u c run (next_nothing law s t b nothing first) (tail_of_all b (c ∷ run) all)
      ∙ same_tracer (t.place + 1 + length run) (t.place + length (c ∷ run)) (t.place + 1 + length run + 1)
      (t.place + length (c ∷ run) + 1) true (omega arith) (omega arith)

  -- on a text that goes on
  trace_on : (names : Names) (s : State) (t : Tracer) (run : List ℕ) → s.held ≡ Nothing → t.in_text ≡ true → All HasGlyph run
      → traced_by names s t run ≡ shown run
  trace_on names s t [] nothing text all = refl
  trace_on names s t (b ∷ run) nothing text all =
      let first : HasGlyph b = all 0 0 (omega arith) in
      let u : Tracer = made t.place (t.place + 1) true in
      ap (λ (l : List ℕ). l ++ traced_by names (play s (b ∷ [])).state (tracer_at t (happening s b)) run)
      (traced_character law s t b nothing first names ∙ ap (λ (v : Bool). text_of v t.place b) text)
      ∙ ap (λ (u : Tracer). shown_byte b ++ traced_by names (play s (b ∷ [])).state u run) (tracer_character law s t b nothing first)
      ∙ ap (λ (l : List ℕ). shown_byte b ++ l)
      (trace_on names (play s (b ∷ [])).state u run (next_nothing law s t b nothing first) refl (tail_of_all b run all))

  pub trace_text : (names : Names) (s : State) (t : Tracer) (b : ℕ) (run : List ℕ) → s.held ≡ Nothing → All HasGlyph (b ∷ run)
      → traced_by names s t (b ∷ run) ≡ text_begin t.in_text t.place ++ shown (b ∷ run)
  trace_text names s t b run nothing all =
      let first : HasGlyph b = all 0 0 (omega arith) in
      let u : Tracer = made t.place (t.place + 1) true in
      ap (λ (l : List ℕ). l ++ traced_by names (play s (b ∷ [])).state (tracer_at t (happening s b)) run)
      (traced_character law s t b nothing first names)
      ∙ ap (λ (u : Tracer). text_of t.in_text t.place b ++ traced_by names (play s (b ∷ [])).state u run)
      (tracer_character law s t b nothing first)
      ∙ ap (λ (l : List ℕ). text_of t.in_text t.place b ++ l)
      (trace_on names (play s (b ∷ [])).state u run (next_nothing law s t b nothing first) refl (tail_of_all b run all))
      ∙ append_assoc (text_begin t.in_text t.place) (shown_byte b) (shown run)

-- ---- events

no_bytes : (es fs : List Event) → es ++ fs ≡ [] → es ≡ []
no_bytes [] fs h = refl
no_bytes (e ∷ es) fs h = absurd cc

no_more : (es fs : List Event) → es ++ fs ≡ [] → fs ≡ []
no_more [] fs h = h
no_more (e ∷ es) fs h = absurd cc

first_graphic : List Event → Bool
first_graphic [] = false
first_graphic (e ∷ es) = is_graphic e

graphic_first : (front : List ℕ) (last : ℕ) → first_graphic (map Print (front ++ last ∷ [])) ≡ true
unfolding first_graphic
graphic_first [] last = refl
graphic_first (b ∷ front) last = refl

pub no_true : true ≡ false → ⊥
no_true h = cc

not_begins : (h : Held) (b : ℕ) → h ≢ Nothing → IsPlain b → begins h b ≡ false
not_begins held.Nothing b other i = absurd (other refl)
not_begins (held.Text osc) b other i = let low : 0x20 ≤ b = i.0 in grind (arith, nat_tests, low)
not_begins (held.Escape inters) b other i =
    let low : 0x20 ≤ b = i.0 in let high : b ≤ 0x7E = i.1 in grind (arith, nat_tests, low, high)
not_begins (held.Control marker params full phase) b other i =
    let low : 0x20 ≤ b = i.0 in let high : b ≤ 0x7E = i.1 in grind (arith, nat_tests, low, high)
not_begins held.Spoilt b other i =
    let low : 0x20 ≤ b = i.0 in let high : b ≤ 0x7E = i.1 in grind (arith, nat_tests, low, high)

not_nothing : (h : Held) → h ≢ Nothing → is_nothing h ≡ false
not_nothing held.Nothing other = absurd (other refl)
not_nothing (held.Text osc) other = refl
not_nothing (held.Escape inters) other = refl
not_nothing (held.Control marker params full phase) other = refl
not_nothing held.Spoilt other = refl

no_sub : (b : ℕ) → IsPlain b → eqb b 0x1A ≡ false
no_sub b i = let low : 0x20 ≤ b = i.0 in grind (arith, nat_tests, low)

pub not_cut : (h : Held) (b : ℕ) → h ≢ Nothing → IsPlain b → cuts_off h b ≡ false
not_cut h b other i =
    ap (λ (v : Bool). not (is_nothing h) && (v || eqb b 0x1A)) (not_begins h b other i)
    ∙ ap (λ (v : Bool). not (is_nothing h) && v) (no_sub b i) ∙ and_false (not (is_nothing h))

pub not_ended : (h : Held) (b : ℕ) → held_from h (b ∷ []) ≢ Nothing → ends_silent h b ≡ false
not_ended h b other =
    ap (λ (v : Bool). is_empty (events_from h (b ∷ [])) && v) (not_nothing (held_from h (b ∷ [])) other)
    ∙ and_false (is_empty (events_from h (b ∷ [])))

pub event_ends : (h : Held) (b : ℕ) (e : Event) → events_from h (b ∷ []) ≡ e ∷ [] → ends_silent h b ≡ false
event_ends h b e is = ap (λ (es : List Event). is_empty es && is_nothing (held_from h (b ∷ []))) is

one_on : (b place : ℕ) (rest : List ℕ) → place + 1 + length rest ≡ place + length (b ∷ rest)
one_on b place rest = omega arith

some_more : (front : List ℕ) (last : ℕ) → 1 ≤ length (front ++ last ∷ [])
some_more [] last = omega arith
some_more (x ∷ front) last = omega arith

pub no_one : (b : ℕ) (front : List ℕ) (last : ℕ) → length (b ∷ (front ++ last ∷ [])) ≡ 1 → ⊥
no_one b front last one = let some = some_more front last in omega (arith, some, one)

last_plain : (front : List ℕ) (last : ℕ) → All IsPlain (front ++ last ∷ []) → IsPlain last
last_plain [] last all = all 0 0 (omega arith)
last_plain (x ∷ front) last all = last_plain front last (tail_of_plain x (front ++ last ∷ []) all)

module _ (law : SpellingLaw) (split : SplitLaw) where
  -- plain bytes that give another event than a character aren't read between sequences
  pub not_between : (front : List ℕ) (last : ℕ) (e : Event) (h : Held) → All IsPlain (front ++ last ∷ []) → is_graphic e ≡ false
      → events_from h (front ++ last ∷ []) ≡ e ∷ [] → h ≢ Nothing
  unfolding first_graphic
  not_between front last e h all other events is =
      let printed = law.all_plain (front ++ last ∷ []) all in
      let first : first_graphic (map Print (front ++ last ∷ [])) ≡ is_graphic e =
      ap first_graphic (sym printed ∙ ap (λ (k : Held). events_from k (front ++ last ∷ [])) (sym is) ∙ events) in
      no_true (sym (graphic_first front last) ∙ first ∙ other)

  quiet_display : (s : State) (b : ℕ) → events_from s.held (b ∷ []) ≡ [] → (play s (b ∷ [])).state.display ≡ s.display
  unfolding play
  quiet_display s b none = ap (λ (es : List Event). after_events es s.display) none

  -- the parts of bytes that have one event, at their last byte
  pub first_quiet : (h : Held) (b : ℕ) (front : List ℕ) → events_from h (b ∷ front) ≡ [] → events_from h (b ∷ []) ≡ []
  first_quiet h b front none =
      no_bytes (events_from h (b ∷ [])) (events_from (held_from h (b ∷ [])) front)
      (sym (split.events_append h (b ∷ []) front) ∙ none)

  pub rest_quiet : (h : Held) (b : ℕ) (front : List ℕ) → events_from h (b ∷ front) ≡ []
      → events_from (held_from h (b ∷ [])) front ≡ []
  rest_quiet h b front none =
      no_more (events_from h (b ∷ [])) (events_from (held_from h (b ∷ [])) front)
      (sym (split.events_append h (b ∷ []) front) ∙ none)

  pub rest_event : (h : Held) (b : ℕ) (rest : List ℕ) (e : Event) → events_from h (b ∷ []) ≡ [] → events_from h (b ∷ rest) ≡ e ∷ []
      → events_from (held_from h (b ∷ [])) rest ≡ e ∷ []
  rest_event h b rest e here events =
      ap (λ (es : List Event). es ++ events_from (held_from h (b ∷ [])) rest) (sym here)
      ∙ sym (split.events_append h (b ∷ []) rest) ∙ events

  rest_held : (h : Held) (b : ℕ) (rest : List ℕ) → held_from h (b ∷ rest) ≡ Nothing
      → held_from (held_from h (b ∷ [])) rest ≡ Nothing
  rest_held h b rest none = sym (split.held_append h (b ∷ []) rest) ∙ none

  -- bytes without an event
  pub quiet_lines : (names : Names) (s : State) (t : Tracer) (bytes : List ℕ) → events_from s.held bytes ≡ []
      → traced_by names s t bytes ≡ skipped_all s.held t bytes
  unfolding play
  quiet_lines names s t [] none = refl
  quiet_lines names s t (b ∷ bytes) none =
      let next : State = (play s (b ∷ [])).state in
      let here = first_quiet s.held b bytes none in
      ap (λ (l : List ℕ). l ++ traced_by names next (tracer_at t (happening s b)) bytes) (quiet_line names s t b here)
      ∙ ap (λ (u : Tracer). skipped t s.held b ++ traced_by names next u bytes) (quiet_skim s t b here)
      ∙ ap (λ (l : List ℕ). skipped t s.held b ++ l)
      (quiet_lines names next (skim s.held t b) bytes (rest_quiet s.held b bytes none))

  pub quiet_tracer : (s : State) (t : Tracer) (bytes : List ℕ) → events_from s.held bytes ≡ []
      → tracer_of s t bytes ≡ skimmed s.held t bytes
  unfolding play
  quiet_tracer s t [] none = refl
  quiet_tracer s t (b ∷ bytes) none =
      let next : State = (play s (b ∷ [])).state in
      let here = first_quiet s.held b bytes none in
      ap (λ (u : Tracer). tracer_of next u bytes) (quiet_skim s t b here)
      ∙ quiet_tracer next (skim s.held t b) bytes (rest_quiet s.held b bytes none)

  -- bytes of which the last completes an event
  one_lines : (names : Names) (front : List ℕ) (last : ℕ) (e : Event) (s : State) (t : Tracer) → events_from s.held front ≡ []
      → events_from s.held (front ++ last ∷ []) ≡ e ∷ []
      → traced_by names s t (front ++ last ∷ []) ≡ skipped_all s.held t (front ++ last ∷ [])
      ++ told_at names s.display (skimmed s.held t (front ++ last ∷ [])) last e
  unfolding play
  one_lines names [] last e s t none events =
      append-nil (traced_at names t (happening s last)) ∙ event_line_of names s t last e events
      ∙ ap (λ (l : List ℕ). l ++ told_at names s.display (skim s.held t last) last e) (sym (append-nil (skipped t s.held last)))
  one_lines names (b ∷ front) last e s t none events =
      let next : State = (play s (b ∷ [])).state in
      let u : Tracer = skim s.held t b in
      let rest : List ℕ = front ++ last ∷ [] in
      let here = first_quiet s.held b front none in
      ap (λ (l : List ℕ). l ++ traced_by names next (tracer_at t (happening s b)) rest) (quiet_line names s t b here)
      ∙ ap (λ (w : Tracer). skipped t s.held b ++ traced_by names next w rest) (quiet_skim s t b here)
      ∙ ap (λ (l : List ℕ). skipped t s.held b ++ l)
      (one_lines names front last e next u (rest_quiet s.held b front none) (rest_event s.held b rest e here events)
      ∙ ap (λ (d : Display). skipped_all next.held u rest ++ told_at names d (skimmed next.held u rest) last e) (quiet_display s b here))
      ∙ sym (append_assoc (skipped t s.held b) (skipped_all next.held u rest)
      (told_at names s.display (skimmed next.held u rest) last e))

  one_tracer : (front : List ℕ) (last : ℕ) (e : Event) (s : State) (t : Tracer) → events_from s.held front ≡ []
      → events_from s.held (front ++ last ∷ []) ≡ e ∷ []
      → tracer_of s t (front ++ last ∷ []) ≡ with_text (is_text e) (skimmed s.held t (front ++ last ∷ []))
  unfolding play
  one_tracer [] last e s t none events = event_skim s t last e events
  one_tracer (b ∷ front) last e s t none events =
      let next : State = (play s (b ∷ [])).state in
      let rest : List ℕ = front ++ last ∷ [] in
      let here = first_quiet s.held b front none in
      ap (λ (w : Tracer). tracer_of next w rest) (quiet_skim s t b here)
      ∙ one_tracer front last e next (skim s.held t b) (rest_quiet s.held b front none) (rest_event s.held b rest e here events)

  -- inside a sequence nothing is skipped
  inside_skipped : (front : List ℕ) (last : ℕ) (e : Event) (h : Held) (t : Tracer) → All IsPlain (front ++ last ∷ [])
      → is_graphic e ≡ false → events_from h front ≡ [] → events_from h (front ++ last ∷ []) ≡ e ∷ []
      → skipped_all h t (front ++ last ∷ []) ≡ []
  inside_skipped [] last e h t all other none events =
      let inside = not_between [] last e h all other events in
      append-nil (skipped t h last)
      ∙ none_skipped t h last (not_cut h last inside (all 0 0 (omega arith))) (event_ends h last e events)
  inside_skipped (b ∷ front) last e h t all other none events =
      let next = held_from h (b ∷ []) in
      let rest : List ℕ = front ++ last ∷ [] in
      let here = first_quiet h b front none in
      let whole = rest_event h b rest e here events in
      let after = tail_of_plain b rest all in
      let inside = not_between (b ∷ front) last e h all other events in
      let inner = not_ended h b (not_between front last e next after other whole) in
      ap (λ (l : List ℕ). l ++ skipped_all next (skim h t b) rest)
      (none_skipped t h b (not_cut h b inside (all 0 0 (omega arith))) inner)
      ∙ inside_skipped front last e next (skim h t b) after other (rest_quiet h b front none) whole

  inside_skimmed : (front : List ℕ) (last : ℕ) (e : Event) (h : Held) (t : Tracer) → All IsPlain (front ++ last ∷ [])
      → is_graphic e ≡ false → events_from h front ≡ [] → events_from h (front ++ last ∷ []) ≡ e ∷ []
      → held_from h (front ++ last ∷ []) ≡ Nothing
      → skimmed h t (front ++ last ∷ []) ≡ made t.begin (t.place + length (front ++ last ∷ [])) t.in_text
  inside_skimmed [] last e h t all other none events ends =
      let inside = not_between [] last e h all other events in
      let plain = all 0 0 (omega arith) in
      skim_between h t last (not_cut h last inside plain) (event_ends h last e events) ends
      ∙ ap (λ (v : Bool). made (cond v t.place t.begin) (t.place + 1) t.in_text) (not_begins h last inside plain)
  inside_skimmed (b ∷ front) last e h t all other none events ends =
      let next = held_from h (b ∷ []) in
      let rest : List ℕ = front ++ last ∷ [] in
      let here = first_quiet h b front none in
      let whole = rest_event h b rest e here events in
      let after = tail_of_plain b rest all in
      let inside = not_between (b ∷ front) last e h all other events in
      let plain = all 0 0 (omega arith) in
      let inner = not_ended h b (not_between front last e next after other whole) in
      inside_skimmed front last e next (skim h t b) after other (rest_quiet h b front none) whole (rest_held h b rest ends)
      ∙ ap (λ (v : Bool). made (item_place t h b) (t.place + 1 + length rest) v) (still_on t h b (not_cut h b inside plain) inner)
      ∙ ap (λ (v : Bool). made (cond v t.place t.begin) (t.place + 1 + length rest) t.in_text) (not_begins h b inside plain)
      ∙ ap (λ n. made t.begin n t.in_text) (one_on b t.place rest)

  -- an event that is an item by itself, between sequences
  item_skipped : (front : List ℕ) (last : ℕ) (e : Event) (t : Tracer) → IsItem (front ++ last ∷ []) e
      → events_from Nothing front ≡ [] → events_from Nothing (front ++ last ∷ []) ≡ e ∷ []
      → skipped_all Nothing t (front ++ last ∷ []) ≡ []
  item_skipped [] last e t is none events =
      append-nil (skipped t Nothing last) ∙ none_skipped t Nothing last refl (event_ends Nothing last e events)
  item_skipped (b ∷ front) last e t (inl one) none events = absurd (no_one b front last one)
  item_skipped (b ∷ front) last e t (inr is) none events =
      let next = held_from Nothing (b ∷ []) in
      let rest : List ℕ = front ++ last ∷ [] in
      let here = first_quiet Nothing b front none in
      let whole = rest_event Nothing b rest e here events in
      let inner = not_ended Nothing b (not_between front last e next is.1 is.0 whole) in
      ap (λ (l : List ℕ). l ++ skipped_all next (skim Nothing t b) rest) (none_skipped t Nothing b refl inner)
      ∙ inside_skipped front last e next (skim Nothing t b) is.1 is.0 (rest_quiet Nothing b front none) whole

  item_skimmed : (front : List ℕ) (last : ℕ) (e : Event) (t : Tracer) → IsItem (front ++ last ∷ []) e
      → events_from Nothing front ≡ [] → events_from Nothing (front ++ last ∷ []) ≡ e ∷ []
      → held_from Nothing (front ++ last ∷ []) ≡ Nothing
      → skimmed Nothing t (front ++ last ∷ []) ≡ made t.place (t.place + length (front ++ last ∷ [])) t.in_text
  item_skimmed [] last e t is none events ends =
      skim_between Nothing t last refl (event_ends Nothing last e events) ends
  item_skimmed (b ∷ front) last e t (inl one) none events ends = absurd (no_one b front last one)
  item_skimmed (b ∷ front) last e t (inr is) none events ends =
      let next = held_from Nothing (b ∷ []) in
      let rest : List ℕ = front ++ last ∷ [] in
      let here = first_quiet Nothing b front none in
      let whole = rest_event Nothing b rest e here events in
      let inner = not_ended Nothing b (not_between front last e next is.1 is.0 whole) in
      inside_skimmed front last e next (skim Nothing t b) is.1 is.0 (rest_quiet Nothing b front none) whole
      (rest_held Nothing b rest ends)
      ∙ ap (λ (v : Bool). made t.place (t.place + 1 + length rest) v) (still_on t Nothing b refl inner)
      ∙ ap (λ n. made t.place n t.in_text) (one_on b t.place rest)

  -- its last byte leaves nothing held
  item_ends : (front : List ℕ) (last : ℕ) (e : Event) → IsItem (front ++ last ∷ []) e
      → events_from Nothing front ≡ [] → events_from Nothing (front ++ last ∷ []) ≡ e ∷ []
      → held_from Nothing (front ++ last ∷ []) ≡ Nothing
  item_ends [] last e is none events = single_leaves last e events
  item_ends (b ∷ front) last e (inl one) none events = absurd (no_one b front last one)
  item_ends (b ∷ front) last e (inr is) none events =
      let h = held_from Nothing (b ∷ front) in
      let there = split.held_append Nothing (b ∷ front) (last ∷ []) in
      let asked : events_from h (last ∷ []) ≡ e ∷ [] =
      ap (λ (es : List Event). es ++ events_from h (last ∷ [])) (sym none)
      ∙ sym (split.events_append Nothing (b ∷ front) (last ∷ [])) ∙ events in
      there ∙ plain_leaves h last e (split.held_part (b ∷ front)) (last_plain front last is.1) asked

-- ---- slices

pub last_apart : (xs : List ℕ) → 1 ≤ length xs → take (length xs - 1) xs ++ slice_index xs (length xs - 1) ∷ [] ≡ xs
last_apart xs some =
    let n : length xs - 1 + 1 ≡ length xs = omega (arith, some) in
    sym (take_more xs (length xs - 1) 0 (omega (arith, some))) ∙ ap (λ k. take k xs) n ∙ take-length xs

-- ---- functions

-- the trace of bytes is written
pub record IsTraced (names : Names) (s : State) (bytes : List ℕ) (k : Held) (t u : Tracer) (old new : List ℕ) : Type 0 where
  pub held : k ≡ (play s bytes).state.held
  pub lines : new ≡ old ++ traced_by names s t bytes
  pub tracer : u ≡ tracer_of s t bytes

module _ (law : SpellingLaw) (split : SplitLaw) (bytes : List ℕ) (e : Event) (some : 1 ≤ length bytes) where
  abbrev front : List ℕ
  front = take (length bytes - 1) bytes

  abbrev last : ℕ
  last = slice_index bytes (length bytes - 1)

  whole : front ++ last ∷ [] ≡ bytes
  whole = last_apart bytes some

  -- an event that is an item by itself is passed
  pub item_read : (t : Tracer) (h : Held) (old : List ℕ) → h ≡ Nothing → IsItem bytes e → Completes h bytes e
      → AreRead h h t (made t.place (t.place + length bytes) t.in_text) bytes old old
  item_read t h old nothing is one =
      let events : events_from Nothing (front ++ last ∷ []) ≡ e ∷ [] =
      ap (λ (l : List ℕ). events_from Nothing l) whole ∙ ap (λ (k : Held). events_from k bytes) (sym nothing) ∙ one.events in
      let silent : events_from Nothing front ≡ [] = ap (λ (k : Held). events_from k front) (sym nothing) ∙ one.silent in
      let item : IsItem (front ++ last ∷ []) e = rw whole is in
      let ends = item_ends law split front last e item silent events in
      record {
        lines = sym (ap (λ (k : Held). old ++ skipped_all k t bytes) nothing
            ∙ ap (λ (l : List ℕ). old ++ skipped_all Nothing t l) (sym whole)
            ∙ ap (λ (l : List ℕ). old ++ l) (item_skipped law split front last e t item silent events) ∙ append-nil old);
        tracer = sym (ap (λ (k : Held). skimmed k t bytes) nothing ∙ ap (λ (l : List ℕ). skimmed Nothing t l) (sym whole)
            ∙ item_skimmed law split front last e t item silent events ends
            ∙ ap (λ (l : List ℕ). made t.place (t.place + length l) t.in_text) whole);
        held = nothing ∙ sym (ap (λ (k : Held). held_from k bytes) nothing
            ∙ ap (λ (l : List ℕ). held_from Nothing l) (sym whole) ∙ ends);
      }

  -- bytes that were read, and then the event
  pub event_told : (names : Names) (s : State) (h k : Held) (t u : Tracer) (old mid new : List ℕ) (v : Bool)
      → Completes h bytes e → (Completes h bytes e → AreRead h k t u bytes old mid)
      → new ≡ mid ++ told_at names s.display u last e → v ≡ is_text e
      → h ≡ s.held → IsTraced names s bytes k t (with_text v u) old new
  unfolding with_text play
  event_told names s h k t u old mid new v one reads told text is =
      let read = reads one in
      let events : events_from s.held (front ++ last ∷ []) ≡ e ∷ [] =
      ap (λ (l : List ℕ). events_from s.held l) whole ∙ ap (λ (k : Held). events_from k bytes) (sym is) ∙ one.events in
      let silent : events_from s.held front ≡ [] = ap (λ (k : Held). events_from k front) (sym is) ∙ one.silent in
      let skips : skipped_all h t bytes ≡ skipped_all s.held t (front ++ last ∷ []) =
      ap (λ (k : Held). skipped_all k t bytes) is ∙ ap (λ (l : List ℕ). skipped_all s.held t l) (sym whole) in
      let skims : u ≡ skimmed s.held t (front ++ last ∷ []) =
      read.tracer ∙ ap (λ (k : Held). skimmed k t bytes) is ∙ ap (λ (l : List ℕ). skimmed s.held t l) (sym whole) in
      record {
        held = read.held ∙ ap (λ (k : Held). held_from k bytes) is;
        lines = told ∙ ap (λ (l : List ℕ). l ++ told_at names s.display u last e) (read.lines ∙ ap (λ (l : List ℕ). old ++ l) skips)
            ∙ append_assoc old (skipped_all s.held t (front ++ last ∷ [])) (told_at names s.display u last e)
            ∙ ap (λ (w : Tracer). old ++ (skipped_all s.held t (front ++ last ∷ []) ++ told_at names s.display w last e)) skims
            ∙ ap (λ (l : List ℕ). old ++ l) (sym (one_lines law split names front last e s t silent events))
            ∙ ap (λ (l : List ℕ). old ++ traced_by names s t l) whole;
        tracer = ap (λ (w : Bool). with_text w u) text ∙ ap (λ (w : Tracer). with_text (is_text e) w) skims
            ∙ sym (one_tracer law split front last e s t silent events) ∙ ap (λ (l : List ℕ). tracer_of s t l) whole;
      }

-- what is held after bytes, one after another
pub held_is : SplitLaw → (h : Held) (bytes : List ℕ) → IsHeldPart h → held_all h bytes ≡ held_from h bytes
held_is split h [] part = sym (split.held_nil h part)
held_is split h (b ∷ bytes) part =
    held_is split (held_from h (b ∷ [])) bytes (split.held_part (spell h ++ b ∷ []))
    ∙ sym (split.held_append h (b ∷ []) bytes)

-- bytes without an event
pub part_told : SpellingLaw → SplitLaw → (names : Names) (s : State) (h k : Held) (t u : Tracer) (bytes old new : List ℕ)
    → events_from s.held bytes ≡ [] → AreRead h k t u bytes old new → h ≡ s.held → IsTraced names s bytes k t u old new
unfolding play
part_told law split names s h k t u bytes old new none read is = record {
  held = read.held ∙ ap (λ (k : Held). held_from k bytes) is;
  lines = read.lines ∙ ap (λ (k : Held). old ++ skipped_all k t bytes) is
      ∙ ap (λ (l : List ℕ). old ++ l) (sym (quiet_lines law split names s t bytes none));
  tracer = read.tracer ∙ ap (λ (k : Held). skimmed k t bytes) is ∙ sym (quiet_tracer law split s t bytes none);
}

-- characters
pub run_told : SpellingLaw → SplitLaw → (names : Names) (s : State) (h : Held) (t : Tracer) (run old mid new : List ℕ) → 1 ≤ length run
    → All HasGlyph run → s.held ≡ Nothing → mid ≡ old ++ text_begin t.in_text t.place → new ≡ mid ++ shown run
    → h ≡ s.held
    → IsTraced names s run h t (made (t.place + (length run - 1)) (t.place + (length run - 1) + 1) true) old new
unfolding play
run_told law split names s h t [] old mid new some all nothing is then_so same = absurd (omega (arith, some))
run_told law split names s h t (b ∷ run) old mid new some all nothing is then_so same = record {
  held = same ∙ nothing ∙ sym (ap (λ (h : Held). held_from h (b ∷ run)) nothing ∙ glyphs_held law split (b ∷ run) all);
  lines = then_so ∙ ap (λ (l : List ℕ). l ++ shown (b ∷ run)) is
      ∙ append_assoc old (text_begin t.in_text t.place) (shown (b ∷ run))
      ∙ ap (λ (l : List ℕ). old ++ l) (sym (trace_text law names s t b run nothing all));
  tracer = same_tracer (t.place + (length (b ∷ run) - 1)) (t.place + length run) (t.place + (length (b ∷ run) - 1) + 1)
      (t.place + length run + 1) true (omega arith) (omega arith)
      ∙ sym (tracer_text law s t b run nothing all);
}
