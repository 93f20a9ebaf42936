-- Input without a function of xterm has the trace of UTF-8.
use Rattle.std.proofs.Common.{◌≡◌, ℕ, ◌<◌, ◌≤◌, Bool, true, false, List, [], ◌∷◌, ◌++◌, None, refl, sym, ap, ◌∙◌, arith}
use Rattle.std.specs.Prelude.{nat_lt, if◌then◌else◌}
use Rattle.std.proofs.lemmas.Bool.Decides.{nat_tests}
use Rattle.vt_syntax.specs.declared.event.Event.{Event}
use Rattle.vt_syntax.specs.declared.event.Event.TheVariants.{Print, Control, Escape, Sequence}
use Rattle.vt_syntax.specs.Held.{events_from}
use Rattle.vt_glyph.specs.Invocation.{has_no_glyph}
use Rattle.vt_term.specs.State.{Display, State}
use Rattle.vt_term.specs.Names.{name_on}
use Rattle.vt_term.specs.Functions.{effect}
use Rattle.vt_term.specs.Reports.{report}
use Rattle.vt_term.specs.Scrolling.{scrolled_off}
use Rattle.vt_term.specs.Play.{play}
use Rattle.vt_utf8.specs.Decoding.{read, characters}
use Rattle.vt_utf8.proofs.Cuts.{translation-ascii}
use Rattle.vt_trace.specs.declared.tracing.Tracer.{Tracer}
use Rattle.vt_trace.specs.Lines.{line_named, event_line_by}
use Rattle.vt_trace.specs.Trace.{text_end, text_of, report_line, written, written_all, is_text, skipped, goes_on, place_of, item_place}
use Rattle.vt_trace.specs.Utf8.{vt220_dialect, after_all, completed, traced_as, tracer_as, dialect_trace, dialect_tracer}
use Rattle.vt_xterm.specs.Pages.{screens}
use Rattle.vt_xterm.specs.Play.{Whole, WholePlayed, play_bytes, play_character}
use Rattle.vt_xterm.specs.Terminals.{PlaysTerminals}
use Rattle.vt_xterm.proofs.Cuts.{character-ascii}
use Rattle.vt_xterm.proofs.Fed.{character-beyond}
use Rattle.vt_xterm.proofs.NoSides.{none-bounds}
use Rattle.vt_xterm_trace.specs.Names.{xterm_names}
use Rattle.vt_xterm_trace.specs.Trace.{xterm_dialect, HaveNames, PlaysVt220s}

-- ---- lines

line-same : (rows place : ℕ) (e : Event) → xterm_names rows e ≡ name_on rows e
    → event_line_by xterm_names rows place e ≡ event_line_by name_on rows place e
unfolding event_line_by
line-same rows place e is = ap (λ o. line_named place e o) is

written-same : (rows : ℕ) (v : Bool) (place : ℕ) (e : Event) (r : List ℕ) → xterm_names rows e ≡ name_on rows e
    → written xterm_names rows v place e r ≡ written name_on rows v place e r
written-same rows v place (Print b) r is =
    ap (λ (l : List ℕ). if has_no_glyph b then text_end v ++ l else text_of v place b) (line-same rows place (Print b) is)
written-same rows v place (Control b) r is =
    ap (λ (l : List ℕ). text_end v ++ (l ++ report_line place r)) (line-same rows place (Control b) is)
written-same rows v place (Escape inter last) r is =
    ap (λ (l : List ℕ). text_end v ++ (l ++ report_line place r)) (line-same rows place (Escape inter last) is)
written-same rows v place (Sequence marker params inter last) r is =
    ap (λ (l : List ℕ). text_end v ++ (l ++ report_line place r)) (line-same rows place (Sequence marker params inter last) is)

all-same : (v : Bool) (at : Event → ℕ) (es : List Event) (d : Display) → HaveNames es
    → written_all xterm_names v at es d ≡ written_all name_on v at es d
all-same v at [] d are = refl
all-same v at (e ∷ es) d are =
    ap (λ (l : List ℕ). l ++ written_all xterm_names (is_text e) at es (effect e d))
    (written-same d.grid.size.rows v (at e) e (report e d) (are.0 d.grid.size.rows))
    ∙ ap (λ (l : List ℕ). written name_on d.grid.size.rows v (at e) e (report e d) ++ l)
    (all-same (is_text e) at es (effect e d) are.1)

-- ---- characters

abbrev with_state : Whole → State → Whole
with_state w s = record w { state = s }

module _ (terminals : (w : Whole) (bytes : List ℕ) → w.pages.sides ≡ None → PlaysTerminals w.state bytes → play_bytes w bytes ≡ record {
  whole = record w { state = (play w.state bytes).state };
  reports = (play w.state bytes).reports;
  lines = if w.pages.alternate then [] else scrolled_off w.state bytes;
}) where
  whole-same : (w : Whole) (c : ℕ) (cs : List ℕ) → w.pages.sides ≡ None → PlaysVt220s w (c ∷ cs)
      → (play_character w c).whole ≡ record w { state = vt220_dialect.after w.state c }
  whole-same w c cs none plays = go (nat_lt c 0x80) refl
    where
      go : (v : Bool) → nat_lt c 0x80 ≡ v → (play_character w c).whole ≡ record w { state = vt220_dialect.after w.state c }
      go true is =
          let low : c < 0x80 = grind (arith, nat_tests) in
          ap (λ (p : WholePlayed). p.whole) (character-ascii w c low ∙ terminals w (c ∷ []) none (plays.0 is).0)
          ∙ ap (λ (l : List ℕ). with_state w (play w.state l).state) (sym (translation-ascii w.state c low))
      go false is =
          let high : 0x80 ≤ c = grind (arith, nat_tests) in
          ap (λ (p : WholePlayed). p.whole)
          (character-beyond w.state w.pages c None high (none-bounds (screens w.state w.pages) none))

  next-none : (w : Whole) (c : ℕ) (cs : List ℕ) → w.pages.sides ≡ None → PlaysVt220s w (c ∷ cs)
      → (play_character w c).whole.pages.sides ≡ None
  next-none w c cs none plays = ap (λ (v : Whole). v.pages.sides) (whole-same w c cs none plays) ∙ none

  state-same : (w : Whole) (c : ℕ) (cs : List ℕ) → w.pages.sides ≡ None → PlaysVt220s w (c ∷ cs)
      → (play_character w c).whole.state ≡ vt220_dialect.after w.state c
  state-same w c cs none plays = ap (λ (v : Whole). v.state) (whole-same w c cs none plays)

  after-same : (w : Whole) (cs more : List ℕ) → w.pages.sides ≡ None → PlaysVt220s w (cs ++ more)
      → (after_all xterm_dialect w cs).state ≡ after_all vt220_dialect w.state cs
  after-same w [] more none plays = refl
  after-same w (c ∷ cs) more none plays =
      after-same (play_character w c).whole cs more (next-none w c (cs ++ more) none plays) plays.1
      ∙ ap (λ (s : State). after_all vt220_dialect s cs) (state-same w c (cs ++ more) none plays)

  still-plays : (w : Whole) (cs more : List ℕ) → PlaysVt220s w (cs ++ more) → PlaysVt220s (after_all xterm_dialect w cs) more
  still-plays w [] more plays = plays
  still-plays w (c ∷ cs) more plays = still-plays (play_character w c).whole cs more plays.1

  still-reset : (w : Whole) (cs more : List ℕ) → w.pages.sides ≡ None → PlaysVt220s w (cs ++ more)
      → (after_all xterm_dialect w cs).pages.sides ≡ None
  still-reset w [] more none plays = none
  still-reset w (c ∷ cs) more none plays =
      still-reset (play_character w c).whole cs more (next-none w c (cs ++ more) none plays) plays.1

  traced-same : (w : Whole) (t : Tracer) (b : ℕ) (cs more : List ℕ) → w.pages.sides ≡ None → PlaysVt220s w (cs ++ more)
      → traced_as xterm_names t b (completed xterm_dialect w cs) ≡ traced_as name_on t b (completed vt220_dialect w.state cs)
  traced-same w t b [] more none plays = refl
  traced-same w t b (c ∷ []) more none plays = go (nat_lt c 0x80) refl
    where
      go : (v : Bool) → nat_lt c 0x80 ≡ v
          → traced_as xterm_names t b (completed xterm_dialect w (c ∷ [])) ≡ traced_as name_on t b (completed vt220_dialect w.state (c ∷ []))
      go true is =
          rw is (ap (λ (l : List ℕ). skipped t w.state.held c ++ l)
          (all-same (goes_on t w.state.held c) (place_of t.place (item_place t w.state.held c) c)
          (events_from w.state.held (c ∷ [])) w.state.display (plays.0 is).1))
      go false is = rw is refl
  traced-same w t b (c ∷ (e ∷ cs)) more none plays =
      traced-same (play_character w c).whole t b (e ∷ cs) more (next-none w c ((e ∷ cs) ++ more) none plays) plays.1
      ∙ ap (λ (s : State). traced_as name_on t b (completed vt220_dialect s (e ∷ cs)))
      (state-same w c ((e ∷ cs) ++ more) none plays)

  tracer-same : (w : Whole) (t : Tracer) (b : ℕ) (cs more : List ℕ) → w.pages.sides ≡ None → PlaysVt220s w (cs ++ more)
      → tracer_as t b (completed xterm_dialect w cs) ≡ tracer_as t b (completed vt220_dialect w.state cs)
  tracer-same w t b [] more none plays = refl
  tracer-same w t b (c ∷ []) more none plays = go (nat_lt c 0x80) refl
    where
      go : (v : Bool) → nat_lt c 0x80 ≡ v
          → tracer_as t b (completed xterm_dialect w (c ∷ [])) ≡ tracer_as t b (completed vt220_dialect w.state (c ∷ []))
      go true is = rw is refl
      go false is = rw is refl
  tracer-same w t b (c ∷ (e ∷ cs)) more none plays =
      tracer-same (play_character w c).whole t b (e ∷ cs) more (next-none w c ((e ∷ cs) ++ more) none plays) plays.1
      ∙ ap (λ (s : State). tracer_as t b (completed vt220_dialect s (e ∷ cs))) (state-same w c ((e ∷ cs) ++ more) none plays)

  -- ---- bytes

  pub trace-same : (w : Whole) (t : Tracer) (pending bytes : List ℕ) → w.pages.sides ≡ None → PlaysVt220s w (characters pending bytes)
      → dialect_trace xterm_dialect w t pending bytes ≡ dialect_trace vt220_dialect w.state t pending bytes
  unfolding dialect_trace
  trace-same w t pending [] none plays = refl
  trace-same w t pending (b ∷ bytes) none plays =
      let cs : List ℕ = (read pending b).characters in
      let left : List ℕ = (read pending b).pending in
      let more : List ℕ = characters left bytes in
      let w_then : Whole = after_all xterm_dialect w cs in
      let u : Tracer = tracer_as t b (completed vt220_dialect w.state cs) in
      ap (λ (l : List ℕ). l ++ dialect_trace xterm_dialect w_then (tracer_as t b (completed xterm_dialect w cs)) left bytes)
      (traced-same w t b cs more none plays)
      ∙ ap (λ (v : Tracer). traced_as name_on t b (completed vt220_dialect w.state cs) ++ dialect_trace xterm_dialect w_then v left bytes)
      (tracer-same w t b cs more none plays)
      ∙ ap (λ (l : List ℕ). traced_as name_on t b (completed vt220_dialect w.state cs) ++ l)
      (trace-same w_then u left bytes (still-reset w cs more none plays) (still-plays w cs more plays)
      ∙ ap (λ (s : State). dialect_trace vt220_dialect s u left bytes) (after-same w cs more none plays))

  pub tracers-same : (w : Whole) (t : Tracer) (pending bytes : List ℕ) → w.pages.sides ≡ None → PlaysVt220s w (characters pending bytes)
      → dialect_tracer xterm_dialect w t pending bytes ≡ dialect_tracer vt220_dialect w.state t pending bytes
  unfolding dialect_tracer
  tracers-same w t pending [] none plays = refl
  tracers-same w t pending (b ∷ bytes) none plays =
      let cs : List ℕ = (read pending b).characters in
      let left : List ℕ = (read pending b).pending in
      let more : List ℕ = characters left bytes in
      let w_then : Whole = after_all xterm_dialect w cs in
      ap (λ (v : Tracer). dialect_tracer xterm_dialect w_then v left bytes) (tracer-same w t b cs more none plays)
      ∙ tracers-same w_then (tracer_as t b (completed vt220_dialect w.state cs)) left bytes (still-reset w cs more none plays)
      (still-plays w cs more plays)
      ∙ ap (λ (s : State). dialect_tracer vt220_dialect s (tracer_as t b (completed vt220_dialect w.state cs)) left bytes)
      (after-same w cs more none plays)
