-- What the dialect leaves is what is played, and what happens at ASCII characters is what happens at their bytes.
use Rattle.std.specs.Prelude.{slice_index}
use Rattle.std.proofs.Common.{take, length, subst}
use Rattle.std.proofs.Common.{◌≡◌, ℕ, ◌<◌, ◌≤◌, List, [], ◌∷◌, ◌++◌, Option, Some, None, All, refl, sym, ap, ◌∙◌, arith, append-nil}
use Rattle.std.proofs.lemmas.List.Elements.{All-nil, All-cons}
use Rattle.vt_syntax.specs.Held.{IsHeldPart}
use Rattle.vt_syntax.specs.declared.held.Held.{Held}
use Rattle.vt_syntax.specs.declared.held.Held.TheVariants.{Nothing}
use Rattle.vt_syntax.specs.Class.{IsOfLines}
use Rattle.vt_syntax.specs.Laws.{SplitLaw, SpellingLaw}
use Rattle.vt_term.specs.State.{State}
use Rattle.vt_term.specs.Play.{play}
use Rattle.vt_term.specs.Sound.{IsSoundSized}
use Rattle.vt_term.specs.Scrolling.{scrolled_off}
use Rattle.vt_term.specs.Happenings.{Happening, happenings, happenings_on}
use Rattle.vt_term.specs.Observing.{Feeds, happenings_of}
use Rattle.vt_utf8.specs.Decoding.{characters, pending_after}
use Rattle.vt_utf8.specs.Translation.{translation}
use Rattle.vt_trace.specs.declared.tracing.Tracer.{Tracer}
use Rattle.vt_trace.specs.Observed.{traced_told, tracer_told}
use Rattle.vt_trace.specs.Utf8.{after_all, reports_all, dialect_trace, Traces}
use Rattle.vt_trace.proofs.Beyond.{happens_all, tail_of, traces_told, dialect_append, dialect_tracers, shorter_ascii, run_front}
use Rattle.vt_xterm.specs.declared.sides.Sides.{Sides}
use Rattle.vt_xterm.specs.Pages.{PagesState, screens, bounds_of}
use Rattle.vt_xterm.specs.Play.{Whole, WholePlayed, FrontState, behind, xterm, screens_of, play_bytes, play_beyond, play_character}
use Rattle.vt_xterm.specs.Play.{play_characters, play_xterm, whole_of}
use Rattle.vt_xterm.specs.Private.Finding.{SetsNone}
use Rattle.vt_xterm.specs.Private.Profiles.{screens_on, unbounded}
use Rattle.vt_xterm.proofs.Cuts.{character-ascii, characters-ascii}
use Rattle.vt_xterm.proofs.Fed.{feeds-profile, character-beyond}
use Rattle.vt_xterm_trace.specs.Names.{xterm_names}
use Rattle.vt_xterm_trace.specs.Trace.{xterm_dialect, trace_xterm, tracer_xterm}
use Rattle.vt_xterm_trace.proofs.Unbounded.{lines-none, shorter-lines, happens-same}

-- ---- characters

pub after-played : (w : Whole) (cs : List ℕ) → after_all xterm_dialect w cs ≡ (play_characters w cs).whole
after-played w [] = refl
after-played w (c ∷ cs) = after-played (play_character w c).whole cs

pub reports-played : (w : Whole) (cs : List ℕ) → reports_all xterm_dialect w cs ≡ (play_characters w cs).reports
reports-played w [] = refl
reports-played w (c ∷ cs) =
    ap (λ (l : List ℕ). (play_character w c).reports ++ l) (reports-played (play_character w c).whole cs)

pub xterm-after : (w : Whole) (pending bytes : List ℕ)
    → after_all xterm_dialect w (characters pending bytes) ≡ (play_xterm w pending bytes).whole
unfolding play_xterm
xterm-after w pending bytes = after-played w (characters pending bytes)

pub xterm-reports : (w : Whole) (pending bytes : List ℕ)
    → reports_all xterm_dialect w (characters pending bytes) ≡ (play_xterm w pending bytes).reports
unfolding play_xterm
xterm-reports w pending bytes = reports-played w (characters pending bytes)

-- by the parts of a front
pub front-after : (s : State) (inside front : FrontState) (z : Whole) (bytes : List ℕ) → inside ≡ front
    → z ≡ after_all xterm_dialect (behind s inside) (characters inside.pending bytes)
    → z ≡ (play_xterm (behind s front) front.pending bytes).whole
front-after s inside front z bytes is left =
    left ∙ xterm-after (behind s inside) inside.pending bytes
    ∙ ap (λ (f : FrontState). (play_xterm (behind s f) f.pending bytes).whole) is

pub front-reports : (s : State) (inside front : FrontState) (before out bytes : List ℕ) → inside ≡ front
    → out ≡ before ++ reports_all xterm_dialect (behind s inside) (characters inside.pending bytes)
    → out ≡ before ++ (play_xterm (behind s front) front.pending bytes).reports
front-reports s inside front before out bytes is told =
    told ∙ ap (λ (l : List ℕ). before ++ l) (xterm-reports (behind s inside) inside.pending bytes)
    ∙ ap (λ (f : FrontState). before ++ (play_xterm (behind s f) f.pending bytes).reports) is

-- ---- chunks in turn

pub cut-lines : (w : Whole) (t : Tracer) (pending a b : List ℕ) → trace_xterm w t pending (a ++ b)
    ≡ trace_xterm w t pending a
    ++ trace_xterm (play_xterm w pending a).whole (tracer_xterm w t pending a) (pending_after pending a) b
cut-lines w t pending a b =
    dialect_append xterm_dialect w t pending a b
    ∙ ap (λ (z : Whole). trace_xterm w t pending a ++ trace_xterm z (tracer_xterm w t pending a) (pending_after pending a) b)
    (xterm-after w pending a)

pub cut-tracer : (w : Whole) (t : Tracer) (pending a b : List ℕ) → tracer_xterm w t pending (a ++ b)
    ≡ tracer_xterm (play_xterm w pending a).whole (tracer_xterm w t pending a) (pending_after pending a) b
cut-tracer w t pending a b =
    dialect_tracers xterm_dialect w t pending a b
    ∙ ap (λ (z : Whole). tracer_xterm z (tracer_xterm w t pending a) (pending_after pending a) b) (xterm-after w pending a)

pub cut-none : (w : Whole) (t : Tracer) (pending : List ℕ) → trace_xterm w t pending [] ≡ []
unfolding dialect_trace
cut-none w t pending = refl

-- ---- ASCII

happens-ascii : (w : Whole) (bytes : List ℕ) → All (λ b. b < 0x80) bytes
    → happens_all xterm_dialect w bytes ≡ happenings_on xterm (screens_of w) w.state.held bytes
unfolding play_bytes
happens-ascii w [] all = refl
happens-ascii w (b ∷ bytes) all =
    let own : (play_character w b).whole ≡ (play_bytes w (b ∷ [])).whole =
    ap (λ (p : WholePlayed). p.whole) (character-ascii w b (all 0 0 (omega arith))) in
    ap (λ (hs : List Happening). xterm_dialect.happens w b ∷ hs)
    (happens-ascii (play_character w b).whole bytes (tail_of b bytes all)
    ∙ ap (λ (v : Whole). happenings_on xterm (screens_of v) v.state.held bytes) own)

-- ASCII bytes without ?69h that were traced by what happens at them, while DECLRMM is reset
pub traces-ascii : SplitLaw → (s z : State) (pages new_pages : PagesState) (t u : Tracer) (bytes before out old new : List ℕ)
    → IsHeldPart s.held → pages.sides ≡ None → SetsNone (happenings_of unbounded screens_on s pages bytes)
    → All (λ b. b < 0x80) bytes → Feeds unbounded screens_on s pages bytes z new_pages before out
    → new ≡ old ++ traced_told xterm_names t (happenings_of unbounded screens_on s pages bytes)
    → u ≡ tracer_told t (happenings_of unbounded screens_on s pages bytes)
    → Traces xterm_dialect (whole_of s pages) t [] bytes (whole_of z new_pages) u [] before out old new
traces-ascii split s z pages new_pages t u bytes before out old new held none saw all fed lines tracer =
    let w : Whole = whole_of s pages in
    let left = feeds-profile split s z pages new_pages bytes before out held none saw fed in
    let played : play_characters w bytes ≡ play_bytes w bytes = characters-ascii split w bytes held all in
    let happened = happens-ascii w bytes all ∙ sym (happens-same (screens_of w) s.held bytes none saw) in
    traces_told xterm_dialect w (whole_of z new_pages) t u bytes before out old new all
    (left.whole ∙ sym (after-played w bytes ∙ ap (λ (p : WholePlayed). p.whole) played))
    (left.reports ∙ ap (λ (l : List ℕ). before ++ l) (sym (reports-played w bytes ∙ ap (λ (p : WholePlayed). p.reports) played)))
    (lines ∙ ap (λ (hs : List Happening). old ++ traced_told xterm_names t hs) (sym happened))
    (tracer ∙ ap (λ (hs : List Happening). tracer_told t hs) (sym happened))

-- one byte that was traced, and then played
pub traces-byte : (s z : State) (pages new_pages : PagesState) (t u : Tracer) (b : ℕ) (before out old new : List ℕ)
    → b < 0x80 → whole_of z new_pages ≡ (play_characters (whole_of s pages) (b ∷ [])).whole
    → out ≡ before ++ (play_characters (whole_of s pages) (b ∷ [])).reports
    → new ≡ old ++ traced_told xterm_names t (happenings s (b ∷ [])) → u ≡ tracer_told t (happenings s (b ∷ []))
    → Traces xterm_dialect (whole_of s pages) t [] (b ∷ []) (whole_of z new_pages) u [] before out old new
unfolding scrolled_off
traces-byte s z pages new_pages t u b before out old new low left told lines tracer =
    let w : Whole = whole_of s pages in
    traces_told xterm_dialect w (whole_of z new_pages) t u (b ∷ []) before out old new
    (All-cons (λ b. b < 0x80) b [] low (All-nil (λ b. b < 0x80))) (left ∙ sym (after-played w (b ∷ [])))
    (told ∙ ap (λ (l : List ℕ). before ++ l) (sym (reports-played w (b ∷ [])))) lines tracer

-- bytes of lines at the front of a run
pub traces-front : SplitLaw → SpellingLaw → (s z : State) (pages new_pages : PagesState) (t u : Tracer) (run : List ℕ) (k n : ℕ)
    (before out old new : List ℕ) → IsHeldPart s.held → s.held ≡ Nothing → pages.sides ≡ None → All (λ b. b < 0x80) run
    → All IsOfLines (take k run) → n ≤ length (take k run)
    → Feeds unbounded screens_on s pages (take n (take k run)) z new_pages before out
    → new ≡ old ++ traced_told xterm_names t (happenings_of unbounded screens_on s pages (take n (take k run)))
    → u ≡ tracer_told t (happenings_of unbounded screens_on s pages (take n (take k run)))
    → Traces xterm_dialect (whole_of s pages) t [] (take n run) (whole_of z new_pages) u [] before out old new
traces-front split spelling s z pages new_pages t u run k n before out old new held between none low of_lines within fed lines tracer =
    let bytes = take n (take k run) in
    let ascii = shorter_ascii n (take k run) (shorter_ascii k run low) in
    let saw : SetsNone (happenings_of unbounded screens_on s pages bytes) =
    subst (λ (h : Held). SetsNone (happenings_on unbounded (screens_on s.display pages) h bytes)) (sym between)
    (lines-none spelling unbounded (screens_on s.display pages) bytes (shorter-lines n (take k run) of_lines)) in
    subst (λ (l : List ℕ). Traces xterm_dialect (whole_of s pages) t [] l (whole_of z new_pages) u [] before out old new)
    (run_front run k n within)
    (traces-ascii split s z pages new_pages t u bytes before out old new held none saw ascii fed lines tracer)

-- the first byte of a run
pub traces-first : (s z : State) (pages new_pages : PagesState) (t u : Tracer) (run before out old new : List ℕ)
    → 1 ≤ length run → All (λ b. b < 0x80) run
    → whole_of z new_pages ≡ (play_characters (whole_of s pages) (slice_index run 0 ∷ [])).whole
    → out ≡ before ++ (play_characters (whole_of s pages) (slice_index run 0 ∷ [])).reports
    → new ≡ old ++ traced_told xterm_names t (happenings s (slice_index run 0 ∷ []))
    → u ≡ tracer_told t (happenings s (slice_index run 0 ∷ []))
    → Traces xterm_dialect (whole_of s pages) t [] (take 1 run) (whole_of z new_pages) u [] before out old new
traces-first s z pages new_pages t u [] before out old new some low left told lines tracer = absurd (omega (arith, some))
traces-first s z pages new_pages t u (b ∷ run) before out old new some low left told lines tracer =
    traces-byte s z pages new_pages t u b before out old new (low 0 0 (omega arith)) left told lines tracer

-- ---- characters beyond ASCII

beyond-none : ((s : State) (c : ℕ) → 0x80 ≤ c → IsSoundSized s → (play s (translation s c)).reports ≡ [])
    → (w : Whole) (c : ℕ) (b : Option Sides) → 0x80 ≤ c → IsSoundSized w.state → (play_beyond w b c).reports ≡ []
beyond-none silent w c None high sound = silent w.state c high sound
beyond-none silent w c (Some m) high sound = refl

pub beyond-silent : ((s : State) (c : ℕ) → 0x80 ≤ c → IsSoundSized s → (play s (translation s c)).reports ≡ [])
    → (s : State) (pages : PagesState) (c : ℕ) → 0x80 ≤ c → IsSoundSized s → (play_character (whole_of s pages) c).reports ≡ []
beyond-silent silent s pages c high sound =
    ap (λ (p : WholePlayed). p.reports) (character-beyond s pages c (bounds_of (screens s pages)) high refl)
    ∙ beyond-none silent (whole_of s pages) c (bounds_of (screens s pages)) high sound

-- nothing is appended
pub beyond-out : (s : State) (pages : PagesState) (c : ℕ) (before out : List ℕ)
    → out ≡ before ++ (play_characters (whole_of s pages) (c ∷ [])).reports → (play_character (whole_of s pages) c).reports ≡ []
    → out ≡ before
beyond-out s pages c before out told silent =
    told ∙ ap (λ (r : List ℕ). before ++ (r ++ [])) silent ∙ append-nil before
