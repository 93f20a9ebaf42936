-- The trace of UTF-8: bytes of characters beyond ASCII, ASCII bytes, and one part after another.
use Rattle.std.proofs.Common.{◌≡◌, ℕ, zero, suc, ◌+◌, ◌-◌, ◌<◌, ◌≤◌, List, [], ◌∷◌, ◌++◌, Bool, true, false, None, Some}
use Rattle.std.proofs.Common.{refl, sym, ap, ◌∙◌, arith, length, take, drop, append-nil, append_assoc, length-take}
use native.Mathlib.Numerals.{unary_clauses}
use Rattle.std.proofs.lemmas.List.{take-take}
use Rattle.std.proofs.Math.Seq.{take-length}
use Rattle.std.proofs.lemmas.Bool.Decides.{nat_tests}
use Rattle.std.specs.Prelude.{All, Option, IfSome, nat_lt, ◌==◌, slice_index, ⊤, if◌then◌else◌}
use Rattle.std.specs.Option.{option_to_list}
use Rattle.vt_term.specs.State.{State}
use Rattle.vt_screen.specs.declared.size.Size.{Size}
use Rattle.vt_term.specs.Sound.{IsSoundAt}
use Rattle.vt_term.specs.Play.{Played, play, both}
use Rattle.vt_term.specs.Names.{name_on}
use Rattle.vt_term.specs.Happenings.{Happening, happening, happenings}
use Rattle.bstr.specs.Utf8.{replacement}
use Rattle.vt_utf8.specs.Decoding.{read, characters, pending_after, IsWhole}
use Rattle.vt_utf8.specs.Translation.{translation}
use Rattle.vt_utf8.specs.Play.{translated_all, translated, play_utf8}
use Rattle.vt_utf8.proofs.Cuts.{pending-append, characters-append, read-ascii, ascii-characters, ascii-pending, translation-ascii}
use Rattle.vt_trace.specs.declared.tracing.Tracer.{Tracer}
use Rattle.vt_trace.specs.Lines.{shown_byte, shown}
use Rattle.vt_trace.specs.Trace.{between, open_lines, text_begin, text_of, trace, tracer_all}
use Rattle.vt_trace.specs.Observed.{traced_told, tracer_told}
use Rattle.vt_trace.specs.Utf8.{Dialect, vt220_dialect, after_all, reports_all, traced_beyond, tracer_beyond, completed, traced_as, tracer_as}
use Rattle.vt_trace.specs.Utf8.{dialect_trace, dialect_tracer, trace_utf8, tracer_utf8, Traces}
use Rattle.vt_trace.specs.Private.Traces.{beyond_lines, beyond_tracer}
use Rattle.vt_trace.proofs.Happened.{trace-happened, tracer-happened}
use Rattle.vt_trace.proofs.Contents.{with_content, no_content, more_content}

-- ---- text

same_between : (a b c d : ℕ) → a ≡ b → c ≡ d → between a c true ≡ between b d true
same_between a b c d e f = ap (λ n. between n c true) e ∙ ap (λ m. between b m true) f

-- bytes that go on a text
text_on : (n m : ℕ) (bytes : List ℕ) → beyond_lines (between n m true) bytes ≡ shown bytes
text_on n m [] = refl
text_on n m (b ∷ bytes) = ap (λ (l : List ℕ). shown_byte b ++ l) (text_on (n + 1) n bytes)

tracer_on : (n : ℕ) (m : ℕ) (b : ℕ) (bytes : List ℕ) → beyond_tracer (between n m true) (b ∷ bytes)
    ≡ between (n + length (b ∷ bytes)) (n + (length (b ∷ bytes) - 1)) true
tracer_on n m b [] = same_between (n + 1) (n + 1) n (n + 0) refl (omega arith)
tracer_on n m b (c ∷ bytes) =
    tracer_on (n + 1) n c bytes
    ∙ same_between (n + 1 + length (c ∷ bytes)) (n + length (b ∷ (c ∷ bytes))) (n + 1 + (length (c ∷ bytes) - 1))
    (n + (length (b ∷ (c ∷ bytes)) - 1)) (omega arith) (omega arith)

second_of : (v w : Bool) (xs ys zs : List ℕ) → v ≡ true → w ≡ false → (if v then (if w then xs else ys) else zs) ≡ ys
second_of v w xs ys zs e f = rw (e, f) refl

first_tracer : (v : Bool) (t u : Tracer) → v ≡ true → (if v then t else u) ≡ t
first_tracer v t u e = rw e refl

pub text_all : (t : Tracer) (bytes : List ℕ) → 1 ≤ length bytes → (t.code == 0) ≡ true → (length t.first.items == 0) ≡ true
    → beyond_lines t bytes ≡ text_begin t.in_text t.place ++ shown bytes
text_all t [] some code first = absurd (omega (arith, some))
text_all t (b ∷ bytes) some code first =
    rw (code, first)
    (ap (λ (l : List ℕ). text_of t.in_text t.place b ++ l) (text_on (t.place + 1) t.place bytes)
    ∙ append_assoc (text_begin t.in_text t.place) (shown_byte b) (shown bytes))

tracer_first : (t : Tracer) (b : ℕ) → (t.code == 0) ≡ true → tracer_beyond t b ≡ between (t.place + 1) t.place true
tracer_first t b code = first_tracer (t.code == 0) (between (t.place + 1) t.place true) (with_content t (b ∷ [])) code

-- the text comes after an unfinished sequence, which it cuts off
pub text_after_cut : (t : Tracer) (bytes : List ℕ) → 1 ≤ length bytes → (t.code == 0) ≡ true
    → (length t.first.items == 0) ≡ false → beyond_lines t bytes ≡ open_lines t ++ (text_begin false t.place ++ shown bytes)
text_after_cut t [] some code first = absurd (omega (arith, some))
text_after_cut t (b ∷ bytes) some code first =
    let after : Tracer = between (t.place + 1) t.place true in
    let text : List ℕ = text_of false t.place b in
    let cut : traced_beyond t b ≡ open_lines t ++ text =
    second_of (t.code == 0) (length t.first.items == 0) (text_of t.in_text t.place b) (open_lines t ++ text) [] code first in
    ap (λ (l : List ℕ). l ++ beyond_lines (tracer_beyond t b) bytes) cut
    ∙ ap (λ (u : Tracer). (open_lines t ++ text) ++ beyond_lines u bytes) (tracer_first t b code)
    ∙ ap (λ (l : List ℕ). (open_lines t ++ text) ++ l) (text_on (t.place + 1) t.place bytes)
    ∙ append_assoc (open_lines t) text (shown bytes)
    ∙ ap (λ (l : List ℕ). open_lines t ++ l) (append_assoc (text_begin false t.place) (shown_byte b) (shown bytes))

pub text_tracer : (t : Tracer) (bytes : List ℕ) → 1 ≤ length bytes → (t.code == 0) ≡ true
    → beyond_tracer t bytes ≡ between (t.place + length bytes) (t.place + (length bytes - 1)) true
text_tracer t [] some code = absurd (omega (arith, some))
text_tracer t (b ∷ []) some code =
    tracer_first t b code ∙ same_between (t.place + 1) (t.place + 1) t.place (t.place + 0) refl (omega arith)
text_tracer t (b ∷ (c ∷ bytes)) some code =
    ap (λ (u : Tracer). beyond_tracer u (c ∷ bytes)) (tracer_first t b code)
    ∙ tracer_on (t.place + 1) t.place c bytes
    ∙ same_between (t.place + 1 + length (c ∷ bytes)) (t.place + length (b ∷ (c ∷ bytes)))
    (t.place + 1 + (length (c ∷ bytes) - 1)) (t.place + (length (b ∷ (c ∷ bytes)) - 1)) (omega arith) (omega arith)

-- ---- content of strings

pub string_lines : (t : Tracer) (bytes : List ℕ) → (t.code == 0) ≡ false → beyond_lines t bytes ≡ []
string_lines t [] code = refl
string_lines t (b ∷ bytes) code = rw code (string_lines (with_content t (b ∷ [])) bytes code)

pub string_tracer : (t : Tracer) (bytes : List ℕ) → length t.first.items ≤ 33 → (t.code == 0) ≡ false
    → beyond_tracer t bytes ≡ with_content t bytes
string_tracer t [] few code = sym (no_content t few)
string_tracer t (b ∷ bytes) few code =
    let long = length-take 33 (t.first.items ++ b ∷ []) in
    rw code
    (string_tracer (with_content t (b ∷ [])) bytes (omega (arith, long)) code ∙ more_content t b bytes)

-- ---- characters beyond ASCII

abbrev pub AreBeyond : List ℕ → Type 0
AreBeyond [] = ⊤
AreBeyond (c ∷ cs) = (0x80 ≤ c) × AreBeyond cs

beyond_left : (xs ys : List ℕ) → AreBeyond (xs ++ ys) → AreBeyond xs
beyond_left [] ys all = tt
beyond_left (x ∷ xs) ys all = (all.0, beyond_left xs ys all.1)

beyond_right : (xs ys : List ℕ) → AreBeyond (xs ++ ys) → AreBeyond ys
beyond_right [] ys all = all
beyond_right (x ∷ xs) ys all = beyond_right xs ys all.1

not_ascii : (c : ℕ) → 0x80 ≤ c → nat_lt c 0x80 ≡ false
not_ascii c high = grind (arith, nat_tests)

pub is_ascii : (c : ℕ) → c < 0x80 → nat_lt c 0x80 ≡ true
is_ascii c low = grind (arith, nat_tests)

module _ {W : Type 0} (d : Dialect W) where
  none_completed : (w : W) (cs : List ℕ) → AreBeyond cs → completed d w cs ≡ None
  none_completed w [] all = refl
  none_completed w (c ∷ []) all = rw (not_ascii c all.0) refl
  none_completed w (c ∷ (e ∷ cs)) all = none_completed (d.after w c) (e ∷ cs) all.1

  beyond_traced : (w : W) (t : Tracer) (pending bytes : List ℕ) → AreBeyond (characters pending bytes)
      → dialect_trace d w t pending bytes ≡ beyond_lines t bytes
  unfolding dialect_trace
  beyond_traced w t pending [] all = refl
  beyond_traced w t pending (b ∷ bytes) all =
      let cs = (read pending b).characters in
      let more = characters (read pending b).pending bytes in
      rw (none_completed w cs (beyond_left cs more all))
      (ap (λ (l : List ℕ). traced_beyond t b ++ l)
      (beyond_traced (after_all d w cs) (tracer_beyond t b) (read pending b).pending bytes (beyond_right cs more all)))

  beyond_read : (w : W) (t : Tracer) (pending bytes : List ℕ) → AreBeyond (characters pending bytes)
      → dialect_tracer d w t pending bytes ≡ beyond_tracer t bytes
  unfolding dialect_tracer
  beyond_read w t pending [] all = refl
  beyond_read w t pending (b ∷ bytes) all =
      let cs = (read pending b).characters in
      let more = characters (read pending b).pending bytes in
      rw (none_completed w cs (beyond_left cs more all))
      (beyond_read (after_all d w cs) (tracer_beyond t b) (read pending b).pending bytes (beyond_right cs more all))

-- ---- ASCII

pub tail_of : (b : ℕ) (bytes : List ℕ) → All (λ b. b < 0x80) (b ∷ bytes) → All (λ b. b < 0x80) bytes
tail_of b bytes all = λ k d less. all (suc k) d (omega (arith, less))

one_of : (b : ℕ) → b < 0x80 → All (λ b. b < 0x80) (b ∷ [])
one_of b low = λ k d less. grind (arith, less, low)

-- what happens at ASCII bytes
abbrev pub happens_all : {W : Type 0} → Dialect W → W → List ℕ → List Happening
happens_all d w [] = []
happens_all d w (b ∷ bytes) = d.happens w b ∷ happens_all d (d.after w b) bytes

module _ {W : Type 0} (d : Dialect W) where
  pub ascii_told : (w : W) (t : Tracer) (bytes : List ℕ) → All (λ b. b < 0x80) bytes
      → dialect_trace d w t [] bytes ≡ traced_told d.names t (happens_all d w bytes)
  unfolding dialect_trace
  ascii_told w t [] all = refl
  ascii_told w t (b ∷ bytes) all =
      let low : b < 0x80 = all 0 0 (omega arith) in
      rw (read-ascii b low, is_ascii b low)
      (ap (λ (l : List ℕ). traced_as d.names t b (Some (d.happens w b)) ++ l)
      (ascii_told (d.after w b) (tracer_as t b (Some (d.happens w b))) bytes (tail_of b bytes all)))

  pub ascii_left : (w : W) (t : Tracer) (bytes : List ℕ) → All (λ b. b < 0x80) bytes
      → dialect_tracer d w t [] bytes ≡ tracer_told t (happens_all d w bytes)
  unfolding dialect_tracer
  ascii_left w t [] all = refl
  ascii_left w t (b ∷ bytes) all =
      let low : b < 0x80 = all 0 0 (omega arith) in
      rw (read-ascii b low, is_ascii b low)
      (ascii_left (d.after w b) (tracer_as t b (Some (d.happens w b))) bytes (tail_of b bytes all))

  -- bytes that were traced by what happens at them
  pub traces_told : (w z : W) (t u : Tracer) (bytes before out old new : List ℕ) → All (λ b. b < 0x80) bytes
      → z ≡ after_all d w bytes → out ≡ before ++ reports_all d w bytes → new ≡ old ++ traced_told d.names t (happens_all d w bytes)
      → u ≡ tracer_told t (happens_all d w bytes) → Traces d w t [] bytes z u [] before out old new
  traces_told w z t u bytes before out old new all state told lines tracer = record {
    state = state ∙ ap (λ (cs : List ℕ). after_all d w cs) (sym (ascii-characters bytes all));
    left = sym (ascii-pending bytes all);
    reports = told ∙ ap (λ (cs : List ℕ). before ++ reports_all d w cs) (sym (ascii-characters bytes all));
    tracer = tracer ∙ sym (ascii_left w t bytes all);
    lines = lines ∙ ap (λ (l : List ℕ). old ++ l) (sym (ascii_told w t bytes all));
  }

  -- one character
  pub one_state : (w z : W) (t u : Tracer) (c : ℕ) (before out old new : List ℕ) → c < 0x80
      → Traces d w t [] (c ∷ []) z u [] before out old new → z ≡ d.after w c
  one_state w z t u c before out old new low made =
      made.state ∙ ap (λ (cs : List ℕ). after_all d w cs) (ascii-characters (c ∷ []) (one_of c low))

  pub one_reports : (w z : W) (t u : Tracer) (c : ℕ) (before out old new : List ℕ) → c < 0x80
      → Traces d w t [] (c ∷ []) z u [] before out old new → out ≡ before ++ d.reports w c
  one_reports w z t u c before out old new low made =
      made.reports ∙ ap (λ (cs : List ℕ). before ++ reports_all d w cs) (ascii-characters (c ∷ []) (one_of c low))
      ∙ ap (λ (l : List ℕ). before ++ l) (append-nil (d.reports w c))

  pub one_lines : (w z : W) (t u : Tracer) (b c : ℕ) (before out old new : List ℕ) → c < 0x80
      → Traces d w t [] (c ∷ []) z u [] before out old new → new ≡ old ++ traced_as d.names t b (completed d w (c ∷ []))
  one_lines w z t u b c before out old new low made =
      let one = ascii_told w t (c ∷ []) (one_of c low) in
      rw (is_ascii c low) (made.lines ∙ ap (λ (l : List ℕ). old ++ l)
      (one ∙ append-nil (traced_as d.names t b (Some (d.happens w c)))))

  pub one_tracer : (w z : W) (t u : Tracer) (b c : ℕ) (before out old new : List ℕ) → c < 0x80
      → Traces d w t [] (c ∷ []) z u [] before out old new → u ≡ tracer_as t b (completed d w (c ∷ []))
  one_tracer w z t u b c before out old new low made =
      rw (is_ascii c low) (made.tracer ∙ ascii_left w t (c ∷ []) (one_of c low))

-- ---- places

place_beyond : (t : Tracer) (b : ℕ) (v : Bool) → (t.code == 0) ≡ v → (tracer_beyond t b).place ≡ t.place + 1
place_beyond t b true is = rw is refl
place_beyond t b false is = rw is refl

place_as : (t : Tracer) (b : ℕ) (h : Option Happening) → (tracer_as t b h).place ≡ t.place + 1
place_as t b None = place_beyond t b (t.code == 0) refl
place_as t b (Some h) = refl

pub place_dialect : {W : Type 0} (d : Dialect W) (w : W) (t : Tracer) (pending bytes : List ℕ)
    → (dialect_tracer d w t pending bytes).place ≡ t.place + length bytes
unfolding dialect_tracer
place_dialect d w t pending [] = omega arith
place_dialect d w t pending (b ∷ bytes) =
    let cs : List ℕ = (read pending b).characters in
    let u : Tracer = tracer_as t b (completed d w cs) in
    let one : u.place ≡ t.place + 1 = place_as t b (completed d w cs) in
    let more = place_dialect d (after_all d w cs) u (read pending b).pending bytes in
    omega (arith, one, more)

pub place_utf8 : (s : State) (t : Tracer) (pending bytes : List ℕ) → (tracer_utf8 s t pending bytes).place ≡ t.place + length bytes
place_utf8 s t pending bytes = place_dialect vt220_dialect s t pending bytes

-- ---- one part after another

module _ {W : Type 0} (d : Dialect W) where
  pub after-append : (w : W) (xs ys : List ℕ) → after_all d w (xs ++ ys) ≡ after_all d (after_all d w xs) ys
  after-append w [] ys = refl
  after-append w (x ∷ xs) ys = after-append (d.after w x) xs ys

  pub reports-append : (w : W) (xs ys : List ℕ)
      → reports_all d w (xs ++ ys) ≡ reports_all d w xs ++ reports_all d (after_all d w xs) ys
  reports-append w [] ys = refl
  reports-append w (x ∷ xs) ys =
      ap (λ (l : List ℕ). d.reports w x ++ l) (reports-append (d.after w x) xs ys)
      ∙ sym (append_assoc (d.reports w x) (reports_all d (d.after w x) xs) (reports_all d (after_all d (d.after w x) xs) ys))

  -- the state after the bytes of two parts
  after-both : (w : W) (pending a b : List ℕ) → after_all d w (characters pending (a ++ b))
      ≡ after_all d (after_all d w (characters pending a)) (characters (pending_after pending a) b)
  after-both w pending a b =
      ap (λ (cs : List ℕ). after_all d w cs) (characters-append pending a b)
      ∙ after-append w (characters pending a) (characters (pending_after pending a) b)

  pub dialect_append : (w : W) (t : Tracer) (pending a b : List ℕ) → dialect_trace d w t pending (a ++ b)
      ≡ dialect_trace d w t pending a
      ++ dialect_trace d (after_all d w (characters pending a)) (dialect_tracer d w t pending a) (pending_after pending a) b
  unfolding dialect_trace dialect_tracer
  dialect_append w t pending [] b = refl
  dialect_append w t pending (x ∷ a) b =
      let cs : List ℕ = (read pending x).characters in
      let next : W = after_all d w cs in
      let e : Option Happening = completed d w cs in
      let u : Tracer = tracer_as t x e in
      let q : List ℕ = (read pending x).pending in
      let left : List ℕ = pending_after q a in
      ap (λ (l : List ℕ). traced_as d.names t x e ++ l)
      (dialect_append next u q a b
      ∙ ap (λ (z : W). dialect_trace d next u q a ++ dialect_trace d z (dialect_tracer d next u q a) left b)
      (sym (after-append w cs (characters q a))))
      ∙ sym (append_assoc (traced_as d.names t x e) (dialect_trace d next u q a)
      (dialect_trace d (after_all d w (characters pending (x ∷ a))) (dialect_tracer d next u q a) left b))

  pub dialect_tracers : (w : W) (t : Tracer) (pending a b : List ℕ) → dialect_tracer d w t pending (a ++ b)
      ≡ dialect_tracer d (after_all d w (characters pending a)) (dialect_tracer d w t pending a) (pending_after pending a) b
  unfolding dialect_tracer
  dialect_tracers w t pending [] b = refl
  dialect_tracers w t pending (x ∷ a) b =
      let cs : List ℕ = (read pending x).characters in
      let next : W = after_all d w cs in
      let u : Tracer = tracer_as t x (completed d w cs) in
      let q : List ℕ = (read pending x).pending in
      dialect_tracers next u q a b
      ∙ ap (λ (z : W). dialect_tracer d z (dialect_tracer d next u q a) (pending_after q a) b)
      (sym (after-append w cs (characters q a)))

  pub traces_nothing : (w : W) (t : Tracer) (pending before old : List ℕ) → Traces d w t pending [] w t pending before before old old
  unfolding dialect_trace dialect_tracer
  traces_nothing w t pending before old = record {
    state = refl;
    left = refl;
    reports = sym (append-nil before);
    tracer = refl;
    lines = sym (append-nil old);
  }

  pub traces_both : (w z y : W) (t u v : Tracer) (pending after left a b before mid out old cur new : List ℕ)
      → Traces d w t pending a z u after before mid old cur → Traces d z u after b y v left mid out cur new
      → Traces d w t pending (a ++ b) y v left before out old new
  traces_both w z y t u v pending after left a b before mid out old cur new first second =
      let xs : List ℕ = characters pending a in
      let ys : List ℕ = characters after b in
      let one : List ℕ = dialect_trace d w t pending a in
      let state : after_all d w (characters pending (a ++ b)) ≡ after_all d z ys =
      after-both w pending a b ∙ rw (← first.state, ← first.left) refl in
      let told : reports_all d w (characters pending (a ++ b)) ≡ reports_all d w xs ++ reports_all d z ys =
      ap (λ (cs : List ℕ). reports_all d w cs) (characters-append pending a b)
      ∙ reports-append w xs (characters (pending_after pending a) b) ∙ rw (← first.state, ← first.left) refl in
      let lines : dialect_trace d w t pending (a ++ b) ≡ one ++ dialect_trace d z u after b =
      dialect_append w t pending a b ∙ rw (← first.state, ← first.left, ← first.tracer) refl in
      let tracer : dialect_tracer d w t pending (a ++ b) ≡ dialect_tracer d z u after b =
      dialect_tracers w t pending a b ∙ rw (← first.state, ← first.left, ← first.tracer) refl in
      record {
        state = second.state ∙ sym state;
        left = second.left ∙ ap (λ (q : List ℕ). pending_after q b) first.left ∙ sym (pending-append pending a b);
        reports = second.reports ∙ ap (λ (o : List ℕ). o ++ reports_all d z ys) first.reports
            ∙ append_assoc before (reports_all d w xs) (reports_all d z ys) ∙ ap (λ (r : List ℕ). before ++ r) (sym told);
        tracer = second.tracer ∙ sym tracer;
        lines = second.lines ∙ ap (λ (o : List ℕ). o ++ dialect_trace d z u after b) first.lines
            ∙ append_assoc old one (dialect_trace d z u after b) ∙ ap (λ (l : List ℕ). old ++ l) (sym lines);
      }

-- ---- a part

all_ascii : (b : ℕ) (bytes : List ℕ) → b < 0x80 → All (λ b. b < 0x80) bytes → All (λ b. b < 0x80) (b ∷ bytes)
all_ascii b bytes low all zero d less = low
all_ascii b bytes low all (suc k) d less = all k d (omega (arith, less))

-- ASCII bytes at the front of a piece that begins with one
pub front_ascii : (piece : List ℕ) (k : ℕ) → 1 ≤ length piece → slice_index piece 0 < 0x80
    → All (λ b. b < 0x80) (take k (drop 1 piece)) → All (λ b. b < 0x80) (take (k + 1) piece)
front_ascii [] k some low all = absurd (omega (arith, some))
front_ascii (b ∷ bytes) k some low all =
    let one : take (k + 1) (b ∷ bytes) ≡ b ∷ take k bytes = simp unary_clauses refl in
    rw one (all_ascii b (take k bytes) low all)

pub shorter_ascii : (n : ℕ) (bytes : List ℕ) → All (λ b. b < 0x80) bytes → All (λ b. b < 0x80) (take n bytes)
shorter_ascii zero bytes all = λ k d less. absurd (omega (arith, less))
shorter_ascii (suc n) [] all = λ k d less. absurd (omega (arith, less))
shorter_ascii (suc n) (b ∷ bytes) all = all_ascii b (take n bytes) (all 0 0 (omega arith)) (shorter_ascii n bytes (tail_of b bytes all))

-- the front of a run
pub run_front : (piece : List ℕ) (k n : ℕ) → n ≤ length (take k piece) → take n (take k piece) ≡ take n piece
run_front piece k n within =
    let long = simp length-take at within in take-take n k piece (omega (arith, long))

-- a character is whole in its own bytes
pub whole_apart : (piece : List ℕ) (c k n : ℕ) → IsWhole (take k piece) c n → IsWhole (take n piece) c (length (take n piece))
whole_apart piece c k n whole =
    let long = simp length-take at whole.within in
    let same : take n (take k piece) ≡ take n piece = take-take n k piece (omega (arith, long)) in
    let size : length (take n piece) ≡ n = simp length-take (omega (arith, long)) in
    record {
      some = omega (arith, size, whole.some);
      within = omega arith;
      characters = rw (take-length (take n piece)) (rw same at whole.characters);
      pending = rw (take-length (take n piece)) (rw same at whole.pending);
    }

module _ {W : Type 0} (d : Dialect W) where
  pub traces_whole : (w z : W) (t u : Tracer) (c : ℕ) (bytes before out old new : List ℕ) → IsWhole bytes c (length bytes)
      → 0x80 ≤ c → z ≡ d.after w c → d.reports w c ≡ [] → out ≡ before → new ≡ old ++ beyond_lines t bytes
      → u ≡ beyond_tracer t bytes → Traces d w t [] bytes z u [] before out old new
  traces_whole w z t u c bytes before out old new whole high state silent same lines tracer =
      let one : characters [] bytes ≡ c ∷ [] = rw (take-length bytes) at whole.characters in
      let none : pending_after [] bytes ≡ [] = rw (take-length bytes) at whole.pending in
      let all : AreBeyond (characters [] bytes) = rw one (high, tt) in
      record {
        state = state ∙ ap (λ (cs : List ℕ). after_all d w cs) (sym one);
        left = sym none;
        reports = same ∙ sym (append-nil before) ∙ ap (λ (r : List ℕ). before ++ r)
            (sym (ap (λ (cs : List ℕ). reports_all d w cs) one ∙ append-nil (d.reports w c) ∙ silent));
        tracer = tracer ∙ sym (beyond_read d w t [] bytes all);
        lines = lines ∙ ap (λ (l : List ℕ). old ++ l) (sym (beyond_traced d w t [] bytes all));
      }

  -- ---- a byte

  completed_after : (w y : W) (lost last : Option ℕ) → IfSome lost (λ c. c ≡ replacement) → y ≡ after_all d w (option_to_list lost)
      → completed d w (option_to_list lost ++ option_to_list last) ≡ completed d y (option_to_list last)
  completed_after w y None last is state = ap (λ (z : W). completed d z (option_to_list last)) (sym state)
  completed_after w y (Some e) None is state =
      let high : 0x80 ≤ e = rw is (omega arith) in rw (not_ascii e high) refl
  completed_after w y (Some e) (Some c) is state = ap (λ (z : W). completed d z (c ∷ [])) (sym state)

  pub traces_byte : (w y z : W) (t u : Tracer) (pending : List ℕ) (b : ℕ) (lost last : Option ℕ) (after before out old new : List ℕ)
      → option_to_list lost ++ option_to_list last ≡ (read pending b).characters → IfSome lost (λ c. c ≡ replacement)
      → after ≡ (read pending b).pending → y ≡ after_all d w (option_to_list lost)
      → reports_all d w (option_to_list lost) ≡ [] → z ≡ after_all d y (option_to_list last)
      → out ≡ before ++ reports_all d y (option_to_list last)
      → new ≡ old ++ traced_as d.names t b (completed d y (option_to_list last))
      → u ≡ tracer_as t b (completed d y (option_to_list last))
      → Traces d w t pending (b ∷ []) z u after before out old new
  unfolding dialect_trace dialect_tracer
  traces_byte w y z t u pending b lost last after before out old new are is left first silent second told lines tracer =
      let xs = option_to_list lost in
      let ys = option_to_list last in
      let cs : List ℕ = (read pending b).characters in
      let same : completed d w cs ≡ completed d y ys =
      ap (λ (cs : List ℕ). completed d w cs) (sym are) ∙ completed_after w y lost last is first in
      let whole : xs ++ ys ≡ cs ++ [] = are ∙ sym (append-nil cs) in
      let state : after_all d y ys ≡ after_all d w (cs ++ []) =
      ap (λ (x : W). after_all d x ys) first ∙ sym (after-append d w xs ys) ∙ ap (λ (l : List ℕ). after_all d w l) whole in
      let reported : reports_all d y ys ≡ reports_all d w (cs ++ []) =
      ap (λ (x : W). reports_all d x ys) first
      ∙ ap (λ (l : List ℕ). l ++ reports_all d (after_all d w xs) ys) (sym silent)
      ∙ sym (reports-append d w xs ys) ∙ ap (λ (l : List ℕ). reports_all d w l) whole in
      record {
        state = second ∙ state;
        left = left;
        reports = told ∙ ap (λ (l : List ℕ). before ++ l) reported;
        tracer = tracer ∙ ap (λ (h : Option Happening). tracer_as t b h) (sym same);
        lines = lines ∙ ap (λ (h : Option Happening). old ++ traced_as d.names t b h) (sym same)
            ∙ ap (λ (l : List ℕ). old ++ l) (sym (append-nil (traced_as d.names t b (completed d w cs))));
      }

-- ---- a VT220

-- what happens at ASCII characters is what happens at their bytes
happens-ascii : (s : State) (bytes : List ℕ) → All (λ b. b < 0x80) bytes → happens_all vt220_dialect s bytes ≡ happenings s bytes
happens-ascii s [] all = refl
happens-ascii s (b ∷ bytes) all =
    let own : (play s (translation s b)).state ≡ (play s (b ∷ [])).state =
    ap (λ (l : List ℕ). (play s l).state) (translation-ascii s b (all 0 0 (omega arith))) in
    ap (λ (hs : List Happening). happening s b ∷ hs)
    (happens-ascii (play s (translation s b)).state bytes (tail_of b bytes all) ∙ ap (λ (u : State). happenings u bytes) own)

pub ascii_traced : (s : State) (t : Tracer) (bytes : List ℕ) → All (λ b. b < 0x80) bytes → trace_utf8 s t [] bytes ≡ trace s t bytes
ascii_traced s t bytes all =
    ascii_told vt220_dialect s t bytes all
    ∙ ap (λ (hs : List Happening). traced_told name_on t hs) (happens-ascii s bytes all) ∙ trace-happened s t bytes

pub ascii_tracer : (s : State) (t : Tracer) (bytes : List ℕ) → All (λ b. b < 0x80) bytes
    → tracer_utf8 s t [] bytes ≡ tracer_all s t bytes
ascii_tracer s t bytes all =
    ascii_left vt220_dialect s t bytes all
    ∙ ap (λ (hs : List Happening). tracer_told t hs) (happens-ascii s bytes all) ∙ tracer-happened s t bytes

module _ {size : Size} (none : (s : State) → IsSoundAt size s → play s [] ≡ record { state = s; reports = [] })
    (two : (s : State) (a b : List ℕ) → play s (a ++ b) ≡ both (play s a) (play (play s a).state b))
    (keeps : (s : State) (bytes : List ℕ) → IsSoundAt size s → IsSoundAt size (play s bytes).state) where
  -- the state and the reports after characters are those after their bytes
  all_state : (s : State) (cs : List ℕ) → IsSoundAt size s → after_all vt220_dialect s cs ≡ (play s (translated_all s cs)).state
  all_state s [] sound = sym (ap (λ (p : Played). p.state) (none s sound))
  all_state s (c ∷ cs) sound =
      let own : List ℕ = translation s c in
      let next : State = (play s own).state in
      all_state next cs (keeps s own sound) ∙ sym (ap (λ (p : Played). p.state) (two s own (translated_all next cs)))

  all_reports : (s : State) (cs : List ℕ) → IsSoundAt size s → reports_all vt220_dialect s cs ≡ (play s (translated_all s cs)).reports
  all_reports s [] sound = sym (ap (λ (p : Played). p.reports) (none s sound))
  all_reports s (c ∷ cs) sound =
      let own : List ℕ = translation s c in
      let next : State = (play s own).state in
      ap (λ (l : List ℕ). (play s own).reports ++ l) (all_reports next cs (keeps s own sound))
      ∙ sym (ap (λ (p : Played). p.reports) (two s own (translated_all next cs)))

  pub utf8_state : (s : State) (pending bytes : List ℕ) → IsSoundAt size s
      → after_all vt220_dialect s (characters pending bytes) ≡ (play_utf8 s pending bytes).state
  unfolding play_utf8 translated
  utf8_state s pending bytes sound = all_state s (characters pending bytes) sound

  pub utf8_reports : (s : State) (pending bytes : List ℕ) → IsSoundAt size s
      → reports_all vt220_dialect s (characters pending bytes) ≡ (play_utf8 s pending bytes).reports
  unfolding play_utf8 translated
  utf8_reports s pending bytes sound = all_reports s (characters pending bytes) sound

  pub trace_append : (s : State) (t : Tracer) (pending a b : List ℕ) → IsSoundAt size s → trace_utf8 s t pending (a ++ b)
      ≡ trace_utf8 s t pending a
      ++ trace_utf8 (play_utf8 s pending a).state (tracer_utf8 s t pending a) (pending_after pending a) b
  trace_append s t pending a b sound =
      dialect_append vt220_dialect s t pending a b
      ∙ ap (λ (z : State). trace_utf8 s t pending a ++ trace_utf8 z (tracer_utf8 s t pending a) (pending_after pending a) b)
      (utf8_state s pending a sound)

  pub tracer_append : (s : State) (t : Tracer) (pending a b : List ℕ) → IsSoundAt size s → tracer_utf8 s t pending (a ++ b)
      ≡ tracer_utf8 (play_utf8 s pending a).state (tracer_utf8 s t pending a) (pending_after pending a) b
  tracer_append s t pending a b sound =
      dialect_tracers vt220_dialect s t pending a b
      ∙ ap (λ (z : State). tracer_utf8 z (tracer_utf8 s t pending a) (pending_after pending a) b) (utf8_state s pending a sound)

  -- ASCII bytes that were traced as a VT220's
  pub traces_ascii : (s z : State) (t u : Tracer) (bytes before out old new : List ℕ) → IsSoundAt size s
      → All (λ b. b < 0x80) bytes → play_utf8 s [] bytes ≡ play s bytes
      → z ≡ (play s bytes).state → out ≡ before ++ (play s bytes).reports → new ≡ old ++ trace s t bytes
      → u ≡ tracer_all s t bytes → Traces vt220_dialect s t [] bytes z u [] before out old new
  traces_ascii s z t u bytes before out old new sound all same state told lines tracer = record {
    state = state ∙ sym (utf8_state s [] bytes sound ∙ ap (λ (p : Played). p.state) same);
    left = sym (ascii-pending bytes all);
    reports = told ∙ ap (λ (l : List ℕ). before ++ l) (sym (utf8_reports s [] bytes sound ∙ ap (λ (p : Played). p.reports) same));
    tracer = tracer ∙ sym (ascii_tracer s t bytes all);
    lines = lines ∙ ap (λ (l : List ℕ). old ++ l) (sym (ascii_traced s t bytes all));
  }
