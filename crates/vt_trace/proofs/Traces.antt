-- The trace of bytes in chunks.
use Rattle.std.proofs.Common.{◌≡◌, ℕ, List, [], ◌∷◌, ◌++◌, sym, ap, ◌∙◌, append_assoc, ◌+◌, ◌-◌, ◌≤◌, ◌<◌, add-zero, length, take, drop, length-drop, slice_index, arith}
use Rattle.std.proofs.lemmas.List.{take_more}
use Rattle.std.proofs.Math.Seq.{take-length}
use Rattle.vt_term.specs.State.{State}
use Rattle.vt_screen.specs.declared.size.Size.{Size}
use Rattle.vt_term.specs.Sound.{IsSoundAt}
use Rattle.vt_term.specs.Play.{Played, play, both}
use Rattle.vt_trace.specs.declared.tracing.Tracer.{Tracer}
use Rattle.vt_trace.specs.Trace.{traced, tracer_after, trace, tracer_all}

abbrev pub Plays : Type 0
Plays = (s : State) (a b : List ℕ) → play s (a ++ b) ≡ both (play s a) (play (play s a).state b)

abbrev pub Rests : Size → Type 0
Rests size = (s : State) → IsSoundAt size s → play s [] ≡ record { state = s; reports = [] }

abbrev pub Keeps : Size → Type 0
Keeps size = (s : State) (bytes : List ℕ) → IsSoundAt size s → IsSoundAt size (play s bytes).state

-- bytes after a byte
behind : Plays → (s : State) (x : ℕ) (bytes : List ℕ)
    → (play (play s (x ∷ [])).state bytes).state ≡ (play s (x ∷ bytes)).state
behind plays s x bytes = ap (λ (p : Played). p.state) (sym (plays s (x ∷ []) bytes))

pub trace-append : {size : Size} → Plays → Rests size → Keeps size → (s : State) (t : Tracer) (a b : List ℕ) → IsSoundAt size s
    → trace s t (a ++ b) ≡ trace s t a ++ trace (play s a).state (tracer_all s t a) b
unfolding trace tracer_all
trace-append plays rests keeps s t [] b i = ap (λ (p : Played). trace p.state t b) (sym (rests s i))
trace-append plays rests keeps s t (x ∷ a) b i =
    let next : State = (play s (x ∷ [])).state in
    let u : Tracer = tracer_after s t x in
    let more = trace-append plays rests keeps next u a b (keeps s (x ∷ []) i) in
    ap (λ (l : List ℕ). traced s t x ++ l)
    (more ∙ ap (λ (v : State). trace next u a ++ trace v (tracer_all next u a) b) (behind plays s x a))
    ∙ sym (append_assoc (traced s t x) (trace next u a) (trace (play s (x ∷ a)).state (tracer_all next u a) b))

pub tracer-append : {size : Size} → Plays → Rests size → Keeps size → (s : State) (t : Tracer) (a b : List ℕ) → IsSoundAt size s
    → tracer_all s t (a ++ b) ≡ tracer_all (play s a).state (tracer_all s t a) b
unfolding tracer_all
tracer-append plays rests keeps s t [] b i = ap (λ (p : Played). tracer_all p.state t b) (sym (rests s i))
tracer-append plays rests keeps s t (x ∷ a) b i =
    let next : State = (play s (x ∷ [])).state in
    let u : Tracer = tracer_after s t x in
    tracer-append plays rests keeps next u a b (keeps s (x ∷ []) i)
    ∙ ap (λ (v : State). tracer_all v (tracer_all next u a) b) (behind plays s x a)

-- ---- one more byte

abbrev pub Lines : Size → Type 0
Lines size = (s : State) (t : Tracer) (a b : List ℕ) → IsSoundAt size s
    → trace s t (a ++ b) ≡ trace s t a ++ trace (play s a).state (tracer_all s t a) b

abbrev pub Tracers : Size → Type 0
Tracers size = (s : State) (t : Tracer) (a b : List ℕ) → IsSoundAt size s
    → tracer_all s t (a ++ b) ≡ tracer_all (play s a).state (tracer_all s t a) b

pub more-state : Plays → (s u v : State) (front part : List ℕ) → u ≡ (play s front).state
    → v ≡ (play u part).state → v ≡ (play s (front ++ part)).state
more-state plays s u v front part is then =
    then ∙ ap (λ (w : State). (play w part).state) is
    ∙ ap (λ (p : Played). p.state) (sym (plays s front part))

pub more-reports : Plays → (s u : State) (front part before out more : List ℕ) → u ≡ (play s front).state
    → out ≡ before ++ (play s front).reports → more ≡ out ++ (play u part).reports
    → more ≡ before ++ (play s (front ++ part)).reports
more-reports plays s u front part before out more is was then =
    let second : List ℕ = (play (play s front).state part).reports in
    then ∙ ap (λ (w : State). out ++ (play w part).reports) is
    ∙ ap (λ (l : List ℕ). l ++ second) was
    ∙ append_assoc before (play s front).reports second
    ∙ ap (λ (p : Played). before ++ p.reports) (sym (plays s front part))

pub more-lines : {size : Size} → Lines size → (s u : State) (t v : Tracer) (front part before out more : List ℕ) → IsSoundAt size s
    → u ≡ (play s front).state → v ≡ tracer_all s t front → out ≡ before ++ trace s t front
    → more ≡ out ++ trace u v part → more ≡ before ++ trace s t (front ++ part)
more-lines lines s u t v front part before out more i is tracer was then =
    let w : State = (play s front).state in
    let last : List ℕ = trace w (tracer_all s t front) part in
    then ∙ ap (λ (x : State). out ++ trace x v part) is
    ∙ ap (λ (x : Tracer). out ++ trace w x part) tracer
    ∙ ap (λ (l : List ℕ). l ++ last) was
    ∙ append_assoc before (trace s t front) last
    ∙ ap (λ (l : List ℕ). before ++ l) (sym (lines s t front part i))

pub more-tracer : {size : Size} → Tracers size → (s u : State) (t v w : Tracer) (front part : List ℕ) → IsSoundAt size s
    → u ≡ (play s front).state → v ≡ tracer_all s t front → w ≡ tracer_all u v part
    → w ≡ tracer_all s t (front ++ part)
more-tracer tracers s u t v w front part i is was then =
    then ∙ ap (λ (x : State). tracer_all x v part) is
    ∙ ap (λ (x : Tracer). tracer_all (play s front).state x part) was
    ∙ sym (tracers s t front part i)

-- all of a front is taken
pub all_taken : (n k : ℕ) (piece : List ℕ) → n ≤ length (take k piece) → (n < length (take k piece) → ⊥)
    → take n (take k piece) ≡ take k piece
all_taken n k piece within all =
    let e : n ≡ length (take k piece) = omega (arith, within, all) in rw e (take-length (take k piece))

-- ---- the places

pub place_of_all : (s : State) (t : Tracer) (bytes : List ℕ) → (tracer_all s t bytes).place ≡ t.place + length bytes
unfolding tracer_all tracer_after
place_of_all s t [] = sym (add-zero t.place)
place_of_all s t (b ∷ bytes) =
    let next : t.place + 1 + length bytes ≡ t.place + length (b ∷ bytes) = omega arith in
    place_of_all (play s (b ∷ [])).state (tracer_after s t b) bytes ∙ next

-- the part of a chunk starting at a place, to its end
pub rest-of : (chunk : List ℕ) (at : ℕ) → take (length chunk - at) (drop at chunk) ≡ drop at chunk
rest-of chunk at =
    let e : length chunk - at ≡ length (drop at chunk) = sym (length-drop at chunk) in rw e (take-length (drop at chunk))

pub first_of : (chunk : List ℕ) → 1 ≤ length chunk → take 1 chunk ≡ slice_index chunk 0 ∷ []
first_of chunk some = take_more chunk 0 0 (omega (arith, some))
