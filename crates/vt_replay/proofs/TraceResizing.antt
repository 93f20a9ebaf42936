-- The trace of bytes and changes of the size: a change, and the bytes after the changes that come before them.
use Rattle.std.proofs.Common.{◌≡◌, ◌∙◌, ◌+◌, ◌-◌, ◌≤◌, ◌++◌, ◌∷◌, [], ℕ, List, length, take, Bool, true, false, nat_lt, cond, append-nil, refl, sym, ap, arith, append_assoc}
use Rattle.std.proofs.lemmas.Bool.Decides.{nat_tests}
use Rattle.std.proofs.lemmas.List.{length-append, length-take-le}
use Rattle.vt_device.specs.Output.{IsAfter, always}
use Rattle.vt_screen.specs.declared.size.Size.{Size}
use Rattle.vt_trace.specs.declared.tracing.Tracer.{Tracer}
use Rattle.vt_trace.specs.Trace.{tracer_resized, end_lines}
use Rattle.vt_replay.specs.declared.resized.Resize.{Resize}
use Rattle.vt_replay.specs.Log.{lines_on}
use Rattle.vt_replay.specs.Resizes.{Session, kept_on, due, coming, is_settled, is_before}
use Rattle.vt_replay.specs.Traces.{TracedKept, traced, traced_on, traced_end_on}
use Rattle.vt_replay.proofs.LogResizing.{logs, none_left}

-- a change is to come
pub some_later : {L : Type 0} (items : List L) (left : ℕ) → is_settled left items ≡ false → 1 ≤ length items
some_later [] left comes = absurd (cc comes)
some_later (l ∷ items) left comes = omega arith

-- what is kept and the tracer, together
pub kept_with : {K : Type 0} (k next : K) (t u : Tracer) → k ≡ next → t ≡ u
    → ◌≡◌ {A = TracedKept K} (record { kept = k; tracer = t }) (record { kept = next; tracer = u })
kept_with k next t u is traces = λ ι. record { kept = is ι; tracer = traces ι }

-- both after a change
pub changed : {K L : Type 0} (m : Session K) (items : List L) (size : L → Size) (k next : K) (t u : Tracer)
    → ((l : L) (more : List L) → items ≡ l ∷ more → next ≡ m.on (size l) k)
    → ((l : L) (more : List L) → items ≡ l ∷ more → u ≡ tracer_resized t)
    → (l : L) (more : List L) → items ≡ l ∷ more
    → ◌≡◌ {A = TracedKept K} (record { kept = next; tracer = u }) ((traced m).on (size l) (record { kept = k; tracer = t }))
changed m items size k next t u on traces l more is = kept_with _ _ _ _ (on l more is) (traces l more is)

-- what is written of bytes, of which there are some
pub some_bytes : (bytes x y : List ℕ) → 1 ≤ length bytes → cond (nat_lt 0 (length bytes)) x y ≡ x
some_bytes bytes x y some = let is : nat_lt 0 (length bytes) ≡ true = grind (arith, nat_tests, some) in rw is refl

pub some_more : (chunk more : List ℕ) → 1 ≤ length chunk → 1 ≤ length (chunk ++ more)
some_more chunk more some = omega (arith, some, length-append chunk more)

-- the front of a chunk isn't empty
pub some_front : (n : ℕ) (chunk : List ℕ) → 1 ≤ n → n ≤ length chunk → 1 ≤ length (take n chunk)
some_front n chunk some within = omega (arith, some, length-take-le n chunk within)

-- what comes before it
pub begun_with : (old begun x y : List ℕ) → old ≡ [] → old ++ x ≡ begun ++ y → x ≡ begun ++ y
begun_with old begun x y empty is = ap (λ (l : List ℕ). l ++ x) (sym empty) ∙ is

-- the lines of no bytes are none, so they are the same with that test
pub or_none : (lines : List ℕ → List ℕ) (bytes : List ℕ) → lines [] ≡ [] → cond (nat_lt 0 (length bytes)) (lines bytes) [] ≡ lines bytes
or_none lines [] none = sym none
or_none lines (b ∷ bytes) none = some_bytes (b ∷ bytes) (lines (b ∷ bytes)) [] (omega arith)

pub none_held : (bytes early : List ℕ) → early ≡ [] → cond (nat_lt 0 (length bytes)) [] early ≡ []
none_held [] early none = none
none_held (b ∷ bytes) early none = some_bytes (b ∷ bytes) [] early (omega arith)

-- ---- changes before a chunk, the chunk before the next change, and the changes after it

module _ {L K : Type 0} (items held rest : List L) (after : L → ℕ) (size : L → Size) (m : Session K) (first k next last : K)
    (chunk begun fed_out out : List ℕ) (early left then : ℕ)
    (begins : (bytes : List ℕ) → lines_on m first (due early (coming items after size)) bytes
    ≡ begun ++ lines_on m k (due left (coming held after size)) bytes)
    (lines : (more : List ℕ) → m.lines k (chunk ++ more) ≡ m.lines k chunk ++ m.lines next more)
    (kept : (more : List ℕ) → m.after k (chunk ++ more) ≡ m.after next more)
    (takes : is_before (length chunk) left held ≡ true)
    (less : ℕ) (is_less : less ≡ left - length chunk)
    (fed_lines : fed_out ≡ begun ++ m.lines k chunk)
    (settles : (bytes : List ℕ) → fed_out ++ lines_on m next (due less (coming held after size)) bytes
    ≡ out ++ lines_on m last (due then (coming rest after size)) bytes)
    (settled : is_settled then rest ≡ true)
    (none : m.lines last [] ≡ []) where
  logs_before : (items : List L) → is_before (length chunk) left items ≡ true → (more : List ℕ)
      → lines_on m k (due left (coming items after size)) (chunk ++ more)
      ≡ m.lines k chunk ++ lines_on m next (due (left - length chunk) (coming items after size)) more
  logs_before [] takes more = lines more
  logs_before (l ∷ items) takes more =
      logs m k next chunk lines kept left (coming (l ∷ items) after size) more (grind (arith, nat_tests, takes))

  all_lines : (more : List ℕ) → lines_on m first (due early (coming items after size)) (chunk ++ more)
      ≡ out ++ lines_on m last (due then (coming rest after size)) more
  all_lines more =
      begins (chunk ++ more)
      ∙ ap (λ (x : List ℕ). begun ++ x) (logs_before held takes more)
      ∙ sym (append_assoc begun (m.lines k chunk) (lines_on m next (due (left - length chunk) (coming held after size)) more))
      ∙ ap (λ (x : List ℕ). x ++ lines_on m next (due (left - length chunk) (coming held after size)) more) (sym fed_lines)
      ∙ ap (λ (n : ℕ). fed_out ++ lines_on m next (due n (coming held after size)) more) (sym is_less)
      ∙ settles more

  pub all_written : out ≡ lines_on m first (due early (coming items after size)) chunk
  all_written =
      sym (append-nil out)
      ∙ ap (λ (x : List ℕ). out ++ x) (sym (none_left rest after size m last then settled none))
      ∙ sym (all_lines [])
      ∙ ap (λ (x : List ℕ). lines_on m first (due early (coming items after size)) x) (append-nil chunk)

  pub all_more : (more : List ℕ) → lines_on m first (due early (coming items after size)) (chunk ++ more)
      ≡ lines_on m first (due early (coming items after size)) chunk ++ lines_on m last (due then (coming rest after size)) more
  all_more more =
      all_lines more
      ∙ ap (λ (x : List ℕ). x ++ lines_on m last (due then (coming rest after size)) more) all_written

-- ---- the output after a chunk

pub trace_after : {K : Type 0} (m : Session K) (first last : TracedKept K) (resizes rest : List Resize) (chunk : List ℕ)
    → 1 ≤ length chunk
    → ((more : List ℕ) → lines_on (traced m) first resizes (chunk ++ more)
    ≡ lines_on (traced m) first resizes chunk ++ lines_on (traced m) last rest more)
    → ((more : List ℕ) → kept_on (traced m) first resizes (chunk ++ more) ≡ kept_on (traced m) last rest more)
    → lines_on (traced m) last rest [] ≡ []
    → IsAfter (λ x. traced_on m first resizes x) (λ x. traced_end_on m first resizes x) always chunk
    (λ x. traced_on m last rest x) (λ x. traced_end_on m last rest x) always
trace_after {K = K} m first last resizes rest chunk some lines kept none = record {
  on = λ more. some_bytes (chunk ++ more) (lines_on (traced m) first resizes (chunk ++ more)) [] (some_more chunk more some)
      ∙ lines more
      ∙ ap (λ (x : List ℕ). x ++ lines_on (traced m) last rest more)
      (sym (some_bytes chunk (lines_on (traced m) first resizes chunk) [] some))
      ∙ ap (λ (x : List ℕ). traced_on m first resizes chunk ++ x)
      (sym (or_none (λ (y : List ℕ). lines_on (traced m) last rest y) more none));
  end_on = λ more. ap (λ (x : List ℕ). x ++ end_lines (kept_on (traced m) first resizes (chunk ++ more)).tracer)
      (some_bytes (chunk ++ more) [] (lines_on (traced m) first resizes []) (some_more chunk more some))
      ∙ ap (λ (k : TracedKept K). end_lines k.tracer) (kept more)
      ∙ ap (λ (x : List ℕ). x ++ end_lines (kept_on (traced m) last rest more).tracer)
      (sym (none_held more (lines_on (traced m) last rest []) none));
  there_on = λ more. refl;
  none = refl;
}

-- ---- the end

-- the changes that come before the end are carried out, and the end of the trace is written
pub ended : {K : Type 0} (m : Session K) (first last : TracedKept K) (resizes rest : List Resize) (old out : List ℕ)
    → old ≡ [] → old ++ lines_on (traced m) first resizes [] ≡ out ++ lines_on (traced m) last rest []
    → lines_on (traced m) last rest [] ≡ []
    → kept_on (traced m) first resizes [] ≡ kept_on (traced m) last rest [] → kept_on (traced m) last rest [] ≡ last
    → traced_end_on m first resizes [] ≡ out ++ end_lines last.tracer
ended {K = K} m first last resizes rest old out empty lines none kept stays =
    let early : lines_on (traced m) first resizes [] ≡ out =
    ap (λ (x : List ℕ). x ++ lines_on (traced m) first resizes []) (sym empty) ∙ lines ∙ ap (λ (x : List ℕ). out ++ x) none ∙ append-nil out in
    ap (λ (x : List ℕ). x ++ end_lines (kept_on (traced m) first resizes []).tracer) early
    ∙ ap (λ (k : TracedKept K). out ++ end_lines k.tracer) (kept ∙ stays)
