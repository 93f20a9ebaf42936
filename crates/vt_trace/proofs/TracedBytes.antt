-- The trace of one byte.
use Rattle.std.proofs.Common.{◌≡◌, ℕ, ◌+◌, ◌≤◌, List, [], ◌∷◌, ◌++◌, take, length, refl, sym, ap, arith}
use Rattle.std.proofs.Common.{◌∙◌, append_assoc, append-nil, Bool, true, false, not, ◌||◌, ◌<◌, length-append, length-take}
use Rattle.std.proofs.lemmas.List.{take_all}
use Rattle.std.proofs.lemmas.Bool.Decides.{nat_tests}
use Rattle.std.specs.Prelude.{codes, nat_lt, ◌&&◌, if◌then◌else◌}
use Rattle.vt_syntax.specs.declared.held.Held.{Held}
use Rattle.vt_syntax.specs.Held.{held_from}
use Rattle.vt_trace.specs.declared.tracing.Tracer.{Tracer}
use Rattle.vt_trace.specs.Lines.{shown}
use Rattle.vt_trace.specs.Observed.{skim}
use Rattle.vt_trace.specs.Skipped.{first_column, skipped_line}
use Rattle.vt_trace.specs.Trace.{begins, is_nothing, is_string, cuts_off, ends_silent, text_end}
use Rattle.vt_trace.specs.Trace.{code_after, ended_kind, open_lines, skipped, goes_on}

-- the first bytes of an item, and one more
pub fits : (bytes : List ℕ) (b : ℕ) → length bytes < 33 → take 33 (bytes ++ b ∷ []) ≡ bytes ++ b ∷ []
fits bytes b low =
    let len : length (bytes ++ b ∷ []) ≡ length bytes + 1 = length-append bytes (b ∷ []) in
    take_all 33 (bytes ++ b ∷ []) (omega (arith, low, len))

pub front_of : (bytes more : List ℕ) → take (length bytes) (bytes ++ more) ≡ bytes
front_of [] more = refl
front_of (x ∷ bytes) more = ap (λ (l : List ℕ). x ∷ l) (front_of bytes more)

pub is_full : (bytes : List ℕ) (b : ℕ) → length bytes ≡ 33 → take 33 (bytes ++ b ∷ []) ≡ bytes
is_full bytes b long = ap (λ n. take n (bytes ++ b ∷ [])) (sym long) ∙ front_of bytes (b ∷ [])

-- the first bytes that a line shows
pub first_long : (bytes : List ℕ) → 32 < length bytes → length (take 32 bytes) ≡ 32
first_long bytes long = length-take 32 bytes ∙ omega (arith, long)

pub first_short : (bytes : List ℕ) → length bytes ≤ 32 → shown bytes ≡ first_column bytes
first_short bytes low =
    let over : nat_lt 32 (length bytes) ≡ false = grind (arith, nat_tests, low) in
    sym (ap (λ (v : Bool). shown (take 32 bytes) ++ (if v then codes ".." else [])) over
    ∙ append-nil (shown (take 32 bytes)) ∙ ap shown (take_all 32 bytes low))

pub no_items : (xs : List ℕ) → length xs ≡ 0 → xs ≡ []
no_items [] none = refl
no_items (x ∷ xs) none = absurd cc

-- the tracer with a byte added to its item
abbrev added : Tracer → Bool → ℕ → Tracer
added t v b = record t {
  begin = if v then t.place else t.begin;
  first = record { items = take 33 ((if v then [] else t.first.items) ++ b ∷ []) };
}

-- and then after the byte
abbrev stepped : Tracer → Bool → Bool → ℕ → Bool → Tracer
stepped u cut ended code between = record {
  place = u.place + 1;
  begin = u.begin;
  in_text = u.in_text && not (cut || ended);
  code = code;
  first = record { items = if between then [] else u.first.items };
}

either : (v : Bool) (xs ys : List ℕ) → (if v then xs else []) ++ (if v then [] else ys) ≡ (if v then xs else ys)
either true xs ys = append-nil xs
either false xs ys = refl

module _ (t u : Tracer) (h : Held) (b : ℕ) (v cut ended : Bool) (kind code : ℕ) (adds : u ≡ added t v b)
    (is_v : v ≡ begins h b) (cuts : cut ≡ cuts_off h b) (ends : ended ≡ ends_silent h b) where
  pub the_lines : (old one two : List ℕ) → kind ≡ ended_kind t.code h b
      → one ≡ old ++ (if cut then open_lines t else [])
      → two ≡ one ++ (if cut then [] else (if ended then text_end u.in_text ++ skipped_line u.begin kind u.first.items else []))
      → two ≡ old ++ skipped t h b
  unfolding skipped
  the_lines old one two kind_is is then_so =
      let front : List ℕ = if cut then open_lines t else [] in
      let line : List ℕ = if ended then text_end u.in_text ++ skipped_line u.begin kind u.first.items else [] in
      let made : (if cut then open_lines t else line) ≡ skipped t h b = rw (adds, is_v, cuts, ends, kind_is) refl in
      then_so ∙ ap (λ (l : List ℕ). l ++ (if cut then [] else line)) is
      ∙ append_assoc old front (if cut then [] else line)
      ∙ ap (λ (l : List ℕ). old ++ l) (either cut (open_lines t) line ∙ made)

  pub the_tracer : (w : Tracer) (between : Bool) → code ≡ code_after t.code (is_string h) (held_from h (b ∷ [])) b
      → between ≡ is_nothing (held_from h (b ∷ [])) → w ≡ stepped u cut ended code between → w ≡ skim h t b
  unfolding goes_on
  the_tracer w between code_is between_is is = is ∙ rw (adds, is_v, cuts, ends, code_is, between_is) refl
