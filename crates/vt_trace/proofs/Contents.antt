-- The bytes that go on a string write nothing.
use Rattle.std.proofs.Common.{◌≡◌, ℕ, zero, suc, ◌+◌, ◌-◌, ◌<◌, ◌≤◌, min, List, [], ◌∷◌, ◌++◌, Bool, true, false, cond}
use Rattle.std.proofs.Common.{refl, sym, ap, ◌∙◌, arith, length, take, drop, append-nil, append_assoc, length-take}
use Rattle.std.proofs.lemmas.List.{take_all, take_min, drop_more, take-append-drop}
use Rattle.std.proofs.Math.Seq.{take-append-add}
use Rattle.std.proofs.lemmas.Bool.Decides.{nat_tests}
use Rattle.std.specs.Prelude.{All, get_or, ◌==◌, ◌&&◌}
use Rattle.vt_syntax.specs.declared.held.Held.{Held}
use Rattle.vt_syntax.specs.declared.held.Held.TheVariants as held
use Rattle.vt_syntax.specs.Content.{goes_on as is_content}
use Rattle.vt_syntax.specs.Held.{events_from, held_from, IsHeldPart}
use Rattle.vt_syntax.specs.Items.{ends_string}
use Rattle.vt_syntax.specs.Laws.{SplitLaw}
use Rattle.vt_syntax.specs.Steps.{Step, step_to, step_of}
use Rattle.vt_syntax.proofs.Cutting.{read_step}
use Rattle.vt_trace.specs.declared.tracing.Tracer.{Tracer}
use Rattle.vt_trace.specs.Skipped.{is_empty}
use Rattle.vt_trace.specs.Trace.{is_nothing, is_string, cuts_off, ends_silent, item_place, item_first, code_after, skipped, goes_on}
use Rattle.vt_trace.specs.Observed.{AreRead, ArePassed, skim, skimmed, skipped_all, held_all}
use Rattle.vt_trace.proofs.Runs.{none_skipped, still_on, and_false, held_is}

take_both : (n : ℕ) (xs ys : List ℕ) → take n (take n xs ++ ys) ≡ take n (xs ++ ys)
take_both zero xs ys = refl
take_both (suc n) [] ys = refl
take_both (suc n) (x ∷ xs) ys = ap (λ (l : List ℕ). x ∷ l) (take_both n xs ys)

-- as many of the bytes as there is capacity for
pub kept : (xs bytes : List ℕ) (n : ℕ) → length xs ≤ 33 → n ≡ min (33 - length xs) (length bytes)
    → xs ++ take n bytes ≡ take 33 (xs ++ bytes)
kept xs bytes n few is =
    let m = 33 - length xs in
    let sum : length xs + m ≡ 33 = omega (arith, few) in
    ap (λ k. xs ++ take k bytes) is ∙ ap (λ (l : List ℕ). xs ++ l) (take_min m bytes) ∙ sym (take-append-add xs bytes m)
    ∙ ap (λ k. take k (xs ++ bytes)) sum

-- the tracer after bytes of a string
abbrev pub with_content : Tracer → List ℕ → Tracer
with_content t bytes = record t { place = t.place + length bytes; first = record { items = take 33 (t.first.items ++ bytes) } }

pub same_content : (t : Tracer) (n m : ℕ) (xs ys : List ℕ) → n ≡ m → xs ≡ ys
    → record t { place = n; first = record { items = xs } } ≡ record t { place = m; first = record { items = ys } }
same_content t n m xs ys place items =
    ap (λ k. record t { place = k; first = record { items = xs } }) place
    ∙ ap (λ (l : List ℕ). record t { place = m; first = record { items = l } }) items

pub no_content : (t : Tracer) → length t.first.items ≤ 33 → with_content t [] ≡ t
no_content t few =
    same_content t (t.place + 0) t.place (take 33 (t.first.items ++ [])) t.first.items (omega arith)
    (ap (λ (l : List ℕ). take 33 l) (append-nil t.first.items) ∙ take_all 33 t.first.items few)

pub more_content : (t : Tracer) (b : ℕ) (bytes : List ℕ)
    → with_content (with_content t (b ∷ [])) bytes ≡ with_content t (b ∷ bytes)
more_content t b bytes =
    let xs : List ℕ = t.first.items in
    same_content t (t.place + 1 + length bytes) (t.place + length (b ∷ bytes)) (take 33 (take 33 (xs ++ b ∷ []) ++ bytes))
    (take 33 (xs ++ b ∷ bytes)) (omega arith)
    (take_both 33 (xs ++ b ∷ []) bytes ∙ ap (λ (l : List ℕ). take 33 l) (append_assoc xs (b ∷ []) bytes))

module _ (osc : Bool) (part : IsHeldPart (held.Text osc)) where
  one_step : (b : ℕ) → is_content b ≡ true → step_of (held.Text osc) b ≡ step_to (held.Text osc) []
  unfolding step_of ends_string
  one_step b is = grind (arith, nat_tests, is)

  stays : (b : ℕ) → is_content b ≡ true → held_from (held.Text osc) (b ∷ []) ≡ held.Text osc
  stays b is = ap (λ (s : Step). s.held) (read_step (held.Text osc) b part ∙ one_step b is)

  no_escape : (b : ℕ) → is_content b ≡ true → (b == 0x1B) ≡ false
  no_escape b is = grind (arith, nat_tests, is)

  no_cut : (b : ℕ) → is_content b ≡ true → cuts_off (held.Text osc) b ≡ false
  no_cut b is = grind (arith, nat_tests, is)

  no_end : (b : ℕ) → is_content b ≡ true → ends_silent (held.Text osc) b ≡ false
  no_end b is =
      let empty : Bool = is_empty (events_from (held.Text osc) (b ∷ [])) in
      ap (λ (h : Held). empty && is_nothing h) (stays b is) ∙ and_false empty

  one_content : (t : Tracer) (b : ℕ) → is_content b ≡ true → skim (held.Text osc) t b ≡ with_content t (b ∷ [])
  one_content t b is =
      let h : Held = held.Text osc in
      ap (λ (k : Held). record {
        place = t.place + 1;
        begin = item_place t h b;
        in_text = goes_on t h b;
        code = code_after t.code true k b;
        first = record { items = cond (is_nothing k) [] (item_first t h b) };
      }) (stays b is)
      ∙ ap (λ (v : Bool). record {
        place = t.place + 1;
        begin = cond v t.place t.begin;
        in_text = goes_on t h b;
        code = t.code;
        first = record { items = take 33 (cond v [] t.first.items ++ b ∷ []) };
      }) (no_escape b is)
      ∙ ap (λ (v : Bool). record {
        place = t.place + 1;
        begin = t.begin;
        in_text = v;
        code = t.code;
        first = record { items = take 33 (t.first.items ++ b ∷ []) };
      }) (still_on t h b (no_cut b is) (no_end b is))

  content_passed : (bytes more : List ℕ) (t : Tracer) → length t.first.items ≤ 33 → All (λ b. is_content b ≡ true) bytes
      → ArePassed (held.Text osc) t (with_content t bytes) (bytes ++ more) more
  content_passed [] more t few all =
      let same = no_content t few in
      record {
        lines = ap (λ (w : Tracer). skipped_all (held.Text osc) w more) same;
        tracer = ap (λ (w : Tracer). skimmed (held.Text osc) w more) same;
        held = refl;
      }
  content_passed (b ∷ bytes) more t few all =
      let h : Held = held.Text osc in
      let is = all 0 0 (omega arith) in
      let l : List ℕ = bytes ++ more in
      let next : Tracer = with_content t (b ∷ []) in
      let long = length-take 33 (t.first.items ++ b ∷ []) in
      let rest = content_passed bytes more next (omega (arith, long)) (λ k d low. all (suc k) d (omega (arith, low))) in
      let same = sym (more_content t b bytes) in
      let one = one_content t b is in
      let on = stays b is in
      record {
        lines = ap (λ (w : Tracer). skipped_all h w more) same ∙ rest.lines
            ∙ sym (ap (λ (x : List ℕ). x ++ skipped_all (held_from h (b ∷ [])) (skim h t b) l)
            (none_skipped t h b (no_cut b is) (no_end b is))
            ∙ ap (λ (k : Held). skipped_all k (skim h t b) l) on ∙ ap (λ (w : Tracer). skipped_all h w l) one);
        tracer = ap (λ (w : Tracer). skimmed h w more) same ∙ rest.tracer
            ∙ sym (ap (λ (k : Held). skimmed k (skim h t b) l) on ∙ ap (λ (w : Tracer). skimmed h w l) one);
        held = rest.held ∙ sym (ap (λ (k : Held). held_all k l) on);
      }

-- a string goes on with the front of bytes
pub string_passed : (h : Held) (t u : Tracer) (bytes : List ℕ) (n : ℕ) → is_string h ≡ true → IsHeldPart h
    → length t.first.items ≤ 33 → All (λ b. is_content b ≡ true) (take n bytes) → u ≡ with_content t (take n bytes)
    → ArePassed h t u bytes (drop n bytes)
string_passed held.Nothing t u bytes n string part few all is = absurd cc
string_passed (held.Escape inters) t u bytes n string part few all is = absurd cc
string_passed (held.Control marker params full phase) t u bytes n string part few all is = absurd cc
string_passed held.Spoilt t u bytes n string part few all is = absurd cc
string_passed (held.Text osc) t u bytes n string part few all is =
    let passed = content_passed osc part (take n bytes) (drop n bytes) t few all in
    let whole = take-append-drop n bytes in
    record {
      lines = ap (λ (w : Tracer). skipped_all (held.Text osc) w (drop n bytes)) is ∙ passed.lines
          ∙ ap (λ (l : List ℕ). skipped_all (held.Text osc) t l) whole;
      tracer = ap (λ (w : Tracer). skimmed (held.Text osc) w (drop n bytes)) is ∙ passed.tracer
          ∙ ap (λ (l : List ℕ). skimmed (held.Text osc) t l) whole;
      held = passed.held ∙ ap (λ (l : List ℕ). held_all (held.Text osc) l) whole;
    }

-- ---- bytes that are read one after another

-- the rest of bytes adds to what is there what all of them give
pub record Gives (h k : Held) (t u : Tracer) (all rest old new : List ℕ) : Type 0 where
  pub lines : new ++ skipped_all k u rest ≡ old ++ skipped_all h t all
  pub tracer : skimmed k u rest ≡ skimmed h t all
  pub held : held_all k rest ≡ held_all h all

-- one byte more, and then those that go on a string
pub one_more : (h k m : Held) (t u v w : Tracer) (all old mid new : List ℕ) (at n : ℕ) (rest : List ℕ) → at < length all
    → Gives h k t u all (drop at all) old mid
    → new ≡ mid ++ skipped u k (get_or all at 0) → v ≡ skim k u (get_or all at 0) → m ≡ held_from k (get_or all at 0 ∷ [])
    → ArePassed m v w (drop (at + 1) all) rest → Gives h m t w all rest old new
one_more h k m t u v w all old mid new at n rest low was lines tracer held passed =
    let b = get_or all at 0 in
    let l : List ℕ = drop (at + 1) all in
    let more : drop at all ≡ b ∷ l = drop_more all at 0 low in
    record {
      lines = ap (λ (x : List ℕ). new ++ x) passed.lines
          ∙ ap (λ (x : List ℕ). x ++ skipped_all m v l) lines
          ∙ append_assoc mid (skipped u k b) (skipped_all m v l)
          ∙ ap (λ (x : Held). mid ++ (skipped u k b ++ skipped_all x v l)) held
          ∙ ap (λ (x : Tracer). mid ++ (skipped u k b ++ skipped_all (held_from k (b ∷ [])) x l)) tracer
          ∙ ap (λ (x : List ℕ). mid ++ skipped_all k u x) (sym more) ∙ was.lines;
      tracer = passed.tracer ∙ ap (λ (x : Held). skimmed x v l) held
          ∙ ap (λ (x : Tracer). skimmed (held_from k (b ∷ [])) x l) tracer
          ∙ ap (λ (x : List ℕ). skimmed k u x) (sym more) ∙ was.tracer;
      held = passed.held ∙ ap (λ (x : Held). held_all x l) held ∙ ap (λ (x : List ℕ). held_all k x) (sym more) ∙ was.held;
    }

pub all_read : SplitLaw → (h k : Held) (t u : Tracer) (all rest old new : List ℕ) → rest ≡ [] → IsHeldPart h
    → Gives h k t u all rest old new → AreRead h k t u all old new
all_read split h k t u all rest old new none part gives = record {
  lines = sym (append-nil new) ∙ ap (λ (l : List ℕ). new ++ skipped_all k u l) (sym none) ∙ gives.lines;
  tracer = ap (λ (l : List ℕ). skimmed k u l) (sym none) ∙ gives.tracer;
  held = ap (λ (l : List ℕ). held_all k l) (sym none) ∙ gives.held ∙ held_is split h all part;
}
