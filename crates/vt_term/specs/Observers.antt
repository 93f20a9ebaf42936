-- The laws of the observers of this crate. Impls of `Observer` cite this, and no public clause does.
use Rattle.std.specs.Prelude.{◌≡◌, ℕ, ◌+◌, ◌*◌, ◌≤◌, ◌++◌, ◌∷◌, List, [], All, length, ⊤}
use Rattle.std.proofs.Common.{refl, sym, subst, ap, ◌∙◌, arith, append_assoc, append-nil, length-append}
use Rattle.std.specs.List.{flat_map}
use Rattle.std.proofs.lemmas.Grind.{flat_map-append}
use Rattle.std.proofs.lemmas.List.Elements.{All-nil, All-cons, All-head, All-tail}
use Rattle.vt_screen.specs.declared.cell.Cell.{Cell}
use Rattle.vt_syntax.specs.declared.event.Event.{Event}
use Rattle.vt_syntax.specs.Held.{events_from, IsHeldPart}
use Rattle.vt_syntax.specs.Laws.{SplitLaw}
use Rattle.vt_term.specs.State.{Display, State}
use Rattle.vt_term.specs.Sound.{IsSoundSized}
use Rattle.vt_term.specs.Functions.{effect}
use Rattle.vt_term.specs.Machines.{PrintsAlike, vt220}
use Rattle.vt_term.specs.Play.{play, after_events}
use Rattle.vt_term.specs.Scrolling.{line_off, lines_off, scrolled_off}
use Rattle.vt_term.specs.ScrollSteps.{IsShort, Logs}
use Rattle.vt_term.specs.Text.{line_text}
use Rattle.vt_term.specs.Happenings.{Happening, lines_in}
use Rattle.vt_term.specs.Observing.{AreJoined}

-- a VT220's display is all of its screens
pub vt220_prints : {K : Type 0} → PrintsAlike {K = K} vt220 (λ d k. d)
vt220_prints = record { display = λ d k. refl; effect = λ b d k. refl; report = λ b s. refl }

pub nobody_joined : {O : Type 0} → AreJoined {O = O} (λ o hs p. ⊤) (λ o n. ⊤)
nobody_joined = record {
  nothing = λ o. tt;
  more = λ o p q xs ys first second. tt;
  fewer = λ o m n few takes. tt;
  left = λ o p hs n saw takes. tt;
}

-- ---- the lines that scroll off, in parts

lines_off-append : (xs ys : List Event) (s : Display)
    → lines_off (xs ++ ys) s ≡ lines_off xs s ++ lines_off ys (after_events xs s)
lines_off-append [] ys s = refl
lines_off-append (x ∷ xs) ys s =
    ap (λ (t : List (List Cell)). line_off x s ++ t) (lines_off-append xs ys (effect x s))
    ∙ sym (append_assoc (line_off x s) (lines_off xs (effect x s)) (lines_off ys (after_events xs (effect x s))))

pub scrolled-append : SplitLaw → (s : State) (a b : List ℕ)
    → scrolled_off s (a ++ b) ≡ scrolled_off s a ++ scrolled_off (play s a).state b
unfolding scrolled_off play
scrolled-append split s a b =
    ap (λ (es : List Event). lines_off es s.display) (split.events_append s.held a b)
    ∙ lines_off-append (events_from s.held a) (events_from (play s a).state.held b) s.display

pub scrolled-none : SplitLaw → (s : State) → IsHeldPart s.held → scrolled_off s [] ≡ []
unfolding scrolled_off
scrolled-none split s part = rw (split.events_nil s.held part) refl

pub scrolled-nothing : SplitLaw → (s : State) → IsSoundSized s → scrolled_off s [] ≡ []
scrolled-nothing split s sound = scrolled-none split s sound.held

-- ---- the laws of the log and of two observers

more-bounded : (limit m n a b c k : ℕ) → b ≤ a + limit * m → c ≤ b + limit * n → k ≡ m + n → c ≤ a + limit * k
more-bounded limit m n a b c k first second is = rw is (omega (arith, first, second))

All-append_left : (P : Happening → Type 0) (xs ys : List Happening) → All P (xs ++ ys) → All P xs
All-append_left P [] ys all = All-nil P
All-append_left P (x ∷ xs) ys all =
    All-cons P x xs (All-head P x (xs ++ ys) all) (All-append_left P xs ys (All-tail P x (xs ++ ys) all))

All-append_right : (P : Happening → Type 0) (xs ys : List Happening) → All P (xs ++ ys) → All P ys
All-append_right P [] ys all = all
All-append_right P (x ∷ xs) ys all = All-append_right P xs ys (All-tail P x (xs ++ ys) all)

logs-nothing : (limit : ℕ) (xs : List ℕ) → Logs limit [] xs xs
logs-nothing limit xs = record { lines = λ short. sym (append-nil xs); bounded = omega arith }

logs-more : (limit : ℕ) (hs ks : List Happening) (xs ys zs : List ℕ) → Logs limit hs xs ys → Logs limit ks ys zs
    → Logs limit (hs ++ ks) xs zs
logs-more limit hs ks xs ys zs first second = record {
  lines = λ short. second.lines (All-append_right (IsShort limit) hs ks short)
      ∙ ap (λ (t : List ℕ). t ++ flat_map line_text (lines_in ks)) (first.lines (All-append_left (IsShort limit) hs ks short))
      ∙ append_assoc xs (flat_map line_text (lines_in hs)) (flat_map line_text (lines_in ks))
      ∙ ap (λ (t : List ℕ). xs ++ t) (sym (ap (λ (rows : List (List Cell)). flat_map line_text rows)
      (flat_map-append (λ h. h.lines) hs ks) ∙ flat_map-append line_text (lines_in hs) (lines_in ks)));
  bounded = more-bounded limit (length hs) (length ks) (length xs) (length ys) (length zs) (length (hs ++ ks)) first.bounded
      second.bounded (length-append hs ks);
}

pub lines_joined : {O N : Type 0} (lines : O → List ℕ) (len limit end room : O → ℕ) (name : O → N) → AreJoined {O = O}
    (λ o hs p. (name p ≡ name o) × (limit p ≡ limit o) × (end p ≡ end o) × Logs (limit o) hs (lines o) (lines p)
    × (room o ≤ room p) × (len o ≤ end o → len p ≤ end o))
    (λ o n. ⊤)
lines_joined lines len limit end room name = record {
  nothing = λ o. (refl, refl, refl, logs-nothing (limit o) (lines o), omega arith, λ fits. fits);
  more = λ o p q xs ys first second. (
    second.0 ∙ first.0,
    second.1 ∙ first.1,
    second.2 ∙ first.2,
    logs-more (limit o) xs ys (lines o) (lines p) (lines q) first.3
        (subst (λ n. Logs n ys (lines p) (lines q)) first.1 second.3),
    omega (arith, first.4, second.4),
    λ fits. rw (← first.2) (second.5 (rw first.2 (first.5 fits))),
  );
  fewer = λ o m n few takes. tt;
  left = λ o p hs n saw takes. tt;
}

pub both_joined : {O A B : Type 0} (SawA : A → List Happening → A → Type 0) (SawB : B → List Happening → B → Type 0)
    (TakesA : A → ℕ → Type 0) (TakesB : B → ℕ → Type 0) (a : O → A) (b : O → B)
    → AreJoined {O = A} SawA TakesA → AreJoined {O = B} SawB TakesB
    → AreJoined {O = O} (λ o hs p. SawA (a o) hs (a p) × SawB (b o) hs (b p))
    (λ o n. TakesA (a o) n × TakesB (b o) n)
both_joined SawA SawB TakesA TakesB a b one other = record {
  nothing = λ o. (one.nothing (a o), other.nothing (b o));
  more = λ o p q xs ys first second. (
    one.more (a o) (a p) (a q) xs ys first.0 second.0,
    other.more (b o) (b p) (b q) xs ys first.1 second.1,
  );
  fewer = λ o m n few takes. (one.fewer (a o) m n few takes.0, other.fewer (b o) m n few takes.1);
  left = λ o p hs n saw takes. (
    one.left (a o) (a p) hs n saw.0 takes.0,
    other.left (b o) (b p) hs n saw.1 takes.1,
  );
}
