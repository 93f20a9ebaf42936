-- The laws of the observers of this crate. Impls of `Observer` cite them, and no public clause does.
use Rattle.std.specs.Prelude.{◌≡◌, ℕ, List, [], ◌∷◌, ◌++◌, ◌≤◌}
use Rattle.std.proofs.Common.{refl, sym, ap, ◌∙◌, arith, append_assoc, append-nil}
use Rattle.vt_feed.specs.Observing.{Happening, Byte, Does, AreJoined}
use Rattle.vt_xterm_display.specs.State.{XtermState}
use Rattle.vt_xterm_display.specs.Text.{rows_text}
use Rattle.vt_xterm_log.specs.Log.{lines_in, action_off, AreShort}

pub lines_in-append : (xs ys : List (Happening XtermState)) → lines_in (xs ++ ys) ≡ lines_in xs ++ lines_in ys
lines_in-append [] ys = refl
lines_in-append (Byte ∷ xs) ys = lines_in-append xs ys
lines_in-append (Does action s ∷ xs) ys =
    let line : List ℕ = rows_text (action_off action s) s.shown.grid in
    ap (λ (t : List ℕ). line ++ t) (lines_in-append xs ys) ∙ sym (append_assoc line (lines_in xs) (lines_in ys))

short-left : (limit : ℕ) (xs ys : List (Happening XtermState)) → AreShort limit (xs ++ ys) → AreShort limit xs
short-left limit [] ys short = tt
short-left limit (Byte ∷ xs) ys short = short-left limit xs ys short
short-left limit (Does action s ∷ xs) ys short = (short.0, short-left limit xs ys short.1)

short-right : (limit : ℕ) (xs ys : List (Happening XtermState)) → AreShort limit (xs ++ ys) → AreShort limit ys
short-right limit [] ys short = short
short-right limit (Byte ∷ xs) ys short = short-right limit xs ys short
short-right limit (Does action s ∷ xs) ys short = short-right limit xs ys short.1

-- what an observer that keeps lines saw
abbrev pub SawLines : {O N : Type 0} → (O → List ℕ) → (O → ℕ) → (O → ℕ) → (O → ℕ) → (O → ℕ) → (O → N) → O → List (Happening XtermState) → O → Type 0
SawLines lines len limit end room name o hs p =
    (name p ≡ name o) × (limit p ≡ limit o) × (end p ≡ end o) × (AreShort (limit o) hs → lines p ≡ lines o ++ lines_in hs)
    × (room o ≤ room p) × (len o ≤ end o → len p ≤ end o)

lines_more : (limit other : ℕ) (xs ys : List (Happening XtermState)) (a b c : List ℕ) → other ≡ limit → (AreShort limit xs → b ≡ a ++ lines_in xs)
    → (AreShort other ys → c ≡ b ++ lines_in ys) → AreShort limit (xs ++ ys) → c ≡ a ++ lines_in (xs ++ ys)
lines_more limit other xs ys a b c same first second short =
    second (rw same (short-right limit xs ys short))
    ∙ ap (λ (t : List ℕ). t ++ lines_in ys) (first (short-left limit xs ys short))
    ∙ append_assoc a (lines_in xs) (lines_in ys)
    ∙ ap (λ (t : List ℕ). a ++ t) (sym (lines_in-append xs ys))

pub lines_joined : {O N : Type 0} (lines : O → List ℕ) (len limit end room : O → ℕ) (name : O → N)
    → AreJoined {O = O} (SawLines lines len limit end room name)
lines_joined lines len limit end room name = record {
  nothing = λ o. (refl, refl, refl, λ short. sym (append-nil (lines o)), omega arith, λ fits. fits);
  more = λ o p q xs ys first second. (
    second.0 ∙ first.0,
    second.1 ∙ first.1,
    second.2 ∙ first.2,
    lines_more (limit o) (limit p) xs ys (lines o) (lines p) (lines q) first.1 first.3 second.3,
    omega (arith, first.4, second.4),
    λ fits. rw (← first.2) (second.5 (rw first.2 (first.5 fits))),
  );
}

pub both_joined : {S O A B : Type 0} (SawA : A → List (Happening S) → A → Type 0) (SawB : B → List (Happening S) → B → Type 0)
    (a : O → A) (b : O → B) → AreJoined {O = A} SawA → AreJoined {O = B} SawB
    → AreJoined {O = O} (λ o hs p. SawA (a o) hs (a p) × SawB (b o) hs (b p))
both_joined SawA SawB a b one other = record {
  nothing = λ o. (one.nothing (a o), other.nothing (b o));
  more = λ o p q xs ys first second. (
    one.more (a o) (a p) (a q) xs ys first.0 second.0,
    other.more (b o) (b p) (b q) xs ys first.1 second.1,
  );
}
