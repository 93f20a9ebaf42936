-- The places for lines. Contracts of private functions and of `Log` cite this, and no other public clause does.
use Rattle.std.specs.Prelude.{◌≡◌, ◌≤◌, ◌<◌, ◌+◌, ◌⊎◌, ℕ, List, [], ◌++◌, flat_map, ⊤}
use Rattle.std.proofs.Common.{refl, sym, ap, ◌∙◌, inl, inr, arith, append_assoc, append-nil}
use Rattle.std.proofs.lemmas.Grind.{flat_map-append}
use Rattle.vt_screen.specs.declared.cell.Cell.{Cell}
use Rattle.vt_term.specs.Text.{line_text}

-- no lines change nothing, and lines in turn are the lines joined. Capacity for some bytes is capacity for fewer, and
-- if there is none for some bytes there is none for more
pub record AreKept {O : Type 0} (Keeps : O → List (List Cell) → O → Type 0) (HasRoom IsFull : O → ℕ → Type 0) : Type 0 where
  pub nothing : (o : O) → Keeps o [] o
  pub more : (o p q : O) (a b : List (List Cell)) → Keeps o a p → Keeps p b q → Keeps o (a ++ b) q
  pub less : (o : O) (m n : ℕ) → m ≤ n → HasRoom o n → HasRoom o m
  pub fuller : (o : O) (m n : ℕ) → m ≤ n → IsFull o m → IsFull o n

pub nowhere_kept : {O : Type 0} → AreKept {O = O} (λ o rows p. ⊤) (λ o n. ⊤) (λ o n. ⊥)
nowhere_kept = record {
  nothing = λ o. tt;
  more = λ o p q a b first second. tt;
  less = λ o m n less room. tt;
  fuller = λ o m n less full. full;
}

fuller : (m n room len end : ℕ) → m ≤ n → (room < len + m) ⊎ (end < len + m) → (room < len + n) ⊎ (end < len + n)
fuller m n room len end less (inl full) = inl (omega (arith, less, full))
fuller m n room len end less (inr full) = inr (omega (arith, less, full))

pub lines_kept : {O N : Type 0} (lines : O → List ℕ) (len end room : O → ℕ) (name : O → N) → AreKept {O = O}
    (λ o rows p. (name p ≡ name o) × (end p ≡ end o) × (lines p ≡ lines o ++ flat_map line_text rows) × (room o ≤ room p)
    × (len o ≤ end o → len p ≤ end o))
    (λ o n. (len o + n ≤ room o) × (len o + n ≤ end o)) (λ o n. (room o < len o + n) ⊎ (end o < len o + n))
lines_kept lines len end room name = record {
  nothing = λ o. (refl, refl, sym (append-nil (lines o)), omega arith, λ fits. fits);
  more = λ o p q a b first second. (
    second.0 ∙ first.0,
    second.1 ∙ first.1,
    second.2 ∙ ap (λ (t : List ℕ). t ++ flat_map line_text b) first.2
        ∙ append_assoc (lines o) (flat_map line_text a) (flat_map line_text b)
        ∙ ap (λ (t : List ℕ). lines o ++ t) (sym (flat_map-append line_text a b)),
    omega (arith, first.3, second.3),
    λ fits. rw (← first.1) (second.4 (rw first.1 (first.4 fits))),
  );
  less = λ o m n less room. (omega (arith, less, room.0), omega (arith, less, room.1));
  fuller = λ o m n less full. fuller m n (room o) (len o) (end o) less full;
}
