-- A table of words has the names at their indexes.
use Rattle.std.proofs.Common.{◌≡◌, ◌<◌, ◌≤◌, ℕ, zero, suc, List, [], ◌∷◌, Bor, length, map, get_or, nat_le, slice_index_or, arith, refl, true}
use Rattle.std.specs.List.{list_all, range_with_len}
use Rattle.std.proofs.lemmas.Bool.{leb-true}
use Rattle.vt_glyph.proofs.Lists.{all_in_range}

abbrev blank : Bor (List ℕ)
blank = record { ref_ptr = (0, 0); now = [] }

pub word_of_row : (table : List (Bor (List ℕ))) (k : ℕ)
    → (slice_index_or table k blank).now ≡ get_or (map (λ (word : Bor (List ℕ)). word.now) table) k []
word_of_row [] k = refl
word_of_row (word ∷ words) zero = refl
word_of_row (word ∷ words) (suc k) = word_of_row words k

-- each name of a list is short, if that is so by computing
pub short_of_row : (names : List (List ℕ)) (k : ℕ) → k < length names
    → list_all (λ k. nat_le (length (get_or names k [])) 23) (range_with_len 0 (length names)) ≡ true → length (get_or names k []) ≤ 23
short_of_row names k low all =
    leb-true (length (get_or names k [])) 23
    (all_in_range (λ k. nat_le (length (get_or names k [])) 23) 0 (length names) k all (omega arith) (omega (arith, low)))
