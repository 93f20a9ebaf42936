-- The tab stops, and ranges of numbers.
use Rattle.std.proofs.Common.{◌≡◌, set, get_or-set_same, get_or-set_other, ℕ, ◌+◌, ◌<◌, ◌≤◌, ◌-◌, List}
use Rattle.std.proofs.Common.{suc, Bool, false, length, get_or, refl, sym, ◌∙◌, arith}
use Rattle.std.specs.List.{range_with_len, find}
use Rattle.std.proofs.lemmas.List.FromFn.{get_or-map-range_with_len, length-map-range_with_len, fill_by_all}
use Rattle.vt_term.specs.State.{stops_where}

-- stops that are those of a formula at every column
pub stops-same : (columns : ℕ) (f : ℕ → Bool) (stops : List Bool) → length stops ≡ columns
    → ((k : ℕ) → k < columns → get_or stops k false ≡ f (k + 1)) → stops ≡ stops_where columns f
stops-same columns f stops long same =
    fill_by_all (λ k. f (k + 1)) stops columns false long same
    ∙ sym (fill_by_all (λ k. f (k + 1)) (stops_where columns f) columns false (length-map-range_with_len f 1 columns) (λ k h.
    get_or-map-range_with_len f 1 columns k (k + 1) false h (omega arith)))

pub length-stops_where : (columns : ℕ) (f : ℕ → Bool) → length (stops_where columns f) ≡ columns
length-stops_where columns f = length-map-range_with_len f 1 columns

-- a range that is not empty is searched at its first number and then starting at the next
pub find-range : (p : ℕ → Bool) (a b : ℕ) → a < b → p a ≡ false → find p (range_with_len a (b - a))
    ≡ find p (range_with_len (a + 1) (b - (a + 1)))
find-range p a b below not =
    let more : b - a ≡ suc (b - (a + 1)) = omega arith in
    rw (more, not) refl

-- the stop of one more column
pub one_more_stop : (f : ℕ → Bool) (stops : List Bool) (col : ℕ) (stop : Bool) → 1 ≤ col → col ≤ length stops
    → stop ≡ f col
    → ((k : ℕ) → k + 1 < col → get_or stops k false ≡ f (k + 1)) → (k : ℕ) → k + 1 < col + 1
    → get_or (set stops (col - 1) stop) k false ≡ f (k + 1)
one_more_stop f stops col stop col1 fits is done k below =
    grind (arith, get_or-set_same, get_or-set_other, done k)
