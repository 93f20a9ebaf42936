use Rattle.std.proofs.Common.{◌≡◌, ◌+◌, ◌-◌, ◌≤◌, ◌<◌, take, sum_by, ap, length, ℕ, List, Bool, true, false, get_or}
use Rattle.std.proofs.Common.{◌==◌, refl, arith}
use Rattle.std.specs.List.{list_all, count_by}
use Rattle.std.proofs.lemmas.List.Folds.{list_all_at}
use Rattle.std.proofs.lemmas.List.Sums.{sum_by_more}
use Rattle.std.proofs.Math.Seq.{take_all}
use Rattle.std.proofs.lemmas.Bool.Decides.{nat_tests}
use Rattle.vt_vectors.specs.declared.vectors.Row.{Row}
use Rattle.vt_vectors.specs.Vectors.{AreFit, has_name, is_short, has_all_lines}
use Rattle.vt_vectors.proofs.vectors.row_at.Goals as goal

-- what is true of each is true of one
all-at : {X : Type 0} (p : X → Bool) (xs : List X) (i : ℕ) (d : X) → i < length xs → list_all p xs ≡ true
    → p (get_or xs i d) ≡ true
all-at p xs i d within all = go (p (get_or xs i d)) refl
  where
    go : (b : Bool) → p (get_or xs i d) ≡ b → b ≡ true
    go true e = refl
    go false e = let none = list_all_at p xs i d within e in cc

-- what a row of a table has
named-at : (rows : List Row) (i : ℕ) (d : Row) → i < length rows → AreFit rows → 1 ≤ length (get_or rows i d).name.now
named-at rows i d within fit = let has = all-at (λ row. has_name row) rows i d within fit.named in
    grind (arith, nat_tests)

short-at : (rows : List Row) (i : ℕ) (d : Row) → i < length rows → AreFit rows → length (get_or rows i d).input.now ≤ 200
short-at rows i d within fit = let has = all-at (λ row. is_short row) rows i d within fit.short in
    grind (arith, nat_tests)

lines-at : (rows : List Row) (i : ℕ) (d : Row) → i < length rows → AreFit rows
    → count_by (λ b. b == 0x0A) (get_or rows i d).text.now ≡ 24
lines-at rows i d within fit = let has = all-at (λ row. has_all_lines row) rows i d within fit.lines in
    grind (arith, nat_tests)

-- a place below the size of a list is one of the list
below : {X : Type 0} (xs : List X) (k n : ℕ) → length xs ≡ n → k < n → k < length xs
below xs k n size within = omega (arith, size, within)

at-end : {X : Type 0} (xs : List X) (k n : ℕ) → length xs ≡ n → n ≤ k → length xs ≤ k
at-end xs k n size past = omega (arith, size, past)

-- one table more is passed
passed-more : {X : Type 0} (f : X → ℕ) (xs : List X) (k left i : ℕ) (d : X) → k < length xs
    → sum_by f (take k xs) + left ≡ i → f (get_or xs k d) ≤ left
    → sum_by f (take (k + 1) xs) + (left - f (get_or xs k d)) ≡ i
passed-more f xs k left i d there passed within = let more = sum_by_more f xs k d there in
    omega (arith, more, passed, within)

-- not all are passed
not-past : {X : Type 0} (f : X → ℕ) (xs : List X) (k left i n : ℕ) → length xs ≤ k → sum_by f xs ≡ n
    → sum_by f (take k xs) + left ≡ i → i < n → ⊥
not-past f xs k left i n past all passed within =
    let whole : sum_by f (take k xs) ≡ sum_by f xs = ap (sum_by f) (take_all k xs past) in
    omega (arith, whole, all, passed, within)

pub loop-rows-preserved : goal.loop-rows-preserved
loop-rows-preserved c = record {
  all = c.loop-rows.invariant.all;
  passed = passed-more _ _ _ _ _ _ (below _ _ _ c.tables-tables.ensures.size c.loop-rows-test.true) c.loop-rows.invariant.passed c.if-left-rows.false;
  fit = c.loop-rows.invariant.fit;
}

pub unreachable-requires : goal.unreachable-requires
unreachable-requires c =
    not-past _ _ _ _ _ _ (at-end _ _ _ c.tables-tables.ensures.size c.loop-rows-test.false) c.loop-rows.invariant.all c.loop-rows.invariant.passed c.requires

pub returns-then-left-rows-clause-named : goal.returns-then-left-rows-clause-named
returns-then-left-rows-clause-named c =
    named-at _ _ _ c.if-left-rows.true (c.loop-rows.invariant.fit _ _ (below _ _ _ c.tables-tables.ensures.size c.loop-rows-test.true))

pub returns-then-left-rows-clause-short : goal.returns-then-left-rows-clause-short
returns-then-left-rows-clause-short c =
    short-at _ _ _ c.if-left-rows.true (c.loop-rows.invariant.fit _ _ (below _ _ _ c.tables-tables.ensures.size c.loop-rows-test.true))

pub returns-then-left-rows-clause-lines : goal.returns-then-left-rows-clause-lines
returns-then-left-rows-clause-lines c =
    lines-at _ _ _ c.if-left-rows.true (c.loop-rows.invariant.fit _ _ (below _ _ _ c.tables-tables.ensures.size c.loop-rows-test.true))
