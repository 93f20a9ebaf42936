-- Runs of cells in turn.
use Rattle.std.proofs.Common.{◌≡◌, inl, inr, ℕ, ◌+◌, ◌-◌, ◌*◌, ◌≤◌, ◌<◌, Bool, true, false, ◌&&◌, ◌==◌, if◌then◌else◌, List, [], ◌∷◌, ◌++◌, length, get_or, arith, refl, sym, ap, ◌∙◌, length-append}
use Rattle.std.specs.Prelude.{nat_le, nat_lt, slice_index}
use Rattle.std.proofs.lemmas.Bool.Decides.{nat_tests, eqb_tells, leb_tells}
use Rattle.std.proofs.lemmas.Bool.{false≢true}
use Rattle.std.proofs.lemmas.List.{get_or-append_right}
use Rattle.std.proofs.Math.ListN.{get_or-append}
use Rattle.vt_screen.specs.Grid.{GridOf, at_or, is_within}
use Rattle.vt_screen.proofs.Places.{cell_at-grid_of, grid_of-same, grid_of-cell_at, length-cells_of}
use Rattle.vt_wide.specs.Kinds.{WideOf, IsLetter, IsNarrow, AreHalves}
use Rattle.vt_wide.specs.Edits.{is_parted, parted, parted_row, parted_twice, run_any, written, written_bytes}
use Rattle.vt_wide.proofs.Parting.{parted_same, row_same}

-- a column is in a run
abbrev in_run : ℕ → ℕ → ℕ → Bool
in_run col n c = nat_le col c && nat_lt c (col + n)

run_cell : {C : Type 0} (z : C) (f : ℕ → C) (g : GridOf C) (row col n c : ℕ) → 1 ≤ row → row ≤ g.size.rows → 1 ≤ c → c ≤ g.width
    → at_or z (run_any z f g row col n) row c ≡ (if in_run col n c then f (c - col) else at_or z g row c)
run_cell z f g row col n c r1 rh c1 cw =
    let this : (row == row) ≡ true = grind (arith, nat_tests) in
    cell_at-grid_of z g.size g.width (λ i j. if i == row then (if in_run col n j then f (j - col) else at_or z g row j) else at_or z g i j) row c r1 rh c1 cw
    ∙ rw this refl

part_cell : {C : Type 0} (k : WideOf C) (z : C) (change : C → C) (g : GridOf C) (row col r c : ℕ) → 1 ≤ r → r ≤ g.size.rows → 1 ≤ c → c ≤ g.width
    → at_or z (parted_row k z change g row col) r c
    ≡ (if (r == row && is_parted k z g r col) && is_within (col - 1) col c then change (at_or z g r c) else at_or z g r c)
unfolding parted
part_cell k z change g row col r c r1 rh c1 cw =
    cell_at-grid_of z g.size g.width (λ i j. if (i == row && is_parted k z g i col) && is_within (col - 1) col j then change (at_or z g i j) else at_or z g i j)
    r c r1 rh c1 cw

not_parted : {C : Type 0} (k : WideOf C) (z : C) (g : GridOf C) (r col : ℕ) → (2 ≤ col → col ≤ g.width → k.is_second (at_or z g r col) ≡ false)
    → is_parted k z g r col ≡ false
not_parted k z g r col is = elim (leb_tells 2 col) [
  | inr a ↦ rw a.0 refl
  | inl a ↦ elim (leb_tells col g.width) [
    | inr b ↦ rw (a.0, b.0) refl
    | inl b ↦ rw (a.0, b.0, is a.1 b.1) refl
  ]
]

-- an edge that parted parts nothing any more
parted_done : {C : Type 0} (k : WideOf C) (z e : C) (g : GridOf C) (row col : ℕ) → k.is_second e ≡ false → 1 ≤ row → row ≤ g.size.rows
    → is_parted k z (parted_row k z (λ cell. e) g row col) row col ≡ false
unfolding parted
parted_done {C = C} k z e g row col narrow r1 rh = not_parted k z (parted_row k z (λ cell. e) g row col) row col (λ low high.
    ap k.is_second (part_cell k z (λ cell. e) g row col row col r1 rh (omega (arith, low)) high) ∙ go low high (is_parted k z g row col) refl)
  where
    go : 2 ≤ col → col ≤ g.width → (x : Bool) → is_parted k z g row col ≡ x
        → k.is_second (if (row == row && is_parted k z g row col) && is_within (col - 1) col col then e else at_or z g row col) ≡ false
    go low high true is =
        let edge : ((row == row && true) && is_within (col - 1) col col) ≡ true = grind (arith, nat_tests, low) in
        rw (is, edge) narrow
    go low high false is =
        let edge : ((row == row && false) && is_within (col - 1) col col) ≡ false = grind (arith, nat_tests) in
        rw (is, edge) (grind (arith, nat_tests, is, low, high))

parted_none : {C : Type 0} (k : WideOf C) (z : C) (change : C → C) (g : GridOf C) (row col : ℕ) → is_parted k z g row col ≡ false
    → length g.cells ≡ g.size.rows * g.width → parted_row k z change g row col ≡ g
unfolding parted
parted_none k z change g row col is long = grid_of-same g.size g.width _ (at_or z g) (λ r c r1 rh c1 cw. elim (eqb_tells r row) [
  | inl e ↦ rw (e.0, e.1, is) refl
  | inr e ↦ rw e.0 refl
]) ∙ grid_of-cell_at z g long

-- an edge behind a run parts the same
parted_behind : {C : Type 0} (k : WideOf C) (z : C) (change : C → C) (f : ℕ → C) (g : GridOf C) (row col n end : ℕ) → 1 ≤ row → row ≤ g.size.rows → col + n < end
    → parted_row k z change (run_any z f g row col n) row end ≡ run_any z f (parted_row k z change g row end) row col n
unfolding parted
parted_behind {C = C} k z change f g row col n end r1 rh behind =
    let H = run_any z f g row col n in
    let out : in_run col n end ≡ false = grind (arith, nat_tests, behind) in
    let edge : is_parted k z H row end ≡ is_parted k z g row end =
    parted_same k z H g row end refl (λ e1 ew. run_cell z f g row col n end r1 rh e1 ew ∙ rw out refl) in
    let this : (row == row) ≡ true = grind (arith, nat_tests) in
    grid_of-same g.size g.width _ _ (λ r c s1 sh c1 cw. elim (eqb_tells r row) [
      | inl e ↦ elim (leb_tells (end - 1) c) [
        | inl d ↦
            let no : in_run col n c ≡ false = grind (arith, nat_tests, behind, d.1) in
            rw (e.0, e.1, edge, run_cell z f g row col n c r1 rh c1 cw, no, part_cell k z change g row end row c r1 rh c1 cw, this) refl
        | inr d ↦
            let no : (is_within (end - 1) end c) ≡ false = grind (arith, nat_tests, d.1) in
            let off : (x : Bool) → (x && is_within (end - 1) end c) ≡ false = λ x. grind (arith, nat_tests, no) in
            rw (
              e.0,
              e.1,
              edge,
              off (true && is_parted k z g row end),
              run_cell z f g row col n c r1 rh c1 cw,
              part_cell k z change g row end row c r1 rh c1 cw,
              this,
              off (true && is_parted k z g row end),
            ) refl
      ]
      | inr e ↦
          let here = cell_at-grid_of z g.size g.width (λ i j. if i == row then (if in_run col n j then f (j - col) else at_or z g row j) else at_or z g i j) r c s1 sh c1 cw in
          rw (e.0, here, part_cell k z change g row end r c s1 sh c1 cw) (rw e.0 refl)
    ])

-- one run after another
run_run : {C : Type 0} (z : C) (first second f : ℕ → C) (g : GridOf C) (row col m a b total : ℕ) → 1 ≤ row → row ≤ g.size.rows → m ≡ col + a → total ≡ a + b
    → ((i : ℕ) → i < a → f i ≡ first i) → ((i j : ℕ) → i ≡ a + j → f i ≡ second j)
    → run_any z second (run_any z first g row col a) row m b ≡ run_any z f g row col total
run_run {C = C} z first second f g row col m a b total r1 rh is_m is_total low high =
    grid_of-same g.size g.width _ _ (λ r c s1 sh c1 cw. elim (eqb_tells r row) [
      | inl e ↦ elim (leb_tells m c) [
        | inl x ↦ elim (leb_tells (m + b) c) [
          | inl y ↦
              let no : in_run m b c ≡ false = grind (arith, nat_tests, y.1) in
              let none : in_run col a c ≡ false = grind (arith, nat_tests, is_m, x.1) in
              let all : in_run col total c ≡ false = grind (arith, nat_tests, is_m, is_total, y.1) in
              rw (e.0, no, run_cell z first g row col a c r1 rh c1 cw, none, all) refl
          | inr y ↦
              let yes : in_run m b c ≡ true = grind (arith, nat_tests, x.1, y.1) in
              let all : in_run col total c ≡ true = grind (arith, nat_tests, is_m, is_total, x.1, y.1) in
              rw (e.0, yes, all) (sym (high (c - col) (c - m) (omega (arith, x, is_m))))
        ]
        | inr x ↦ elim (leb_tells col c) [
          | inl y ↦
              let no : in_run m b c ≡ false = grind (arith, nat_tests, x.1) in
              let yes : in_run col a c ≡ true = grind (arith, nat_tests, is_m, x.1, y.1) in
              let all : in_run col total c ≡ true = grind (arith, nat_tests, is_m, is_total, x.1, y.1) in
              rw (e.0, no, run_cell z first g row col a c r1 rh c1 cw, yes, all) (sym (low (c - col) (omega (arith, x, y, is_m))))
          | inr y ↦
              let no : in_run m b c ≡ false = grind (arith, nat_tests, x.1) in
              let none : in_run col a c ≡ false = grind (arith, nat_tests, y.1) in
              let all : in_run col total c ≡ false = grind (arith, nat_tests, y.1) in
              rw (e.0, no, run_cell z first g row col a c r1 rh c1 cw, none, all) refl
        ]
      ]
      | inr e ↦
          let here = cell_at-grid_of z g.size g.width (λ i j. if i == row then (if in_run col a j then first (j - col) else at_or z g row j) else at_or z g i j) r c s1 sh c1 cw in
          rw (e.0, here) (rw e.0 refl)
    ])

-- an edge inside of a run needs no parting
and_false : (x y : Bool) → y ≡ false → (x && y) ≡ false
and_false true y is = is
and_false false y is = refl

untouched : {C : Type 0} (k : WideOf C) (z : C) (change : C → C) (g : GridOf C) (row col r c : ℕ) → 1 ≤ r → r ≤ g.size.rows → 1 ≤ c → c ≤ g.width
    → is_within (col - 1) col c ≡ false → at_or z (parted_row k z change g row col) r c ≡ at_or z g r c
untouched k z change g row col r c r1 rh c1 cw is =
    part_cell k z change g row col r c r1 rh c1 cw ∙ rw (and_false (r == row && is_parted k z g r col) _ is) refl

parted_inside : {C : Type 0} (k : WideOf C) (z : C) (change : C → C) (f : ℕ → C) (g : GridOf C) (row col m end total : ℕ) → 1 ≤ row → row ≤ g.size.rows
    → col < m → m < end → end ≡ col + total
    → run_any z f (parted_row k z change (parted_row k z change g row m) row end) row col total ≡ run_any z f (parted_row k z change g row end) row col total
unfolding parted
parted_inside {C = C} k z change f g row col m end total r1 rh low high is_end =
    let P = parted_row k z change g row m in
    let far : is_within (m - 1) m end ≡ false = grind (arith, nat_tests, high) in
    let edge : is_parted k z P row end ≡ is_parted k z g row end =
    parted_same k z P g row end refl (λ e1 ew. untouched k z change g row m row end r1 rh e1 ew far) in
    grid_of-same g.size g.width _ _ (λ r c s1 sh c1 cw. elim (eqb_tells r row) [
      | inl e ↦ rw e.0 (go c (in_run col total c) refl edge c1 cw)
      | inr e ↦ rw (
        e.0,
        part_cell k z change P row end r c s1 sh c1 cw,
        part_cell k z change g row m r c s1 sh c1 cw,
        part_cell k z change g row end r c s1 sh c1 cw,
      ) (rw e.0 refl)
    ])
  where
    go : (c : ℕ) → (x : Bool) → in_run col total c ≡ x → is_parted k z (parted_row k z change g row m) row end ≡ is_parted k z g row end → 1 ≤ c → c ≤ g.width
        → (if in_run col total c then f (c - col) else at_or z (parted_row k z change (parted_row k z change g row m) row end) row c)
        ≡ (if in_run col total c then f (c - col) else at_or z (parted_row k z change g row end) row c)
    go c true is edge c1 cw = rw is refl
    go c false is edge c1 cw =
        let off : is_within (m - 1) m c ≡ false = grind (arith, nat_tests, is, low, high, is_end) in
        rw (
          is,
          part_cell k z change (parted_row k z change g row m) row end row c r1 rh c1 cw,
          edge,
          untouched k z change g row m row c r1 rh c1 cw off,
          part_cell k z change g row end row c r1 rh c1 cw,
        ) refl

append_core : {C : Type 0} (k : WideOf C) (z e : C) (g : GridOf C) (row col m end a b total : ℕ) (first second f : ℕ → C) → k.is_second e ≡ false
    → 1 ≤ row → row ≤ g.size.rows → 1 ≤ a → 1 ≤ b → m ≡ col + a → end ≡ m + b → total ≡ a + b
    → ((i : ℕ) → i < a → f i ≡ first i) → ((i j : ℕ) → i ≡ a + j → f i ≡ second j)
    → run_any z f (parted_twice k z (λ cell. e) g row col end) row col total
    ≡ run_any z second (parted_twice k z (λ cell. e) (run_any z first (parted_twice k z (λ cell. e) g row col m) row col a) row m end) row m b
unfolding parted
append_core {C = C} k z e g row col m end a b total first second f narrow r1 rh a1 b1 is_m is_end is_total low high =
    let change : C → C = λ cell. e in
    let X = parted_row k z change g row col in
    let P = parted_row k z change X row m in
    let H = run_any z first P row col a in
    let none : parted_row k z change H row m ≡ H =
    parted_none k z change H row m (not_parted k z H row m (λ m2 mw.
    let out : in_run col a m ≡ false = grind (arith, nat_tests, is_m) in
    let done : is_parted k z P row m ≡ false = parted_done k z e X row m narrow r1 rh in
    let same : at_or z H row m ≡ at_or z P row m = run_cell z first P row col a m r1 rh (omega (arith, m2)) mw ∙ rw out refl in
    ap k.is_second same ∙ grind (arith, nat_tests, done, m2, mw)))
    (length-cells_of _ _ _) in
    sym (ap (λ (x : GridOf C). run_any z second (parted_row k z change x row end) row m b) none
    ∙ ap (λ (x : GridOf C). run_any z second x row m b) (parted_behind k z change first P row col a end r1 rh (omega (arith, is_m, is_end, b1)))
    ∙ run_run z first second f (parted_row k z change P row end) row col m a b total r1 rh is_m is_total low high
    ∙ parted_inside k z change f X row col m end total r1 rh (omega (arith, is_m, a1)) (omega (arith, is_end, b1)) (omega (arith, is_m, is_end, is_total)))

pub bytes_append : {C : Type 0} (k : WideOf C) (z e : C) (g : GridOf C) (row col : ℕ) (a b : List ℕ) (pen : C) → IsNarrow k e → 1 ≤ row → row ≤ g.size.rows
    → 1 ≤ length a → 1 ≤ length b
    → written_bytes k z e g row col (a ++ b) pen ≡ written_bytes k z e (written_bytes k z e g row col a pen) row (col + length a) b pen
bytes_append {C = C} k z e g row col a b pen narrow r1 rh a1 b1 =
    let long = length-append a b in
    let place : col + (length a + length b) ≡ col + length a + length b = omega arith in
    ap (λ n. run_any z (λ i. k.with_byte pen (slice_index (a ++ b) i)) (parted_twice k z (λ cell. e) g row col (col + n)) row col n) long
    ∙ append_core k z e g row col (col + length a) (col + (length a + length b)) (length a) (length b) (length a + length b) _ _
    (λ i. k.with_byte pen (slice_index (a ++ b) i)) narrow.second r1 rh a1 b1 refl (omega arith) refl
    (λ i low. ap (k.with_byte pen) (get_or-append a b 0 i low))
    (λ i j is.
    let there : i - length a ≡ j = omega (arith, is) in
    ap (k.with_byte pen) (get_or-append_right a b (length a) i 0 refl (omega (arith, is)) ∙ ap (λ x. get_or b x 0) there))
    ∙ ap (λ n. run_any z (λ i. k.with_byte pen (slice_index b i)) (parted_twice k z (λ cell. e)
    (written_bytes k z e g row col a pen) row (col + length a) n) row (col + length a) (length b)) place

pub bytes_one : {C : Type 0} (k : WideOf C) (z e : C) (g : GridOf C) (row col b : ℕ) (pen : C) → AreHalves k → IsLetter b
    → written_bytes k z e g row col (b ∷ []) pen ≡ written k z e g row col (k.with_byte pen b)
bytes_one {C = C} k z e g row col b pen halves letter =
    row_same z (parted_twice k z (λ cell. e) g row col (col + 1)) row _ (λ c. if c == col then k.with_byte pen b else at_or z (parted_twice k z (λ cell. e) g row col (col + 1)) row c)
    (λ c c1 cw. elim (eqb_tells c col) [
      | inl f ↦
          let yes : in_run col 1 c ≡ true = grind (arith, nat_tests, f.1) in
          let place : c - col ≡ 0 = omega (arith, f.1) in
          rw (f.0, yes, place) refl
      | inr f ↦
          let no : in_run col 1 c ≡ false = grind (arith, nat_tests, f.1) in
          rw (f.0, no) refl
    ])
    ∙ narrow (k.is_wide (k.with_byte pen b)) (halves.letter pen b (grind (arith, nat_tests, letter.0))).wide _ _
  where
    narrow : (x : Bool) → x ≡ false → (y w : GridOf C) → y ≡ (if x then w else y)
    narrow true is y w = absurd (false≢true (sym is))
    narrow false is y w = refl
