-- The grid that each edit makes. `o` is the table of row numbers, `xs` the cells before, `ys` what is written
-- over a part of them.
use Rattle.std.proofs.Common.{◌≡◌, ◌≢◌, ◌⊎◌, inl, inr, true, false, ◌&&◌, if◌then◌else◌, ℕ, suc, ◌+◌, ◌-◌, ◌≤◌}
use Rattle.std.proofs.Common.{◌<◌, List, length, get_or, min, set, arith, refl, sym, ap, ◌∙◌, get_or-set_same}
use Rattle.std.proofs.Common.{get_or-set_other, replicate}
use Rattle.std.proofs.lemmas.List.{with_items_is, get_or-replicate, get_or_past, length-replicate}
use Rattle.std.proofs.lemmas.Bool.{cases_lt}
use Rattle.std.proofs.lemmas.Bool.Decides.{leb_tells, eqb_tells}
use Rattle.std.specs.List.{CopiedTo, SameBelow, SameFrom}
use Rattle.vt_screen.specs.Between.{given_any, insert_between_any, delete_between_any, from_left_any, from_right_any}
use Rattle.std.proofs.Math.Dec.{leb, ltb}
use Rattle.std.specs.Vec.{with_items}
use Rattle.std.specs.Global.{Vec}
use borrow.Rule.Slice.PartMut.{put_mid, mid_of, same_len_mid}
use Rattle.vt_screen.specs.Grid.{GridOf, at_or, row_any, put_any, put_inserting_any, insert_any, delete_any, changed_any, scroll_up_any, scroll_down_any, row_from_any, columns_of}
use Rattle.vt_screen.proofs.Lists.{before-put_mid, within-put_mid, after-put_mid, get_or-mid_of, length-mid_of}
use Rattle.vt_screen.proofs.Places.{grid_of-same, cell_at-grid_of}
use Rattle.vt_screen.proofs.Orders.{start-below, start-apart}
use Rattle.vt_screen.proofs.Rows.{row-written}
use Rattle.vt_screen.specs.declared.cell.Cell.{Cell}
use Rattle.vt_screen.specs.Cells.{blank, cell_like}
use Rattle.vt_screen.specs.Order.{Order, IsOrder, start_of, stored, stored_or}
use Rattle.vt_screen.specs.Sizes.{stride, room}
use Rattle.vt_screen.specs.Grid.{grid_of, put_run}
use Rattle.vt_screen.specs.Grid.{is_within}

-- a cell of the row before
before : {C : Type 0} (z : C) (o : Order) (xs : List C) (w row c : ℕ) → 1 ≤ row → row ≤ o.size.rows → 1 ≤ c → c ≤ w
    → get_or xs (start_of o row + (c - 1)) z ≡ at_or z (grid_of o.size w (stored_or z o xs)) row c
before {C = C} z o xs w row c row1 row24 c1 cw = sym (cell_at-grid_of z o.size w (stored_or z o xs) row c row1 row24 c1 cw)

-- the same, read in a part of the row
mid-before : {C : Type 0} (z : C) (o : Order) (xs : List C) (w row at a k i c : ℕ) → 1 ≤ row → row ≤ o.size.rows → at ≡ start_of o row + a
    → c ≡ a + i + 1 → i < k → c ≤ w
    → get_or (mid_of at k xs) i z ≡ at_or z (grid_of o.size w (stored_or z o xs)) row c
mid-before {C = C} z o xs w row at a k i c row1 row24 here is low cw =
    let place : at + i ≡ start_of o row + (c - 1) = omega arith in
    get_or-mid_of at k xs i z low ∙ ap (λ x. get_or xs x z) place
    ∙ before z o xs w row c row1 row24 (omega arith) cw

-- a part of a row is written over, and the rest of the row stays
part-written : {C : Type 0} (z : C) (o : Order) (xs ys : List C) (w row at a k : ℕ) (f : ℕ → C) → IsOrder o → length xs ≡ room o.size
    → 1 ≤ row → row ≤ o.size.rows → w ≤ stride o.size
    → at ≡ start_of o row + a → a + k ≤ w → length ys ≡ k
    → ((i c : ℕ) → c ≡ a + i + 1 → i < k → get_or ys i z ≡ f c)
    → ((c : ℕ) → 1 ≤ c → c ≤ w → (c ≤ a) ⊎ (a + k < c) → at_or z (grid_of o.size w (stored_or z o xs)) row c ≡ f c)
    → grid_of o.size w (stored_or z o (put_mid at k xs ys)) ≡ row_any z (grid_of o.size w (stored_or z o xs)) row f
part-written {C = C} z o xs ys w row at a k f order long row1 row24 narrow here fits len inside outside =
    let below = start-below o order row row1 row24 in
    let within : at ≤ length xs = omega arith in
    row-written z o xs (put_mid at k xs ys) w row f order row1 row24 narrow
    (λ c c1 cw. elim (leb_tells c a) [
      | inl t ↦
          before-put_mid at k xs ys (start_of o row + (c - 1)) z within (omega arith)
          ∙ before z o xs w row c row1 row24 c1 cw ∙ outside c c1 cw (inl t.1)
      | inr t ↦ elim (leb_tells c (a + k)) [
        | inl u ↦
            within-put_mid at k xs ys (start_of o row + (c - 1)) z within len (omega arith) (omega arith)
            ∙ inside (start_of o row + (c - 1) - at) c (omega arith) (omega arith)
        | inr u ↦
            after-put_mid at k xs ys (start_of o row + (c - 1)) z within len (omega arith)
            ∙ before z o xs w row c row1 row24 c1 cw ∙ outside c c1 cw (inr u.1)
      ]
    ])
    (λ i h. elim h [
      | inl l ↦ before-put_mid at k xs ys i z within (omega arith)
      | inr l ↦ after-put_mid at k xs ys i z within len (omega arith)
    ])

-- a whole row is written over
row-rewritten : {C : Type 0} (z : C) (o : Order) (xs ys : List C) (w row at k : ℕ) (f : ℕ → C) → IsOrder o → length xs ≡ room o.size
    → 1 ≤ row → row ≤ o.size.rows → w ≤ stride o.size
    → at ≡ start_of o row → k ≡ w → length ys ≡ k
    → ((i c : ℕ) → c ≡ i + 1 → i < k → get_or ys i z ≡ f c)
    → grid_of o.size w (stored_or z o (put_mid at k xs ys)) ≡ row_any z (grid_of o.size w (stored_or z o xs)) row f
row-rewritten {C = C} z o xs ys w row at k f order long row1 row24 narrow here wide len inside =
    part-written z o xs ys w row at 0 k f order long row1 row24 narrow (omega arith) (omega arith) len
    (λ i c is low. inside i c (omega arith) low)
    (λ c c1 cw out. absurd (elim out [ inl l ↦ omega arith | inr l ↦ omega arith ]))

pub put-row : {C : Type 0} (z : C) (o : Order) (xs : List C) (w row col at : ℕ) (cell : C) → IsOrder o → length xs ≡ room o.size → 1 ≤ row
    → row ≤ o.size.rows → w ≤ stride o.size
    → 1 ≤ col → col ≤ w → at ≡ start_of o row + col - 1
    → grid_of o.size w (stored_or z o (set xs at cell)) ≡ put_any z (grid_of o.size w (stored_or z o xs)) row col cell
put-row {C = C} z o xs w row col at cell order long row1 row24 narrow col1 colw here =
    let below = start-below o order row row1 row24 in
    row-written z o xs (set xs at cell) w row _ order row1 row24 narrow
    (λ c c1 cw. elim (eqb_tells c col) [
      | inl e ↦
          let place : start_of o row + (c - 1) ≡ at = omega (arith, e.1) in
          rw (e.0, place) (get_or-set_same xs at cell z (omega arith))
      | inr e ↦
          rw e.0 (get_or-set_other xs at (start_of o row + (c - 1)) cell z (λ q. e.1 (omega arith))
          ∙ before z o xs w row c row1 row24 c1 cw)
    ])
    (λ i h. get_or-set_other xs at i cell z (λ q. elim h [ inl l ↦ omega arith | inr l ↦ omega arith ]))

pub put_inserting-row : {C : Type 0} (z : C) (o : Order) (xs ys : List C) (w row col at k : ℕ) (cell : C) → IsOrder o
    → length xs ≡ room o.size → 1 ≤ row → row ≤ o.size.rows → w ≤ stride o.size
    → 1 ≤ col → col ≤ w → at ≡ start_of o row → k ≡ w → length ys ≡ length (mid_of at k xs)
    → get_or ys (col - 1) z ≡ cell
    → ((i : ℕ) → col - 1 < i → i < length (mid_of at k xs) → get_or ys i z ≡ get_or (mid_of at k xs) (i - 1) z)
    → ((i : ℕ) → i < col - 1 → get_or ys i z ≡ get_or (mid_of at k xs) i z)
    → grid_of o.size w (stored_or z o (put_mid at k xs ys)) ≡ put_inserting_any z (grid_of o.size w (stored_or z o xs)) row col cell
put_inserting-row {C = C} z o xs ys w row col at k cell order long row1 row24 narrow col1 colw here wide len written moved front =
    let below = start-below o order row row1 row24 in
    let mid : length (mid_of at k xs) ≡ k = length-mid_of at k xs (omega arith) in
    let long_part : length ys ≡ k = len ∙ mid in
    row-rewritten z o xs ys w row at k _ order long row1 row24 narrow here wide long_part
    (λ i c is low. elim (eqb_tells c col) [
      | inl e ↦
          let place : i ≡ col - 1 = omega (arith, e.1) in
          rw (e.0, place) written
      | inr e ↦ elim (leb_tells (suc col) c) [
        | inl t ↦ rw (e.0, t.0) (moved i (omega arith) (omega arith)
            ∙ mid-before z o xs w row at 0 k (i - 1) (c - 1) row1 row24 (omega arith) (omega arith) (omega arith)
            (omega arith))
        | inr t ↦ rw (e.0, t.0) (front i (omega arith)
            ∙ mid-before z o xs w row at 0 k i c row1 row24 (omega arith) (omega arith) (omega arith) (omega arith))
      ]
    ])

-- a column is among some columns, or before or after them
pub among : (a b c : ℕ) → ((leb a c && leb c b ≡ true) × (a ≤ c) × (c ≤ b))
    ⊎ ((leb a c && leb c b ≡ false) × ((c < a) ⊎ (b < c)))
among a b c = elim (leb_tells a c) [
  | inl f ↦ elim (leb_tells c b) [
    | inl t ↦ inl (rw (f.0, t.0) refl, f.1, t.1)
    | inr t ↦
        inr (rw (f.0, t.0) refl, inr t.1)
  ]
  | inr f ↦ inr (rw f.0 refl, inl f.1)
]

-- the same, with the end left out
pub among-before : (a b c : ℕ) → ((leb a c && ltb c b ≡ true) × (a ≤ c) × (c < b))
    ⊎ ((leb a c && ltb c b ≡ false) × ((c < a) ⊎ (b ≤ c)))
among-before a b c = elim (leb_tells a c) [
  | inl f ↦ elim (leb_tells (suc c) b) [
    | inl t ↦ inl (rw (f.0, t.0) refl, f.1, t.1)
    | inr t ↦
        inr (rw (f.0, t.0) refl, inr (omega arith))
  ]
  | inr f ↦ inr (rw f.0 refl, inl f.1)
]

-- cells of a row, between two columns, are written over
given-row : {C : Type 0} (z : C) (g : GridOf C) (row left right : ℕ) (f : ℕ → ℕ → C)
    → row_any z g row (λ c. if is_within left right c then f row c else at_or z g row c)
    ≡ given_any z g (columns_of row left right) f
given-row {C = C} z g row left right f = grid_of-same g.size g.width _ _ (λ r c r1 r24 c1 cw. elim (eqb_tells r row) [
  | inl e ↦ rw (e.0, e.1) refl
  | inr e ↦ rw e.0 refl
])

-- a row was copied, between two columns
pub copied-row : {C : Type 0} (z : C) (o : Order) (xs zs : List C) (w from to left right src at n : ℕ) → IsOrder o
    → 1 ≤ from → from ≤ o.size.rows → 1 ≤ to → to ≤ o.size.rows → w ≤ stride o.size → 1 ≤ left → left ≤ right → right ≤ w
    → src ≡ start_of o from + left - 1 → at ≡ start_of o to + left - 1 → n ≡ right + 1 - left
    → CopiedTo xs zs src at n × SameBelow xs zs at × SameFrom xs zs (at + n)
    → grid_of o.size w (stored_or z o zs)
    ≡ given_any z (grid_of o.size w (stored_or z o xs)) (columns_of to left right) (λ r c. at_or z (grid_of o.size w (stored_or z o xs)) from c)
copied-row {C = C} z o xs zs w from to left right src at n order f1 f24 t1 t24 narrow l1 lr rw_ is_src is_at is_n (copied, below, above) =
    let g = grid_of o.size w (stored_or z o xs) in
    row-written z o xs zs w to _ order t1 t24 narrow
    (λ c c1 cw. elim (among left right c) [
      | inl t ↦
          let place : src + (start_of o to + (c - 1) - at) ≡ start_of o from + (c - 1) = omega (arith, t) in
          rw t.0 (copied (start_of o to + (c - 1)) z (omega (arith, t)) (omega (arith, t))
          ∙ ap (λ x. get_or xs x z) place ∙ before z o xs w from c f1 f24 c1 cw)
      | inr t ↦ rw t.0 (elim t.1 [
        | inl l ↦ below (start_of o to + (c - 1)) z (omega (arith, l)) ∙ before z o xs w to c t1 t24 c1 cw
        | inr l ↦ above (start_of o to + (c - 1)) z (omega (arith, l)) ∙ before z o xs w to c t1 t24 c1 cw
      ])
    ])
    (λ i h. elim h [
      | inl l ↦ below i z (omega arith)
      | inr l ↦ above i z (omega arith)
    ])
    ∙ given-row z g to left right (λ r c. at_or z g from c)

pub insert_between-row : {C : Type 0} (z : C) (o : Order) (xs ys : List C) (cell : C) (w row col right n m at k : ℕ) → IsOrder o
    → length xs ≡ room o.size → 1 ≤ row → row ≤ o.size.rows → w ≤ stride o.size
    → 1 ≤ col → col ≤ right → right ≤ w → m ≡ min n (right + 1 - col) → at ≡ start_of o row → k ≡ right
    → length ys ≡ length (mid_of at k xs)
    → ((i : ℕ) → col - 1 ≤ i → i < col - 1 + m → get_or ys i z ≡ cell)
    → ((i : ℕ) → col - 1 + m ≤ i → i < length (mid_of at k xs)
    → get_or ys i z ≡ get_or (mid_of at k xs) (i - m) z)
    → ((i : ℕ) → i < col - 1 → get_or ys i z ≡ get_or (mid_of at k xs) i z)
    → grid_of o.size w (stored_or z o (put_mid at k xs ys)) ≡ insert_between_any z cell (grid_of o.size w (stored_or z o xs)) row col right n
insert_between-row {C = C} z o xs ys cell w row col right n m at k order long row1 row24 narrow col1 colr rightw is_min here is len gap moved front
    =
    let g = grid_of o.size w (stored_or z o xs) in
    let below = start-below o order row row1 row24 in
    let mid : length (mid_of at k xs) ≡ k = length-mid_of at k xs (omega arith) in
    part-written z o xs ys w row at 0 k _ order long row1 row24 narrow (omega arith) (omega arith) (len ∙ mid)
    (λ i c place low. elim (among col right c) [
      | inl t ↦ elim (leb_tells (col + n) c) [
        | inl u ↦
            let same : m ≡ n = omega (arith, t, u) in
            rw (t.0, u.0) (moved i (omega (arith, u)) (omega arith) ∙ mid-before z o xs w row at 0 k (i - m) (c - n) row1 row24
            (omega arith) (omega (arith, u)) (omega arith) (omega arith))
        | inr u ↦ rw (t.0, u.0) (gap i (omega (arith, t)) (omega (arith, t, u)))
      ]
      | inr t ↦ elim t.1 [
        | inl l ↦ rw t.0 (front i (omega (arith, l))
            ∙ mid-before z o xs w row at 0 k i c row1 row24 (omega arith) (omega arith) (omega arith) (omega arith))
        | inr l ↦ absurd (omega (arith, l))
      ]
    ])
    (λ c c1 cw out. elim (among col right c) [
      | inl t ↦ absurd (elim out [ inl l ↦ omega arith | inr l ↦ omega (arith, t) ])
      | inr t ↦ rw t.0 refl
    ])
    ∙ given-row z g row col right (from_left_any z cell g col n)

pub delete_between-row : {C : Type 0} (z : C) (o : Order) (xs ys : List C) (cell : C) (w row col right n m at k : ℕ) → IsOrder o
    → length xs ≡ room o.size → 1 ≤ row → row ≤ o.size.rows → w ≤ stride o.size
    → 1 ≤ col → col ≤ right → right ≤ w → m ≡ min n (right + 1 - col) → at ≡ start_of o row → k ≡ right
    → length ys ≡ length (mid_of at k xs)
    → ((i : ℕ) → col - 1 ≤ i → i + m < length (mid_of at k xs)
    → get_or ys i z ≡ get_or (mid_of at k xs) (i + m) z)
    → ((i : ℕ) → i < length (mid_of at k xs) → length (mid_of at k xs) ≤ i + m → get_or ys i z ≡ cell)
    → ((i : ℕ) → i < col - 1 → get_or ys i z ≡ get_or (mid_of at k xs) i z)
    → grid_of o.size w (stored_or z o (put_mid at k xs ys)) ≡ delete_between_any z cell (grid_of o.size w (stored_or z o xs)) row col right n
delete_between-row {C = C} z o xs ys cell w row col right n m at k order long row1 row24 narrow col1 colr rightw is_min here is len moved end front
    =
    let g = grid_of o.size w (stored_or z o xs) in
    let below = start-below o order row row1 row24 in
    let mid : length (mid_of at k xs) ≡ k = length-mid_of at k xs (omega arith) in
    part-written z o xs ys w row at 0 k _ order long row1 row24 narrow (omega arith) (omega arith) (len ∙ mid)
    (λ i c place low. elim (among col right c) [
      | inl t ↦ elim (leb_tells (c + n) right) [
        | inl u ↦
            let same : m ≡ n = omega (arith, t, u) in
            rw (t.0, u.0) (moved i (omega (arith, t)) (omega (arith, u))
            ∙ mid-before z o xs w row at 0 k (i + m) (c + n) row1 row24 (omega arith) (omega arith) (omega (arith, u))
            (omega (arith, u)))
        | inr u ↦ rw (t.0, u.0) (end i (omega arith) (omega (arith, t, u)))
      ]
      | inr t ↦ elim t.1 [
        | inl l ↦ rw t.0 (front i (omega (arith, l))
            ∙ mid-before z o xs w row at 0 k i c row1 row24 (omega arith) (omega arith) (omega arith) (omega arith))
        | inr l ↦ absurd (omega (arith, l))
      ]
    ])
    (λ c c1 cw out. elim (among col right c) [
      | inl t ↦ absurd (elim out [ inl l ↦ omega arith | inr l ↦ omega (arith, t) ])
      | inr t ↦ rw t.0 refl
    ])
    ∙ given-row z g row col right (from_right_any z cell g right n)

-- up to the last column
pub insert-whole : {C : Type 0} (z : C) (g : GridOf C) (cell : C) (row col n : ℕ)
    → insert_between_any z cell g row col g.width n ≡ insert_any z cell g row col n
insert-whole {C = C} z g cell row col n =
    sym (given-row z g row col g.width (from_left_any z cell g col n))
    ∙ grid_of-same g.size g.width _ _ (λ r c r1 r24 c1 cw. elim (eqb_tells r row) [
      | inl e ↦ elim (among col g.width c) [
        | inl t ↦ elim (leb_tells col c) [
          | inl u ↦ rw (e.0, t.0, u.0) refl
          | inr u ↦ absurd (omega (arith, t, u))
        ]
        | inr t ↦ elim t.1 [
          | inl l ↦ elim (leb_tells (col + n) c) [
            | inl u ↦ absurd (omega (arith, l, u))
            | inr u ↦ elim (leb_tells col c) [
              | inl v ↦ absurd (omega (arith, l, v))
              | inr v ↦ rw (e.0, t.0, u.0, v.0) refl
            ]
          ]
          | inr l ↦ absurd (omega (arith, l))
        ]
      ]
      | inr e ↦ rw e.0 refl
    ])

pub delete-whole : {C : Type 0} (z : C) (g : GridOf C) (cell : C) (row col n : ℕ)
    → delete_between_any z cell g row col g.width n ≡ delete_any z cell g row col n
delete-whole {C = C} z g cell row col n =
    sym (given-row z g row col g.width (from_right_any z cell g g.width n))
    ∙ grid_of-same g.size g.width _ _ (λ r c r1 r24 c1 cw. elim (eqb_tells r row) [
      | inl e ↦ elim (leb_tells col c) [
        | inl u ↦ elim (leb_tells c g.width) [
          | inl v ↦ rw (e.0, u.0, v.0) refl
          | inr v ↦ absurd (omega (arith, v))
        ]
        | inr u ↦ rw (e.0, u.0) refl
      ]
      | inr e ↦ rw e.0 refl
    ])

pub put_run-row : (o : Order) (xs ys : List Cell) (w row col at k : ℕ) (codes : List ℕ) (like : Cell) → IsOrder o
    → length xs ≡ room o.size → 1 ≤ row → row ≤ o.size.rows → w ≤ stride o.size
    → 1 ≤ col → col + length codes ≤ w + 1 → at ≡ start_of o row + col - 1 → k ≡ length codes
    → length ys ≡ length (mid_of at k xs)
    → ((i : ℕ) → i < length codes → get_or ys i blank ≡ cell_like like (get_or codes i 0))
    → grid_of o.size w (stored o (put_mid at k xs ys)) ≡ put_run (grid_of o.size w (stored o xs)) row col codes like
put_run-row o xs ys w row col at k codes like order long row1 row24 narrow col1 fits here is_long len written =
    let below = start-below o order row row1 row24 in
    let mid : length (mid_of at k xs) ≡ k = length-mid_of at k xs (omega arith) in
    let long_part : length ys ≡ k = len ∙ mid in
    part-written _ o xs ys w row at (col - 1) k _ order long row1 row24 narrow (omega arith) (omega arith) long_part
    (λ i c is low. elim (among-before col (col + length codes) c) [
      | inl t ↦
          let place : c - col ≡ i = omega arith in
          rw (t.0, place) (written i (omega arith))
      | inr t ↦ absurd (elim t.1 [ inl l ↦ omega arith | inr l ↦ omega arith ])
    ])
    (λ c c1 cw out. elim (among-before col (col + length codes) c) [
      | inl t ↦ absurd (elim out [ inl l ↦ omega (arith, t) | inr l ↦ omega (arith, t) ])
      | inr t ↦ rw t.0 refl
    ])

pub erase-row : {C : Type 0} (z : C) (o : Order) (xs ys : List C) (w row from to at k : ℕ) (change : C → C) → IsOrder o
    → length xs ≡ room o.size → 1 ≤ row → row ≤ o.size.rows → w ≤ stride o.size
    → 1 ≤ from → from ≤ to → to ≤ w → at ≡ start_of o row + from - 1 → k ≡ to + 1 - from
    → length ys ≡ length (mid_of at k xs)
    → ((i : ℕ) → i < length (mid_of at k xs) → get_or ys i z ≡ change (get_or (mid_of at k xs) i z))
    → grid_of o.size w (stored_or z o (put_mid at k xs ys)) ≡ changed_any z change (grid_of o.size w (stored_or z o xs)) (columns_of row from to)
erase-row {C = C} z o xs ys w row from to at k change order long row1 row24 narrow from1 from_to tow here is_long len written =
    let below = start-below o order row row1 row24 in
    let mid : length (mid_of at k xs) ≡ k = length-mid_of at k xs (omega arith) in
    let long_part : length ys ≡ k = len ∙ mid in
    part-written z o xs ys w row at (from - 1) k
    (λ c. if is_within from to c then change (at_or z (grid_of o.size w (stored_or z o xs)) row c) else at_or z
    (grid_of o.size w (stored_or z o xs)) row c)
    order long row1 row24 narrow (omega arith) (omega arith) long_part
    (λ i c is low. elim (among from to c) [
      | inl t ↦ rw t.0 (written i (omega arith) ∙ ap (change)
          (mid-before z o xs w row at (from - 1) k i c row1 row24 (omega arith) (omega arith) low (omega (arith, t))))
      | inr t ↦ absurd (elim t.1 [ inl l ↦ omega arith | inr l ↦ omega arith ])
    ])
    (λ c c1 cw out. elim (among from to c) [
      | inl t ↦ absurd (elim out [ inl l ↦ omega (arith, t) | inr l ↦ omega (arith, t) ])
      | inr t ↦ rw t.0 refl
    ])
    ∙ grid_of-same o.size w _ _ (λ r c r1 r24 c1 cw. elim (eqb_tells r row) [
      | inl e ↦ rw (e.0, e.1) refl
      | inr e ↦ rw e.0 refl
    ])

-- rows that moved up, and blank ones where nothing came up
pub scroll_up-rows : {C : Type 0} (z : C) (o o' : Order) (xs zs : List C) (cell : C) (w t b n m : ℕ) → 1 ≤ t → t ≤ b → b ≤ o.size.rows
    → m ≡ min n (b + 1 - t)
    → ((r : ℕ) → t ≤ r → r + m ≤ b → start_of o' r ≡ start_of o (r + m))
    → ((r : ℕ) → 1 ≤ r → (r < t) ⊎ (b < r) → start_of o' r ≡ start_of o r)
    → ((r c : ℕ) → b + 1 - m ≤ r → r < b + 1 → 1 ≤ c → c ≤ w → stored_or z o' zs r c ≡ cell)
    → ((r c : ℕ) → 1 ≤ r → r ≤ o.size.rows → (r < b + 1 - m) ⊎ (b + 1 ≤ r) → 1 ≤ c → c ≤ w
    → stored_or z o' zs r c ≡ stored_or z o' xs r c)
    → grid_of o.size w (stored_or z o' zs) ≡ scroll_up_any z cell (grid_of o.size w (stored_or z o xs)) t b n
scroll_up-rows {C = C} z o o' xs zs cell w t b n m t1 tb b24 is_min moved rest blanked kept =
    grid_of-same o.size w _ _ (λ r c r1 r24 c1 cw. elim (among t b r) [
      | inl k ↦ elim (leb_tells (r + n) b) [
        | inl j ↦
            let same : m ≡ n = omega (arith, k) in
            let from : start_of o' r ≡ start_of o (r + n) = rw (← same) (moved r (omega (arith, k)) (omega arith)) in
            rw (k.0, j.0) (kept r c r1 r24 (inl (omega (arith, k))) c1 cw
            ∙ ap (λ x. get_or xs (x + (c - 1)) z) from
            ∙ before z o xs w (r + n) c (omega arith) (omega arith) c1 cw)
        | inr j ↦ rw (k.0, j.0) (blanked r c (omega (arith, k)) (omega (arith, k)) c1 cw)
      ]
      | inr k ↦
          let out : (r < b + 1 - m) ⊎ (b + 1 ≤ r) = elim k.1
          [ inl l ↦ inl (omega arith) | inr l ↦ inr (omega arith) ] in
          rw k.0 (kept r c r1 r24 out c1 cw ∙ ap (λ x. get_or xs (x + (c - 1)) z) (rest r r1 k.1)
          ∙ before z o xs w r c r1 r24 c1 cw)
    ])

-- rows that moved down, and blank ones where nothing came down
pub scroll_down-rows : {C : Type 0} (z : C) (o o' : Order) (xs zs : List C) (cell : C) (w t b n m : ℕ) → 1 ≤ t → t ≤ b → b ≤ o.size.rows
    → m ≡ min n (b + 1 - t)
    → ((r : ℕ) → t + m ≤ r → r ≤ b → start_of o' r ≡ start_of o (r - m))
    → ((r : ℕ) → 1 ≤ r → (r < t) ⊎ (b < r) → start_of o' r ≡ start_of o r)
    → ((r c : ℕ) → t ≤ r → r < t + m → 1 ≤ c → c ≤ w → stored_or z o' zs r c ≡ cell)
    → ((r c : ℕ) → 1 ≤ r → r ≤ o.size.rows → (r < t) ⊎ (t + m ≤ r) → 1 ≤ c → c ≤ w → stored_or z o' zs r c ≡ stored_or z o' xs r c)
    → grid_of o.size w (stored_or z o' zs) ≡ scroll_down_any z cell (grid_of o.size w (stored_or z o xs)) t b n
scroll_down-rows {C = C} z o o' xs zs cell w t b n m t1 tb b24 is_min moved rest blanked kept =
    grid_of-same o.size w _ _ (λ r c r1 r24 c1 cw. elim (among t b r) [
      | inl k ↦ elim (leb_tells (t + n) r) [
        | inl j ↦
            let same : m ≡ n = omega (arith, k) in
            let from : start_of o' r ≡ start_of o (r - n) =
            rw (← same) (moved r (omega (arith, k)) (omega (arith, k))) in
            rw (k.0, j.0) (kept r c r1 r24 (inr (omega (arith, k))) c1 cw
            ∙ ap (λ x. get_or xs (x + (c - 1)) z) from
            ∙ before z o xs w (r - n) c (omega arith) (omega arith) c1 cw)
        | inr j ↦ rw (k.0, j.0) (blanked r c (omega (arith, k)) (omega (arith, k)) c1 cw)
      ]
      | inr k ↦
          let out : (r < t) ⊎ (t + m ≤ r) = elim k.1 [ inl l ↦ inl (omega arith) | inr l ↦ inr (omega arith) ] in
          rw k.0 (kept r c r1 r24 out c1 cw ∙ ap (λ x. get_or xs (x + (c - 1)) z) (rest r r1 k.1)
          ∙ before z o xs w r c r1 r24 c1 cw)
    ])

-- the front of a row is written over with cells of a row of another grid
pub row_from-row : {C : Type 0} (z : C) (o : Order) (xs ys : List C) (w row from at k : ℕ) (other : GridOf C) → IsOrder o → length xs ≡ room o.size
    → 1 ≤ row → row ≤ o.size.rows → w ≤ stride o.size
    → at ≡ start_of o row → k ≡ min w other.width → length ys ≡ length (mid_of at k xs)
    → ((i : ℕ) → i < k → get_or ys i z ≡ at_or z other from (i + 1))
    → grid_of o.size w (stored_or z o (put_mid at k xs ys)) ≡ row_from_any z (grid_of o.size w (stored_or z o xs)) row other from
row_from-row {C = C} z o xs ys w row from at k other order long row1 row24 narrow here is len written =
    let below = start-below o order row row1 row24 in
    let mid : length (mid_of at k xs) ≡ k = length-mid_of at k xs (omega arith) in
    part-written z o xs ys w row at 0 k _ order long row1 row24 narrow (omega arith) (omega arith) (len ∙ mid)
    (λ i c place low. elim (leb_tells c other.width) [
      | inl t ↦
          let next : i + 1 ≡ c = omega arith in
          rw t.0 (written i low ∙ ap (at_or z other from) next)
      | inr t ↦ absurd (omega (arith, t))
    ])
    (λ c c1 cw out. elim (leb_tells c other.width) [
      | inl t ↦ absurd (elim out [ inl l ↦ omega arith | inr l ↦ omega (arith, t) ])
      | inr t ↦ rw t.0 refl
    ])

-- one row is written over with one cell
pub row-filled : {C : Type 0} (z : C) (o : Order) (xs ys : List C) (w row at k : ℕ) (cell : C) → IsOrder o → length xs ≡ room o.size
    → 1 ≤ row → row ≤ o.size.rows → w ≤ stride o.size
    → at ≡ start_of o row → k ≡ w → length ys ≡ length (mid_of at k xs)
    → ((i : ℕ) → i < length (mid_of at k xs) → get_or ys i z ≡ cell)
    → ((c : ℕ) → 1 ≤ c → c ≤ w → stored_or z o (put_mid at k xs ys) row c ≡ cell)
    × ((r c : ℕ) → 1 ≤ r → r ≤ o.size.rows → r ≢ row → 1 ≤ c → c ≤ w → stored_or z o (put_mid at k xs ys) r c ≡ stored_or z o xs r c)
row-filled {C = C} z o xs ys w row at k cell order long row1 row24 narrow here wide len written =
    let below = start-below o order row row1 row24 in
    let within : at ≤ length xs = omega arith in
    let mid : length (mid_of at k xs) ≡ k = length-mid_of at k xs (omega arith) in
    let long_part : length ys ≡ k = len ∙ mid in (
      λ c c1 cw. within-put_mid at k xs ys (start_of o row + (c - 1)) z within long_part (omega arith) (omega arith)
          ∙ written (start_of o row + (c - 1) - at) (omega arith),
      λ r c r1 r24 other c1 cw. elim (start-apart o order r row r1 r24 row1 row24 other) [
        | inl l ↦ before-put_mid at k xs ys (start_of o r + (c - 1)) z within (omega arith)
        | inr l ↦ after-put_mid at k xs ys (start_of o r + (c - 1)) z within long_part (omega arith)
      ],
    )

-- blank cells show at every place, wherever the rows are kept
pub stored-replicate : {C : Type 0} (z : C) (o : Order) (n r c : ℕ) → stored_or z o (replicate n z) r c ≡ z
stored-replicate {C = C} z o n r c = elim (cases_lt (start_of o r + (c - 1)) n) [
  | inl l ↦ get_or-replicate n (start_of o r + (c - 1)) z z l
  | inr l ↦ get_or_past (replicate n z) (start_of o r + (c - 1)) z (rw length-replicate l)
]

-- a part of the kept cells was lent and written over: a fact of the lent cells is one of the kept ones
pub edited : {C : Type 0} (z : C) (cells : Vec C) (o : Order) (w : ℕ) (xs : List C) (at k : ℕ) (ys : List C) (map : (GridOf C) → (GridOf C))
    → xs ≡ cells.items → length ys ≡ length (mid_of at k xs)
    → grid_of o.size w (stored_or z o (put_mid at k xs ys)) ≡ map (grid_of o.size w (stored_or z o xs))
    → grid_of o.size w (stored_or z o (with_items cells (put_mid at k xs ys)).items) ≡ map (grid_of o.size w (stored_or z o cells.items))
edited {C = C} z cells o w xs at k ys map same len fact =
    ap (λ (x : List C). grid_of o.size w (stored_or z o x))
    (with_items_is cells (put_mid at k xs ys) (same_len_mid at k xs ys len ∙ ap length same ∙ sym cells.ok.0))
    ∙ fact
    ∙ ap (λ (x : List C). map (grid_of o.size w (stored_or z o x))) same
