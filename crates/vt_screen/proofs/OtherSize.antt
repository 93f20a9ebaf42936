-- A grid on a screen of another size.
use Rattle.std.proofs.Common.{◌≡◌, ◌≢◌, ℕ, ◌+◌, ◌-◌, ◌≤◌, ◌<◌, Bool, true, false, ◌==◌, ◌&&◌, if◌then◌else◌, List, get_or}
use Rattle.std.proofs.Common.{take, min, suc, arith, refl, sym, ap, ◌∙◌, inl, inr}
use Rattle.std.proofs.lemmas.List.{get_or-take}
use Rattle.std.proofs.lemmas.Bool.Decides.{leb_tells, eqb_tells}
use Rattle.std.proofs.Math.Dec.{leb, ltb}
use Rattle.vt_screen.specs.Grid.{GridOf, at_or, row_or, row_from_any, grid_on_any, blank_any}
use Rattle.vt_screen.specs.declared.size.Size.{Size}
use Rattle.vt_screen.specs.Sizes.{width_of}
use Rattle.vt_screen.specs.Grid.{IsGrid, grid_of}
use Rattle.vt_screen.proofs.Places.{grid_of-same, cell_at-grid_of, grid_of-cell_at, get_or-row_of}

-- a cell of the front of a row
pub front-cell : {C : Type 0} (z : C) (g : GridOf C) (row n i : ℕ) (cells : List C) → cells ≡ row_or z g row → i < n → n ≤ g.width
    → get_or (take n cells) i z ≡ at_or z g row (i + 1)
front-cell {C = C} z g row n i cells is low fits =
    let here : i ≡ i + 1 - 1 = omega arith in
    get_or-take n cells i z low
    ∙ ap (λ (xs : List C). get_or xs i z) is
    ∙ ap (λ x. get_or (row_or z g row) x z) here
    ∙ get_or-row_of z g row (i + 1) z (omega arith) (omega arith)

-- the rows before one have been copied, and the others are blank
abbrev pub copied_any : {C : Type 0} → C → Size → ℕ → ℕ → GridOf C → ℕ → GridOf C
copied_any z s w off g end = grid_of s w (λ r c. if ltb r end && leb c g.width then at_or z g (r + off) c else z)

pub copied-none : {C : Type 0} (z : C) (s : Size) (wide : Bool) (off : ℕ) (g : GridOf C)
    → blank_any z s wide ≡ copied_any z s (width_of s wide) off g 1
copied-none {C = C} z s wide off g = grid_of-same s (width_of s wide) _ _ (λ r c r1 r24 c1 cw. elim (leb_tells (suc r) 1) [
  | inl t ↦ absurd (omega (arith, t))
  | inr t ↦ rw t.0 refl
])

pub copied-more : {C : Type 0} (z : C) (s : Size) (w off : ℕ) (g : GridOf C) (n : ℕ) → 1 ≤ n → n ≤ s.rows
    → row_from_any z (copied_any z s w off g n) n g (n + off) ≡ copied_any z s w off g (n + 1)
copied-more {C = C} z s w off g n n1 low = grid_of-same s w _ _ (λ r c r1 r24 c1 cw. elim (eqb_tells r n) [
  | inl e ↦ elim (leb_tells c g.width) [
    | inl t ↦ elim (leb_tells (suc r) (n + 1)) [
      | inl u ↦ rw (e.0, t.0, u.0) (ap (λ x. at_or z g (x + off) c) (sym e.1))
      | inr u ↦ absurd (omega (arith, e, u))
    ]
    | inr t ↦ elim (leb_tells (suc n) n) [
      | inl u ↦ absurd (omega (arith, u))
      | inr u ↦ elim (leb_tells (suc r) (n + 1)) [
        | inl v ↦ rw (e.0, t.0, v.0) (cell_at-grid_of z s w _ n c n1 low c1 cw ∙ rw (u.0) refl)
        | inr v ↦ absurd (omega (arith, e, v))
      ]
    ]
  ]
  | inr e ↦ rw e.0 (cell_at-grid_of z s w _ r c r1 r24 c1 cw ∙ elim (leb_tells (suc r) n) [
    | inl t ↦ elim (leb_tells (suc r) (n + 1)) [
      | inl u ↦ rw (t.0, u.0) refl
      | inr u ↦ absurd (omega (arith, t, u))
    ]
    | inr t ↦ elim (leb_tells (suc r) (n + 1)) [
      | inl u ↦ absurd (e.1 (omega (arith, t, u)))
      | inr u ↦ rw (t.0, u.0) refl
    ]
  ])
])

pub copied-all : {C : Type 0} (z : C) (s : Size) (off : ℕ) (g : GridOf C) (end : ℕ) → end ≡ min s.rows (g.size.rows - off) + 1 → off ≤ g.size.rows
    → copied_any z s (width_of s (g.width == g.size.wide)) off g end ≡ grid_on_any z s off g
copied-all {C = C} z s off g end is fits = grid_of-same s _ _ _ (λ r c r1 r24 c1 cw. elim (leb_tells (suc r) end) [
  | inl t ↦ elim (leb_tells (r + off) g.size.rows) [
    | inl u ↦ rw (t.0, u.0) refl
    | inr u ↦ absurd (omega (arith, t, u))
  ]
  | inr t ↦ elim (leb_tells (r + off) g.size.rows) [
    | inl u ↦ absurd (omega (arith, t, u))
    | inr u ↦ rw (t.0, u.0) refl
  ]
])

-- on its own size, if no row leaves
not-wide : (s : Size) (w : ℕ) → (wide : Bool) × (w ≡ width_of s wide) → w ≢ s.wide → s.narrow ≡ w
not-wide s w (true, is) other = absurd (other is)
not-wide s w (false, is) other = sym is

pub own-width : (s : Size) (w : ℕ) → (wide : Bool) × (w ≡ width_of s wide) → width_of s (w == s.wide) ≡ w
own-width s w is = elim (eqb_tells w s.wide) [
  | inl e ↦ rw e.0 (sym e.1)
  | inr e ↦ rw e.0 (not-wide s w is e.1)
]

pub own-size : {C : Type 0} (z : C) (g : GridOf C) → IsGrid g → grid_on_any z g.size 0 g ≡ g
own-size {C = C} z g is =
    ap (λ w. grid_of g.size w (λ r c. if leb (r + 0) g.size.rows && leb c g.width then at_or z g (r + 0) c else z))
    (own-width g.size g.width is.width)
    ∙ grid_of-same g.size g.width _ (at_or z g) (λ r c r1 r24 c1 cw.
    let same : r + 0 ≡ r = omega arith in
    elim (leb_tells r g.size.rows) [
      | inl t ↦ elim (leb_tells c g.width) [
        | inl u ↦ rw (same, t.0, u.0) refl
        | inr u ↦ absurd (omega (arith, u))
      ]
      | inr t ↦ absurd (omega (arith, t))
    ])
    ∙ grid_of-cell_at z g is.cells

-- what is inside both sizes
pub inside-stays : {C : Type 0} (z : C) (s : Size) (off : ℕ) (g : GridOf C) (r c : ℕ) → 1 ≤ r → r ≤ s.rows → r + off ≤ g.size.rows
    → 1 ≤ c → c ≤ g.width → c ≤ (grid_on_any z s off g).width → at_or z (grid_on_any z s off g) r c ≡ at_or z g (r + off) c
inside-stays {C = C} z s off g r c r1 r24 there c1 left right =
    cell_at-grid_of z s (width_of s (g.width == g.size.wide)) _ r c r1 r24 c1 right
    ∙ elim (leb_tells (r + off) g.size.rows) [
      | inl t ↦ elim (leb_tells c g.width) [
        | inl u ↦ rw (t.0, u.0) refl
        | inr u ↦ absurd (omega (arith, u))
      ]
      | inr t ↦ absurd (omega (arith, t))
    ]
