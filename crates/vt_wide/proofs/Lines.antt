-- Lines of cells, as functions of the column, in which wide characters are whole. The column 0 and the one after the last are blank.
use Rattle.std.proofs.Common.{◌≡◌, ◌≢◌, ◌⊎◌, inl, inr, ℕ, ◌+◌, ◌-◌, ◌≤◌, ◌<◌, Bool, true, false, arith, refl, sym, ap, ◌∙◌}
use Rattle.std.proofs.lemmas.Bool.{false≢true}
use Rattle.std.proofs.lemmas.Bool.Decides.{eqb_tells, leb_tells}
use Rattle.vt_wide.specs.Kinds.{WideOf, IsNarrow, AreHalves, KeepsWhole}
use Rattle.vt_wide.specs.Whole.{Fit}

abbrev pub Line : {C : Type 0} → WideOf C → ℕ → (ℕ → C) → Type 0
Line k w L = (c : ℕ) → c ≤ w → Fit k (L c) (L (c + 1))

pub apart : {C : Type 0} {k : WideOf C} {a b : C} → k.is_wide a ≡ false → k.is_second b ≡ false → Fit k a b
apart x y = record { wide = x ∙ sym y; second = λ h. absurd (false≢true (sym x ∙ h)) }

pub fit_of : {C : Type 0} {k : WideOf C} {a b x y : C} → a ≡ x → b ≡ y → Fit k x y → Fit k a b
fit_of p q f = rw (p, q) f

pub changed_fit : {C : Type 0} (k : WideOf C) (change : C → C) (a b : C) → AreHalves k → KeepsWhole k change → Fit k a b
    → (w : Bool) → k.is_wide a ≡ w → Fit k (change a) (change b)
changed_fit k change a b halves keeps fit true is = elim (keeps.wide a is) [
  | inl s ↦ fit_of s.0 (ap change (fit.second is) ∙ s.1) (record { wide = is ∙ sym (halves.second a); second = λ h. refl })
  | inr s ↦ apart s.0.wide (ap (λ x. k.is_second (change x)) (fit.second is) ∙ s.1.second)
]
changed_fit k change a b halves keeps fit false is = apart (keeps.no_first a is) (keeps.no_second b (sym fit.wide ∙ is))

-- both cells of a wide character are changed
pub parted_line : {C : Type 0} (k : WideOf C) (change : C → C) (L N : ℕ → C) (w p : ℕ) → AreHalves k → KeepsWhole k change → Line k w L
    → p + 1 ≤ w → k.is_second (L (p + 1)) ≡ true
    → N p ≡ change (L p) → N (p + 1) ≡ change (L (p + 1)) → ((c : ℕ) → c ≢ p → c ≢ p + 1 → N c ≡ L c) → Line k w N
parted_line k change L N w p halves keeps line high is first second other c cw =
    let wide : k.is_wide (L p) ≡ true = (line p (omega arith)).wide ∙ is in
    let ends : k.is_wide (L (p + 1)) ≡ false = ap k.is_wide ((line p (omega arith)).second wide) ∙ halves.ends (L p) in
    elim (eqb_tells c p) [
      | inl e ↦ rw e.1 (fit_of first second (changed_fit k change (L p) (L (p + 1)) halves keeps (line p (omega arith)) _ refl))
      | inr e ↦ elim (eqb_tells c (p + 1)) [
        | inl f ↦ rw f.1 (fit_of second (other (p + 1 + 1) (λ h. absurd (omega (arith, h))) (λ h. absurd (omega (arith, h))))
            (apart (keeps.no_first _ ends) (sym (line (p + 1) high).wide ∙ ends)))
        | inr f ↦ elim (eqb_tells (c + 1) p) [
          | inl d ↦ fit_of (other c e.1 f.1) (ap N d.1 ∙ first) (apart ((line c cw).wide ∙ ap (λ x. k.is_second (L x)) d.1 ∙ halves.first (L p) wide)
              (keeps.no_second _ (halves.first (L p) wide)))
          | inr d ↦ fit_of (other c e.1 f.1) (other (c + 1) d.1 (λ h. e.1 (omega (arith, h)))) (line c cw)
        ]
      ]
    ]

-- two cells next to each other aren't of one wide character, or of one that a change leaves as it is
abbrev pub Settled : {C : Type 0} → WideOf C → (C → C) → C → C → Type 0
Settled k change a b = (k.is_second b ≡ false) ⊎ ((change a ≡ a) × (change b ≡ b))

-- between two columns are the cells of another line
pub spliced : {C : Type 0} (k : WideOf C) (L M N : ℕ → C) (w from end : ℕ) → Line k w L → from < end
    → ((c : ℕ) → c < from → N c ≡ L c) → ((c : ℕ) → from ≤ c → c < end → N c ≡ M c) → ((c : ℕ) → end ≤ c → N c ≡ L c)
    → k.is_second (L from) ≡ false → k.is_second (L end) ≡ false
    → ((c : ℕ) → from ≤ c → c + 1 < end → Fit k (M c) (M (c + 1))) → k.is_second (M from) ≡ false
    → ((c : ℕ) → c + 1 ≡ end → k.is_wide (M c) ≡ false) → Line k w N
spliced k L M N w from end line some before here behind left right inner first last c cw = elim (leb_tells (c + 1) from) [
  | inl f ↦ elim (eqb_tells (c + 1) from) [
    | inl e ↦ fit_of (before c (omega (arith, f))) (here (c + 1) (omega (arith, e)) (omega (arith, e, some)))
        (apart ((line c cw).wide ∙ ap (λ x. k.is_second (L x)) e.1 ∙ left) (ap (λ x. k.is_second (M x)) e.1 ∙ first))
    | inr e ↦ fit_of (before c (omega (arith, f))) (before (c + 1) (omega (arith, f, e.1))) (line c cw)
  ]
  | inr f ↦ elim (leb_tells end (c + 1)) [
    | inl g ↦ elim (eqb_tells (c + 1) end) [
      | inl e ↦ fit_of (here c (omega (arith, f)) (omega (arith, e))) (behind (c + 1) (omega (arith, e)))
          (apart (last c e.1) (ap (λ x. k.is_second (L x)) e.1 ∙ right))
      | inr e ↦ fit_of (behind c (omega (arith, g, e.1))) (behind (c + 1) (omega (arith, g))) (line c cw)
    ]
    | inr g ↦ fit_of (here c (omega (arith, f)) (omega (arith, g))) (here (c + 1) (omega (arith, f)) (omega (arith, g)))
        (inner c (omega (arith, f)) (omega (arith, g)))
  ]
]

pub spliced_line : {C : Type 0} (k : WideOf C) (L M N : ℕ → C) (w from end : ℕ) → Line k w L → Line k w M → from < end → end ≤ w + 1
    → ((c : ℕ) → c < from → N c ≡ L c) → ((c : ℕ) → from ≤ c → c < end → N c ≡ M c) → ((c : ℕ) → end ≤ c → N c ≡ L c)
    → k.is_second (L from) ≡ false → k.is_second (L end) ≡ false → k.is_second (M from) ≡ false → k.is_second (M end) ≡ false → Line k w N
spliced_line k L M N w from end line other some high before here behind left right first last =
    spliced k L M N w from end line some before here behind left right (λ c a b. other c (omega (arith, b, high))) first
    (λ c is. (other c (omega (arith, is, high))).wide ∙ ap (λ x. k.is_second (M x)) is ∙ last)

-- one narrow cell everywhere
pub constant_line : {C : Type 0} (k : WideOf C) (w : ℕ) (e : C) → IsNarrow k e → Line k w (λ c. e)
constant_line k w e narrow c cw = apart narrow.wide narrow.second

-- n cells come in at a column
pub inserted_line : {C : Type 0} (k : WideOf C) (L N : ℕ → C) (e : C) (w col right n : ℕ) → IsNarrow k e → Line k w L → col ≤ right → right ≤ w
    → ((c : ℕ) → c < col → N c ≡ L c) → ((c : ℕ) → col ≤ c → c < col + n → c ≤ right → N c ≡ e)
    → ((c d : ℕ) → col + n ≤ c → c ≤ right → d + n ≡ c → N c ≡ L d) → ((c : ℕ) → right < c → N c ≡ L c)
    → k.is_second (L col) ≡ false → ((d : ℕ) → d + n ≡ right → col ≤ d → k.is_second (L (d + 1)) ≡ false) → k.is_second (L (right + 1)) ≡ false
    → Line k w N
inserted_line {C = C} k L N e w col right n narrow line low high before gap moved behind left lost edge =
    let M : ℕ → C = λ c. N c in
    spliced k L M N w col (right + 1) line (omega (arith, low)) before (λ c a b. refl) (λ c a. behind c (omega (arith, a)))
    left edge
    (λ c a b. elim (leb_tells (col + n) c) [
      | inl f ↦
          let back : c - n + n ≡ c = omega (arith, f) in
          let next : c - n + 1 + n ≡ c + 1 = omega (arith, f) in
          fit_of (moved c (c - n) f.1 (omega (arith, b)) back) (moved (c + 1) (c - n + 1) (omega (arith, f)) (omega (arith, b)) next)
          (line (c - n) (omega (arith, b, high)))
      | inr f ↦ elim (eqb_tells (col + n) (c + 1)) [
        | inl g ↦ fit_of (gap c a f.1 (omega (arith, b))) (moved (c + 1) col (omega (arith, g)) (omega (arith, b)) g.1) (apart narrow.wide left)
        | inr g ↦ fit_of (gap c a f.1 (omega (arith, b))) (gap (c + 1) (omega (arith, a)) (omega (arith, f, g.1)) (omega (arith, b)))
            (apart narrow.wide narrow.second)
      ]
    ])
    (elim (leb_tells 1 n) [
      | inl f ↦ ap k.is_second (gap col (omega arith) (omega (arith, f.1)) low) ∙ narrow.second
      | inr f ↦ ap k.is_second (moved col col (omega (arith, f.1)) low (omega (arith, f.1))) ∙ left
    ])
    (λ c is. elim (leb_tells (col + n) c) [
      | inl f ↦
          let back : c - n + n ≡ c = omega (arith, f) in
          let place : c - n + n ≡ right = omega (arith, f, is) in
          ap k.is_wide (moved c (c - n) f.1 (omega (arith, is)) back) ∙ (line (c - n) (omega (arith, is, high))).wide
          ∙ lost (c - n) place (omega (arith, f))
      | inr f ↦ ap k.is_wide (gap c (omega (arith, is, low)) f.1 (omega (arith, is))) ∙ narrow.wide
    ])

-- n cells go at a column
pub deleted_line : {C : Type 0} (k : WideOf C) (L N : ℕ → C) (e : C) (w col right n : ℕ) → IsNarrow k e → Line k w L → col ≤ right → right ≤ w
    → ((c : ℕ) → c < col → N c ≡ L c) → ((c : ℕ) → col ≤ c → c + n ≤ right → N c ≡ L (c + n))
    → ((c : ℕ) → col ≤ c → right < c + n → c ≤ right → N c ≡ e) → ((c : ℕ) → right < c → N c ≡ L c)
    → k.is_second (L col) ≡ false → (col + n ≤ right → k.is_second (L (col + n)) ≡ false) → k.is_second (L (right + 1)) ≡ false
    → Line k w N
deleted_line {C = C} k L N e w col right n narrow line low high before moved gap behind left end edge =
    let M : ℕ → C = λ c. N c in
    spliced k L M N w col (right + 1) line (omega (arith, low)) before (λ c a b. refl) (λ c a. behind c (omega (arith, a)))
    left edge
    (λ c a b. elim (leb_tells (c + 1 + n) right) [
      | inl f ↦
          let next : c + 1 + n ≡ c + n + 1 = omega arith in
          fit_of (moved c a (omega (arith, f))) (moved (c + 1) (omega (arith, a)) f.1 ∙ ap L next) (line (c + n) (omega (arith, f, high)))
      | inr f ↦ elim (leb_tells (c + n) right) [
        | inl g ↦
            let last : c + n + 1 ≡ right + 1 = omega (arith, f, g) in
            fit_of (moved c a g.1) (gap (c + 1) (omega (arith, a)) f.1 (omega (arith, b)))
            (apart ((line (c + n) (omega (arith, g, high))).wide ∙ ap (λ x. k.is_second (L x)) last ∙ edge) narrow.second)
        | inr g ↦ fit_of (gap c a g.1 (omega (arith, b))) (gap (c + 1) (omega (arith, a)) f.1 (omega (arith, b)))
            (apart narrow.wide narrow.second)
      ]
    ])
    (elim (leb_tells (col + n) right) [
      | inl f ↦ ap k.is_second (moved col (omega arith) f.1) ∙ end f.1
      | inr f ↦ ap k.is_second (gap col (omega arith) f.1 low) ∙ narrow.second
    ])
    (λ c is. elim (leb_tells 1 n) [
      | inl f ↦ ap k.is_wide (gap c (omega (arith, is, low)) (omega (arith, is, f.1)) (omega (arith, is))) ∙ narrow.wide
      | inr f ↦
          let next : c + n + 1 ≡ right + 1 = omega (arith, is, f.1) in
          ap k.is_wide (moved c (omega (arith, is, low)) (omega (arith, is, f.1))) ∙ (line (c + n) (omega (arith, is, f.1, high))).wide
          ∙ ap (λ x. k.is_second (L x)) next ∙ edge
    ])

-- the cells of an area are changed
pub changed_line : {C : Type 0} (k : WideOf C) (change : C → C) (L N : ℕ → C) (w : ℕ) (A : ℕ → Bool) → AreHalves k → KeepsWhole k change → Line k w L
    → ((c : ℕ) → A c ≡ true → N c ≡ change (L c)) → ((c : ℕ) → A c ≡ false → N c ≡ L c)
    → ((c : ℕ) → c ≤ w → (A c ≡ A (c + 1)) ⊎ Settled k change (L c) (L (c + 1))) → Line k w N
changed_line {C = C} k change L N w A halves keeps line inside outside settled c cw = go (A c) (A (c + 1)) refl refl
  where
    both : (x : Bool) → A c ≡ x → A (c + 1) ≡ x → Fit k (N c) (N (c + 1))
    both true p q = fit_of (inside c p) (inside (c + 1) q) (changed_fit k change (L c) (L (c + 1)) halves keeps (line c cw) _ refl)
    both false p q = fit_of (outside c p) (outside (c + 1) q) (line c cw)

    go : (x y : Bool) → A c ≡ x → A (c + 1) ≡ y → Fit k (N c) (N (c + 1))
    go true true p q = both true p q
    go false false p q = both false p q
    go true false p q = elim (settled c cw) [
      | inl same ↦ both true p (sym same ∙ p)
      | inr set ↦ elim set [
        | inl s ↦ fit_of (inside c p) (outside (c + 1) q) (apart (keeps.no_first _ ((line c cw).wide ∙ s)) s)
        | inr s ↦ fit_of (inside c p ∙ s.0) (outside (c + 1) q) (line c cw)
      ]
    ]
    go false true p q = elim (settled c cw) [
      | inl same ↦ both false p (sym same ∙ p)
      | inr set ↦ elim set [
        | inl s ↦ fit_of (outside c p) (inside (c + 1) q) (apart ((line c cw).wide ∙ s) (keeps.no_second _ s))
        | inr s ↦ fit_of (outside c p) (inside (c + 1) q ∙ s.1) (line c cw)
      ]
    ]

-- a mark joins a cell that is no second one
pub joined_line : {C : Type 0} (k : WideOf C) (L N : ℕ → C) (w col mark : ℕ) → AreHalves k → Line k w L → N col ≡ k.marked (L col) mark
    → ((c : ℕ) → c ≢ col → N c ≡ L c) → k.is_second (L col) ≡ false → Line k w N
joined_line k L N w col mark halves line here other is c cw = elim (eqb_tells c col) [
  | inl e ↦ rw e.1 (fit_of here (other (col + 1) (λ h. absurd (omega (arith, h)))) (record {
    wide = halves.marked_wide (L col) mark ∙ (line col (omega (arith, e.1, cw))).wide;
    second = λ h. (line col (omega (arith, e.1, cw))).second (sym (halves.marked_wide (L col) mark) ∙ h) ∙ sym (halves.marked_second (L col) mark);
  }))
  | inr e ↦ elim (eqb_tells (c + 1) col) [
    | inl f ↦ fit_of (other c e.1) (ap N f.1 ∙ here) (apart ((line c cw).wide ∙ ap (λ x. k.is_second (L x)) f.1 ∙ is)
        (halves.marked_first (L col) mark ∙ is))
    | inr f ↦ fit_of (other c e.1) (other (c + 1) f.1) (line c cw)
  ]
]
