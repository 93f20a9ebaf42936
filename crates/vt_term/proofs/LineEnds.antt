-- A line feed at the bottom margin, with the top margin in line 1.
use Rattle.std.specs.Prelude.{◌==◌, ◌&&◌, if◌then◌else◌}
use Rattle.std.proofs.Common.{◌≡◌, ℕ, Bool, true, false, refl, arith, ap, ◌∙◌, ◌⊎◌, inl, inr}
use Rattle.std.proofs.lemmas.Bool.Decides.{nat_tests, eqb_tells}
use Rattle.std.proofs.lemmas.Bool.{false≢true}
use Rattle.vt_screen.specs.Grid.{scroll_up}
use Rattle.vt_term.specs.State.{Display, at_place}
use Rattle.vt_term.specs.Moving.{index, next_line, line_feed}
use Rattle.vt_term.specs.Writing.{after_wrap}
use Rattle.vt_term.specs.Scrolling.{is_at_end, is_line_feed}
use Rattle.vt_term.specs.Functions.{control}
use Rattle.vt_term.specs.Functions.{control_any}

top-is : (s : Display) → is_at_end s ≡ true → s.margins.top ≡ 1
top-is s h = grind (arith, nat_tests, h)

row-is : (s : Display) → is_at_end s ≡ true → (s.cursor.row == s.margins.bottom) ≡ true
row-is s h = grind (arith, nat_tests, h)

pub next_line_is : (s : Display) → is_at_end s ≡ true
    → next_line s ≡ record s { grid = scroll_up s.grid 1 s.margins.bottom 1; cursor = at_place s.cursor.row 1 }
next_line_is s h = rw (row-is s h, top-is s h) refl

pub index_end : (s : Display) → is_at_end s ≡ true → (index s).grid ≡ scroll_up s.grid 1 s.margins.bottom 1
index_end s h = rw (row-is s h, top-is s h) refl

pub next_line_end : (s : Display) → is_at_end s ≡ true → (next_line s).grid ≡ scroll_up s.grid 1 s.margins.bottom 1
next_line_end s h = ap (λ (d : Display). d.grid) (next_line_is s h)

pub line_feed_end : (s : Display) → is_at_end s ≡ true → (line_feed s).grid ≡ scroll_up s.grid 1 s.margins.bottom 1
line_feed_end s h = go s.modes.lnm
  where
    go : (b : Bool) → (if b then next_line s else index s).grid ≡ scroll_up s.grid 1 s.margins.bottom 1
    go true = next_line_end s h
    go false = index_end s h

which : (b : ℕ) → is_line_feed b ≡ true → (b ≡ 0x0A) ⊎ ((b ≡ 0x0B) ⊎ ((b ≡ 0x0C) ⊎ ((b ≡ 0x84) ⊎ (b ≡ 0x85))))
which b h = elim (eqb_tells b 0x0A) [
  | inl e ↦ inl e.1
  | inr n1 ↦ elim (eqb_tells b 0x0B) [
    | inl e ↦ inr (inl e.1)
    | inr n2 ↦ elim (eqb_tells b 0x0C) [
      | inl e ↦ inr (inr (inl e.1))
      | inr n3 ↦ elim (eqb_tells b 0x84) [
        | inl e ↦ inr (inr (inr (inl e.1)))
        | inr n4 ↦ elim (eqb_tells b 0x85) [
          | inl e ↦ inr (inr (inr (inr e.1)))
          | inr n5 ↦ absurd (false≢true (rw (n1.0, n2.0, n3.0, n4.0, n5.0) at h))
        ]
      ]
    ]
  ]
]

pub feed_end : (b : ℕ) (s : Display) → is_line_feed b ≡ true → is_at_end s ≡ true
    → (control b s).grid ≡ scroll_up s.grid 1 s.margins.bottom 1
unfolding control_any
feed_end b s feed h = elim (which b feed) [
  | inl e ↦ rw e (line_feed_end s h)
  | inr l ↦ elim l [
    | inl e ↦ rw e (line_feed_end s h)
    | inr m ↦ elim m [
      | inl e ↦ rw e (line_feed_end s h)
      | inr n ↦ elim n [ inl e ↦ rw e (index_end s h) | inr e ↦ rw e (next_line_end s h) ]
    ]
  ]
]
