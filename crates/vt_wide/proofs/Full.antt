-- Rows that move between all columns move as wholes.
use Rattle.std.proofs.Common.{◌≡◌, arith, ap, ℕ, ◌+◌, ◌-◌, ◌≤◌, Bool, true, false, ◌&&◌, refl, sym, ◌∙◌, if◌then◌else◌}
use Rattle.std.specs.Prelude.{nat_le}
use Rattle.std.proofs.lemmas.Bool.Decides.{nat_tests}
use Rattle.vt_screen.specs.Grid.{GridOf, IsGrid, at_or, is_within, scroll_up_any, scroll_down_any}
use Rattle.vt_screen.specs.Between.{columns_up_any, columns_down_any}
use Rattle.vt_screen.proofs.Places.{grid_of-same, grid_of-cell_at}
use Rattle.vt_wide.specs.Kinds.{WideOf}
use Rattle.vt_wide.specs.Edits.{is_parted, parted, parted_between, moved_up, moved_down}

-- no character is parted where a test says so
none_parted : {C : Type 0} (k : WideOf C) (z : C) (change : C → C) (g : GridOf C) (rows : ℕ → Bool) (col : ℕ) → IsGrid g
    → ((r : ℕ) → is_parted k z g r col ≡ false) → parted k z change g rows col ≡ g
unfolding parted
none_parted k z change g rows col grid none =
    grid_of-same g.size g.width _ (at_or z g) (λ r c r1 rh c1 cw. rw (none r) (either (rows r) _ _ _))
    ∙ grid_of-cell_at z g grid.cells
  where
    either : {A : Type 0} (a b : Bool) (x y : A) → (if (a && false) && b then x else y) ≡ y
    either true b x y = refl
    either false b x y = refl

past_width : {C : Type 0} (k : WideOf C) (z : C) (g : GridOf C) (r : ℕ) → is_parted k z g r (g.width + 1) ≡ false
past_width k z g r = rw (past g.width) (off (nat_le 2 (g.width + 1)))
  where
    past : (w : ℕ) → nat_le (w + 1) w ≡ false
    past w = grind (arith, nat_tests)

    off : (b : Bool) → (b && false) ≡ false
    off true = refl
    off false = refl

between_all : {C : Type 0} (k : WideOf C) (z : C) (g : GridOf C) (top bottom : ℕ) → IsGrid g → parted_between k z g top bottom 1 g.width ≡ g
between_all {C = C} k z g top bottom grid =
    ap (λ (h : GridOf C). parted k z k.spaced h (is_within top bottom) (g.width + 1)) (none_parted k z k.spaced g (is_within top bottom) 1 grid (λ r. refl))
    ∙ none_parted k z k.spaced g (is_within top bottom) (g.width + 1) grid (past_width k z g)

all_columns : (w c : ℕ) → 1 ≤ c → c ≤ w → is_within 1 w c ≡ true
all_columns w c c1 cw = grind (arith, nat_tests)

same_rows : {A : Type 0} (a : Bool) (x y : A) → (if a && true then x else y) ≡ (if a then x else y)
same_rows true x y = refl
same_rows false x y = refl

all_up : {C : Type 0} (k : WideOf C) (z e : C) (g : GridOf C) (top bottom n : ℕ) → IsGrid g
    → moved_up k z e g top bottom 1 g.width n ≡ scroll_up_any z e g top bottom n
all_up {C = C} k z e g top bottom n grid =
    ap (λ (h : GridOf C). columns_up_any z e h top bottom 1 g.width n) (between_all k z g top bottom grid)
    ∙ grid_of-same g.size g.width _ _ (λ r c r1 rh c1 cw. rw (all_columns g.width c c1 cw) (same_rows (is_within top bottom r) _ _))

all_down : {C : Type 0} (k : WideOf C) (z e : C) (g : GridOf C) (top bottom n : ℕ) → IsGrid g
    → moved_down k z e g top bottom 1 g.width n ≡ scroll_down_any z e g top bottom n
all_down {C = C} k z e g top bottom n grid =
    ap (λ (h : GridOf C). columns_down_any z e h top bottom 1 g.width n) (between_all k z g top bottom grid)
    ∙ grid_of-same g.size g.width _ _ (λ r c r1 rh c1 cw. rw (all_columns g.width c c1 cw) (same_rows (is_within top bottom r) _ _))

pub columns_up : {C : Type 0} (k : WideOf C) (z e : C) (g h : GridOf C) (top bottom left right n : ℕ) → left ≡ 1 → right ≡ g.width → IsGrid g
    → h ≡ scroll_up_any z e g top bottom n → h ≡ moved_up k z e g top bottom left right n
columns_up k z e g h top bottom left right n first last grid is =
    is ∙ sym (all_up k z e g top bottom n grid) ∙ ap (λ (l : ℕ). moved_up k z e g top bottom l g.width n) (sym first)
    ∙ ap (λ (r : ℕ). moved_up k z e g top bottom left r n) (sym last)

pub columns_down : {C : Type 0} (k : WideOf C) (z e : C) (g h : GridOf C) (top bottom left right n : ℕ) → left ≡ 1 → right ≡ g.width → IsGrid g
    → h ≡ scroll_down_any z e g top bottom n → h ≡ moved_down k z e g top bottom left right n
columns_down k z e g h top bottom left right n first last grid is =
    is ∙ sym (all_down k z e g top bottom n grid) ∙ ap (λ (l : ℕ). moved_down k z e g top bottom l g.width n) (sym first)
    ∙ ap (λ (r : ℕ). moved_down k z e g top bottom left r n) (sym last)
