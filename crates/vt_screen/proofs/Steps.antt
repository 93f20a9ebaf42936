-- One step of each loop over rows between two columns, and what is done when it ends.
use Rattle.std.specs.Prelude.{nat_le, nat_lt}
use Rattle.std.proofs.Common.{◌≡◌, Bool, ◌&&◌, ◌||◌, ℕ, ◌+◌, ◌-◌, arith, ◌∙◌, ◌≤◌, ◌<◌, ap, sym}
use Rattle.std.proofs.lemmas.Bool.Decides.{nat_tests}
use Rattle.vt_screen.specs.Grid.{GridOf, IsGrid, at_or, is_within, columns_of}
use Rattle.vt_screen.specs.Between.{given_any, rectangle, from_below_any, from_above_any}
use Rattle.vt_screen.proofs.Areas.{given_none, given_same, given_read, given_row}

-- ---- the rows from the top one up to before an end

abbrev pub upper : ℕ → ℕ → ℕ → ℕ → ℕ → ℕ → Bool
upper top end left right i j = (nat_le top i && nat_lt i end) && is_within left right j

pub upper_none : {C : Type 0} (z : C) (g : GridOf C) (top left right : ℕ) (f : ℕ → ℕ → C) → IsGrid g
    → g ≡ given_any z g (upper top top left right) f
upper_none {C = C} z g top left right f is = sym (given_none z g (upper top top left right) f is (λ i j. grind (arith, nat_tests)))

pub upper_all : {C : Type 0} (z : C) (g : GridOf C) (top bottom end left right : ℕ) (f : ℕ → ℕ → C) → end ≡ bottom + 1
    → given_any z g (upper top end left right) f ≡ given_any z g (rectangle top bottom left right) f
upper_all {C = C} z g top bottom end left right f is =
    given_same z g (upper top end left right) (rectangle top bottom left right) f (λ i j. grind (arith, nat_tests, is))

upper_more : (top row left right i j : ℕ) → top ≤ row
    → upper top (row + 1) left right i j ≡ (columns_of row left right i j || upper top row left right i j)
upper_more top row left right i j low = grind (arith, nat_tests, low)

pub upper_row : {C : Type 0} (z : C) (g h : GridOf C) (top row left right : ℕ) (f k : ℕ → ℕ → C) → top ≤ row
    → h ≡ given_any z g (upper top row left right) f → ((j : ℕ) → left ≤ j → j ≤ right → k row j ≡ f row j)
    → given_any z h (columns_of row left right) k ≡ given_any z g (upper top (row + 1) left right) f
upper_row {C = C} z g h top row left right f k low is same =
    ap (λ x. given_any z x (columns_of row left right) k) is
    ∙ given_row z g (upper top row left right) (upper top (row + 1) left right) f k row left right same
    (λ i j. upper_more top row left right i j low)

pub upper_later : {C : Type 0} (z : C) (g h : GridOf C) (top end left right r c : ℕ) (f : ℕ → ℕ → C) → 1 ≤ r → r ≤ g.size.rows
    → 1 ≤ c → c ≤ g.width → end ≤ r → h ≡ given_any z g (upper top end left right) f → at_or z h r c ≡ at_or z g r c
upper_later {C = C} z g h top end left right r c f r1 rh c1 cw later is =
    ap (λ x. at_or z x r c) is
    ∙ given_read z g (upper top end left right) f r c r1 rh c1 cw (grind (arith, nat_tests, later))

-- ---- from the end: the rows after a place up to the bottom one

abbrev pub lower : ℕ → ℕ → ℕ → ℕ → ℕ → ℕ → Bool
lower end bottom left right i j = (nat_lt end i && nat_le i bottom) && is_within left right j

pub lower_none : {C : Type 0} (z : C) (g : GridOf C) (bottom left right : ℕ) (f : ℕ → ℕ → C) → IsGrid g
    → g ≡ given_any z g (lower (bottom - 0) bottom left right) f
lower_none {C = C} z g bottom left right f is =
    sym (given_none z g (lower (bottom - 0) bottom left right) f is (λ i j. grind (arith, nat_tests)))

pub lower_all : {C : Type 0} (z : C) (g : GridOf C) (end top bottom left right : ℕ) (f : ℕ → ℕ → C) → end + 1 ≡ top
    → given_any z g (lower end bottom left right) f ≡ given_any z g (rectangle top bottom left right) f
lower_all {C = C} z g end top bottom left right f is =
    given_same z g (lower end bottom left right) (rectangle top bottom left right) f (λ i j. grind (arith, nat_tests, is))

lower_more : (end next bottom left right i j : ℕ) → next + 1 ≡ end → end ≤ bottom
    → lower next bottom left right i j ≡ (columns_of end left right i j || lower end bottom left right i j)
lower_more end next bottom left right i j is low = grind (arith, nat_tests, is, low)

pub lower_row : {C : Type 0} (z : C) (g h : GridOf C) (end next bottom left right : ℕ) (f k : ℕ → ℕ → C) → next + 1 ≡ end
    → end ≤ bottom → h ≡ given_any z g (lower end bottom left right) f
    → ((j : ℕ) → left ≤ j → j ≤ right → k end j ≡ f end j)
    → given_any z h (columns_of end left right) k ≡ given_any z g (lower next bottom left right) f
lower_row {C = C} z g h end next bottom left right f k step low is same =
    ap (λ x. given_any z x (columns_of end left right) k) is
    ∙ given_row z g (lower end bottom left right) (lower next bottom left right) f k end left right same
    (λ i j. lower_more end next bottom left right i j step low)

pub lower_before : {C : Type 0} (z : C) (g h : GridOf C) (end bottom left right r c : ℕ) (f : ℕ → ℕ → C) → 1 ≤ r
    → r ≤ g.size.rows → 1 ≤ c → c ≤ g.width → r ≤ end → h ≡ given_any z g (lower end bottom left right) f
    → at_or z h r c ≡ at_or z g r c
lower_before {C = C} z g h end bottom left right r c f r1 rh c1 cw before is =
    ap (λ x. at_or z x r c) is
    ∙ given_read z g (lower end bottom left right) f r c r1 rh c1 cw (grind (arith, nat_tests, before))

-- ---- the cell that the formula gives

pub below_then : {C : Type 0} (z new : C) (g : GridOf C) (bottom n r c : ℕ) (cell : C) → r + n ≤ bottom
    → cell ≡ at_or z g (r + n) c → cell ≡ from_below_any z new g bottom n r c
below_then {C = C} z new g bottom n r c cell low is = grind (arith, nat_tests, low, is)

pub below_else : {C : Type 0} (z new : C) (g : GridOf C) (bottom n r c : ℕ) → bottom < r + n
    → new ≡ from_below_any z new g bottom n r c
below_else {C = C} z new g bottom n r c low = grind (arith, nat_tests, low)

pub above_then : {C : Type 0} (z new : C) (g : GridOf C) (top n r c : ℕ) (cell : C) → top + n ≤ r
    → cell ≡ at_or z g (r - n) c → cell ≡ from_above_any z new g top n r c
above_then {C = C} z new g top n r c cell low is = grind (arith, nat_tests, low, is)

pub above_else : {C : Type 0} (z new : C) (g : GridOf C) (top n r c : ℕ) → r < top + n → new ≡ from_above_any z new g top n r c
above_else {C = C} z new g top n r c low = grind (arith, nat_tests, low)
