-- Places of a grid of any width.
use Rattle.std.proofs.Common.{◌≡◌, Bool, true, false, ℕ, ◌+◌, ◌-◌, ◌*◌, ◌/◌, ◌%◌, ◌≤◌, ◌<◌, List, length, get_or, arith}
use Rattle.std.proofs.Common.{refl, sym, ap, ◌∙◌, zero, suc}
use Rattle.std.proofs.lemmas.Nat.{div-mul-add, mod-mul-add}
use Rattle.std.proofs.Math.Nat.{mod-add-div', mod-lt, div-lt_iff_lt-mul}
use Rattle.std.proofs.lemmas.List.{same_lists, get_or_default}
use Rattle.std.proofs.lemmas.List.FromFn.{get_or-map-range_with_len, length-map-range_with_len, fill_by_all}
use Rattle.vt_screen.specs.Grid.{GridOf, at_or, row_or}
use Rattle.vt_screen.specs.declared.size.Size.{Size}
use Rattle.vt_screen.specs.Sizes.{stride, width_of, IsSize}
use Rattle.vt_screen.specs.Grid.{IsGrid, grid_of, cells_of}

pub length-cells_of : {C : Type 0} (s : Size) (w : ℕ) (f : ℕ → ℕ → C) → length (cells_of s w f) ≡ s.rows * w
unfolding cells_of
length-cells_of {C = C} s w f = length-map-range_with_len (λ k. f (k / w + 1) (k % w + 1)) 0 (s.rows * w)

-- where there are cells, there are columns
pub columns-any : (h w k : ℕ) → k < h * w → 0 < w
columns-any h zero k low = absurd (omega (arith, low))
columns-any h (suc w) k low = omega arith

-- a place is within the cells
within : (s : Size) (w r c : ℕ) → 1 ≤ r → r ≤ s.rows → 1 ≤ c → c ≤ w → (r - 1) * w + (c - 1) < s.rows * w
within s w r c r1 r24 c1 cw =
    let wide : 0 < w = omega arith in
    let row : ((r - 1) * w + (c - 1)) / w < s.rows = rw (div-mul-add (r - 1) w (c - 1) (omega arith)) (omega arith) in
    (div-lt_iff_lt-mul wide).0 row

-- the cell at a place is what the formula gives for it
pub cell_at-grid_of : {C : Type 0} (z : C) (s : Size) (w : ℕ) (f : ℕ → ℕ → C) (r c : ℕ) → 1 ≤ r → r ≤ s.rows → 1 ≤ c → c ≤ w
    → at_or z (grid_of s w f) r c ≡ f r c
unfolding cells_of at_or
cell_at-grid_of {C = C} z s w f r c r1 r24 c1 cw =
    let F : ℕ → C = λ k. f (k / w + 1) (k % w + 1) in
    let k : ℕ = (r - 1) * w + (c - 1) in
    let row : k / w + 1 ≡ r = rw (div-mul-add (r - 1) w (c - 1) (omega arith)) (omega arith) in
    let col : k % w + 1 ≡ c = rw (mod-mul-add (r - 1) w (c - 1) (omega arith)) (omega arith) in
    get_or-map-range_with_len F 0 (s.rows * w) k k z (within s w r c r1 r24 c1 cw) (omega arith)
    ∙ ap (λ x. f x (k % w + 1)) row ∙ ap (λ x. f r x) col

-- cells that are equal at every place are the cells of a formula
cells-same : {C : Type 0} (z : C) (s : Size) (w : ℕ) (f : ℕ → ℕ → C) (xs : List C) → length xs ≡ s.rows * w
    → ((r c : ℕ) → 1 ≤ r → r ≤ s.rows → 1 ≤ c → c ≤ w → get_or xs ((r - 1) * w + (c - 1)) z ≡ f r c)
    → xs ≡ cells_of s w f
unfolding cells_of
cells-same {C = C} z s w f xs long same =
    fill_by_all (λ k. f (k / w + 1) (k % w + 1)) xs (s.rows * w) z long (λ k h.
    let wide : 0 < w = columns-any s.rows w k h in
    let low : k / w < s.rows = (div-lt_iff_lt-mul wide).1 h in
    let left : k % w < w = mod-lt k wide in
    let row : k / w + 1 - 1 ≡ k / w = omega arith in
    let col : k % w + 1 - 1 ≡ k % w = omega arith in
    let place : (k / w + 1 - 1) * w + (k % w + 1 - 1) ≡ k = rw (row, col) (omega (arith, mod-add-div' k w)) in
    ap (λ x. get_or xs x z) (sym place) ∙ same (k / w + 1) (k % w + 1) (omega arith) (omega arith) (omega arith)
    (omega arith))

-- formulas that agree at every place give one grid
pub grid_of-same : {C : Type 0} (s : Size) (w : ℕ) (f g : ℕ → ℕ → C)
    → ((r c : ℕ) → 1 ≤ r → r ≤ s.rows → 1 ≤ c → c ≤ w → f r c ≡ g r c) → grid_of s w f ≡ grid_of s w g
unfolding at_or
grid_of-same {C = C} s w f g same =
    ap (λ (xs : List C). record { size = s; width = w; cells = xs })
    (cells-same (f 1 1) s w g (cells_of s w f) (length-cells_of s w f) (λ r c r1 r24 c1 cw.
    cell_at-grid_of (f 1 1) s w f r c r1 r24 c1 cw ∙ same r c r1 r24 c1 cw))

-- a grid is made by its own cells
pub grid_of-cell_at : {C : Type 0} (z : C) (g : GridOf C) → length g.cells ≡ g.size.rows * g.width → grid_of g.size g.width (at_or z g) ≡ g
unfolding at_or
grid_of-cell_at {C = C} z g long =
    ap (λ (xs : List C). record { size = g.size; width = g.width; cells = xs })
    (sym (cells-same z g.size g.width (at_or z g) g.cells long (λ r c r1 r24 c1 cw. refl)))

-- a grid of one of the widths, made by a formula
pub IsGrid-grid_of : {C : Type 0} (s : Size) (w : ℕ) (f : ℕ → ℕ → C) → IsSize s → (wide : Bool) × (w ≡ width_of s wide)
    → IsGrid (grid_of s w f)
IsGrid-grid_of {C = C} s w f sized is = record { size = sized; width = is; cells = length-cells_of s w f }

pub length-row_of : {C : Type 0} (z : C) (g : GridOf C) (r : ℕ) → length (row_or z g r) ≡ g.width
unfolding row_or
length-row_of {C = C} z g r = length-map-range_with_len (at_or z g r) 1 g.width

-- a cell of a row
pub get_or-row_of : {C : Type 0} (z : C) (g : GridOf C) (r c : ℕ) (d : C) → 1 ≤ c → c ≤ g.width
    → get_or (row_or z g r) (c - 1) d ≡ at_or z g r c
unfolding row_or
get_or-row_of {C = C} z g r c d c1 cw = get_or-map-range_with_len (at_or z g r) 1 g.width (c - 1) c d (omega arith) (omega arith)

-- cells that are those of a row are the row
pub row_of-same : {C : Type 0} (z : C) (s : Size) (w : ℕ) (f : ℕ → ℕ → C) (r : ℕ) (xs : List C) → 1 ≤ r → r ≤ s.rows → length xs ≡ w
    → ((c : ℕ) → 1 ≤ c → c ≤ w → get_or xs (c - 1) z ≡ f r c) → xs ≡ row_or z (grid_of s w f) r
row_of-same {C = C} z s w f r xs r1 r24 long same =
    same_lists xs (row_or z (grid_of s w f) r) (long ∙ sym (length-row_of z (grid_of s w f) r)) (λ k d h.
    let here : k + 1 - 1 ≡ k = omega arith in
    get_or_default xs k d z h
    ∙ ap (λ x. get_or xs x z) (sym here)
    ∙ same (k + 1) (omega arith) (omega arith)
    ∙ sym (cell_at-grid_of z s w f r (k + 1) r1 r24 (omega arith) (omega arith))
    ∙ sym (get_or-row_of z (grid_of s w f) r (k + 1) d (omega arith) (omega arith))
    ∙ ap (λ x. get_or (row_or z (grid_of s w f) r) x d) here)

-- the bounds of a width
pub width-bounds : (s : Size) (w : ℕ) → IsSize s → (wide : Bool) × (w ≡ width_of s wide) → (2 ≤ w) × (w ≤ stride s)
width-bounds s w sized (true, is) = (omega (arith, sized.narrow, sized.wide), omega arith)
width-bounds s w sized (false, is) = (omega (arith, sized.narrow), omega (arith, sized.wide))

-- grids with equal rows are equal
pub rows-same : {C : Type 0} (z : C) (g h : GridOf C) → IsGrid g → IsGrid h → g.size ≡ h.size
    → ((r : ℕ) → 1 ≤ r → r < g.size.rows + 1 → row_or z g r ≡ row_or z h r) → g ≡ h
rows-same {C = C} z g h is_g is_h sizes same =
    let wide : g.width ≡ h.width = sym (length-row_of z g 1) ∙ ap length (same 1 (omega arith) (omega (arith, is_g.size.rows.0)))
    ∙ length-row_of z h 1 in
    sym (grid_of-cell_at z g is_g.cells)
    ∙ grid_of-same g.size g.width (at_or z g) (at_or z h) (λ r c r1 r24 c1 cw.
    sym (get_or-row_of z g r c z c1 cw) ∙ ap (λ xs. get_or xs (c - 1) z) (same r r1 (omega arith))
    ∙ get_or-row_of z h r c z c1 (omega arith))
    ∙ ap (λ w. grid_of g.size w (at_or z h)) wide
    ∙ ap (λ s. grid_of s h.width (at_or z h)) sizes
    ∙ grid_of-cell_at z h is_h.cells
