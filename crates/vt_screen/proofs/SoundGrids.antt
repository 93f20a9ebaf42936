-- Each map of a sound grid is one.
use Rattle.std.proofs.Common.{◌≡◌, inl, inr, ℕ, ◌+◌, ◌-◌, Bool, true, false, ◌==◌, ◌&&◌, if◌then◌else◌, List, length, All}
use Rattle.std.proofs.Common.{IsTrue, arith, refl, sym, ◌∙◌}
use Rattle.std.proofs.Math.Dec.{leb, ltb}
use Rattle.std.specs.List.{length_refill}
use Rattle.std.specs.Global.{Vec}
use Rattle.std.specs.Vec.{with_items}
use Rattle.vt_glyph.specs.Tables.{IsGlyph}
use Rattle.vt_screen.specs.Grid.{GridOf, IsSoundGridOf, at_or, row_any, put_any, put_inserting_any, insert_any, delete_any, changed_any, scroll_up_any, scroll_down_any, row_from_any, grid_on_any, blank_any, fill_any}
use Rattle.vt_screen.specs.declared.cell.Cell.{Cell}
use Rattle.vt_screen.specs.declared.size.Size.{Size}
use Rattle.vt_screen.specs.Sizes.{width_of, IsSize}
use Rattle.vt_screen.specs.Grid.{Grid, IsSoundGrid, grid_of}
use Rattle.vt_screen.specs.Grid.{put_run}
use Rattle.vt_screen.specs.Grid.{is_within}
use Rattle.vt_screen.specs.Between.{given_any, columns_up_any, columns_down_any, insert_between_any, delete_between_any}
use Rattle.vt_screen.specs.Kinds.{CellsOf, erased_any}
use Rattle.vt_screen.specs.Shown.{blank_is_shown}
use Rattle.vt_screen.proofs.Places.{IsGrid-grid_of}
use Rattle.vt_screen.proofs.Maps.{among-before}
use Rattle.vt_screen.proofs.Composed.{test-at, test-formula}

-- cells that are written over are as many
pub as_many : {C : Type 0} (n : ℕ) (cells : Vec C) (new : List C) → cells.len ≡ length cells.items → length cells.items ≡ n
    → length (with_items cells new).items ≡ n
as_many n cells new ok long = sym (length_refill cells.len cells.items new ok) ∙ ok ∙ long

at : {C : Type 0} {test : C → Bool} (z : C) (g : GridOf C) (r c : ℕ) → IsTrue (test z) → IsSoundGridOf test g → IsTrue (test (at_or z g r c))
at {test = test} z g r c on sound = test-at z test g r c on sound.glyphs

-- one of two cells
chosen : {C : Type 0} (test : C → Bool) (which : Bool) (x y : C) → IsTrue (test x) → IsTrue (test y) → IsTrue (test (if which then x else y))
chosen test true x y on_x on_y = on_x
chosen test false x y on_x on_y = on_y

-- a formula that gives sound cells
made : {C : Type 0} {test : C → Bool} (g : GridOf C) (f : ℕ → ℕ → C) → IsSoundGridOf test g → ((r c : ℕ) → IsTrue (test (f r c)))
    → IsSoundGridOf test (grid_of g.size g.width f)
made {test = test} g f sound each = record {
  shape = IsGrid-grid_of g.size g.width f sound.shape.size sound.shape.width;
  glyphs = test-formula test g.size g.width f (λ r c r1 r24 c1 cw. each r c);
}

row-sound : {C : Type 0} {test : C → Bool} (z : C) (g : GridOf C) (row : ℕ) (f : ℕ → C) → IsTrue (test z) → IsSoundGridOf test g → ((c : ℕ) → IsTrue (test (f c)))
    → IsSoundGridOf test (row_any z g row f)
row-sound {test = test} z g row f on sound each = made g _ sound (λ r c. chosen test (r == row) _ _ (each c) (at z g r c on sound))

pub put-sound : {C : Type 0} {test : C → Bool} (z : C) (g : GridOf C) (row col : ℕ) (cell : C) → IsTrue (test z) → IsSoundGridOf test g → IsTrue (test cell)
    → IsSoundGridOf test (put_any z g row col cell)
put-sound {test = test} z g row col cell on sound shows =
    row-sound z g row _ on sound (λ c. chosen test (c == col) _ _ shows (at z g row c on sound))

pub put_inserting-sound : {C : Type 0} {test : C → Bool} (z : C) (g : GridOf C) (row col : ℕ) (cell : C) → IsTrue (test z) → IsSoundGridOf test g → IsTrue (test cell)
    → IsSoundGridOf test (put_inserting_any z g row col cell)
put_inserting-sound {test = test} z g row col cell on sound shows = row-sound z g row _ on sound (λ c.
    chosen test (c == col) _ _ shows (chosen test (ltb col c) _ _ (at z g row (c - 1) on sound) (at z g row c on sound)))

pub put_run-sound : (g : Grid) (row col : ℕ) (glyphs : List ℕ) (like : Cell) → IsSoundGrid g → All IsGlyph glyphs
    → IsSoundGrid (put_run g row col glyphs like)
put_run-sound g row col glyphs like sound are =
    row-sound _ g row _ blank_is_shown sound (λ c. elim (among-before col (col + length glyphs) c) [
      | inl t ↦ rw t.0 (are (c - col) 0 (omega (arith, t)))
      | inr t ↦ rw t.0 (at _ g row c blank_is_shown sound)
    ])

-- an area that gets sound cells
pub given-sound : {C : Type 0} {test : C → Bool} (z : C) (g : GridOf C) (area : ℕ → ℕ → Bool) (f : ℕ → ℕ → C) → IsTrue (test z)
    → IsSoundGridOf test g → ((r c : ℕ) → IsTrue (test (f r c))) → IsSoundGridOf test (given_any z g area f)
given-sound {test = test} z g area f on sound each =
    made g _ sound (λ r c. chosen test (area r c) _ _ (each r c) (at z g r c on sound))

pub copied-sound : {C : Type 0} {test : C → Bool} (z : C) (g : GridOf C) (area : ℕ → ℕ → Bool) (from : ℕ) → IsTrue (test z)
    → IsSoundGridOf test g → IsSoundGridOf test (given_any z g area (λ r c. at_or z g from c))
copied-sound {test = test} z g area from on sound = given-sound z g area _ on sound (λ r c. at z g from c on sound)

pub columns_up-sound : {C : Type 0} {test : C → Bool} (z : C) (g : GridOf C) (cell : C) (top bottom left right n : ℕ) → IsTrue (test z)
    → IsTrue (test cell) → IsSoundGridOf test g → IsSoundGridOf test (columns_up_any z cell g top bottom left right n)
columns_up-sound {test = test} z g cell top bottom left right n on shows sound = given-sound z g _ _ on sound
    (λ r c. chosen test (leb (r + n) bottom) _ _ (at z g (r + n) c on sound) shows)

pub columns_down-sound : {C : Type 0} {test : C → Bool} (z : C) (g : GridOf C) (cell : C) (top bottom left right n : ℕ) → IsTrue (test z)
    → IsTrue (test cell) → IsSoundGridOf test g → IsSoundGridOf test (columns_down_any z cell g top bottom left right n)
columns_down-sound {test = test} z g cell top bottom left right n on shows sound = given-sound z g _ _ on sound
    (λ r c. chosen test (leb (top + n) r) _ _ (at z g (r - n) c on sound) shows)

pub insert_between-sound : {C : Type 0} {test : C → Bool} (z : C) (g : GridOf C) (cell : C) (row col right n : ℕ) → IsTrue (test z)
    → IsTrue (test cell) → IsSoundGridOf test g → IsSoundGridOf test (insert_between_any z cell g row col right n)
insert_between-sound {test = test} z g cell row col right n on shows sound = given-sound z g _ _ on sound
    (λ r c. chosen test (leb (col + n) c) _ _ (at z g r (c - n) on sound) shows)

pub delete_between-sound : {C : Type 0} {test : C → Bool} (z : C) (g : GridOf C) (cell : C) (row col right n : ℕ) → IsTrue (test z)
    → IsTrue (test cell) → IsSoundGridOf test g → IsSoundGridOf test (delete_between_any z cell g row col right n)
delete_between-sound {test = test} z g cell row col right n on shows sound = given-sound z g _ _ on sound
    (λ r c. chosen test (leb (c + n) right) _ _ (at z g r (c + n) on sound) shows)

pub insert_cells-sound : {C : Type 0} {test : C → Bool} (z : C) (g : GridOf C) (cell : C) (row col n : ℕ) → IsTrue (test z) → IsTrue (test cell) → IsSoundGridOf test g
    → IsSoundGridOf test (insert_any z cell g row col n)
insert_cells-sound {test = test} z g cell row col n on shows sound = row-sound z g row _ on sound
    (λ c. chosen test (leb (col + n) c) _ _ (at z g row (c - n) on sound)
    (chosen test (leb col c) _ _ shows (at z g row c on sound)))

pub delete_cells-sound : {C : Type 0} {test : C → Bool} (z : C) (g : GridOf C) (cell : C) (row col n : ℕ) → IsTrue (test z) → IsTrue (test cell) → IsSoundGridOf test g
    → IsSoundGridOf test (delete_any z cell g row col n)
delete_cells-sound {test = test} z g cell row col n on shows sound = row-sound z g row _ on sound (λ c. chosen test (leb col c) _ _
    (chosen test (leb (c + n) g.width) _ _ (at z g row (c + n) on sound) shows) (at z g row c on sound))

pub changed-sound : {C : Type 0} {test : C → Bool} (z : C) (g : GridOf C) (change : C → C) (area : ℕ → ℕ → Bool) → IsTrue (test z)
    → ((cell : C) → IsTrue (test cell) → IsTrue (test (change cell))) → IsSoundGridOf test g → IsSoundGridOf test (changed_any z change g area)
changed-sound {test = test} z g change area on keeps sound = made g _ sound (λ r c.
    chosen test (area r c) _ _ (keeps _ (at z g r c on sound)) (at z g r c on sound))

pub erased-keeps : {C : Type 0} (k : CellsOf C) (selective : Bool) (empty : C) → IsTrue (k.shown empty)
    → ((cell : C) → IsTrue (k.shown cell) → IsTrue (k.shown (k.selectively_erased cell)))
    → (cell : C) → IsTrue (k.shown cell) → IsTrue (k.shown (erased_any k selective empty cell))
erased-keeps k true empty on keeps cell h = keeps cell h
erased-keeps k false empty on keeps cell h = on

pub scroll_up-sound : {C : Type 0} {test : C → Bool} (z : C) (g : GridOf C) (cell : C) (top bottom n : ℕ) → IsTrue (test z) → IsTrue (test cell) → IsSoundGridOf test g
    → IsSoundGridOf test (scroll_up_any z cell g top bottom n)
scroll_up-sound {test = test} z g cell top bottom n on shows sound = made g _ sound (λ r c. chosen test (is_within top bottom r) _ _
    (chosen test (leb (r + n) bottom) _ _ (at z g (r + n) c on sound) shows) (at z g r c on sound))

pub scroll_down-sound : {C : Type 0} {test : C → Bool} (z : C) (g : GridOf C) (cell : C) (top bottom n : ℕ) → IsTrue (test z) → IsTrue (test cell) → IsSoundGridOf test g
    → IsSoundGridOf test (scroll_down_any z cell g top bottom n)
scroll_down-sound {test = test} z g cell top bottom n on shows sound = made g _ sound (λ r c. chosen test (is_within top bottom r) _ _
    (chosen test (leb (top + n) r) _ _ (at z g (r - n) c on sound) shows) (at z g r c on sound))

pub row_from-sound : {C : Type 0} {test : C → Bool} (z : C) (g : GridOf C) (row : ℕ) (other : GridOf C) (from : ℕ) → IsTrue (test z) → IsSoundGridOf test g → IsSoundGridOf test other
    → IsSoundGridOf test (row_from_any z g row other from)
row_from-sound {test = test} z g row other from on sound there = row-sound z g row _ on sound
    (λ c. chosen test (leb c other.width) _ _ (at z other from c on there) (at z g row c on sound))

pub fill-sound : {C : Type 0} {test : C → Bool} (g : GridOf C) (cell : C) → IsSoundGridOf test g → IsTrue (test cell) → IsSoundGridOf test (fill_any g cell)
fill-sound g cell sound shows = made g _ sound (λ r c. shows)

pub blank_grid-sound : {C : Type 0} {test : C → Bool} (z : C) (s : Size) (wide : Bool) → IsTrue (test z) → IsSize s → IsSoundGridOf test (blank_any z s wide)
blank_grid-sound {test = test} z s wide on sized = record {
  shape = IsGrid-grid_of s (width_of s wide) (λ r c. z) sized (wide, refl);
  glyphs = test-formula test s (width_of s wide) (λ r c. z) (λ r c r1 r24 c1 cw. on);
}

pub grid_on-sound : {C : Type 0} {test : C → Bool} (z : C) (s : Size) (off : ℕ) (g : GridOf C) → IsTrue (test z) → IsSize s → IsSoundGridOf test g → IsSoundGridOf test (grid_on_any z s off g)
grid_on-sound {test = test} z s off g on sized sound = record {
  shape = IsGrid-grid_of s (width_of s (g.width == g.size.wide)) _ sized (g.width == g.size.wide, refl);
  glyphs = test-formula test s (width_of s (g.width == g.size.wide)) _ (λ r c r1 r24 c1 cw.
      chosen test (leb (r + off) g.size.rows && leb c g.width) _ _ (at z g (r + off) c on sound) on);
}
