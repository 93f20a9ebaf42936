-- The lemmas of grids, at a VT220's cells.
use Rattle.std.proofs.Common.{◌≡◌, ℕ, ◌+◌, ◌≤◌, Bool}
use Rattle.vt_glyph.specs.Tables.{IsGlyph}
use Rattle.vt_screen.specs.declared.cell.Cell.{Cell}
use Rattle.vt_screen.specs.declared.size.Size.{Size}
use Rattle.vt_screen.specs.Sizes.{IsSize}
use Rattle.vt_screen.specs.Cells.{blank, erased}
use Rattle.vt_screen.specs.Shown.{blank_is_shown, erased_is_shown}
use Rattle.vt_screen.specs.Kinds.{vt220_cells}
use Rattle.vt_screen.specs.Grid.{Grid, IsGrid, IsSoundGrid, cell_at, blank_grid, put, put_inserting, insert_cells, delete_cells}
use Rattle.vt_screen.specs.Grid.{erase_area, scroll_up, scroll_down, fill, grid_on}
use Rattle.vt_screen.specs.Between.{columns_up, columns_down, insert_between, delete_between, put_between}
use Rattle.vt_screen.proofs.SoundGrids as any
use Rattle.vt_screen.proofs.OtherSize as any_size

pub put-sound : (g : Grid) (row col : ℕ) (cell : Cell) → IsSoundGrid g → IsGlyph cell.glyph → IsSoundGrid (put g row col cell)
put-sound g row col cell sound glyph = any.put-sound blank g row col cell blank_is_shown sound glyph

pub put_inserting-sound : (g : Grid) (row col : ℕ) (cell : Cell) → IsSoundGrid g → IsGlyph cell.glyph
    → IsSoundGrid (put_inserting g row col cell)
put_inserting-sound g row col cell sound glyph = any.put_inserting-sound blank g row col cell blank_is_shown sound glyph

pub insert_cells-sound : (g : Grid) (row col n : ℕ) → IsSoundGrid g → IsSoundGrid (insert_cells g row col n)
insert_cells-sound g row col n sound = any.insert_cells-sound blank g blank row col n blank_is_shown blank_is_shown sound

pub delete_cells-sound : (g : Grid) (row col n : ℕ) → IsSoundGrid g → IsSoundGrid (delete_cells g row col n)
delete_cells-sound g row col n sound = any.delete_cells-sound blank g blank row col n blank_is_shown blank_is_shown sound

pub erase_area-sound : (g : Grid) (area : ℕ → ℕ → Bool) (selective : Bool) → IsSoundGrid g
    → IsSoundGrid (erase_area g area selective)
erase_area-sound g area selective sound = any.changed-sound blank g (erased selective) area blank_is_shown
    (any.erased-keeps vt220_cells selective blank blank_is_shown erased_is_shown) sound

pub scroll_up-sound : (g : Grid) (top bottom n : ℕ) → IsSoundGrid g → IsSoundGrid (scroll_up g top bottom n)
scroll_up-sound g top bottom n sound = any.scroll_up-sound blank g blank top bottom n blank_is_shown blank_is_shown sound

pub scroll_down-sound : (g : Grid) (top bottom n : ℕ) → IsSoundGrid g → IsSoundGrid (scroll_down g top bottom n)
scroll_down-sound g top bottom n sound = any.scroll_down-sound blank g blank top bottom n blank_is_shown blank_is_shown sound

pub columns_up-sound : (g : Grid) (top bottom left right n : ℕ) → IsSoundGrid g → IsSoundGrid (columns_up g top bottom left right n)
columns_up-sound g top bottom left right n sound =
    any.columns_up-sound blank g blank top bottom left right n blank_is_shown blank_is_shown sound

pub columns_down-sound : (g : Grid) (top bottom left right n : ℕ) → IsSoundGrid g
    → IsSoundGrid (columns_down g top bottom left right n)
columns_down-sound g top bottom left right n sound =
    any.columns_down-sound blank g blank top bottom left right n blank_is_shown blank_is_shown sound

pub insert_between-sound : (g : Grid) (row col right n : ℕ) → IsSoundGrid g → IsSoundGrid (insert_between g row col right n)
insert_between-sound g row col right n sound =
    any.insert_between-sound blank g blank row col right n blank_is_shown blank_is_shown sound

pub delete_between-sound : (g : Grid) (row col right n : ℕ) → IsSoundGrid g → IsSoundGrid (delete_between g row col right n)
delete_between-sound g row col right n sound =
    any.delete_between-sound blank g blank row col right n blank_is_shown blank_is_shown sound

pub put_between-sound : (g : Grid) (row col right : ℕ) (cell : Cell) → IsSoundGrid g → IsGlyph cell.glyph
    → IsSoundGrid (put_between g row col right cell)
put_between-sound g row col right cell sound glyph =
    any.insert_between-sound blank g cell row col right 1 blank_is_shown glyph sound

pub fill-sound : (g : Grid) (cell : Cell) → IsSoundGrid g → IsGlyph cell.glyph → IsSoundGrid (fill g cell)
fill-sound g cell sound glyph = any.fill-sound g cell sound glyph

pub blank_grid-sound : (s : Size) (wide : Bool) → IsSize s → IsSoundGrid (blank_grid s wide)
blank_grid-sound s wide sized = any.blank_grid-sound blank s wide blank_is_shown sized

pub grid_on-sound : (s : Size) (off : ℕ) (g : Grid) → IsSize s → IsSoundGrid g → IsSoundGrid (grid_on s off g)
grid_on-sound s off g sized sound = any.grid_on-sound blank s off g blank_is_shown sized sound

pub own-size : (g : Grid) → IsGrid g → grid_on g.size 0 g ≡ g
own-size g is = any_size.own-size blank g is

pub inside-stays : (s : Size) (off : ℕ) (g : Grid) (r c : ℕ) → 1 ≤ r → r ≤ s.rows → r + off ≤ g.size.rows
    → 1 ≤ c → c ≤ g.width → c ≤ (grid_on s off g).width → cell_at (grid_on s off g) r c ≡ cell_at g (r + off) c
inside-stays s off g r c r1 r24 there c1 left right = any_size.inside-stays blank s off g r c r1 r24 there c1 left right
