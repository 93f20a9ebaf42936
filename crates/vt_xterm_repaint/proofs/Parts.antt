-- What a repaint's actions need of the state that they make, part by part.
use Rattle.std.proofs.Common.{◌≡◌, ◌⊎◌, inl, inr, ℕ, ◌+◌, ◌≤◌, ◌<◌, length, Bool, true, false, arith, refl, sym, subst}
use Rattle.std.specs.Prelude.{IsTrue, ◌||◌, ◌&&◌, not, nat_lt}
use Rattle.std.proofs.lemmas.Bool.{false≢true, and_parts}
use Rattle.std.proofs.lemmas.Bool.Decides.{nat_tests}
use Rattle.vt_glyph.specs.GraphicSets.{AreSoundSets}
use Rattle.vt_screen.specs.declared.size.Size.{Size}
use Rattle.vt_screen.specs.Grid.{IsGrid, IsSoundGridOf, at_or}
use Rattle.vt_screen.specs.Sizes.{IsSize, width_of}
use Rattle.vt_screen.proofs.Composed.{test-at}
use Rattle.vt_term.specs.declared.state.SavedOf.{SavedOf}
use Rattle.vt_term.specs.State.{saved_sets}
use Rattle.vt_term.specs.Sound.{AreSoundMargins, IsPlace}
use Rattle.vt_wide.specs.Edits.{is_parted}
use Rattle.vt_wide.specs.Whole.{IsWhole}
use Rattle.vt_xterm_cell.specs.declared.look.Colour.{Colour}
use Rattle.vt_xterm_cell.specs.declared.look.Colour.TheVariants.{Default, Indexed, Rgb}
use Rattle.vt_xterm_cell.specs.declared.look.Look.{Look}
use Rattle.vt_xterm_cell.specs.Words.{CellParts, is_colour, has_colours, is_writable, is_sound_cell}
use Rattle.vt_xterm_cell.specs.Cells.{blank_cell}
use Rattle.vt_xterm_cell.specs.Kinds.{xterm_cells, blank_cell_shown}
use Rattle.vt_xterm_cell.specs.Characters.{is_shown}
use Rattle.vt_xterm_cell.specs.Wide.{xterm_wide}
use Rattle.vt_xterm_display.specs.Sound.{AreSides}
use Rattle.vt_xterm_display.specs.State.{Grid, PageState, XtermState, full_sides}
use Rattle.vt_xterm_display.specs.Tabs.{is_pending}
use Rattle.vt_xterm_display.specs.Whole.{parts_none}
use Rattle.vt_xterm_repaint.specs.Repaint.{page_shown}
use Rattle.vt_xterm_repaint.specs.Colours.{IsColour, HasColours}
use Rattle.vt_xterm_repaint.specs.Makeable.{CanBeMade}

-- cells: each wide character has its two cells, each cell has what can be written, and its colours are bytes
pub record IsPage (t : Grid) : Type 0 where
  pub grid : IsGrid t
  pub whole : IsWhole xterm_wide blank_cell t
  pub shown : (r c : ℕ) → 1 ≤ r → r ≤ t.size.rows → 1 ≤ c → c ≤ t.width
      → is_shown (at_or blank_cell t r c).character (at_or blank_cell t r c).mark (at_or blank_cell t r c).other_mark (at_or blank_cell t r c).wide ≡ true
  pub colours : (r c : ℕ) → 1 ≤ r → r ≤ t.size.rows → 1 ≤ c → c ≤ t.width → HasColours (at_or blank_cell t r c).look

-- one of the two widths of a screen, which has columns
pub record IsWidth (size : Size) (width : ℕ) : Type 0 where
  pub some : 1 ≤ width
  pub narrow : 1 ≤ size.narrow
  pub either : (width ≡ size.narrow) ⊎ (width ≡ size.wide)

-- what DECSC saved: a place of the page, sets, and a look whose colours are bytes
pub record IsSaved (size : Size) (width : ℕ) (saved : SavedOf Look) : Type 0 where
  pub place : IsPlace size.rows width saved.row saved.col saved.wrap
  pub sets : AreSoundSets (saved_sets saved)
  pub colours : HasColours saved.brush

-- a page: its cells, what is saved on it, and its width
pub record IsPageOf (page : PageState) : Type 0 where
  pub cells : IsPage page.grid
  pub saved : IsSaved page.grid.size page.grid.width page.saved
  pub width : IsWidth page.grid.size page.grid.width

-- both pages are of one size, with a row at least, and there is a stop or none for each column of the wide screen
pub record ArePages (s : XtermState) : Type 0 where
  pub shown : IsPageOf (page_shown s)
  pub other : IsPageOf s.other
  pub one_size : s.other.grid.size ≡ s.shown.grid.size
  pub rows : 1 ≤ s.shown.grid.size.rows
  pub wide : IsWidth s.shown.grid.size s.shown.grid.size.wide
  pub narrow : IsWidth s.shown.grid.size s.shown.grid.size.narrow
  pub stops : length s.shown.stops ≡ s.shown.grid.size.wide

-- the four margins; without DECLRMM the left and right ones are all columns
pub record AreMargins (w : XtermState) : Type 0 where
  pub margins : AreSoundMargins w.shown.grid.size.rows w.shown.margins
  pub sides : AreSides w.shown.grid.width w.sides
  pub full : w.bounded ≡ false → w.sides ≡ full_sides w.shown.grid.width

-- the cursor is at a place of the screen, and under DECOM between the margins
pub record IsCursor (w : XtermState) : Type 0 where
  pub row : (1 ≤ w.shown.cursor.row) × (w.shown.cursor.row ≤ w.shown.grid.size.rows)
  pub col : (1 ≤ w.shown.cursor.col) × (w.shown.cursor.col ≤ w.shown.grid.width)
  pub rows : w.shown.modes.decom ≡ true → (w.shown.margins.top ≤ w.shown.cursor.row) × (w.shown.cursor.row ≤ w.shown.margins.bottom)
  pub columns : w.shown.modes.decom ≡ true → (w.sides.left ≤ w.shown.cursor.col) × (w.shown.cursor.col ≤ w.sides.right)
  -- a wrap is pending in the last column, or at the right margin left of it
  pub last : w.shown.cursor.wrap ≡ true → w.shown.cursor.col ≡ w.shown.grid.width
  pub waiting : w.waits ≡ true → (w.shown.cursor.col ≡ w.sides.right) × (w.sides.right < w.shown.grid.width)
  -- then the right margin doesn't part the character there
  pub fits : is_pending w ≡ true → is_parted xterm_wide blank_cell w.shown.grid w.shown.cursor.row (w.sides.right + 1) ≡ true
      → (w.shown.cursor.col ≡ w.sides.right → ⊥) × (w.shown.cursor.col ≡ w.sides.right + 1 → ⊥)

-- all parts
pub record HasParts (w : XtermState) : Type 0 where
  pub pages : ArePages w
  pub margins : AreMargins w
  pub cursor : IsCursor w
  -- a wrap is pending under DECAWM alone
  pub wraps : is_pending w ≡ true → w.shown.modes.decawm ≡ true
  pub look : HasColours w.shown.brush
  pub sets : AreSoundSets w.shown.sets

-- ---- a state that can be made has them

some-width : (g : Grid) → IsGrid g → IsWidth g.size g.width
some-width g is = go is.width.0 is.width.1
  where
    go : (wide : Bool) → g.width ≡ width_of g.size wide → IsWidth g.size g.width
    go true e = record { some = omega (arith, e, is.size.narrow, is.size.wide); narrow = omega (arith, is.size.narrow); either = inr e }
    go false e = record { some = omega (arith, e, is.size.narrow); narrow = omega (arith, is.size.narrow); either = inl e }

cell-shown : (g : Grid) → IsSoundGridOf xterm_cells.shown g → (r c : ℕ) → IsTrue (xterm_cells.shown (at_or blank_cell g r c))
cell-shown g is r c = test-at blank_cell xterm_cells.shown g r c blank_cell_shown is.glyphs

-- what holds of each cell
cell-writable : (x : CellParts) → is_sound_cell x ≡ true → is_shown x.character x.mark x.other_mark x.wide ≡ true
cell-writable x is = (and_parts (is_writable x) (has_colours x.look) is).0

colour-bytes : (x : Colour) → is_colour x ≡ true → IsColour x
colour-bytes Default is = tt
colour-bytes (Indexed i) is = grind (arith, nat_tests, is)
colour-bytes (Rgb red green blue) is =
    let first = and_parts (nat_lt red 0x100) (nat_lt green 0x100 && nat_lt blue 0x100) is in
    let rest = and_parts (nat_lt green 0x100) (nat_lt blue 0x100) first.1 in
    let a = first.0 in
    let b = rest.0 in
    let c = rest.1 in
    (grind (arith, nat_tests, a), grind (arith, nat_tests, b), grind (arith, nat_tests, c))

cell-colours : (x : CellParts) → is_sound_cell x ≡ true → HasColours x.look
cell-colours x is =
    let both = and_parts (is_colour x.look.foreground) (is_colour x.look.background) (and_parts (is_writable x) (has_colours x.look) is).1 in
    record { foreground = colour-bytes x.look.foreground both.0; background = colour-bytes x.look.background both.1 }

page-parts : (g : Grid) (saved : SavedOf Look) → IsSoundGridOf xterm_cells.shown g
    → IsPlace g.size.rows g.width saved.row saved.col saved.wrap → AreSoundSets (saved_sets saved)
    → IsWhole xterm_wide blank_cell g → HasColours saved.brush → IsPageOf (record { grid = g; saved = saved })
page-parts g saved sound place sets whole colours = record {
  cells = record {
    grid = sound.shape;
    whole = whole;
    shown = λ r c r1 rh c1 cw. cell-writable (at_or blank_cell g r c) (cell-shown g sound r c);
    colours = λ r c r1 rh c1 cw. cell-colours (at_or blank_cell g r c) (cell-shown g sound r c);
  };
  saved = record { place = place; sets = sets; colours = colours };
  width = some-width g sound.shape;
}

-- the right margin parts a character or none
clash : (g : Grid) (row right : ℕ) → is_parted xterm_wide blank_cell g row (right + 1) ≡ true → parts_none g row right ≡ true → ⊥
unfolding parts_none
clash g row right is none = go (is_parted xterm_wide blank_cell g row (right + 1)) is none
  where
    go : (x : Bool) → x ≡ true → not x ≡ true → ⊥
    go true a b = false≢true b
    go false a b = false≢true a

module _ (w : XtermState) (can : CanBeMade w) where
  size : IsSize w.shown.grid.size
  size = can.display.grid.shape.size

  pages : ArePages w
  pages = record {
    shown = page-parts w.shown.grid w.shown.saved can.display.grid can.display.saved can.display.saved_sets can.sound.kept.shown_whole can.saved;
    other = page-parts w.other.grid w.other.saved can.other.grid
        (subst (λ (z : Size). IsPlace z.rows w.other.grid.width w.other.saved.row w.other.saved.col w.other.saved.wrap) (sym can.other.of_size) can.other.saved)
        can.other.saved_sets can.sound.kept.other_whole can.other_saved;
    one_size = can.other.of_size;
    rows = omega (arith, size.rows);
    wide = record { some = omega (arith, size.narrow, size.wide); narrow = omega (arith, size.narrow); either = inr refl };
    narrow = record { some = omega (arith, size.narrow); narrow = omega (arith, size.narrow); either = inl refl };
    stops = can.display.stops;
  }

  cursor : IsCursor w
  cursor = record {
    row = (can.display.cursor.row_1, can.display.cursor.row_last);
    col = (can.display.cursor.col_1, can.display.cursor.col_last);
    rows = can.display.origin;
    columns = can.sound.origin;
    last = can.display.cursor.wrap_last;
    waiting = λ is. ((can.sound.waiting is).at_margin, (can.sound.waiting is).before_last);
    fits = λ pending parted. (
      λ at. clash w.shown.grid w.shown.cursor.row w.sides.right parted (can.sound.fits pending (omega (arith, at))),
      λ at. clash w.shown.grid w.shown.cursor.row w.sides.right parted (can.sound.fits pending (omega (arith, at))),
    );
  }

  wraps : is_pending w ≡ true → w.shown.modes.decawm ≡ true
  wraps = go w.waits refl
    where
      go : (waits : Bool) → w.waits ≡ waits → (waits || w.shown.cursor.wrap) ≡ true → w.shown.modes.decawm ≡ true
      go true is pending = (can.sound.waiting is).wraps
      go false is pending = can.display.wrap pending

  pub has-parts : HasParts w
  has-parts = record {
    pages = pages;
    margins = record { margins = can.display.margins; sides = can.sound.sides; full = can.sound.full };
    cursor = cursor;
    wraps = wraps;
    look = can.look;
    sets = can.display.sets;
  }
