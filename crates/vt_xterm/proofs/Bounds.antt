-- Every function between left and right margins keeps the display sound, and its size and width.
use Rattle.std.proofs.Common.{rules, arith, ◌≡◌, ℕ, ◌≤◌, ◌<◌, ◌+◌, ◌-◌, Bool, true, false, zero, suc, refl, subst, sym, ◌∙◌, List, Option, Some, None}
use Rattle.std.specs.Prelude.{◌&&◌, ◌==◌, not, nat_le, nat_lt, min, max, if◌then◌else◌}
use Rattle.std.proofs.lemmas.Bool.Decides.{nat_tests}
use Rattle.vt_glyph.specs.Tables.{IsGlyph}
use Rattle.vt_screen.specs.declared.cell.Cell.{Cell}
use Rattle.vt_screen.specs.declared.size.Size.{Size}
use Rattle.vt_screen.specs.Cells.{cell_of}
use Rattle.vt_screen.specs.Grid.{Grid, IsSoundGrid, put}
use Rattle.vt_screen.specs.Between.{columns_up, columns_down, delete_between, put_between}
use Rattle.vt_screen.proofs.Vt220Grids.{put-sound, columns_up-sound, columns_down-sound, insert_between-sound, delete_between-sound, put_between-sound}
use Rattle.vt_term.specs.State.{Display, State, last_column, has_stop_at, bottom_row, at_place}
use Rattle.vt_term.specs.Parameters.{from_one}
use Rattle.vt_term.specs.Moving.{are_margins, bottom_margin, cursor_up, cursor_down}
use Rattle.vt_term.specs.Editing.{with_grid}
use Rattle.vt_term.specs.Sound.{IsSoundDisplayAt, IsSoundSizedDisplay}
use Rattle.vt_term.proofs.SoundEffects as terminals
use Rattle.vt_term.proofs.SizeKept.{own-display}
use Rattle.vt_term.proofs.Tables.{same-numbers}
use Rattle.vt_xterm.specs.declared.sides.Sides.{Sides}
use Rattle.vt_xterm.specs.Repeating.{times}
use Rattle.vt_xterm.specs.Tabs.{stop_before}
use Rattle.vt_xterm.specs.Sides.{AreSides}
use Rattle.vt_xterm.specs.Sides as between

-- ---- functions of the display, at its own size

abbrev pub KeepsOwn : (Sides → Display → Display) → Type 0
KeepsOwn f = (m : Sides) (s : Display) → AreSides (last_column s) m → IsSoundSizedDisplay s → IsSoundSizedDisplay (f m s)

-- another sound grid of the same size and width
with_grid-own : (grid : Grid) (s : Display) → IsSoundSizedDisplay s → IsSoundGrid grid → grid.size ≡ s.grid.size
    → grid.width ≡ s.grid.width → IsSoundSizedDisplay (record s { grid = grid })
with_grid-own grid s i sound size width = record {
  of_size = refl;
  grid = sound;
  cursor = rw (size, width) i.cursor;
  wrap = i.wrap;
  origin = i.origin;
  sets = i.sets;
  margins = rw size i.margins;
  stops = rw size i.stops;
  saved = rw (size, width) i.saved;
  saved_sets = i.saved_sets;
}

pub home-own : KeepsOwn between.home
home-own m s fits i = search rules

pub carriage_return-own : KeepsOwn between.carriage_return
carriage_return-own m s fits i = search rules

origin_mode-own : (on : Bool) → KeepsOwn (between.origin_mode on)
origin_mode-own on m s fits i = search rules

cursor_forward-own : (n : ℕ) → KeepsOwn (between.cursor_forward n)
cursor_forward-own n m s fits i = search rules

cursor_backward-own : (n : ℕ) → KeepsOwn (between.cursor_backward n)
cursor_backward-own n m s fits i = search rules

cursor_position-own : (line col : ℕ) → KeepsOwn (between.cursor_position line col)
cursor_position-own line col m s fits i = search rules

cursor_character_absolute-own : (n : ℕ) → 1 ≤ n → KeepsOwn (between.cursor_character_absolute n)
cursor_character_absolute-own n some m s fits i = search rules

character_position_forward-own : (n : ℕ) → KeepsOwn (between.character_position_forward n)
character_position_forward-own n m s fits i = search rules

cursor_next_line-own : (n : ℕ) → KeepsOwn (between.cursor_next_line n)
cursor_next_line-own n m s fits i = carriage_return-own m (cursor_down n s) fits (terminals.cursor_down-keeps n s i)

cursor_preceding_line-own : (n : ℕ) → KeepsOwn (between.cursor_preceding_line n)
cursor_preceding_line-own n m s fits i = carriage_return-own m (cursor_up n s) fits (terminals.cursor_up-keeps n s i)

horizontal_tab-own : KeepsOwn between.horizontal_tab
horizontal_tab-own m s fits i = let tabbed = terminals.horizontal_tab-keeps s i in search rules

pub brought-own : KeepsOwn between.brought
brought-own m s fits i = go (s.modes.decom && not (between.is_between m s))
  where
    go : (b : Bool) → IsSoundSizedDisplay (if b then record s {
      cursor = at_place s.cursor.row (max m.left (min s.cursor.col m.right));
    } else s)
    go true = search rules
    go false = i

index-own : KeepsOwn between.index
index-own m s fits i = search (rules, columns_up-sound)

reverse_index-own : KeepsOwn between.reverse_index
reverse_index-own m s fits i = go (s.cursor.row == s.margins.top && between.is_between m s)
  where
    go : (b : Bool) → IsSoundSizedDisplay (record (between.reverse_index m s) {
      grid = if b then columns_down s.grid s.margins.top s.margins.bottom m.left m.right 1 else s.grid;
    })
    go true = search (rules, columns_down-sound)
    go false = search rules

-- IL and DL
edited-own : (grid : Grid) (m : Sides) (s : Display) → AreSides (last_column s) m → IsSoundSizedDisplay s → IsSoundGrid grid
    → grid.size ≡ s.grid.size → grid.width ≡ s.grid.width → IsSoundSizedDisplay (between.line_edited grid m s)
edited-own grid m s fits i sound size width =
    let home : IsSoundSizedDisplay (record s { cursor = at_place s.cursor.row m.left }) = search rules in
    with_grid-own grid (record s { cursor = at_place s.cursor.row m.left }) home sound size width

rows_up-own : (n : ℕ) → KeepsOwn (between.rows_up n)
rows_up-own n m s fits i = search (rules, columns_up-sound)

rows_down-own : (n : ℕ) → KeepsOwn (between.rows_down n)
rows_down-own n m s fits i = search (rules, columns_down-sound)

insert_line-own : (n : ℕ) → KeepsOwn (between.insert_line n)
insert_line-own n m s fits i =
    edited-own (columns_down s.grid s.cursor.row s.margins.bottom m.left m.right n) m s fits i
    (columns_down-sound s.grid s.cursor.row s.margins.bottom m.left m.right n i.grid) refl refl

delete_line-own : (n : ℕ) → KeepsOwn (between.delete_line n)
delete_line-own n m s fits i =
    edited-own (columns_up s.grid s.cursor.row s.margins.bottom m.left m.right n) m s fits i
    (columns_up-sound s.grid s.cursor.row s.margins.bottom m.left m.right n i.grid) refl refl

insert_character-own : (n : ℕ) → KeepsOwn (between.insert_character n)
insert_character-own n m s fits i = search (rules, insert_between-sound)

delete_character-own : (n : ℕ) → KeepsOwn (between.delete_character n)
delete_character-own n m s fits i = go (between.is_between m s)
  where
    go : (b : Bool) → IsSoundSizedDisplay
        (if b then with_grid (delete_between s.grid s.cursor.row s.cursor.col m.right n) s else s)
    go true = search (rules, delete_between-sound)
    go false = i

wrap_waiting-own : KeepsOwn between.wrap_waiting
wrap_waiting-own m s fits i = go (nat_lt m.right (last_column s))
  where
    go : (b : Bool) → IsSoundSizedDisplay (if b then record s { cursor = at_place s.cursor.row m.right } else s)
    go true = search rules
    go false = i

after_wrap-own : KeepsOwn between.after_wrap
after_wrap-own m s fits i = go (between.is_pending m s)
  where
    go : (b : Bool) → IsSoundSizedDisplay (if b then record (between.index m s) {
      cursor = at_place (between.index m s).cursor.row m.left;
    } else s)
    go true = let moved = index-own m s fits i in search rules
    go false = i

reached-within : (m : Sides) (s : Display) → AreSides (last_column s) m → between.last_reached m s ≤ last_column s
reached-within m s fits = go (nat_le s.cursor.col m.right)
  where
    go : (b : Bool) → (if b then m.right else last_column s) ≤ last_column s
    go true = fits.to_last_column
    go false = omega arith

pub both-true : (a b : Bool) → (a && b) ≡ true → (a ≡ true) × (b ≡ true)
both-true true b h = (refl, h)
both-true false b h = absurd cc

next_place-own : (m : Sides) (s : Display) → AreSides (last_column s) m → IsSoundSizedDisplay s
    → IsSoundSizedDisplay (record s { cursor = between.next_place m s })
next_place-own m s fits i =
    go (nat_lt s.cursor.col (between.last_reached m s)) (λ is. grind (arith, nat_tests))
  where
    last : Bool
    last = s.modes.decawm && s.cursor.col == last_column s

    go : (b : Bool) → (b ≡ true → s.cursor.col < between.last_reached m s) → IsSoundSizedDisplay (record s {
      cursor = if b then at_place s.cursor.row (s.cursor.col + 1) else record s.cursor { wrap = last };
    })
    go true less =
        let before : s.cursor.col < between.last_reached m s = less refl in
        let inside : s.cursor.col + 1 ≤ last_column s = omega (arith, before, reached-within m s fits) in
        search (rules, inside)
    go false less = record {
      of_size = i.of_size;
      grid = i.grid;
      cursor = record {
        row_1 = i.cursor.row_1;
        row_last = i.cursor.row_last;
        col_1 = i.cursor.col_1;
        col_last = i.cursor.col_last;
        wrap_last = λ h. same-numbers s.cursor.col (last_column s) (both-true s.modes.decawm (s.cursor.col == last_column s) h).1;
      };
      wrap = λ h. (both-true s.modes.decawm (s.cursor.col == last_column s) h).0;
      origin = i.origin;
      sets = i.sets;
      margins = i.margins;
      stops = i.stops;
      saved = i.saved;
      saved_sets = i.saved_sets;
    }

put_glyph-own : (glyph : ℕ) → IsGlyph glyph → KeepsOwn (between.put_glyph glyph)
put_glyph-own glyph is m s fits i = go (s.modes.irm && between.is_between m s)
  where
    next : IsSoundSizedDisplay (record s { cursor = between.next_place m s })
    next = next_place-own m s fits i

    go : (b : Bool) → IsSoundSizedDisplay (record s {
      grid = if b then put_between s.grid s.cursor.row s.cursor.col m.right (cell_of glyph s.brush)
          else put s.grid s.cursor.row s.cursor.col (cell_of glyph s.brush);
      cursor = between.next_place m s;
    })
    go true =
        with_grid-own (put_between s.grid s.cursor.row s.cursor.col m.right (cell_of glyph s.brush))
        (record s { cursor = between.next_place m s }) next
        (put_between-sound s.grid s.cursor.row s.cursor.col m.right (cell_of glyph s.brush) i.grid is) refl refl
    go false =
        with_grid-own (put s.grid s.cursor.row s.cursor.col (cell_of glyph s.brush))
        (record s { cursor = between.next_place m s }) next
        (put-sound s.grid s.cursor.row s.cursor.col (cell_of glyph s.brush) i.grid is) refl refl

past-one : (c : ℕ) (has : Bool) → (nat_lt 1 c && has) ≡ true → 1 ≤ c
past-one c has is = grind (arith, nat_tests)

pub stop_before-bounds : (stops : List Bool) (last c : ℕ) → 1 ≤ last → c ≤ last
    → (1 ≤ stop_before stops c) × (stop_before stops c ≤ last)
stop_before-bounds stops last zero some fits = (omega arith, some)
stop_before-bounds stops last (suc c) some fits =
    go (nat_lt 1 c && has_stop_at stops c) refl (stop_before-bounds stops last c some (omega arith))
  where
    go : (b : Bool) → (nat_lt 1 c && has_stop_at stops c) ≡ b
        → (1 ≤ stop_before stops c) × (stop_before stops c ≤ last)
        → (1 ≤ (if b then c else stop_before stops c)) × ((if b then c else stop_before stops c) ≤ last)
    go true is rest = (past-one c (has_stop_at stops c) is, omega arith)
    go false is rest = rest

back_tab-own : KeepsOwn between.back_tab
back_tab-own m s fits i =
    let stop = stop_before-bounds s.stops (last_column s) s.cursor.col (omega (arith, i.cursor.col_1, i.cursor.col_last))
    i.cursor.col_last in
    search rules

times-grid : (k : ℕ) (f : Display → Display) → ((t : Display) → (f t).grid ≡ t.grid) → (s : Display)
    → (times k f s).grid ≡ s.grid
times-grid zero f same s = refl
times-grid (suc k) f same s = same (times k f s) ∙ times-grid k f same s

-- so many times a function that leaves the grid
times-own : (k : ℕ) (m : Sides) (f : Display → Display) → ((t : Display) → (f t).grid ≡ t.grid)
    → ((t : Display) → AreSides (last_column t) m → IsSoundSizedDisplay t → IsSoundSizedDisplay (f t))
    → (s : Display) → AreSides (last_column s) m → IsSoundSizedDisplay s
    → AreSides (last_column (times k f s)) m × IsSoundSizedDisplay (times k f s)
times-own zero m f same keeps s fits i = (fits, i)
times-own (suc k) m f same keeps s fits i =
    let t = times k f s in
    let before = times-own k m f same keeps s fits i in
    (subst (λ (g : Grid). AreSides g.width m) (sym (same t)) before.0, keeps t before.0 before.1)

-- the margins still fit then
pub times-width : (k : ℕ) (m : Sides) (f : Display → Display) → ((t : Display) → (f t).grid ≡ t.grid) → (s u : State)
    → u ≡ record s { display = times k f s.display } → AreSides (last_column s.display) m → AreSides (last_column u.display) m
times-width k m f same s u is fits =
    subst (λ (x : State). AreSides (last_column x.display) m) (sym is)
    (subst (λ (g : Grid). AreSides g.width m) (sym (times-grid k f same s.display)) fits)

cursor_forward_tabulation-own : (n : ℕ) → KeepsOwn (between.cursor_forward_tabulation n)
cursor_forward_tabulation-own n m s fits i =
    (times-own (min n (last_column s)) m (between.horizontal_tab m) (λ t. refl) (horizontal_tab-own m) s fits i).1

cursor_backward_tabulation-own : (n : ℕ) → KeepsOwn (between.cursor_backward_tabulation n)
cursor_backward_tabulation-own n m s fits i =
    (times-own (min n (last_column s)) m (between.back_tab m) (λ t. refl) (back_tab-own m) s fits i).1

-- a bottom margin is a row of the screen
within : (p last : ℕ) → bottom_margin last p ≤ last
within p last = grind (arith, nat_tests)

set_margins-own : (p1 p2 : ℕ) → KeepsOwn (between.set_margins p1 p2)
set_margins-own p1 p2 m s fits i =
    go (are_margins (bottom_row s) p1 p2) (λ is. grind (arith, nat_tests))
  where
    go : (b : Bool) → (b ≡ true → from_one p1 < bottom_margin (bottom_row s) p2)
        → IsSoundSizedDisplay (if b then between.home m (record s {
          margins = record { top = from_one p1; bottom = bottom_margin (bottom_row s) p2 };
        }) else s)
    go true two =
        let rows : from_one p1 < bottom_margin (bottom_row s) p2 = two refl in
        let low : 1 ≤ from_one p1 = omega arith in
        let high : bottom_margin (bottom_row s) p2 ≤ bottom_row s = within p2 (bottom_row s) in
        search (rules, rows, low, high)
    go false two = i

-- ---- they keep the size and the width

one-grid : {A : Type 0} (part : Grid → A) (b : Bool) (g h : Grid) (x : A) → part g ≡ x → part h ≡ x → part (if b then g else h) ≡ x
one-grid part true g h x first second = first
one-grid part false g h x first second = second

one-display : {A : Type 0} (part : Grid → A) (b : Bool) (s t : Display) (x : A) → part s.grid ≡ x → part t.grid ≡ x
    → part (if b then s else t).grid ≡ x
one-display part true s t x first second = first
one-display part false s t x first second = second

-- a part of the grid that the cells aren't
abbrev pub Leaves : {A : Type 0} → (Grid → A) → (Sides → Display → Display) → Type 0
Leaves part f = (m : Sides) (s : Display) → part (f m s).grid ≡ part s.grid

-- such a part: the size, or the width
abbrev pub IsPart : {A : Type 0} → (Grid → A) → Type 0
IsPart part = (g : Grid) (cells : List Cell) → part (record g { cells = cells }) ≡ part g

module _ {A : Type 0} (part : Grid → A) (is : IsPart part) where
  pub index-part : Leaves part between.index
  index-part m s =
      one-grid part (s.cursor.row == s.margins.bottom && between.is_between m s)
      (columns_up s.grid s.margins.top s.margins.bottom m.left m.right 1) s.grid (part s.grid) (is s.grid _) refl

  pub reverse_index-part : Leaves part between.reverse_index
  reverse_index-part m s =
      one-grid part (s.cursor.row == s.margins.top && between.is_between m s)
      (columns_down s.grid s.margins.top s.margins.bottom m.left m.right 1) s.grid (part s.grid) (is s.grid _) refl

  pub next_line-part : Leaves part between.next_line
  next_line-part m s = index-part m s

  pub line_feed-part : Leaves part between.line_feed
  line_feed-part m s =
      one-display part s.modes.lnm (between.next_line m s) (between.index m s) (part s.grid) (next_line-part m s) (index-part m s)

  pub rows_up-part : (n : ℕ) → Leaves part (between.rows_up n)
  rows_up-part n m s = is s.grid _

  pub rows_down-part : (n : ℕ) → Leaves part (between.rows_down n)
  rows_down-part n m s = is s.grid _

  pub insert_line-part : (n : ℕ) → Leaves part (between.insert_line n)
  insert_line-part n m s = is s.grid _

  pub delete_line-part : (n : ℕ) → Leaves part (between.delete_line n)
  delete_line-part n m s = is s.grid _

  pub insert_character-part : (n : ℕ) → Leaves part (between.insert_character n)
  insert_character-part n m s = one-grid part (between.is_between m s) _ s.grid (part s.grid) (is s.grid _) refl

  pub delete_character-part : (n : ℕ) → Leaves part (between.delete_character n)
  delete_character-part n m s = one-display part (between.is_between m s) _ s (part s.grid) (is s.grid _) refl

  pub wrap_waiting-part : Leaves part between.wrap_waiting
  wrap_waiting-part m s = one-display part (nat_lt m.right (last_column s)) _ s (part s.grid) refl refl

  pub brought-part : Leaves part between.brought
  brought-part m s = one-display part (s.modes.decom && not (between.is_between m s)) _ s (part s.grid) refl refl

  pub set_margins-part : (p1 p2 : ℕ) → Leaves part (between.set_margins p1 p2)
  set_margins-part p1 p2 m s = one-display part (are_margins (bottom_row s) p1 p2) _ s (part s.grid) refl refl

  pub after_wrap-part : Leaves part between.after_wrap
  after_wrap-part m s = one-display part (between.is_pending m s) _ s (part s.grid) (index-part m s) refl

  pub put_glyph-part : (glyph : ℕ) → Leaves part (between.put_glyph glyph)
  put_glyph-part glyph m s =
      one-grid part (s.modes.irm && between.is_between m s) _ _ (part s.grid) (is s.grid _) (is s.grid _)

  pub write_glyph-part : (glyph : ℕ) → Leaves part (between.write_glyph glyph)
  write_glyph-part glyph m s = put_glyph-part glyph m (between.after_wrap m s) ∙ after_wrap-part m s

  pub times-part : (k : ℕ) (f : Display → Display) → ((t : Display) → part (f t).grid ≡ part t.grid) → (s : Display)
      → part (times k f s).grid ≡ part s.grid
  times-part zero f same s = refl
  times-part (suc k) f same s = same (times k f s) ∙ times-part k f same s

  pub cursor_forward_tabulation-part : (n : ℕ) → Leaves part (between.cursor_forward_tabulation n)
  cursor_forward_tabulation-part n m s = times-part (min n (last_column s)) (between.horizontal_tab m) (λ t. refl) s

  pub cursor_backward_tabulation-part : (n : ℕ) → Leaves part (between.cursor_backward_tabulation n)
  cursor_backward_tabulation-part n m s = times-part (min n (last_column s)) (between.back_tab m) (λ t. refl) s

-- the width
pub width-part : IsPart (λ g. g.width)
width-part g cells = refl

pub size-part : IsPart (λ g. g.size)
size-part g cells = refl

pub index-width : Leaves (λ g. g.width) between.index
index-width = index-part (λ g. g.width) width-part

pub reverse_index-width : Leaves (λ g. g.width) between.reverse_index
reverse_index-width = reverse_index-part (λ g. g.width) width-part

pub next_line-width : Leaves (λ g. g.width) between.next_line
next_line-width = next_line-part (λ g. g.width) width-part

pub line_feed-width : Leaves (λ g. g.width) between.line_feed
line_feed-width = line_feed-part (λ g. g.width) width-part

pub insert_line-width : (n : ℕ) → Leaves (λ g. g.width) (between.insert_line n)
insert_line-width = insert_line-part (λ g. g.width) width-part

pub delete_line-width : (n : ℕ) → Leaves (λ g. g.width) (between.delete_line n)
delete_line-width = delete_line-part (λ g. g.width) width-part

pub insert_character-width : (n : ℕ) → Leaves (λ g. g.width) (between.insert_character n)
insert_character-width = insert_character-part (λ g. g.width) width-part

pub delete_character-width : (n : ℕ) → Leaves (λ g. g.width) (between.delete_character n)
delete_character-width = delete_character-part (λ g. g.width) width-part

pub cursor_forward_tabulation-width : (n : ℕ) → Leaves (λ g. g.width) (between.cursor_forward_tabulation n)
cursor_forward_tabulation-width = cursor_forward_tabulation-part (λ g. g.width) width-part

pub cursor_backward_tabulation-width : (n : ℕ) → Leaves (λ g. g.width) (between.cursor_backward_tabulation n)
cursor_backward_tabulation-width = cursor_backward_tabulation-part (λ g. g.width) width-part

pub ruleset width-parts = (
  index-width,
  reverse_index-width,
  next_line-width,
  line_feed-width,
  insert_line-width,
  delete_line-width,
  insert_character-width,
  delete_character-width,
  cursor_forward_tabulation-width,
  cursor_backward_tabulation-width,
)

next_line-own : KeepsOwn between.next_line
next_line-own m s fits i =
    carriage_return-own m (between.index m s) (subst (λ w. AreSides w m) (sym (index-width m s)) fits) (index-own m s fits i)

line_feed-own : KeepsOwn between.line_feed
line_feed-own m s fits i = go s.modes.lnm
  where
    go : (b : Bool) → IsSoundSizedDisplay (if b then between.next_line m s else between.index m s)
    go true = next_line-own m s fits i
    go false = index-own m s fits i

write_glyph-own : (glyph : ℕ) → IsGlyph glyph → KeepsOwn (between.write_glyph glyph)
write_glyph-own glyph is m s fits i =
    put_glyph-own glyph is m (between.after_wrap m s)
    (subst (λ w. AreSides w m) (sym (after_wrap-part (λ g. g.width) width-part m s)) fits) (after_wrap-own m s fits i)

-- ---- at any size

abbrev pub KeepsIn : (Sides → Display → Display) → Type 0
KeepsIn f = (size : Size) (m : Sides) (s : Display) → AreSides (last_column s) m → IsSoundDisplayAt size s
    → IsSoundDisplayAt size (f m s)

fixed-in : (f : Sides → Display → Display) → KeepsOwn f → Leaves (λ g. g.size) f → KeepsIn f
fixed-in f own same size m s fits i =
    subst (λ z. IsSoundDisplayAt z (f m s)) (same m s ∙ i.of_size) (own m s fits (own-display size s i))

pub home-in : KeepsIn between.home
home-in = fixed-in between.home home-own (λ m s. refl)

pub origin_mode-in : (on : Bool) → KeepsIn (between.origin_mode on)
origin_mode-in on = fixed-in (between.origin_mode on) (origin_mode-own on) (λ m s. refl)

pub carriage_return-in : KeepsIn between.carriage_return
carriage_return-in = fixed-in between.carriage_return carriage_return-own (λ m s. refl)

pub cursor_forward-in : (n : ℕ) → KeepsIn (between.cursor_forward n)
cursor_forward-in n = fixed-in (between.cursor_forward n) (cursor_forward-own n) (λ m s. refl)

pub cursor_backward-in : (n : ℕ) → KeepsIn (between.cursor_backward n)
cursor_backward-in n = fixed-in (between.cursor_backward n) (cursor_backward-own n) (λ m s. refl)

pub cursor_position-in : (line col : ℕ) → KeepsIn (between.cursor_position line col)
cursor_position-in line col = fixed-in (between.cursor_position line col) (cursor_position-own line col) (λ m s. refl)

pub cursor_character_absolute-in : (n : ℕ) → 1 ≤ n → KeepsIn (between.cursor_character_absolute n)
cursor_character_absolute-in n some =
    fixed-in (between.cursor_character_absolute n) (cursor_character_absolute-own n some) (λ m s. refl)

pub character_position_forward-in : (n : ℕ) → KeepsIn (between.character_position_forward n)
character_position_forward-in n = fixed-in (between.character_position_forward n) (character_position_forward-own n) (λ m s. refl)

pub cursor_next_line-in : (n : ℕ) → KeepsIn (between.cursor_next_line n)
cursor_next_line-in n = fixed-in (between.cursor_next_line n) (cursor_next_line-own n) (λ m s. refl)

pub cursor_preceding_line-in : (n : ℕ) → KeepsIn (between.cursor_preceding_line n)
cursor_preceding_line-in n = fixed-in (between.cursor_preceding_line n) (cursor_preceding_line-own n) (λ m s. refl)

pub horizontal_tab-in : KeepsIn between.horizontal_tab
horizontal_tab-in = fixed-in between.horizontal_tab horizontal_tab-own (λ m s. refl)

pub back_tab-in : KeepsIn between.back_tab
back_tab-in = fixed-in between.back_tab back_tab-own (λ m s. refl)

pub cursor_forward_tabulation-in : (n : ℕ) → KeepsIn (between.cursor_forward_tabulation n)
cursor_forward_tabulation-in n = fixed-in (between.cursor_forward_tabulation n) (cursor_forward_tabulation-own n)
    (cursor_forward_tabulation-part (λ g. g.size) size-part n)

pub cursor_backward_tabulation-in : (n : ℕ) → KeepsIn (between.cursor_backward_tabulation n)
cursor_backward_tabulation-in n = fixed-in (between.cursor_backward_tabulation n) (cursor_backward_tabulation-own n)
    (cursor_backward_tabulation-part (λ g. g.size) size-part n)

pub brought-in : KeepsIn between.brought
brought-in = fixed-in between.brought brought-own (brought-part (λ g. g.size) size-part)

pub index-in : KeepsIn between.index
index-in = fixed-in between.index index-own (index-part (λ g. g.size) size-part)

pub reverse_index-in : KeepsIn between.reverse_index
reverse_index-in = fixed-in between.reverse_index reverse_index-own (reverse_index-part (λ g. g.size) size-part)

pub next_line-in : KeepsIn between.next_line
next_line-in = fixed-in between.next_line next_line-own (next_line-part (λ g. g.size) size-part)

pub line_feed-in : KeepsIn between.line_feed
line_feed-in = fixed-in between.line_feed line_feed-own (line_feed-part (λ g. g.size) size-part)

pub rows_up-in : (n : ℕ) → KeepsIn (between.rows_up n)
rows_up-in n = fixed-in (between.rows_up n) (rows_up-own n) (rows_up-part (λ g. g.size) size-part n)

pub rows_down-in : (n : ℕ) → KeepsIn (between.rows_down n)
rows_down-in n = fixed-in (between.rows_down n) (rows_down-own n) (rows_down-part (λ g. g.size) size-part n)

pub insert_line-in : (n : ℕ) → KeepsIn (between.insert_line n)
insert_line-in n = fixed-in (between.insert_line n) (insert_line-own n) (insert_line-part (λ g. g.size) size-part n)

pub delete_line-in : (n : ℕ) → KeepsIn (between.delete_line n)
delete_line-in n = fixed-in (between.delete_line n) (delete_line-own n) (delete_line-part (λ g. g.size) size-part n)

pub insert_character-in : (n : ℕ) → KeepsIn (between.insert_character n)
insert_character-in n =
    fixed-in (between.insert_character n) (insert_character-own n) (insert_character-part (λ g. g.size) size-part n)

pub delete_character-in : (n : ℕ) → KeepsIn (between.delete_character n)
delete_character-in n =
    fixed-in (between.delete_character n) (delete_character-own n) (delete_character-part (λ g. g.size) size-part n)

pub wrap_waiting-in : KeepsIn between.wrap_waiting
wrap_waiting-in = fixed-in between.wrap_waiting wrap_waiting-own (wrap_waiting-part (λ g. g.size) size-part)

pub set_margins-in : (p1 p2 : ℕ) → KeepsIn (between.set_margins p1 p2)
set_margins-in p1 p2 = fixed-in (between.set_margins p1 p2) (set_margins-own p1 p2) (set_margins-part (λ g. g.size) size-part p1 p2)

pub write_glyph-in : (glyph : ℕ) → IsGlyph glyph → KeepsIn (between.write_glyph glyph)
write_glyph-in glyph is =
    fixed-in (between.write_glyph glyph) (write_glyph-own glyph is) (write_glyph-part (λ g. g.size) size-part glyph)

-- what each function by itself needs
pub ruleset keeping-in = (
  carriage_return-in,
  cursor_forward-in,
  cursor_backward-in,
  cursor_position-in,
  cursor_character_absolute-in,
  character_position_forward-in,
  cursor_next_line-in,
  cursor_preceding_line-in,
  horizontal_tab-in,
  cursor_forward_tabulation-in,
  cursor_backward_tabulation-in,
  index-in,
  reverse_index-in,
  next_line-in,
  line_feed-in,
  insert_line-in,
  delete_line-in,
  insert_character-in,
  delete_character-in,
)

-- ---- the margins that bound functions

-- another pending wrap
pub other-wrap : (width : ℕ) (m : Sides) (wrap : Bool) → AreSides width m → AreSides width (record m { wrap = wrap })
other-wrap width m wrap fits = record {
  from_column_1 = fits.from_column_1;
  two_columns = fits.two_columns;
  to_last_column = fits.to_last_column;
}

narrow-fits : (width : ℕ) (m : Sides) → between.are_narrow width m ≡ true → AreSides width m
narrow-fits width m is = record {
  from_column_1 = grind (arith, nat_tests, is);
  two_columns = grind (arith, nat_tests, is);
  to_last_column = grind (arith, nat_tests, is);
}

pub of_bounds : (width : ℕ) (holds : Option Sides → Type 0) (sides : Option Sides) → holds None
    → ((m : Sides) → AreSides width m → holds (Some m)) → holds (between.bounds width sides)
unfolding between.bounds
of_bounds width holds None none some = none
of_bounds width holds (Some m) none some = go (between.are_narrow width m) refl
  where
    go : (b : Bool) → between.are_narrow width m ≡ b → holds (if b then Some m else None)
    go true is = some m (narrow-fits width m is)
    go false is = none

-- margins that DECSLRM sets
pub set-fit : (width p1 p2 : ℕ) → between.are_sides width p1 p2 ≡ true → AreSides width (between.sides_of width p1 p2)
set-fit width p1 p2 is = record {
  from_column_1 = omega arith;
  two_columns = grind (arith, nat_tests, is);
  to_last_column = right-within width p2;
}
  where
    right-within : (last p : ℕ) → between.right_margin last p ≤ last
    right-within last p = grind (arith, nat_tests)
