-- Every function keeps the display sound.
use Rattle.std.proofs.Common.{rules, arith, ◌≡◌, ℕ, ◌≤◌, ◌<◌, ◌+◌, ◌-◌, Bool, true, false, cond, zero, suc, List, length}
use Rattle.std.proofs.Common.{refl}
use Rattle.std.specs.Prelude.{find, unwrap_or, if◌then◌else◌, Some}
use Rattle.std.specs.List.{range_with_len}
use Rattle.vt_glyph.specs.Tables.{IsGlyph, is_glyph, glyph_of}
use Rattle.vt_screen.specs.Cells.{cell_of, plain_brush}
use Rattle.vt_term.specs.State.{Display, bottom_row, last_column, has_stop_at}
use Rattle.vt_term.specs.Sound.{IsSoundSizedDisplay}
use Rattle.vt_term.specs.Moving.{backspace, carriage_return, cursor_up, cursor_down, cursor_forward}
use Rattle.vt_term.specs.Moving.{cursor_backward, cursor_position, index, reverse_index, next_line, line_feed}
use Rattle.vt_term.specs.Moving.{home, bottom_margin, are_margins, set_margins}
use Rattle.vt_term.specs.Parameters.{from_one}
use Rattle.vt_term.specs.Tabs.{horizontal_tab, set_tab, clear_tabs, next_stop_of, no_stops}
use Rattle.vt_term.specs.Writing.{after_wrap, put_glyph, write_glyph}
use Rattle.vt_term.specs.Editing.{insert_line, delete_line, insert_character, delete_character, erase_character}
use Rattle.vt_term.specs.Editing.{erase_in_display, erase_in_line, erase_in_display_any, erase_in_line_any, erased_area, display_area, line_area}
use Rattle.vt_term.specs.Rendition.{select_graphic_rendition, select_character_attribute}
use Rattle.vt_term.specs.Modes.{origin_mode, autowrap_mode, column_mode, keypad_mode, report_form}
use Rattle.vt_term.specs.Saving.{save_cursor, restore_cursor}
use Rattle.vt_term.specs.Resets.{screen_alignment, reset_to_initial_state, soft_reset, set_conformance_level}
use Rattle.std.specs.Prelude.{min}
use Rattle.vt_screen.specs.Grid.{columns_of, IsSoundGridOf}
use Rattle.vt_screen.specs.Kinds.{erased_any}
use Rattle.vt_screen.specs.Shown.{blank_is_shown, erased_is_shown}
use Rattle.vt_screen.proofs.SoundGrids.{scroll_up-sound, scroll_down-sound, insert_cells-sound, delete_cells-sound}
use Rattle.vt_screen.proofs.SoundGrids.{changed-sound, erased-keeps, put-sound, put_inserting-sound}
use Rattle.vt_screen.proofs.Vt220Grids.{blank_grid-sound, fill-sound}
use Rattle.vt_term.specs.Kinds.{KindOf, AreShown}
use Rattle.vt_term.specs.Rendition.{vt220_kind}
use Rattle.vt_term.specs.State.{DisplayOf}
use Rattle.vt_term.specs.Sound.{IsSoundDisplayOf}
use Rattle.vt_term.specs.Moving.{index_any, reverse_index_any}
use Rattle.vt_term.specs.Writing.{put_glyph_any}
use Rattle.vt_term.specs.Editing.{insert_line_any, delete_line_any, insert_character_any, delete_character_any, erase_character_any}
use Rattle.std.proofs.lemmas.Bool.Decides.{nat_tests}
use Rattle.vt_term.proofs.PowerUp.{display_of-sound}
use Rattle.vt_term.proofs.Stops.{length-stops_where}

letter_e : IsGlyph 0x45
unfolding is_glyph glyph_of
letter_e = refl

-- a number found in a range lies in it
found-bounds : (p : ℕ → Bool) (a n d low high : ℕ) → low ≤ a → a + n ≤ high + 1 → low ≤ d → d ≤ high
    → (low ≤ unwrap_or (find p (range_with_len a n)) d) × (unwrap_or (find p (range_with_len a n)) d ≤ high)
found-bounds p a zero d low high la ah ld dh = (ld, dh)
found-bounds p a (suc n) d low high la ah ld dh =
    go (p a) (found-bounds p (a + 1) n d low high (omega arith) (omega arith) ld dh)
  where
    go : (b : Bool) → (low ≤ unwrap_or (find p (range_with_len (a + 1) n)) d)
        × (unwrap_or (find p (range_with_len (a + 1) n)) d ≤ high)
        → (low ≤ unwrap_or (if b then Some a else find p (range_with_len (a + 1) n)) d)
        × (unwrap_or (if b then Some a else find p (range_with_len (a + 1) n)) d ≤ high)
    go true rest = (la, omega arith)
    go false rest = rest

next_stop-bounds : (stops : List Bool) (col last : ℕ) → 1 ≤ col → col ≤ last → (1 ≤ next_stop_of stops col last)
    × (next_stop_of stops col last ≤ last)
next_stop-bounds stops col last col1 fits =
    found-bounds (λ c. has_stop_at stops c) (col + 1) (last - col) last 1 last (omega arith) (omega arith)
    (omega arith) (omega arith)

-- a function keeps the display sound
abbrev pub Keeps : (Display → Display) → Type 0
Keeps f = (s : Display) → IsSoundSizedDisplay s → IsSoundSizedDisplay (f s)

pub length_no_stops : (columns : ℕ) → length (no_stops columns) ≡ columns
unfolding no_stops
length_no_stops columns = length-stops_where columns (λ c. false)

pub backspace-keeps : Keeps backspace
backspace-keeps s i = search rules

pub carriage_return-keeps : Keeps carriage_return
carriage_return-keeps s i = search rules

pub cursor_up-keeps : (n : ℕ) → Keeps (cursor_up n)
cursor_up-keeps n s i = search rules

pub cursor_down-keeps : (n : ℕ) → Keeps (cursor_down n)
cursor_down-keeps n s i = search rules

pub cursor_forward-keeps : (n : ℕ) → Keeps (cursor_forward n)
cursor_forward-keeps n s i = search rules

pub cursor_backward-keeps : (n : ℕ) → Keeps (cursor_backward n)
cursor_backward-keeps n s i = search rules

pub cursor_position-keeps : (line : ℕ) → (col : ℕ) → Keeps (cursor_position line col)
cursor_position-keeps line col s i = search rules

-- a function of a kind keeps the display sound
abbrev pub KeepsAny : {C B : Type 0} → KindOf C B → (DisplayOf C B → DisplayOf C B) → Type 0
KeepsAny {C = C} {B = B} k f = (s : DisplayOf C B) → IsSoundDisplayOf k.cells.shown s.grid.size s
    → IsSoundDisplayOf k.cells.shown (f s).grid.size (f s)

vt220_shown : AreShown vt220_kind
vt220_shown = record {
  blank = blank_is_shown;
  erased = erased_is_shown;
  written = λ b glyph h. h;
  emptied = λ b. blank_is_shown;
}

index_any-keeps : {C B : Type 0} (k : KindOf C B) → AreShown k → KeepsAny k (index_any k)
index_any-keeps k shows s i =
    let up = scroll_up-sound k.cells.blank s.grid (k.own.emptied s.brush) s.margins.top s.margins.bottom 1 shows.blank (shows.emptied s.brush) i.grid in
    search (rules, up)

pub index-keeps : Keeps index
index-keeps = index_any-keeps vt220_kind vt220_shown

reverse_index_any-keeps : {C B : Type 0} (k : KindOf C B) → AreShown k → KeepsAny k (reverse_index_any k)
reverse_index_any-keeps k shows s i =
    let down = scroll_down-sound k.cells.blank s.grid (k.own.emptied s.brush) s.margins.top s.margins.bottom 1 shows.blank (shows.emptied s.brush) i.grid in
    search (rules, down)

pub reverse_index-keeps : Keeps reverse_index
reverse_index-keeps = reverse_index_any-keeps vt220_kind vt220_shown

pub next_line-keeps : Keeps next_line
next_line-keeps s i = search (rules, index-keeps, carriage_return-keeps)

pub line_feed-keeps : Keeps line_feed
line_feed-keeps s i = search (rules, index-keeps, next_line-keeps)

-- a bottom margin is a row of the screen
within : (p last : ℕ) → bottom_margin last p ≤ last
within p last = grind (arith, nat_tests)

pub set_margins-keeps : (p1 : ℕ) → (p2 : ℕ) → Keeps (set_margins p1 p2)
set_margins-keeps p1 p2 s i =
    go (are_margins (bottom_row s) p1 p2) (λ is. grind (arith, nat_tests))
  where
    go : (b : Bool) → (b ≡ true → from_one p1 < bottom_margin (bottom_row s) p2)
        → IsSoundSizedDisplay (if b then home (record s {
          margins = record { top = from_one p1; bottom = bottom_margin (bottom_row s) p2 };
        }) else s)
    go true two =
        let rows : from_one p1 < bottom_margin (bottom_row s) p2 = two refl in
        let low : 1 ≤ from_one p1 = omega arith in
        let high : bottom_margin (bottom_row s) p2 ≤ bottom_row s = within p2 (bottom_row s) in
        search (rules, rows, low, high)
    go false two = i

pub horizontal_tab-keeps : Keeps horizontal_tab
horizontal_tab-keeps s i =
    let stop = next_stop-bounds s.stops s.cursor.col (last_column s) i.cursor.col_1 i.cursor.col_last in
    search rules

pub set_tab-keeps : Keeps set_tab
set_tab-keeps s i = search rules

pub clear_tabs-keeps : (p : ℕ) → Keeps (clear_tabs p)
clear_tabs-keeps p s i = search (rules, length_no_stops)

put_glyph_any-keeps : {C B : Type 0} (k : KindOf C B) → AreShown k → (g : ℕ) → IsGlyph g → KeepsAny k (put_glyph_any k g)
put_glyph_any-keeps k shows g glyph s i =
    let over = put-sound k.cells.blank s.grid s.cursor.row s.cursor.col (k.own.written s.brush g) shows.blank i.grid (shows.written s.brush g glyph) in
    let moved = put_inserting-sound k.cells.blank s.grid s.cursor.row s.cursor.col (k.own.written s.brush g) shows.blank i.grid (shows.written s.brush g glyph) in
    search (rules, over, moved)

put_glyph-keeps : (g : ℕ) → IsGlyph g → Keeps (put_glyph g)
put_glyph-keeps g glyph = put_glyph_any-keeps vt220_kind vt220_shown g glyph

after_wrap-keeps : Keeps after_wrap
after_wrap-keeps s i = go s.cursor.wrap
  where
    go : (b : Bool) → IsSoundSizedDisplay (cond b (next_line s) s)
    go true = next_line-keeps s i
    go false = i

pub write_glyph-keeps : (g : ℕ) → IsGlyph g → Keeps (write_glyph g)
write_glyph-keeps g shown s i = put_glyph-keeps g shown (after_wrap s) (after_wrap-keeps s i)

insert_line_any-keeps : {C B : Type 0} (k : KindOf C B) → AreShown k → (n : ℕ) → KeepsAny k (insert_line_any k n)
insert_line_any-keeps k shows n s i =
    let grid = scroll_down-sound k.cells.blank s.grid (k.own.emptied s.brush) s.cursor.row s.margins.bottom n shows.blank (shows.emptied s.brush) i.grid in
    search (rules, grid)

pub insert_line-keeps : (n : ℕ) → Keeps (insert_line n)
insert_line-keeps n = insert_line_any-keeps vt220_kind vt220_shown n

delete_line_any-keeps : {C B : Type 0} (k : KindOf C B) → AreShown k → (n : ℕ) → KeepsAny k (delete_line_any k n)
delete_line_any-keeps k shows n s i =
    let grid = scroll_up-sound k.cells.blank s.grid (k.own.emptied s.brush) s.cursor.row s.margins.bottom n shows.blank (shows.emptied s.brush) i.grid in
    search (rules, grid)

pub delete_line-keeps : (n : ℕ) → Keeps (delete_line n)
delete_line-keeps n = delete_line_any-keeps vt220_kind vt220_shown n

insert_character_any-keeps : {C B : Type 0} (k : KindOf C B) → AreShown k → (n : ℕ) → KeepsAny k (insert_character_any k n)
insert_character_any-keeps k shows n s i =
    let grid = insert_cells-sound k.cells.blank s.grid (k.own.emptied s.brush) s.cursor.row s.cursor.col n shows.blank (shows.emptied s.brush) i.grid in
    search (rules, grid)

pub insert_character-keeps : (n : ℕ) → Keeps (insert_character n)
insert_character-keeps n = insert_character_any-keeps vt220_kind vt220_shown n

delete_character_any-keeps : {C B : Type 0} (k : KindOf C B) → AreShown k → (n : ℕ) → KeepsAny k (delete_character_any k n)
delete_character_any-keeps k shows n s i =
    let grid = delete_cells-sound k.cells.blank s.grid (k.own.emptied s.brush) s.cursor.row s.cursor.col n shows.blank (shows.emptied s.brush) i.grid in
    search (rules, grid)

pub delete_character-keeps : (n : ℕ) → Keeps (delete_character n)
delete_character-keeps n = delete_character_any-keeps vt220_kind vt220_shown n

erased_area-sound : {C B : Type 0} (k : KindOf C B) → AreShown k → (s : DisplayOf C B) (area : ℕ → ℕ → Bool) (selective : Bool)
    → IsSoundGridOf k.cells.shown s.grid → IsSoundGridOf k.cells.shown (erased_area k s area selective)
erased_area-sound k shows s area selective sound =
    changed-sound k.cells.blank s.grid (erased_any k.cells selective (k.own.emptied s.brush)) area shows.blank
    (erased-keeps k.cells selective (k.own.emptied s.brush) (shows.emptied s.brush) shows.erased) sound

erase_character_any-keeps : {C B : Type 0} (k : KindOf C B) → AreShown k → (n : ℕ) → KeepsAny k (erase_character_any k n)
erase_character_any-keeps k shows n s i =
    let grid = erased_area-sound k shows s (columns_of s.cursor.row s.cursor.col (min (s.cursor.col + n - 1) (last_column s))) false
    i.grid in
    search (rules, grid)

pub erase_character-keeps : (n : ℕ) → Keeps (erase_character n)
erase_character-keeps n = erase_character_any-keeps vt220_kind vt220_shown n

erase_in_display_any-keeps : {C B : Type 0} (k : KindOf C B) → AreShown k → (selective : Bool) (p : ℕ)
    → KeepsAny k (erase_in_display_any k selective p)
erase_in_display_any-keeps k shows selective p s i =
    let grid = erased_area-sound k shows s (display_area p s.cursor) selective i.grid in
    search (rules, grid)

pub erase_in_display-keeps : (selective : Bool) → (p : ℕ) → Keeps (erase_in_display selective p)
erase_in_display-keeps selective p = erase_in_display_any-keeps vt220_kind vt220_shown selective p

erase_in_line_any-keeps : {C B : Type 0} (k : KindOf C B) → AreShown k → (selective : Bool) (p : ℕ)
    → KeepsAny k (erase_in_line_any k selective p)
erase_in_line_any-keeps k shows selective p s i =
    let grid = erased_area-sound k shows s (line_area p s.cursor) selective i.grid in
    search (rules, grid)

pub erase_in_line-keeps : (selective : Bool) → (p : ℕ) → Keeps (erase_in_line selective p)
erase_in_line-keeps selective p = erase_in_line_any-keeps vt220_kind vt220_shown selective p

pub select_graphic_rendition-keeps : (params : List ℕ) → Keeps (select_graphic_rendition params)
select_graphic_rendition-keeps params s i = search rules

pub select_character_attribute-keeps : (p : ℕ) → Keeps (select_character_attribute p)
select_character_attribute-keeps p s i = search rules

pub origin_mode-keeps : (selective : Bool) → Keeps (origin_mode selective)
origin_mode-keeps selective s i = search rules

pub autowrap_mode-keeps : (selective : Bool) → Keeps (autowrap_mode selective)
autowrap_mode-keeps selective s i = search rules

pub column_mode-keeps : (selective : Bool) → Keeps (column_mode selective)
column_mode-keeps selective s i = search (rules, λ (wide : Bool). blank_grid-sound s.grid.size wide i.grid.shape.size)

pub keypad_mode-keeps : (selective : Bool) → Keeps (keypad_mode selective)
keypad_mode-keeps selective s i = search rules

pub report_form-keeps : (selective : Bool) → Keeps (report_form selective)
report_form-keeps selective s i = search rules

pub save_cursor-keeps : Keeps save_cursor
save_cursor-keeps s i = search rules

pub restore_cursor-keeps : Keeps restore_cursor
restore_cursor-keeps s i = search rules

pub screen_alignment-keeps : Keeps screen_alignment
screen_alignment-keeps s i =
    let e = fill-sound s.grid (cell_of 0x45 plain_brush) i.grid letter_e in
    search rules

pub reset_to_initial_state-keeps : Keeps reset_to_initial_state
reset_to_initial_state-keeps s i = display_of-sound s.grid.size i.grid.shape.size

pub soft_reset-keeps : Keeps soft_reset
soft_reset-keeps s i = search rules

pub set_conformance_level-keeps : (p1 : ℕ) → (p2 : ℕ) → Keeps (set_conformance_level p1 p2)
set_conformance_level-keeps p1 p2 s i = search rules

-- what each function by itself needs; a new function's rule stands here
pub ruleset keeping = (
  backspace-keeps,
  horizontal_tab-keeps,
  line_feed-keeps,
  carriage_return-keeps,
  index-keeps,
  next_line-keeps,
  set_tab-keeps,
  reverse_index-keeps,
  save_cursor-keeps,
  restore_cursor-keeps,
  keypad_mode-keeps,
  reset_to_initial_state-keeps,
  report_form-keeps,
  screen_alignment-keeps,
  insert_character-keeps,
  cursor_up-keeps,
  cursor_down-keeps,
  cursor_forward-keeps,
  cursor_backward-keeps,
  cursor_position-keeps,
  erase_in_display-keeps,
  erase_in_line-keeps,
  insert_line-keeps,
  delete_line-keeps,
  delete_character-keeps,
  erase_character-keeps,
  clear_tabs-keeps,
  select_graphic_rendition-keeps,
  set_margins-keeps,
  set_conformance_level-keeps,
  select_character_attribute-keeps,
  soft_reset-keeps,
  column_mode-keeps,
  origin_mode-keeps,
  autowrap_mode-keeps,
)
