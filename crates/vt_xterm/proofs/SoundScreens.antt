-- Every function keeps the display and the page that isn't shown sound.
use Rattle.std.proofs.Common.{rules, arith, ◌≡◌, ℕ, ◌≤◌, Bool, true, false, zero, suc, List, [], ◌∷◌, Option, Some, None}
use Rattle.std.proofs.Common.{refl, subst, sym, ap, ◌∙◌}
use Rattle.std.specs.Prelude.{length, ◌==◌, ◌-◌, ◌&&◌, min, if◌then◌else◌, IfSome}
use Rattle.std.proofs.lemmas.Bool.Decides.{nat_tests}
use Rattle.vt_syntax.specs.declared.event.Event.{Event}
use Rattle.vt_syntax.specs.declared.event.Event.TheVariants.{Print, Control, Escape, Sequence}
use Rattle.vt_glyph.specs.GraphicSets.{GraphicSets, AreSoundSets}
use Rattle.vt_glyph.specs.Invocation.{glyph_read, after_read}
use Rattle.vt_glyph.specs.Tables.{IsGlyph, is_glyph, substitute_glyph}
use Rattle.vt_glyph.specs.Laws.{GlyphLaws, SetsLaws}
use Rattle.vt_screen.specs.declared.size.Size.{Size}
use Rattle.vt_screen.specs.Sizes.{width_of, IsSize}
use Rattle.vt_screen.proofs.Vt220Grids.{blank_grid-sound, scroll_up-sound, scroll_down-sound}
use Rattle.vt_term.specs.State.{Display, last_column, bottom_row}
use Rattle.vt_term.specs.Sound.{IsPlace, IsSoundDisplayAt, IsSoundSizedDisplay}
use Rattle.vt_term.specs.Pages.{PageState, IsSoundPageAt, blank_page, page_of, with_page, blanked, resized, fitted}
use Rattle.vt_term.specs.Modes.{private_modes, with_mode, column_mode, autowrap_mode, origin_mode}
use Rattle.vt_term.specs.Functions.{byte, effect, sequence_in}
use Rattle.vt_term.proofs.SoundEffects as terminals
use Rattle.vt_term.proofs.SoundPlay.{effect-keeps}
use Rattle.vt_term.proofs.PowerUp.{display_of-sound}
use Rattle.vt_term.proofs.SizeKept.{KeepsSize, own-display, effect-size, write_glyph-size, erase_in_display_kept}
use Rattle.vt_term.proofs.SizeKept.{set_conformance_level-size}
use Rattle.vt_xterm.specs.Pages.{Screens, on_display, exchanged, show_page, with_blank, show_or_clear}
use Rattle.vt_xterm.specs.Pages.{save_or_restore, show_and_save, allow_column_mode, allowed_column_mode, page_modes}
use Rattle.vt_xterm.specs.Pages.{with_page_mode, change_page_modes, is_window_wide, bracket_pastes}
use Rattle.vt_xterm.specs.Pages.{restored, restore_screens, sided, set_sides, side_mode, with_full_sides}
use Rattle.vt_xterm.specs.Pages.{sided_origin_mode, origin_mode_between, autowrap_mode_between}
use Rattle.vt_term.specs.Moving.{cursor_up, cursor_down, cursor_forward, are_margins}
use Rattle.vt_term.specs.Tabs.{horizontal_tab}
use Rattle.vt_term.specs.Writing.{write_glyph}
use Rattle.vt_term.specs.Saving.{save_cursor, restore_cursor}
use Rattle.vt_term.specs.Editing.{is_inside, insert_line, delete_line, erase_in_display}
use Rattle.vt_term.specs.Resets.{reset_to_initial_state as reset_display}
use Rattle.vt_term.specs.Resets.{soft_reset, is_level, set_conformance_level, screen_alignment}
use Rattle.vt_term.specs.Parameters.{first, second, count}
use Rattle.vt_term.specs.State.{display_of}
use Rattle.vt_screen.specs.Cells.{blank}
use Rattle.vt_screen.specs.Grid.{Grid}
use Rattle.vt_screen.specs.Laws.{RowLaws, TestLaws}
use Rattle.vt_screen.specs.declared.cell.Cell.{Cell}
use Rattle.vt_utf8.specs.Similar.{shown}
use Rattle.vt_term.proofs.Tables.{AllRows, looked_up-holds, same-numbers}
use Rattle.vt_xterm.specs.Columns.{cursor_character_absolute, line_position_absolute, line_position_forward}
use Rattle.vt_xterm.specs.Columns.{cursor_next_line, cursor_preceding_line}
use Rattle.vt_xterm.specs.Scroll.{rows_up, rows_down, rows_down_by}
use Rattle.vt_xterm.specs.Repeating.{times, column_before, glyph_before, room, repeat}
use Rattle.vt_xterm.specs.Tabs.{tab, back_tab, cursor_forward_tabulation, cursor_backward_tabulation}
use Rattle.vt_xterm.specs.Attributes.{without_colours, select_attributes}
use Rattle.vt_xterm.specs.Front.{FunctionTable, save_or_set_sides, restore_if_bare, plain_functions, private_functions}
use Rattle.vt_xterm.specs.Front.{if_inside, control_effect, screen_effect, effect_between, set_level_without_sides, alignments, escapes_with}
use Rattle.vt_xterm.specs.Front.{soft_reset_wrapping, set_level_wrapping, intermediate_functions, functions_of, function_in, plain_escapes, xterm_effect}
use Rattle.vt_xterm.specs.Play.{after_events}
use Rattle.vt_xterm.specs.Bounded.{is_bare, BoundedTable, bounded_in, bounded_plain, bounded_controls, has_row, other_plain}
use Rattle.vt_xterm.specs.Bounded.{other_between, resets, erases, bounded_effect, writing, writing_if_read}
use Rattle.vt_xterm.specs.Bounded.{writing_times}
use Rattle.vt_xterm.specs.Bounded.{printing, repeating, margins_set, resetting, editing, waiting, tabbing}
use Rattle.vt_xterm.specs.Sides as between
use Rattle.vt_xterm.specs.Sides.{AreSides}
use Rattle.vt_xterm.specs.declared.sides.Sides.{Sides}
use Rattle.vt_xterm.proofs.Bounds.{KeepsIn, of_bounds, other-wrap, set-fit, keeping-in, home-in, brought-in}
use Rattle.vt_xterm.proofs.Bounds.{origin_mode-in, rows_up-in, rows_down-in, set_margins-in, write_glyph-in, write_glyph-part}
use Rattle.vt_xterm.proofs.Bounds.{width-part, stop_before-bounds, wrap_waiting-in, cursor_forward_tabulation-in, insert_line-in, delete_line-in}
use Rattle.vt_term.specs.Functions.{sequences_any}

-- ---- pages

-- the display and the page that isn't shown are sound, and of this size
abbrev pub AreSound : Size → Screens → Type 0
AreSound size s = IsSoundDisplayAt size s.display × IsSoundPageAt size s.pages.other

abbrev pub Keeps : (Screens → Screens) → Type 0
Keeps f = (size : Size) (s : Screens) → AreSound size s → AreSound size (f s)

-- the same of a function of the display
abbrev pub KeepsDisplay : (Display → Display) → Type 0
KeepsDisplay f = (size : Size) (s : Display) → IsSoundDisplayAt size s → IsSoundDisplayAt size (f s)

-- a function that keeps a display of its own size sound, and keeps the size
pub fixed : (f : Display → Display) → terminals.Keeps f → KeepsSize f → KeepsDisplay f
fixed f keeps same size s i =
    subst (λ z. IsSoundDisplayAt z (f s)) (same s ∙ i.of_size) (keeps s (own-display size s i))

pub display-keeps : (f : Display → Display) → KeepsDisplay f → Keeps (on_display f)
display-keeps f keeps size s i = (keeps size s.display i.0, i.1)

columns-of : (size : Size) (width : ℕ) (wide : Bool) → width ≡ width_of size wide
    → width_of size (width == size.wide) ≡ width
columns-of size width wide is = go (width == size.wide) refl
  where
    narrow : (b : Bool) → width ≡ width_of size b → (width == size.wide) ≡ false → size.narrow ≡ width
    narrow true e other = absurd (grind (arith, nat_tests))
    narrow false e other = sym e

    go : (b : Bool) → (width == size.wide) ≡ b → (if b then size.wide else size.narrow) ≡ width
    go true e = sym (same-numbers width size.wide e)
    go false e = narrow wide is e

some-columns : (size : Size) (wide : Bool) → IsSize size → 1 ≤ width_of size wide
some-columns size true sized = omega (arith, sized.narrow, sized.wide)
some-columns size false sized = omega (arith, sized.narrow)

saved-inside : (rows width next row col : ℕ) (wrap : Bool) → 1 ≤ next → IsPlace rows width row col wrap
    → IsPlace rows next row (min col next) false
saved-inside rows width next row col wrap some i = search rules

resized-sound : (size : Size) (wide : Bool) (page : PageState) → IsSoundPageAt size page → IsSoundPageAt size (resized wide page)
resized-sound size wide page i =
    let some : 1 ≤ width_of page.grid.size wide = some-columns page.grid.size wide i.grid.shape.size in record {
      of_size = i.of_size;
      grid = blank_grid-sound page.grid.size wide i.grid.shape.size;
      saved = saved-inside size.rows page.grid.width (width_of page.grid.size wide) page.saved.row page.saved.col
          page.saved.wrap some i.saved;
      saved_sets = i.saved_sets;
    }

-- a page for a screen is sound, and has the screen's width
pub fitted-sound : (size : Size) (width : ℕ) (wide : Bool) (page : PageState) → width ≡ width_of size wide
    → IsSoundPageAt size page → IsSoundPageAt size (fitted width page) × ((fitted width page).grid.width ≡ width)
fitted-sound size width wide page shape i = go (page.grid.width == width) refl
  where
    here : width ≡ width_of page.grid.size wide
    here = shape ∙ ap (λ z. width_of z wide) (sym i.of_size)

    go : (b : Bool) → (page.grid.width == width) ≡ b
        → IsSoundPageAt size (if b then page else resized (width == page.grid.size.wide) page)
        × ((if b then page else resized (width == page.grid.size.wide) page).grid.width ≡ width)
    go true is = (i, same-numbers page.grid.width width is)
    go false is =
        (resized-sound size (width == page.grid.size.wide) page i, columns-of page.grid.size width wide here)

pub page_of-sound : (size : Size) (s : Display) → IsSoundDisplayAt size s → IsSoundPageAt size (page_of s)
page_of-sound size s i = record { of_size = i.of_size; grid = i.grid; saved = i.saved; saved_sets = i.saved_sets }

with_page-sound : (size : Size) (page : PageState) (s : Display) → page.grid.width ≡ s.grid.width → IsSoundPageAt size page
    → IsSoundDisplayAt size s → IsSoundDisplayAt size (with_page page s)
with_page-sound size page s width p i = record {
  of_size = p.of_size;
  grid = p.grid;
  cursor = subst (λ (w : ℕ). IsPlace size.rows w s.cursor.row s.cursor.col s.cursor.wrap) (sym width) i.cursor;
  wrap = i.wrap;
  origin = i.origin;
  sets = i.sets;
  margins = i.margins;
  stops = i.stops;
  saved = p.saved;
  saved_sets = p.saved_sets;
}

exchanged-keeps : (alternate : Bool) → Keeps (exchanged alternate)
exchanged-keeps alternate size s i =
    let shape = i.0.grid.shape.width in
    let fit = fitted-sound size s.display.grid.width shape.0 s.pages.other
    (shape.1 ∙ ap (λ z. width_of z shape.0) i.0.of_size) i.1 in (
      with_page-sound size (fitted s.display.grid.width s.pages.other) s.display fit.1 fit.0 i.0,
      page_of-sound size s.display i.0,
    )

blanked-sound : (size : Size) (page : PageState) → IsSoundPageAt size page → IsSoundPageAt size (blanked page)
blanked-sound size page i =
    let shape = i.grid.shape.width in record {
      of_size = i.of_size;
      grid = blank_grid-sound page.grid.size (page.grid.width == page.grid.size.wide) i.grid.shape.size;
      saved = subst (λ (w : ℕ). IsPlace size.rows w page.saved.row page.saved.col page.saved.wrap)
          (sym (columns-of page.grid.size page.grid.width shape.0 shape.1)) i.saved;
      saved_sets = i.saved_sets;
    }

-- ---- modes

pub show_page-keeps : (alternate : Bool) → Keeps (show_page alternate)
show_page-keeps alternate size s i = go s.pages.alternate alternate
  where
    go : (b on : Bool) → AreSound size (if b then (if on then s else exchanged false s) else (if on then exchanged true s else s))
    go true true = i
    go true false = exchanged-keeps false size s i
    go false true = exchanged-keeps true size s i
    go false false = i

with_blank-keeps : Keeps with_blank
with_blank-keeps size s i = (i.0, blanked-sound size s.pages.other i.1)

show_or_clear-keeps : (alternate : Bool) → Keeps (show_or_clear alternate)
show_or_clear-keeps true size s i = show_page-keeps true size s i
show_or_clear-keeps false size s i = go s.pages.alternate
  where
    go : (b : Bool) → AreSound size (if b then with_blank (show_page false s) else s)
    go true = with_blank-keeps size (show_page false s) (show_page-keeps false size s i)
    go false = i

restore_screens-keeps : Keeps restore_screens
restore_screens-keeps size s i =
    let back : IsSoundDisplayAt size (restore_cursor s.display) =
    fixed restore_cursor terminals.restore_cursor-keeps (λ t. refl) size s.display i.0 in (
      of_bounds (last_column s.display) (λ b. IsSoundDisplayAt size (restored b s.display)) s.pages.sides back
          (λ m fits. brought-in size m (restore_cursor s.display) fits back),
      i.1,
    )

pub save_or_restore-keeps : (save : Bool) → Keeps (save_or_restore save)
save_or_restore-keeps true = display-keeps save_cursor (fixed save_cursor terminals.save_cursor-keeps (λ s. refl))
save_or_restore-keeps false = restore_screens-keeps

show_and_save-keeps : (alternate : Bool) → Keeps (show_and_save alternate)
show_and_save-keeps true size s i =
    let saved = save_or_restore-keeps true size s i in
    let shown = show_page-keeps true size (save_or_restore true s) saved in (
      fixed (erase_in_display false 2) (terminals.erase_in_display-keeps false 2) (erase_in_display_kept false 2) size
          (show_page true (save_or_restore true s)).display shown.0,
      shown.1,
    )
show_and_save-keeps false size s i =
    restore_screens-keeps size (show_page false s) (show_page-keeps false size s i)

allow_column_mode-keeps : (on : Bool) → Keeps (allow_column_mode on)
allow_column_mode-keeps on size s i = i

bracket_pastes-keeps : (on : Bool) → Keeps (bracket_pastes on)
bracket_pastes-keeps on size s i = i

allowed_column_mode-keeps : (wide : Bool) → Keeps (allowed_column_mode wide)
allowed_column_mode-keeps wide size s i = go s.pages.resizes
  where
    go : (b : Bool) → AreSound size (if b then with_full_sides (on_display (column_mode wide) s) else s)
    go true = display-keeps (column_mode wide) (fixed (column_mode wide) (terminals.column_mode-keeps wide) (λ s. refl)) size s i
    go false = i

-- ---- left and right margins

origin_mode_between-keeps : (on : Bool) → Keeps (origin_mode_between on)
origin_mode_between-keeps on size s i =
    of_bounds (last_column s.display) (λ b. AreSound size (sided_origin_mode on b s)) s.pages.sides
    (fixed (origin_mode on) (terminals.origin_mode-keeps on) (λ t. refl) size s.display i.0, i.1)
    (λ m fits. (origin_mode-in on size m s.display fits i.0, i.1))

autowrap_mode_between-keeps : (on : Bool) → Keeps (autowrap_mode_between on)
autowrap_mode_between-keeps true =
    display-keeps (autowrap_mode true) (fixed (autowrap_mode true) (terminals.autowrap_mode-keeps true) (λ t. refl))
autowrap_mode_between-keeps false =
    display-keeps (autowrap_mode false) (fixed (autowrap_mode false) (terminals.autowrap_mode-keeps false) (λ t. refl))

side_mode-keeps : (on : Bool) → Keeps (side_mode on)
side_mode-keeps on size s i = i

set_sides-keeps : (p1 p2 : ℕ) → Keeps (set_sides p1 p2)
set_sides-keeps p1 p2 size s i = go (between.are_sides (last_column s.display) p1 p2) refl
  where
    m : Sides
    m = between.sides_of (last_column s.display) p1 p2

    go : (b : Bool) → between.are_sides (last_column s.display) p1 p2 ≡ b
        → AreSound size (if b then sided (Some m) (on_display (between.home m) s) else s)
    go true is = (home-in size m s.display (set-fit (last_column s.display) p1 p2 is) i.0, i.1)
    go false is = i

-- one of two
pub one-screen : (size : Size) (b : Bool) (s t : Screens) → AreSound size s → AreSound size t → AreSound size (if b then s else t)
one-screen size true s t first second = first
one-screen size false s t first second = second

save_or_set_sides-keeps : (params : List ℕ) (sides : Option Sides) → Keeps (save_or_set_sides params sides)
save_or_set_sides-keeps params None size s i =
    one-screen size (is_bare params) (on_display save_cursor s) s (save_or_restore-keeps true size s i) i
save_or_set_sides-keeps params (Some m) size s i = set_sides-keeps (first params) (second params) size s i

s-keeps : (params : List ℕ) → Keeps (λ s. save_or_set_sides params s.pages.sides s)
s-keeps params size s i = save_or_set_sides-keeps params s.pages.sides size s i

restore_if_bare-keeps : (params : List ℕ) → Keeps (restore_if_bare params)
restore_if_bare-keeps params size s i =
    one-screen size (is_bare params) (restore_screens s) s (restore_screens-keeps size s i) i

pub effect-fixed : GlyphLaws → SetsLaws → (event : Event) → KeepsDisplay (effect event)
effect-fixed glyphs sets event = fixed (effect event) (effect-keeps glyphs sets event) (effect-size event)

-- a VT220's mode, as SM or RM of this one alone
private_mode-keeps : GlyphLaws → SetsLaws → (on : Bool) (p : ℕ) → KeepsDisplay (with_mode private_modes on p)
unfolding sequence_in sequences_any
private_mode-keeps glyphs sets true p =
    effect-fixed glyphs sets (Sequence (Some 0x3F) (record { items = p ∷ [] }) None 0x68)
private_mode-keeps glyphs sets false p =
    effect-fixed glyphs sets (Sequence (Some 0x3F) (record { items = p ∷ [] }) None 0x6C)

page_modes-keep : AllRows (λ key f. (on : Bool) → Keeps (f on)) page_modes
unfolding AllRows
page_modes-keep =
    search (
      allowed_column_mode-keeps,
      allow_column_mode-keeps,
      show_page-keeps,
      show_or_clear-keeps,
      save_or_restore-keeps,
      show_and_save-keeps,
      bracket_pastes-keeps,
      origin_mode_between-keeps,
      autowrap_mode_between-keeps,
      side_mode-keeps,
    )

module _ (glyphs : GlyphLaws) (sets : SetsLaws) where
  pub page_mode-keeps : (on : Bool) (p : ℕ) → Keeps (with_page_mode on p)
  unfolding with_page_mode
  page_mode-keeps on p =
      looked_up-holds (λ key f. (on : Bool) → Keeps (f on)) page_modes p (λ on. on_display (with_mode private_modes on p))
      (λ on. display-keeps (with_mode private_modes on p) (private_mode-keeps glyphs sets on p)) page_modes-keep on

  pub change_page_modes-keeps : (on : Bool) (params : List ℕ) → Keeps (change_page_modes on params)
  change_page_modes-keeps on [] size s i = i
  change_page_modes-keeps on (p ∷ params) size s i =
      change_page_modes-keeps on params size (with_page_mode on p s) (page_mode-keeps on p size s i)

-- ---- functions of the display

cursor_character_absolute-own : (n : ℕ) → 1 ≤ n → terminals.Keeps (cursor_character_absolute n)
cursor_character_absolute-own n some s i = search rules

line_position_absolute-own : (n : ℕ) → 1 ≤ n → terminals.Keeps (line_position_absolute n)
line_position_absolute-own n some s i = search rules

line_position_forward-own : (n : ℕ) → terminals.Keeps (line_position_forward n)
line_position_forward-own n s i = search rules

cursor_next_line-own : (n : ℕ) → terminals.Keeps (cursor_next_line n)
cursor_next_line-own n s i =
    terminals.carriage_return-keeps (cursor_down n s) (terminals.cursor_down-keeps n s i)

cursor_preceding_line-own : (n : ℕ) → terminals.Keeps (cursor_preceding_line n)
cursor_preceding_line-own n s i = terminals.carriage_return-keeps (cursor_up n s) (terminals.cursor_up-keeps n s i)

rows_up-own : (n : ℕ) → terminals.Keeps (rows_up n)
rows_up-own n s i = search (rules, scroll_up-sound)

rows_down-own : (n : ℕ) → terminals.Keeps (rows_down n)
rows_down-own n s i = search (rules, scroll_down-sound)

-- the display stays, or becomes a sound one
one-of : (b : Bool) (f : Display → Display) → terminals.Keeps f → terminals.Keeps (λ s. if b then f s else s)
one-of true f keeps s i = keeps s i
one-of false f keeps s i = i

times-keeps : (n : ℕ) (f : Display → Display) → terminals.Keeps f → terminals.Keeps (times n f)
times-keeps zero f keeps s i = i
times-keeps (suc n) f keeps s i = keeps (times n f s) (times-keeps n f keeps s i)

back_tab-keeps : terminals.Keeps back_tab
back_tab-keeps s i =
    let stop = stop_before-bounds s.stops (last_column s) s.cursor.col (omega (arith, i.cursor.col_1, i.cursor.col_last))
    i.cursor.col_last in
    search rules

select_attributes-own : (params : List ℕ) → terminals.Keeps (select_attributes params)
select_attributes-own params s i = terminals.select_graphic_rendition-keeps (without_colours 0 params) s i

soft_reset_wrapping-own : terminals.Keeps soft_reset_wrapping
soft_reset_wrapping-own s i = terminals.autowrap_mode-keeps true (soft_reset s) (terminals.soft_reset-keeps s i)

set_level_wrapping-own : (params : List ℕ) → terminals.Keeps (set_level_wrapping params)
set_level_wrapping-own params s i =
    let p1 : ℕ = first params in
    let p2 : ℕ = second params in
    one-of (is_level p1 p2) (λ t. autowrap_mode true (set_conformance_level p1 p2 t))
    (λ t sound. terminals.autowrap_mode-keeps true (set_conformance_level p1 p2 t)
    (terminals.set_conformance_level-keeps p1 p2 t sound)) s i

before-inside : (s : Display) → IsSoundSizedDisplay s → (column_before s == 0) ≡ false
    → (1 ≤ column_before s) × (column_before s ≤ last_column s)
before-inside s i some = (grind (arith, nat_tests), at-most s.cursor.wrap)
  where
    at-most : (b : Bool) → (if b then s.cursor.col else s.cursor.col - 1) ≤ last_column s
    at-most true = i.cursor.col_last
    at-most false = omega (arith, i.cursor.col_last)

-- the cell before the cursor shows a glyph
module _ (rows : RowLaws) (tests : TestLaws) where
  glyph_before-shown : (s : Display) → IsSoundSizedDisplay s → (column_before s == 0) ≡ false → IsGlyph (glyph_before s)
  unfolding is_glyph
  glyph_before-shown s i some =
      let col = column_before s in
      let place : (1 ≤ col) × (col ≤ last_column s) = before-inside s i some in
      subst (λ (cell : Cell). IsGlyph cell.glyph)
      (sym (rows.cell s.grid s.cursor.row col blank place.0 place.1))
      (tests.at (λ cell. is_glyph cell.glyph) s.grid s.cursor.row col refl i.grid.glyphs)

  repeat-own : (n : ℕ) → terminals.Keeps (repeat n)
  repeat-own n s i = go (column_before s == 0) refl
    where
      go : (b : Bool) → (column_before s == 0) ≡ b
          → IsSoundSizedDisplay (if b then s else times (min n (room s)) (write_glyph (glyph_before s)) s)
      go true is = i
      go false is =
          times-keeps (min n (room s)) (write_glyph (glyph_before s))
          (terminals.write_glyph-keeps (glyph_before s) (glyph_before-shown s i is)) s i

tab-own : terminals.Keeps tab
tab-own s i = go s.cursor.wrap
  where
    go : (b : Bool) → IsSoundSizedDisplay (if b then s else horizontal_tab s)
    go true = i
    go false = terminals.horizontal_tab-keeps s i

cursor_forward_tabulation-own : (n : ℕ) → terminals.Keeps (cursor_forward_tabulation n)
cursor_forward_tabulation-own n s i = times-keeps (min n (last_column s)) tab tab-own s i

inside-own : (f : Display → Display) → terminals.Keeps f → terminals.Keeps (if_inside f)
inside-own f keeps s i = one-of (is_inside s) f keeps s i

cursor_backward_tabulation-own : (n : ℕ) → terminals.Keeps (cursor_backward_tabulation n)
cursor_backward_tabulation-own n s i = times-keeps (min n (last_column s)) back_tab back_tab-keeps s i

rows_down_by-own : (params : List ℕ) → terminals.Keeps (rows_down_by params)
rows_down_by-own params s i =
    one-of (length params == 1) (rows_down (count params)) (rows_down-own (count params)) s i

-- ---- these keep the size, too

times-size : (n : ℕ) (f : Display → Display) → KeepsSize f → KeepsSize (times n f)
times-size zero f same s = refl
times-size (suc n) f same s = same (times n f s) ∙ times-size n f same s

one-of-size : (b : Bool) (f : Display → Display) → KeepsSize f → KeepsSize (λ s. if b then f s else s)
one-of-size true f same s = same s
one-of-size false f same s = refl

repeat-size : (n : ℕ) → KeepsSize (repeat n)
repeat-size n s = go (column_before s == 0)
  where
    go : (b : Bool) → (if b then s else times (min n (room s)) (write_glyph (glyph_before s)) s).grid.size ≡ s.grid.size
    go true = refl
    go false = times-size (min n (room s)) (write_glyph (glyph_before s)) (write_glyph-size (glyph_before s)) s

cursor_next_line-keeps : (n : ℕ) → KeepsDisplay (cursor_next_line n)
cursor_next_line-keeps n = fixed (cursor_next_line n) (cursor_next_line-own n) (λ s. refl)

cursor_preceding_line-keeps : (n : ℕ) → KeepsDisplay (cursor_preceding_line n)
cursor_preceding_line-keeps n = fixed (cursor_preceding_line n) (cursor_preceding_line-own n) (λ s. refl)

cursor_character_absolute-keeps : (n : ℕ) → 1 ≤ n → KeepsDisplay (cursor_character_absolute n)
cursor_character_absolute-keeps n some =
    fixed (cursor_character_absolute n) (cursor_character_absolute-own n some) (λ s. refl)

cursor_forward-keeps : (n : ℕ) → KeepsDisplay (cursor_forward n)
cursor_forward-keeps n = fixed (cursor_forward n) (terminals.cursor_forward-keeps n) (λ s. refl)

tab-size : KeepsSize tab
tab-size s = go s.cursor.wrap
  where
    go : (b : Bool) → (if b then s else horizontal_tab s).grid.size ≡ s.grid.size
    go true = refl
    go false = refl

chosen-size : (b : Bool) (g h : Grid) (size : Size) → g.size ≡ size → h.size ≡ size → (if b then g else h).size ≡ size
chosen-size true g h size first second = first
chosen-size false g h size first second = second

insert_line-size : (n : ℕ) → KeepsSize (insert_line n)
insert_line-size n s = chosen-size (is_inside s) _ s.grid s.grid.size refl refl

delete_line-size : (n : ℕ) → KeepsSize (delete_line n)
delete_line-size n s = chosen-size (is_inside s) _ s.grid s.grid.size refl refl

inserted-keeps : (n : ℕ) → KeepsDisplay (if_inside (insert_line n))
inserted-keeps n = fixed (if_inside (insert_line n)) (inside-own (insert_line n) (terminals.insert_line-keeps n))
    (λ s. one-of-size (is_inside s) (insert_line n) (insert_line-size n) s)

deleted-keeps : (n : ℕ) → KeepsDisplay (if_inside (delete_line n))
deleted-keeps n = fixed (if_inside (delete_line n)) (inside-own (delete_line n) (terminals.delete_line-keeps n))
    (λ s. one-of-size (is_inside s) (delete_line n) (delete_line-size n) s)

cursor_forward_tabulation-keeps : (n : ℕ) → KeepsDisplay (cursor_forward_tabulation n)
cursor_forward_tabulation-keeps n = fixed (cursor_forward_tabulation n) (cursor_forward_tabulation-own n)
    (λ s. times-size (min n (last_column s)) tab tab-size s)

cursor_backward_tabulation-keeps : (n : ℕ) → KeepsDisplay (cursor_backward_tabulation n)
cursor_backward_tabulation-keeps n = fixed (cursor_backward_tabulation n) (cursor_backward_tabulation-own n)
    (λ s. times-size (min n (last_column s)) back_tab (λ t. refl) s)

rows_up-keeps : (n : ℕ) → KeepsDisplay (rows_up n)
rows_up-keeps n = fixed (rows_up n) (rows_up-own n) (λ s. refl)

rows_down-keeps : (n : ℕ) → KeepsDisplay (rows_down n)
rows_down-keeps n = fixed (rows_down n) (rows_down-own n) (λ s. refl)

rows_down_by-keeps : (params : List ℕ) → KeepsDisplay (rows_down_by params)
rows_down_by-keeps params = fixed (rows_down_by params) (rows_down_by-own params)
    (one-of-size (length params == 1) (rows_down (count params)) (λ s. refl))

line_position_absolute-keeps : (n : ℕ) → 1 ≤ n → KeepsDisplay (line_position_absolute n)
line_position_absolute-keeps n some = fixed (line_position_absolute n) (line_position_absolute-own n some) (λ s. refl)

line_position_forward-keeps : (n : ℕ) → KeepsDisplay (line_position_forward n)
line_position_forward-keeps n = fixed (line_position_forward n) (line_position_forward-own n) (λ s. refl)

select_attributes-keeps : (params : List ℕ) → KeepsDisplay (select_attributes params)
select_attributes-keeps params = fixed (select_attributes params) (select_attributes-own params) (λ s. refl)

soft_reset_wrapping-keeps : KeepsDisplay soft_reset_wrapping
soft_reset_wrapping-keeps = fixed soft_reset_wrapping soft_reset_wrapping-own (λ s. refl)

set_level_wrapping-keeps : (params : List ℕ) → KeepsDisplay (set_level_wrapping params)
set_level_wrapping-keeps params = fixed (set_level_wrapping params) (set_level_wrapping-own params)
    (one-of-size (is_level (first params) (second params))
    (λ t. autowrap_mode true (set_conformance_level (first params) (second params) t))
    (λ t. set_conformance_level-size (first params) (second params) t))

set_level_without_sides-keeps : (params : List ℕ) → Keeps (set_level_without_sides params)
set_level_without_sides-keeps params size s i =
    let sound = display-keeps (set_level_wrapping params) (set_level_wrapping-keeps params) size s i in
    one-screen size (is_level (first params) (second params)) (sided None (on_display (set_level_wrapping params) s))
    (on_display (set_level_wrapping params) s) sound sound

pub screen_alignment-keeps : KeepsDisplay screen_alignment
screen_alignment-keeps = fixed screen_alignment terminals.screen_alignment-keeps (λ s. refl)

-- what each function by itself needs
ruleset own-keeping = (
  cursor_forward-keeps,
  cursor_next_line-keeps,
  cursor_preceding_line-keeps,
  cursor_character_absolute-keeps,
  cursor_forward_tabulation-keeps,
  cursor_backward_tabulation-keeps,
  inserted-keeps,
  deleted-keeps,
  rows_up-keeps,
  rows_down-keeps,
  rows_down_by-keeps,
  line_position_absolute-keeps,
  line_position_forward-keeps,
  select_attributes-keeps,
)

-- ---- events

module _ (glyphs : GlyphLaws) (sets : SetsLaws) (rows : RowLaws) (tests : TestLaws) where
  plain_functions-keep : (params : List ℕ) → AllRows (λ key f. Keeps (f params)) plain_functions
  unfolding AllRows
  plain_functions-keep params =
      let n : ℕ = count params in
      let some : 1 ≤ n = omega arith in
      let again : KeepsDisplay (repeat n) = fixed (repeat n) (repeat-own rows tests n) (repeat-size n) in
      search (display-keeps, own-keeping, s-keeps, restore_if_bare-keeps, again, some)

  AllFunctionsKeep : List ℕ → FunctionTable → Type 0
  AllFunctionsKeep params = AllRows (λ key f. Keeps (f params))

  functions_of-keep : (params : List ℕ) (marker inter : Option ℕ) → AllFunctionsKeep params (functions_of marker inter)
  unfolding functions_of AllRows AllFunctionsKeep
  functions_of-keep params None None = plain_functions-keep params
  functions_of-keep params (Some marker) None =
      looked_up-holds (λ key table. AllFunctionsKeep params table) ((byte "?", private_functions) ∷ []) marker [] tt
      ((change_page_modes-keeps glyphs sets true params, (change_page_modes-keeps glyphs sets false params, tt)), tt)
  functions_of-keep params None (Some inter) =
      looked_up-holds (λ key table. AllFunctionsKeep params table) intermediate_functions inter [] tt (
        (set_level_without_sides-keeps params, tt),
        ((display-keeps soft_reset_wrapping soft_reset_wrapping-keeps, tt), tt),
      )
  functions_of-keep params (Some marker) (Some inter) = tt

  function_in-keeps : (table : FunctionTable) (event : Event) (last : ℕ) (params : List ℕ)
      → AllRows (λ key f. Keeps (f params)) table → Keeps (function_in table event last params)
  unfolding function_in
  function_in-keeps table event last params all =
      looked_up-holds (λ key f. Keeps (f params)) table last (λ params. on_display (effect event))
      (display-keeps (effect event) (effect-fixed glyphs sets event)) all

  plain_escapes-keep : AllRows (λ key f. Keeps (f [])) plain_escapes
  unfolding AllRows
  plain_escapes-keep = (
    restore_screens-keeps,
    (
      λ size s i.
          let sized : IsSize s.display.grid.size = i.0.grid.shape.size in
          let sound = fixed reset_display terminals.reset_to_initial_state-keeps (λ t. refl) size s.display i.0 in
          let wide : Bool = is_window_wide s in
          let page : Size = s.display.grid.size in (
            fixed (column_mode wide) (terminals.column_mode-keeps wide) (λ t. refl) size (display_of s.display.grid.size) sound,
            subst (λ z. IsSoundPageAt z (blank_page page)) i.0.of_size
                (page_of-sound page (display_of page) (display_of-sound page sized)),
          ),
      tt,
    ),
  )

  escapes_with-keep : (inter : ℕ) → AllFunctionsKeep [] (escapes_with inter)
  unfolding AllRows AllFunctionsKeep
  escapes_with-keep inter =
      looked_up-holds (λ key table. AllFunctionsKeep [] table) ((byte "#", alignments) ∷ []) inter [] tt
      ((display-keeps screen_alignment screen_alignment-keeps, tt), tt)

  control_effect-keeps : (b : ℕ) → KeepsDisplay (control_effect b)
  control_effect-keeps b size s i = go (b == 0x09)
    where
      go : (h : Bool) → IsSoundDisplayAt size (if h then tab s else effect (Control b) s)
      go true = fixed tab tab-own tab-size size s i
      go false = effect-fixed glyphs sets (Control b) size s i

  pub screen-event-keeps : (event : Event) → Keeps (screen_effect event)
  unfolding AllFunctionsKeep
  screen-event-keeps (Print b) = display-keeps (effect (Print b)) (effect-fixed glyphs sets (Print b))
  screen-event-keeps (Control b) = display-keeps (control_effect b) (control_effect-keeps b)
  screen-event-keeps (Escape None last) = function_in-keeps plain_escapes (Escape None last) last [] plain_escapes-keep
  screen-event-keeps (Escape (Some inter) last) =
      function_in-keeps (escapes_with inter) (Escape (Some inter) last) last [] (escapes_with-keep inter)
  screen-event-keeps (Sequence marker params inter last) =
      function_in-keeps (functions_of marker inter) (Sequence marker params inter last) last params.items
      (functions_of-keep params.items marker inter)

  -- ---- between left and right margins

  KeepsBetween : (Sides → Screens → Screens) → Type 0
  KeepsBetween f = (size : Size) (m : Sides) (s : Screens) → AreSides (last_column s.display) m → AreSound size s
      → AreSound size (f m s)

  pub writing-keeps : (glyph : ℕ) → IsGlyph glyph → (size : Size) (m : Sides) (s : Screens) → AreSides (last_column s.display) m
      → AreSound size s → AreSound size (writing glyph m s)
  writing-keeps glyph is size m s fits i = (write_glyph-in glyph is size m s.display fits i.0, i.1)

  -- the margins after a glyph fit, too
  pub after-fit : (glyph : ℕ) (m : Sides) (s : Screens) → AreSides (last_column s.display) m
      → AreSides (last_column (writing glyph m s).display) (between.sides_after m s.display)
  after-fit glyph m s fits =
      other-wrap (last_column (writing glyph m s).display) m (between.sides_after m s.display).wrap
      (subst (λ w. AreSides w m) (sym (write_glyph-part (λ g. g.width) width-part glyph m s.display)) fits)

  writing_times-keeps : (k glyph : ℕ) → IsGlyph glyph → (size : Size) (m : Sides) (s : Screens)
      → AreSides (last_column s.display) m → AreSound size s → AreSound size (writing_times k glyph m s)
  writing_times-keeps zero glyph is size m s fits i = i
  writing_times-keeps (suc k) glyph is size m s fits i =
      writing_times-keeps k glyph is size (between.sides_after m s.display) (writing glyph m s) (after-fit glyph m s fits)
      (writing-keeps glyph is size m s fits i)

  pub with-sets : (size : Size) (s : Display) (new : GraphicSets) → IsSoundDisplayAt size s → AreSoundSets new
      → IsSoundDisplayAt size (record s { sets = new })
  with-sets size s new i sound = record {
    of_size = i.of_size;
    grid = i.grid;
    cursor = i.cursor;
    wrap = i.wrap;
    origin = i.origin;
    sets = sound;
    margins = i.margins;
    stops = i.stops;
    saved = i.saved;
    saved_sets = i.saved_sets;
  }

  printing-keeps : (b : ℕ) (size : Size) (m : Sides) (s : Screens) → AreSides (last_column s.display) m → AreSound size s
      → AreSound size (printing b m s)
  printing-keeps b size m s fits i = go (glyph_read s.display.sets b) (glyphs.read s.display.sets b)
    where
      t : Screens
      t = on_display (λ d. record d { sets = after_read d.sets b }) s

      after : AreSound size t
      after = (with-sets size s.display (after_read s.display.sets b) i.0 (sets.read s.display.sets b i.0.sets), i.1)

      go : (glyph : Option ℕ) → IfSome glyph IsGlyph → AreSound size (writing_if_read glyph m t)
      go None h = after
      go (Some g) h = writing-keeps g h size m t fits after

  bounded_in-keeps : (table : BoundedTable) (event : Event) (last : ℕ) (params : List ℕ)
      → AllRows (λ key f. KeepsIn (f params)) table → KeepsIn (bounded_in table event last params)
  unfolding bounded_in
  bounded_in-keeps table event last params all =
      looked_up-holds (λ key f. KeepsIn (f params)) table last (λ params m. effect event)
      (λ size m s fits i. effect-fixed glyphs sets event size s i) all

  bounded_controls-keep : AllRows (λ key f. KeepsIn (f [])) bounded_controls
  unfolding AllRows
  bounded_controls-keep = search keeping-in

  bounded_plain-keep : (params : List ℕ) → AllRows (λ key f. KeepsIn (f params)) bounded_plain
  unfolding AllRows
  bounded_plain-keep params =
      let n : ℕ = count params in
      let some : 1 ≤ n = omega arith in
      let line : KeepsIn (λ m. line_position_absolute n) = λ size m s fits i. line_position_absolute-keeps n some size s i in
      let down : KeepsIn (λ m. line_position_forward n) = λ size m s fits i. line_position_forward-keeps n size s i in
      search (keeping-in, line, down, some)

  before-between : (m : Sides) (s : Display) → IsSoundSizedDisplay s → (between.column_before m s == 0) ≡ false
      → (1 ≤ between.column_before m s) × (between.column_before m s ≤ last_column s)
  before-between m s i some = (grind (arith, nat_tests), at-most (between.is_pending m s))
    where
      at-most : (b : Bool) → (if b then s.cursor.col else s.cursor.col - 1) ≤ last_column s
      at-most true = i.cursor.col_last
      at-most false = omega (arith, i.cursor.col_last)

  between-shown : (m : Sides) (s : Display) → IsSoundSizedDisplay s → (between.column_before m s == 0) ≡ false
      → IsGlyph (between.glyph_before m s)
  unfolding is_glyph
  between-shown m s i some =
      let col = between.column_before m s in
      let place : (1 ≤ col) × (col ≤ last_column s) = before-between m s i some in
      subst (λ (cell : Cell). IsGlyph cell.glyph)
      (sym (rows.cell s.grid s.cursor.row col blank place.0 place.1))
      (tests.at (λ cell. is_glyph cell.glyph) s.grid s.cursor.row col refl i.grid.glyphs)

  repeating-keeps : (n : ℕ) (size : Size) (m : Sides) (s : Screens) → AreSides (last_column s.display) m → AreSound size s
      → AreSound size (repeating n m s)
  repeating-keeps n size m s fits i = go (between.column_before m s.display == 0) refl
    where
      go : (b : Bool) → (between.column_before m s.display == 0) ≡ b → AreSound size (if b then s
          else writing_times (min n (between.room m s.display)) (between.glyph_before m s.display) m s)
      go true is = i
      go false is =
          writing_times-keeps (min n (between.room m s.display)) (between.glyph_before m s.display)
          (between-shown m s.display (own-display size s.display i.0) is) size m s fits i

  margins_set-keeps : (p1 p2 : ℕ) (size : Size) (m : Sides) (s : Screens) → AreSides (last_column s.display) m
      → AreSound size s → AreSound size (margins_set p1 p2 m s)
  margins_set-keeps p1 p2 size m s fits i =
      one-screen size (are_margins (bottom_row s.display) p1 p2) (resetting (between.set_margins p1 p2) m s) s
      (set_margins-in p1 p2 size m s.display fits i.0, i.1) i

  tabbing-keeps : (n : ℕ) → KeepsBetween (tabbing n)
  unfolding KeepsBetween
  tabbing-keeps n size m s fits i =
      one-screen size (between.is_pending m s.display) (waiting m s) (resetting (between.cursor_forward_tabulation n) m s)
      (wrap_waiting-in size m s.display fits i.0, i.1) (cursor_forward_tabulation-in n size m s.display fits i.0, i.1)

  editing-keeps : (f : Sides → Display → Display) → KeepsIn f → KeepsBetween (editing f)
  unfolding KeepsBetween
  editing-keeps f keeps size m s fits i =
      one-screen size (between.is_enclosed m s.display) (resetting f m s) s (keeps size m s.display fits i.0, i.1) i

  other_between-keeps : (event : Event) (last : ℕ) (params : List ℕ) (size : Size) (m : Sides) (s : Screens)
      → AreSides (last_column s.display) m → AreSound size s → AreSound size (other_between screen_effect event last params m s)
  unfolding other_between AllRows KeepsBetween
  other_between-keeps event last params =
      let n : ℕ = count params in
      looked_up-holds (λ key f. KeepsBetween (f params)) other_plain last (λ params m. screen_effect event)
      (λ size m s fits i. screen-event-keeps event size s i) (
        tabbing-keeps n,
        (
          editing-keeps (between.insert_line n) (insert_line-in n),
          (
            editing-keeps (between.delete_line n) (delete_line-in n),
            (
              λ size m s fits i. (rows_up-in n size m s.display fits i.0, i.1),
              (
                λ size m s fits i. one-screen size (length params == 1) (on_display (between.rows_down n m) s) s
                    (rows_down-in n size m s.display fits i.0, i.1) i,
                (
                  λ size m s fits i. (rows_down-in n size m s.display fits i.0, i.1),
                  (repeating-keeps n, (margins_set-keeps (first params) (second params), tt)),
                ),
              ),
            ),
          ),
        ),
      )

  bounded-keeps : (event : Event) (size : Size) (m : Sides) (s : Screens) → AreSides (last_column s.display) m
      → AreSound size s → AreSound size (bounded_effect screen_effect event m s)
  unfolding bounded_effect KeepsBetween
  bounded-keeps (Print b) size m s fits i = printing-keeps b size m s fits i
  bounded-keeps (Control b) size m s fits i =
      one-screen size (b == 0x1A) (writing substitute_glyph m s)
      (if b == 0x09 then tabbing 1 m s else (
      if has_row bounded_controls b then resetting (bounded_in bounded_controls (Control b) b []) m s
      else screen_effect (Control b) s))
      (writing-keeps substitute_glyph glyphs.substitute size m s fits i)
      (one-screen size (b == 0x09) (tabbing 1 m s)
      (if has_row bounded_controls b then resetting (bounded_in bounded_controls (Control b) b []) m s
      else screen_effect (Control b) s)
      (tabbing-keeps 1 size m s fits i)
      (one-screen size (has_row bounded_controls b) (resetting (bounded_in bounded_controls (Control b) b []) m s)
      (screen_effect (Control b) s)
      (bounded_in-keeps bounded_controls (Control b) b [] bounded_controls-keep size m s.display fits i.0, i.1)
      (screen-event-keeps (Control b) size s i)))
  bounded-keeps (Escape inter last) size m s fits i = screen-event-keeps (Escape inter last) size s i
  bounded-keeps (Sequence None params None last) size m s fits i =
      let event = Sequence None params None last in
      one-screen size (resets last params.items) (resetting (bounded_in bounded_plain event last params.items) m s)
      (other_between screen_effect event last params.items m s)
      (bounded_in-keeps bounded_plain event last params.items (bounded_plain-keep params.items) size m s.display fits i.0, i.1)
      (other_between-keeps event last params.items size m s fits i)
  bounded-keeps (Sequence (Some marker) params None last) size m s fits i =
      let event = Sequence (Some marker) params None last in
      one-screen size (marker == byte "?" && erases last params.items) (resetting (λ x. effect event) m s)
      (screen_effect event s) (effect-fixed glyphs sets event size s.display i.0, i.1) (screen-event-keeps event size s i)
  bounded-keeps (Sequence None params (Some inter) last) size m s fits i =
      screen-event-keeps (Sequence None params (Some inter) last) size s i
  bounded-keeps (Sequence (Some marker) params (Some inter) last) size m s fits i =
      screen-event-keeps (Sequence (Some marker) params (Some inter) last) size s i

  pub event-keeps : (event : Event) → Keeps (xterm_effect event)
  event-keeps event size s i =
      of_bounds (last_column s.display) (λ b. AreSound size (effect_between event b s)) s.pages.sides
      (screen-event-keeps event size s i) (λ m fits. bounded-keeps event size m s fits i)

  pub after_events-keeps : (events : List Event) → Keeps (after_events events)
  after_events-keeps [] size s i = i
  after_events-keeps (event ∷ events) size s i =
      after_events-keeps events size (xterm_effect event s) (event-keeps event size s i)
