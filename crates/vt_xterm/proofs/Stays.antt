-- Which functions leave the pages and the width.
use Rattle.std.proofs.Common.{rules, ◌≡◌, ℕ, Bool, true, false, zero, suc, List, [], ◌∷◌, Option, Some, None, refl, sym, ap, ◌∙◌}
use Rattle.std.specs.Prelude.{◌==◌, ◌||◌, ◌&&◌, min, length, if◌then◌else◌}
use Rattle.std.specs.List.{list_any}
use Rattle.vt_syntax.specs.declared.event.Event.{Event}
use Rattle.vt_syntax.specs.declared.event.Event.TheVariants.{Print, Control, Escape, Sequence}
use Rattle.vt_glyph.specs.Invocation.{glyph_read, after_read}
use Rattle.vt_glyph.specs.Designation.{set_of_final}
use Rattle.vt_glyph.specs.declared.set.Set.{Set}
use Rattle.vt_screen.specs.Grid.{Grid, scroll_up, scroll_down, put, put_inserting}
use Rattle.vt_screen.specs.Cells.{cell_of}
use Rattle.vt_glyph.specs.Tables.{substitute_glyph}
use Rattle.vt_term.specs.State.{Display, last_column, bottom_row}
use Rattle.vt_term.specs.Parameters.{first, second, count}
use Rattle.vt_term.specs.Moving.{carriage_return, index, reverse_index, next_line, line_feed, are_margins, set_margins}
use Rattle.vt_term.specs.Tabs.{horizontal_tab, clear_tabs}
use Rattle.vt_term.specs.Writing.{after_wrap, with_glyph, write_glyph, write_if_read, print}
use Rattle.vt_term.specs.Editing.{is_inside, insert_line, delete_line, erase_in_display, erase_in_line, names_area}
use Rattle.vt_term.specs.Rendition.{select_character_attribute}
use Rattle.vt_term.specs.Modes.{ansi_modes, private_modes, with_mode, change_modes, autowrap_mode}
use Rattle.vt_term.specs.Saving.{save_cursor, restore_cursor}
use Rattle.vt_term.specs.Resets.{is_level, set_conformance_level, soft_reset_to, asked_form}
use Rattle.vt_term.specs.Functions.{Function, no_function, controls, control, plain_escape, escape_with}
use Rattle.vt_term.specs.Functions.{space_escapes, number_sign_escapes, marker_tables, intermediate_tables}
use Rattle.vt_term.specs.Functions as terminal
use Rattle.vt_term.specs.Functions.{escape_tables, designate, designate_to, byte, effect, sequence_in, sequences_of}
use Rattle.vt_term.specs.Functions.{plain_sequences, private_sequences, greater_sequences}
use Rattle.vt_term.specs.Functions.{quote_sequences, exclamation_sequences}
use Rattle.vt_xterm.specs.Repeating.{times, column_before, glyph_before, room, repeat}
use Rattle.vt_xterm.specs.Tabs.{tab, back_tab, cursor_forward_tabulation, cursor_backward_tabulation}
use Rattle.vt_xterm.specs.Scroll.{rows_down, rows_down_by}
use Rattle.vt_xterm.specs.declared.sides.Sides.{Sides}
use Rattle.vt_xterm.specs.Sides.{are_sides, sides_of, sides_after, home, is_pending, is_enclosed}
use Rattle.vt_xterm.specs.Sides as bounds
use Rattle.vt_xterm.specs.Pages.{PagesState, Screens, on_display, save_or_restore, page_modes, with_page_mode, change_page_modes}
use Rattle.vt_xterm.specs.Pages.{bounds_of, restored, restore_screens, sided, with_sides, unwrapped, side_mode}
use Rattle.vt_xterm.specs.Pages.{sided_origin_mode, origin_mode_between, autowrap_mode_between}
use Rattle.vt_xterm.specs.Bounded.{is_bare, BoundedTable, bounded_in, bounded_plain, bounded_controls, has_row, other_plain}
use Rattle.vt_xterm.specs.Bounded.{other_between, resets, erases, bounded_effect, writing, writing_if_read, writing_times}
use Rattle.vt_xterm.specs.Bounded.{printing, repeating, resetting, editing, waiting, tabbing}
use Rattle.vt_xterm.specs.Front.{save_or_set_sides, restore_if_bare, plain_functions, private_functions, exclamation_functions}
use Rattle.vt_xterm.specs.Front.{if_inside, control_effect, screen_effect, effect_between, set_level_without_sides, alignments, escapes_with}
use Rattle.vt_xterm.proofs.Bounds.{brought-part, write_glyph-part, set_margins-part, wrap_waiting-part, width-part, width-parts}
use Rattle.vt_xterm.proofs.Bounds.{insert_line-width, delete_line-width, cursor_forward_tabulation-width}
use Rattle.vt_xterm.specs.Front.{set_level_wrapping, quote_functions, intermediate_functions}
use Rattle.vt_xterm.specs.Front.{functions_of, function_in, plain_escapes, xterm_effect}
use Rattle.vt_xterm.specs.Front.{is_page_mode, is_paste_mode, sets_page_mode, sets_mode, is_page_function, is_paste_function}
use Rattle.vt_term.proofs.Tables.{AllRows, looked_up-holds}
use Rattle.vt_term.specs.Functions.{control_any, escape_with_any, plain_escape_any, sequences_any}

-- a function leaves the width
abbrev pub Fits : (Display → Display) → Type 0
Fits f = (s : Display) → (f s).grid.width ≡ s.grid.width

-- a function leaves the pages but for the left and right margins, and the width
abbrev pub Stays : (Screens → Screens) → Type 0
Stays f = (s : Screens) → ((f s).pages ≡ record s.pages { sides = (f s).pages.sides })
    × ((f s).display.grid.width ≡ s.display.grid.width)

display-stays : (f : Display → Display) → Fits f → Stays (on_display f)
display-stays f fits s = (refl, fits s.display)

-- ---- a VT220's functions

chosen-width : (b : Bool) (g h : Grid) (w : ℕ) → g.width ≡ w → h.width ≡ w → (if b then g else h).width ≡ w
chosen-width true g h w first second = first
chosen-width false g h w first second = second

pub chosen-fits : (b : Bool) (s t u : Display) → t.grid.width ≡ s.grid.width → u.grid.width ≡ s.grid.width
    → (if b then t else u).grid.width ≡ s.grid.width
chosen-fits true s t u first second = first
chosen-fits false s t u first second = second

index-fits : Fits index
index-fits s =
    chosen-width (s.cursor.row == s.margins.bottom) (scroll_up s.grid s.margins.top s.margins.bottom 1) s.grid s.grid.width
    refl refl

reverse_index-fits : Fits reverse_index
reverse_index-fits s =
    chosen-width (s.cursor.row == s.margins.top) (scroll_down s.grid s.margins.top s.margins.bottom 1) s.grid s.grid.width
    refl refl

pub next_line-fits : Fits next_line
next_line-fits s = index-fits (carriage_return s)

line_feed-fits : Fits line_feed
line_feed-fits s = chosen-fits s.modes.lnm s (next_line s) (index s) (next_line-fits s) (index-fits s)

pub written-fits : (glyph : ℕ) (t : Display) → (with_glyph glyph t).width ≡ t.grid.width
written-fits glyph t =
    chosen-width t.modes.irm (put_inserting t.grid t.cursor.row t.cursor.col (cell_of glyph t.brush))
    (put t.grid t.cursor.row t.cursor.col (cell_of glyph t.brush)) t.grid.width refl refl

pub write_glyph-fits : (glyph : ℕ) → Fits (write_glyph glyph)
write_glyph-fits glyph s =
    written-fits glyph (after_wrap s) ∙ chosen-fits s.cursor.wrap s (next_line s) s (next_line-fits s) refl

print-fits : (b : ℕ) → Fits (print b)
print-fits b s = go (glyph_read s.sets b)
  where
    go : (glyph : Option ℕ)
        → (write_if_read glyph (record s { sets = after_read s.sets b })).grid.width ≡ s.grid.width
    go None = refl
    go (Some glyph) = write_glyph-fits glyph (record s { sets = after_read s.sets b })

insert_line-fits : (n : ℕ) → Fits (insert_line n)
insert_line-fits n s =
    chosen-width (is_inside s) (scroll_down s.grid s.cursor.row s.margins.bottom n) s.grid s.grid.width refl refl

delete_line-fits : (n : ℕ) → Fits (delete_line n)
delete_line-fits n s =
    chosen-width (is_inside s) (scroll_up s.grid s.cursor.row s.margins.bottom n) s.grid s.grid.width refl refl

erase_in_display-fits : (selective : Bool) (p : ℕ) → Fits (erase_in_display selective p)
erase_in_display-fits selective p s = chosen-fits (names_area p) s _ s refl refl

erase_in_line-fits : (selective : Bool) (p : ℕ) → Fits (erase_in_line selective p)
erase_in_line-fits selective p s = chosen-fits (names_area p) s _ s refl refl

clear_tabs-fits : (p : ℕ) → Fits (clear_tabs p)
clear_tabs-fits p s = chosen-fits (p == 0) s _ _ refl (chosen-fits (p == 3) s _ s refl refl)

set_margins-fits : (p1 p2 : ℕ) → Fits (set_margins p1 p2)
set_margins-fits p1 p2 s =
    chosen-fits (are_margins (bottom_row s) p1 p2) s _ s refl refl

set_conformance_level-fits : (p1 p2 : ℕ) → Fits (set_conformance_level p1 p2)
set_conformance_level-fits p1 p2 s = go (asked_form p1 p2)
  where
    go : (form : Option Bool) → (soft_reset_to form s).grid.width ≡ s.grid.width
    go None = refl
    go (Some eight) = refl

select_character_attribute-fits : (p : ℕ) → Fits (select_character_attribute p)
select_character_attribute-fits p s = chosen-fits (p == 1) s _ _ refl (chosen-fits (p == 0 || p == 2) s _ s refl refl)

designate-fits : (slot last : ℕ) → Fits (designate slot last)
designate-fits slot last s = go (set_of_final last)
  where
    go : (set : Option Set) → (designate_to slot set s).grid.width ≡ s.grid.width
    go None = refl
    go (Some set) = refl

-- what each function by itself needs
ruleset fitting = (
  index-fits,
  reverse_index-fits,
  next_line-fits,
  line_feed-fits,
  write_glyph-fits,
  insert_line-fits,
  delete_line-fits,
  erase_in_display-fits,
  erase_in_line-fits,
  clear_tabs-fits,
  set_margins-fits,
  set_conformance_level-fits,
  select_character_attribute-fits,
  designate-fits,
)

ansi_mode-fits : (on : Bool) (p : ℕ) → Fits (with_mode ansi_modes on p)
unfolding with_mode AllRows
ansi_mode-fits on p =
    looked_up-holds (λ key f. Fits (f on)) ansi_modes p (λ on s. s) (λ s. refl) (search (rules, fitting))

ansi_modes-fit : (on : Bool) (params : List ℕ) → Fits (change_modes ansi_modes on params)
ansi_modes-fit on [] s = refl
ansi_modes-fit on (p ∷ params) s = ansi_modes-fit on params (with_mode ansi_modes on p s) ∙ ansi_mode-fits on p s

private_mode-fits : (on : Bool) (p : ℕ) → is_page_mode p ≡ false → Fits (with_mode private_modes on p)
unfolding with_mode AllRows
private_mode-fits on p =
    looked_up-holds (λ key f. is_page_mode key ≡ false → Fits (f on)) private_modes p (λ on s. s) (λ h s. refl) (search (rules, fitting))

pub neither : (a b : Bool) → (a || b) ≡ false → (a ≡ false) × (b ≡ false)
neither true b h = absurd cc
neither false b h = (refl, h)

private_modes-fit : (on : Bool) (params : List ℕ) → list_any is_page_mode params ≡ false
    → Fits (change_modes private_modes on params)
private_modes-fit on [] none s = refl
private_modes-fit on (p ∷ params) none s =
    let h = neither (is_page_mode p) (list_any is_page_mode params) none in
    private_modes-fit on params h.1 (with_mode private_modes on p s) ∙ private_mode-fits on p h.0 s

control-fits : (b : ℕ) → Fits (control b)
unfolding control_any AllRows
control-fits b =
    looked_up-holds (λ key f. Fits (f.effect [])) controls b no_function (λ s. refl) (search (rules, fitting))

plain_escape-fits : (last : ℕ) → (last == 0x63) ≡ false → Fits (plain_escape last)
unfolding plain_escape_any AllRows
plain_escape-fits last =
    looked_up-holds (λ key f. (key == 0x63) ≡ false → Fits (f.effect [])) terminal.plain_escapes last no_function (λ h s. refl) (search (rules, fitting))

escape_with-fits : (inter last : ℕ) → Fits (escape_with inter last)
unfolding escape_with_any AllRows
escape_with-fits inter last =
    looked_up-holds (λ key (f : ℕ → Function). Fits ((f last).effect [])) escape_tables inter (λ last. no_function) (λ s. refl) (
      looked_up-holds (λ key f. Fits (f.effect [])) space_escapes last no_function (λ s. refl) (search rules),
      (
        looked_up-holds (λ key f. Fits (f.effect [])) number_sign_escapes last no_function (λ s. refl) (search rules),
        search (rules, fitting),
      ),
    )

plain_sequence-fits : (last : ℕ) (params : List ℕ) → Fits (sequence_in plain_sequences last params)
unfolding sequence_in AllRows
plain_sequence-fits last params =
    looked_up-holds (λ key f. Fits (f.effect params)) plain_sequences last no_function (λ s. refl) (search (rules, fitting, ansi_modes-fit))

private_sequence-fits : (last : ℕ) (params : List ℕ) → sets_page_mode 0x3F last params ≡ false
    → Fits (sequence_in private_sequences last params)
unfolding sequence_in AllRows
private_sequence-fits last params =
    looked_up-holds (λ key f. sets_page_mode 0x3F key params ≡ false → Fits (f.effect params)) private_sequences last
    no_function (λ h s. refl) (search (rules, fitting, private_modes-fit))

greater_sequence-fits : (last : ℕ) (params : List ℕ) → Fits (sequence_in greater_sequences last params)
unfolding sequence_in AllRows
greater_sequence-fits last params =
    looked_up-holds (λ key f. Fits (f.effect params)) greater_sequences last no_function (λ s. refl) (λ s. refl, tt)

quote_sequence-fits : (last : ℕ) (params : List ℕ) → Fits (sequence_in quote_sequences last params)
unfolding sequence_in AllRows
quote_sequence-fits last params =
    looked_up-holds (λ key f. Fits (f.effect params)) quote_sequences last no_function (λ s. refl) (search (rules, fitting))

exclamation_sequence-fits : (last : ℕ) (params : List ℕ) → Fits (sequence_in exclamation_sequences last params)
unfolding sequence_in AllRows
exclamation_sequence-fits last params =
    looked_up-holds (λ key f. Fits (f.effect params)) exclamation_sequences last no_function (λ s. refl) (search (rules, fitting))

none-fits : (last : ℕ) (params : List ℕ) → Fits (sequence_in [] last params)
unfolding sequence_in
none-fits last params s = refl

sequence-fits : (marker inter : Option ℕ) (last : ℕ) (params : List ℕ)
    → is_page_function (Sequence marker (record { items = params }) inter last) ≡ false
    → Fits (sequence_in (sequences_of marker inter) last params)
unfolding sequences_any AllRows
sequence-fits None None last params h = plain_sequence-fits last params
sequence-fits (Some marker) None last params h =
    looked_up-holds (λ key table. sets_page_mode key last params ≡ false → Fits (sequence_in table last params))
    marker_tables marker [] (λ h. none-fits last params)
    (λ h. private_sequence-fits last params h, (λ h. greater_sequence-fits last params, tt)) h
sequence-fits None (Some inter) last params h =
    looked_up-holds (λ key table. Fits (sequence_in table last params))
    intermediate_tables inter [] (none-fits last params)
    (quote_sequence-fits last params, (exclamation_sequence-fits last params, tt))
sequence-fits (Some marker) (Some inter) last params h = none-fits last params

pub effect-fits : (event : Event) → is_page_function event ≡ false → Fits (effect event)
effect-fits (Print b) h = print-fits b
effect-fits (Control b) h = control-fits b
effect-fits (Escape None last) h = plain_escape-fits last h
effect-fits (Escape (Some inter) last) h = escape_with-fits inter last
effect-fits (Sequence marker params inter last) h = sequence-fits marker inter last params.items h

-- ---- xterm's functions

times-fits : (n : ℕ) (f : Display → Display) → Fits f → Fits (times n f)
times-fits zero f fits s = refl
times-fits (suc n) f fits s = fits (times n f s) ∙ times-fits n f fits s

repeat-fits : (n : ℕ) → Fits (repeat n)
repeat-fits n s =
    chosen-fits (column_before s == 0) s s (times (min n (room s)) (write_glyph (glyph_before s)) s) refl
    (times-fits (min n (room s)) (write_glyph (glyph_before s)) (write_glyph-fits (glyph_before s)) s)

tab-fits : Fits tab
tab-fits s = chosen-fits s.cursor.wrap s s (horizontal_tab s) refl refl

control_effect-fits : (b : ℕ) → Fits (control_effect b)
control_effect-fits b s = chosen-fits (b == 0x09) s (tab s) (control b s) (tab-fits s) (control-fits b s)

cursor_forward_tabulation-fits : (n : ℕ) → Fits (cursor_forward_tabulation n)
cursor_forward_tabulation-fits n s = times-fits (min n (last_column s)) tab tab-fits s

inserted-fits : (n : ℕ) → Fits (if_inside (insert_line n))
inserted-fits n s = chosen-fits (is_inside s) s (insert_line n s) s (insert_line-fits n s) refl

deleted-fits : (n : ℕ) → Fits (if_inside (delete_line n))
deleted-fits n s = chosen-fits (is_inside s) s (delete_line n s) s (delete_line-fits n s) refl

cursor_backward_tabulation-fits : (n : ℕ) → Fits (cursor_backward_tabulation n)
cursor_backward_tabulation-fits n s = times-fits (min n (last_column s)) back_tab (λ t. refl) s

rows_down_by-fits : (params : List ℕ) → Fits (rows_down_by params)
rows_down_by-fits params s = chosen-fits (length params == 1) s (rows_down (count params) s) s refl refl

set_level_wrapping-fits : (params : List ℕ) → Fits (set_level_wrapping params)
set_level_wrapping-fits params s =
    let leveled : Display = set_conformance_level (first params) (second params) s in
    chosen-fits (is_level (first params) (second params)) s (autowrap_mode true leveled) s
    (set_conformance_level-fits (first params) (second params) s) refl

ruleset own-fitting = (
  cursor_forward_tabulation-fits,
  cursor_backward_tabulation-fits,
  inserted-fits,
  deleted-fits,
  rows_down_by-fits,
  repeat-fits,
)

-- one of two
one-stays : (b : Bool) (s t u : Screens)
    → (t.pages ≡ record s.pages { sides = t.pages.sides }) × (t.display.grid.width ≡ s.display.grid.width)
    → (u.pages ≡ record s.pages { sides = u.pages.sides }) × (u.display.grid.width ≡ s.display.grid.width)
    → ((if b then t else u).pages ≡ record s.pages { sides = (if b then t else u).pages.sides })
    × ((if b then t else u).display.grid.width ≡ s.display.grid.width)
one-stays true s t u first second = first
one-stays false s t u first second = second

-- the cursor is restored, whatever bounds it
restored-fits : (bounds : Option Sides) → Fits (restored bounds)
restored-fits None s = refl
restored-fits (Some m) s = brought-part (λ g. g.width) width-part m (restore_cursor s)

restore_screens-stays : Stays restore_screens
restore_screens-stays s = (refl, restored-fits (bounds_of s) s.display)

restore_if_bare-stays : (params : List ℕ) → Stays (restore_if_bare params)
restore_if_bare-stays params s = one-stays (is_bare params) s (restore_screens s) s (restore_screens-stays s) (refl, refl)

save_or_set_sides-stays : (params : List ℕ) (sides : Option Sides) → Stays (save_or_set_sides params sides)
save_or_set_sides-stays params None s =
    one-stays (is_bare params) s (on_display save_cursor s) s (refl, refl) (refl, refl)
save_or_set_sides-stays params (Some m) s =
    let p1 : ℕ = first params in
    let p2 : ℕ = second params in
    let w = last_column s.display in
    one-stays (are_sides w p1 p2) s (with_sides (sides_of w p1 p2) (on_display (home (sides_of w p1 p2)) s)) s (refl, refl)
    (refl, refl)

s-stays : (params : List ℕ) → Stays (λ s. save_or_set_sides params s.pages.sides s)
s-stays params s = save_or_set_sides-stays params s.pages.sides s

own-stays : (event : Event) (last : ℕ) (params : List ℕ) → Fits (effect event)
    → Stays (function_in plain_functions event last params)
unfolding function_in AllRows
own-stays event last params fits =
    looked_up-holds (λ key f. Stays (f params)) plain_functions last (λ params. on_display (effect event))
    (display-stays (effect event) fits) (search (rules, own-fitting, s-stays, restore_if_bare-stays))

save_or_restore-stays : (save : Bool) → Stays (save_or_restore save)
save_or_restore-stays true s = (refl, refl)
save_or_restore-stays false s = restore_screens-stays s

origin_mode_between-stays : (on : Bool) → Stays (origin_mode_between on)
origin_mode_between-stays on s = go (bounds_of s)
  where
    go : (bounds : Option Sides)
        → ((unwrapped (sided_origin_mode on bounds s)).pages
        ≡ record s.pages { sides = (unwrapped (sided_origin_mode on bounds s)).pages.sides })
        × ((unwrapped (sided_origin_mode on bounds s)).display.grid.width ≡ s.display.grid.width)
    go None = (refl, refl)
    go (Some m) = (refl, refl)

autowrap_mode_between-stays : (on : Bool) → Stays (autowrap_mode_between on)
autowrap_mode_between-stays true s = (refl, refl)
autowrap_mode_between-stays false s = (refl, refl)

side_mode-stays : (on : Bool) → Stays (side_mode on)
side_mode-stays on s = (refl, refl)

ruleset mode-stays = (
  save_or_restore-stays,
  origin_mode_between-stays,
  autowrap_mode_between-stays,
  side_mode-stays,
)

-- two, one after the other
then-stays : (s t u : Screens) → t.pages ≡ record s.pages { sides = t.pages.sides }
    → u.pages ≡ record t.pages { sides = u.pages.sides } → u.pages ≡ record s.pages { sides = u.pages.sides }
then-stays s t u one two = two ∙ ap (λ (p : PagesState). record p { sides = u.pages.sides }) one

page_mode-stays : (on : Bool) (p : ℕ) → is_page_mode p ≡ false → is_paste_mode p ≡ false → Stays (with_page_mode on p)
unfolding with_page_mode AllRows
page_mode-stays on p =
    looked_up-holds (λ key f. is_page_mode key ≡ false → is_paste_mode key ≡ false → Stays (f on)) page_modes p
    (λ on. on_display (with_mode private_modes on p))
    (λ not other. display-stays (with_mode private_modes on p) (private_mode-fits on p not)) (search (rules, mode-stays))

page_modes-stay : (on : Bool) (params : List ℕ) → list_any is_page_mode params ≡ false
    → list_any is_paste_mode params ≡ false → Stays (change_page_modes on params)
page_modes-stay on [] none other s = (refl, refl)
page_modes-stay on (p ∷ params) none other s =
    let h = neither (is_page_mode p) (list_any is_page_mode params) none in
    let k = neither (is_paste_mode p) (list_any is_paste_mode params) other in
    let first = page_mode-stays on p h.0 k.0 s in
    let rest = page_modes-stay on params h.1 k.1 (with_page_mode on p s) in (
      then-stays s (with_page_mode on p s) (change_page_modes on params (with_page_mode on p s)) first.0 rest.0,
      rest.1 ∙ first.1,
    )

private-stays : (event : Event) (last : ℕ) (params : List ℕ) → Fits (effect event)
    → sets_page_mode 0x3F last params ≡ false → sets_mode is_paste_mode 0x3F last params ≡ false
    → Stays (function_in private_functions event last params)
unfolding function_in AllRows
private-stays event last params fits =
    looked_up-holds
    (λ key f. sets_page_mode 0x3F key params ≡ false → sets_mode is_paste_mode 0x3F key params ≡ false → Stays (f params))
    private_functions last (λ params. on_display (effect event)) (λ h k. display-stays (effect event) fits)
    (λ h k. page_modes-stay true params h k, (λ h k. page_modes-stay false params h k, tt))

exclamation-stays : (event : Event) (last : ℕ) (params : List ℕ) → Fits (effect event)
    → Stays (function_in exclamation_functions event last params)
unfolding function_in AllRows
exclamation-stays event last params fits =
    looked_up-holds (λ key f. Stays (f params)) exclamation_functions last (λ params. on_display (effect event))
    (display-stays (effect event) fits) (λ s. (refl, refl), tt)

set_level_without_sides-stays : (params : List ℕ) → Stays (set_level_without_sides params)
set_level_without_sides-stays params s =
    let fits = set_level_wrapping-fits params s.display in
    one-stays (is_level (first params) (second params)) s (sided None (on_display (set_level_wrapping params) s))
    (on_display (set_level_wrapping params) s) (refl, fits) (refl, fits)

quote-stays : (event : Event) (last : ℕ) (params : List ℕ) → Fits (effect event)
    → Stays (function_in quote_functions event last params)
unfolding function_in AllRows
quote-stays event last params fits =
    looked_up-holds (λ key f. Stays (f params)) quote_functions last (λ params. on_display (effect event))
    (display-stays (effect event) fits)
    (set_level_without_sides-stays params, tt)

none-stays : (event : Event) (last : ℕ) (params : List ℕ) → Fits (effect event) → Stays (function_in [] event last params)
unfolding function_in
none-stays event last params fits s = (refl, fits s.display)

sequence-stays : (event : Event) (marker inter : Option ℕ) (last : ℕ) (params : List ℕ) → Fits (effect event)
    → is_page_function (Sequence marker (record { items = params }) inter last) ≡ false
    → is_paste_function (Sequence marker (record { items = params }) inter last) ≡ false
    → Stays (function_in (functions_of marker inter) event last params)
unfolding functions_of AllRows
sequence-stays event None None last params fits h k = own-stays event last params fits
sequence-stays event (Some marker) None last params fits h k =
    looked_up-holds
    (λ key table. sets_page_mode key last params ≡ false → sets_mode is_paste_mode key last params ≡ false
    → Stays (function_in table event last params))
    ((byte "?", private_functions) ∷ []) marker [] (λ h k. none-stays event last params fits)
    (λ h k. private-stays event last params fits h k, tt) h k
sequence-stays event None (Some inter) last params fits h k =
    looked_up-holds (λ key table. Stays (function_in table event last params))
    intermediate_functions inter [] (none-stays event last params fits)
    (quote-stays event last params fits, (exclamation-stays event last params fits, tt))
sequence-stays event (Some marker) (Some inter) last params fits h k = none-stays event last params fits

escape-stays : (last : ℕ) → (last == 0x63) ≡ false → Stays (function_in plain_escapes (Escape None last) last [])
unfolding function_in AllRows
escape-stays last =
    looked_up-holds (λ key f. (key == 0x63) ≡ false → Stays (f [])) plain_escapes last
    (λ params. on_display (effect (Escape None last)))
    (λ h. display-stays (effect (Escape None last)) (plain_escape-fits last h))
    (λ h. restore_screens-stays, (λ h. absurd cc, tt))

escapes_with-stays : (inter last : ℕ) → Stays (function_in (escapes_with inter) (Escape (Some inter) last) last [])
unfolding function_in AllRows
escapes_with-stays inter last =
    let own = display-stays (effect (Escape (Some inter) last)) (escape_with-fits inter last) in
    looked_up-holds (λ key table. Stays (function_in table (Escape (Some inter) last) last []))
    ((byte "#", alignments) ∷ []) inter [] own (
      looked_up-holds (λ key f. Stays (f [])) alignments last (λ params. on_display (effect (Escape (Some inter) last))) own
          (λ s. (refl, refl), tt),
      tt,
    )

-- ---- between left and right margins

-- a function of the display leaves the width
abbrev pub FitsIn : (Sides → Display → Display) → Type 0
FitsIn f = (m : Sides) (s : Display) → (f m s).grid.width ≡ s.grid.width

-- one of the screens leaves the pages but for the margins, and the width
abbrev pub StaysIn : (Sides → Screens → Screens) → Type 0
StaysIn f = (m : Sides) → Stays (f m)

writing-stays : (glyph : ℕ) → StaysIn (writing glyph)
writing-stays glyph m s = (refl, write_glyph-part (λ g. g.width) width-part glyph m s.display)

writing_times-stays : (k glyph : ℕ) → StaysIn (writing_times k glyph)
writing_times-stays zero glyph m s = (refl, refl)
writing_times-stays (suc k) glyph m s =
    let one = writing-stays glyph m s in
    let rest = writing_times-stays k glyph (sides_after m s.display) (writing glyph m s) in (
      then-stays s (writing glyph m s) (writing_times (suc k) glyph m s) one.0 rest.0,
      rest.1 ∙ one.1,
    )

repeating-stays : (n : ℕ) → StaysIn (repeating n)
repeating-stays n m s =
    one-stays (bounds.column_before m s.display == 0) s s _ (refl, refl)
    (writing_times-stays (min n (bounds.room m s.display)) (bounds.glyph_before m s.display) m s)

printing-stays : (b : ℕ) → StaysIn (printing b)
printing-stays b m s = go (glyph_read s.display.sets b)
  where
    t : Screens
    t = on_display (λ d. record d { sets = after_read d.sets b }) s

    go : (glyph : Option ℕ) → ((writing_if_read glyph m t).pages ≡ record s.pages { sides = (writing_if_read glyph m t).pages.sides })
        × ((writing_if_read glyph m t).display.grid.width ≡ s.display.grid.width)
    go None = (refl, refl)
    go (Some glyph) = writing-stays glyph m t

tabbing-stays : (n : ℕ) → StaysIn (tabbing n)
tabbing-stays n m s =
    one-stays (is_pending m s.display) s (waiting m s) (resetting (bounds.cursor_forward_tabulation n) m s)
    (refl, wrap_waiting-part (λ g. g.width) width-part m s.display) (refl, cursor_forward_tabulation-width n m s.display)

editing-stays : (f : Sides → Display → Display) → FitsIn f → StaysIn (editing f)
editing-stays f fits m s =
    one-stays (is_enclosed m s.display) s (resetting f m s) s (refl, fits m s.display) (refl, refl)

bounded_in-fits : (table : BoundedTable) (event : Event) (last : ℕ) (params : List ℕ) → Fits (effect event)
    → AllRows (λ key f. FitsIn (f params)) table → FitsIn (bounded_in table event last params)
unfolding bounded_in
bounded_in-fits table event last params fits all =
    looked_up-holds (λ key f. FitsIn (f params)) table last (λ params m. effect event) (λ m. fits) all

bounded_controls-fit : AllRows (λ key f. FitsIn (f [])) bounded_controls
unfolding AllRows
bounded_controls-fit = search (rules, width-parts)

bounded_plain-fit : (params : List ℕ) → AllRows (λ key f. FitsIn (f params)) bounded_plain
unfolding AllRows
bounded_plain-fit params = search (rules, width-parts)

other_between-stays : (event : Event) (last : ℕ) (params : List ℕ) → Stays (screen_effect event)
    → StaysIn (other_between screen_effect event last params)
unfolding other_between AllRows
other_between-stays event last params stays =
    looked_up-holds (λ key f. StaysIn (f params)) other_plain last (λ params m. screen_effect event) (λ m. stays) (
      tabbing-stays (count params),
      (
        editing-stays (bounds.insert_line (count params)) (insert_line-width (count params)),
        (
          editing-stays (bounds.delete_line (count params)) (delete_line-width (count params)),
          (
            λ m s. (refl, refl),
            (
              λ m s. one-stays (length params == 1) s (on_display (bounds.rows_down (count params) m) s) s (refl, refl) (refl, refl),
              (
                λ m s. (refl, refl),
                (
                  repeating-stays (count params),
                  (
                    λ m s. one-stays (are_margins (bottom_row s.display) (first params) (second params)) s
                        (resetting (bounds.set_margins (first params) (second params)) m s) s
                        (refl, set_margins-part (λ g. g.width) width-part (first params) (second params) m s.display) (refl, refl),
                    tt,
                  ),
                ),
              ),
            ),
          ),
        ),
      ),
    )

bounded-stays : (event : Event) → Fits (effect event) → Stays (screen_effect event)
    → StaysIn (bounded_effect screen_effect event)
unfolding bounded_effect
bounded-stays (Print b) fits stays m s = printing-stays b m s
bounded-stays (Control b) fits stays m s =
    one-stays (b == 0x1A) s (writing substitute_glyph m s) _ (writing-stays substitute_glyph m s)
    (one-stays (b == 0x09) s (tabbing 1 m s) _ (tabbing-stays 1 m s)
    (one-stays (has_row bounded_controls b) s (resetting (bounded_in bounded_controls (Control b) b []) m s)
    (screen_effect (Control b) s)
    (refl, bounded_in-fits bounded_controls (Control b) b [] fits bounded_controls-fit m s.display) (stays s)))
bounded-stays (Escape inter last) fits stays m s = stays s
bounded-stays (Sequence None params None last) fits stays m s =
    let event = Sequence None params None last in
    one-stays (resets last params.items) s (resetting (bounded_in bounded_plain event last params.items) m s) _
    (refl, bounded_in-fits bounded_plain event last params.items fits (bounded_plain-fit params.items) m s.display)
    (other_between-stays event last params.items stays m s)
bounded-stays (Sequence (Some marker) params None last) fits stays m s =
    let event = Sequence (Some marker) params None last in
    one-stays (marker == byte "?" && erases last params.items) s (resetting (λ x. effect event) m s)
    (screen_effect event s) (refl, fits s.display) (stays s)
bounded-stays (Sequence None params (Some inter) last) fits stays m s = stays s
bounded-stays (Sequence (Some marker) params (Some inter) last) fits stays m s = stays s

-- ---- events

pub screen-stays : (event : Event) → is_page_function event ≡ false → is_paste_function event ≡ false
    → Stays (screen_effect event)
screen-stays (Print b) h k = display-stays (effect (Print b)) (print-fits b)
screen-stays (Control b) h k = display-stays (control_effect b) (control_effect-fits b)
screen-stays (Escape None last) h k = escape-stays last h
screen-stays (Escape (Some inter) last) h k = escapes_with-stays inter last
screen-stays (Sequence marker params inter last) h k =
    sequence-stays (Sequence marker params inter last) marker inter last params.items
    (sequence-fits marker inter last params.items h) h k

-- what is no function of the pages leaves them but for the margins, and the width
pub event-stays : (event : Event) → is_page_function event ≡ false → is_paste_function event ≡ false
    → Stays (xterm_effect event)
event-stays event h k s = go (bounds_of s)
  where
    go : (b : Option Sides) → ((effect_between event b s).pages ≡ record s.pages { sides = (effect_between event b s).pages.sides })
        × ((effect_between event b s).display.grid.width ≡ s.display.grid.width)
    go None = screen-stays event h k s
    go (Some m) = bounded-stays event (effect-fits event h) (screen-stays event h k) m s

-- ---- ?2004, which changes one mode of the pages

-- a function leaves the pages but for that mode and the margins, and the width
abbrev pub StaysBut : (Screens → Screens) → Type 0
StaysBut f = (s : Screens) → ((f s).pages ≡ record s.pages { brackets = (f s).pages.brackets; sides = (f s).pages.sides })
    × ((f s).display.grid.width ≡ s.display.grid.width)

but : (f : Screens → Screens) → Stays f → StaysBut f
but f stays s =
    let e = stays s in
    let same : (f s).pages.brackets ≡ s.pages.brackets = ap (λ (p : PagesState). p.brackets) e.0 in
    (e.0 ∙ ap (λ (b : Bool). record s.pages { brackets = b; sides = (f s).pages.sides }) (sym same), e.1)

save_or_restore-but : (save : Bool) → StaysBut (save_or_restore save)
save_or_restore-but save = but (save_or_restore save) (save_or_restore-stays save)

origin_mode_between-but : (on : Bool) → StaysBut (origin_mode_between on)
origin_mode_between-but on = but (origin_mode_between on) (origin_mode_between-stays on)

autowrap_mode_between-but : (on : Bool) → StaysBut (autowrap_mode_between on)
autowrap_mode_between-but on = but (autowrap_mode_between on) (autowrap_mode_between-stays on)

side_mode-but : (on : Bool) → StaysBut (side_mode on)
side_mode-but on = but (side_mode on) (side_mode-stays on)

page_mode-but : (on : Bool) (p : ℕ) → is_page_mode p ≡ false → StaysBut (with_page_mode on p)
unfolding with_page_mode AllRows
page_mode-but on p =
    looked_up-holds (λ key f. is_page_mode key ≡ false → StaysBut (f on)) page_modes p
    (λ on. on_display (with_mode private_modes on p))
    (λ not. but (on_display (with_mode private_modes on p)) (display-stays (with_mode private_modes on p) (private_mode-fits on p not)))
    (search (rules, save_or_restore-but, origin_mode_between-but, autowrap_mode_between-but, side_mode-but))

pub then-but : (s t u : Screens) → t.pages ≡ record s.pages { brackets = t.pages.brackets; sides = t.pages.sides }
    → u.pages ≡ record t.pages { brackets = u.pages.brackets; sides = u.pages.sides }
    → u.pages ≡ record s.pages { brackets = u.pages.brackets; sides = u.pages.sides }
then-but s t u one two = two ∙ ap (λ (p : PagesState). record p { brackets = u.pages.brackets; sides = u.pages.sides }) one

page_modes-but : (on : Bool) (params : List ℕ) → list_any is_page_mode params ≡ false
    → StaysBut (change_page_modes on params)
page_modes-but on [] none s = (refl, refl)
page_modes-but on (p ∷ params) none s =
    let h = neither (is_page_mode p) (list_any is_page_mode params) none in
    let t = with_page_mode on p s in
    let first = page_mode-but on p h.0 s in
    let rest = page_modes-but on params h.1 t in
    (then-but s t (change_page_modes on params t) first.0 rest.0, rest.1 ∙ first.1)

private-but : (event : Event) (last : ℕ) (params : List ℕ) → Fits (effect event)
    → sets_page_mode 0x3F last params ≡ false → StaysBut (function_in private_functions event last params)
unfolding function_in AllRows
private-but event last params fits =
    looked_up-holds (λ key f. sets_page_mode 0x3F key params ≡ false → StaysBut (f params)) private_functions last
    (λ params. on_display (effect event)) (λ h. but (on_display (effect event)) (display-stays (effect event) fits))
    (λ h. page_modes-but true params h, (λ h. page_modes-but false params h, tt))

marked-but : (event : Event) (marker last : ℕ) (params : List ℕ) → Fits (effect event)
    → sets_page_mode marker last params ≡ false
    → StaysBut (function_in (functions_of (Some marker) None) event last params)
unfolding functions_of AllRows
marked-but event marker last params fits =
    looked_up-holds (λ key table. sets_page_mode key last params ≡ false → StaysBut (function_in table event last params))
    ((byte "?", private_functions) ∷ []) marker []
    (λ h. but (function_in [] event last params) (none-stays event last params fits))
    (λ h. private-but event last params fits h, tt)

one-but : (b : Bool) (s t u : Screens)
    → (t.pages ≡ record s.pages { brackets = t.pages.brackets; sides = t.pages.sides })
    × (t.display.grid.width ≡ s.display.grid.width)
    → (u.pages ≡ record s.pages { brackets = u.pages.brackets; sides = u.pages.sides })
    × (u.display.grid.width ≡ s.display.grid.width)
    → ((if b then t else u).pages
    ≡ record s.pages { brackets = (if b then t else u).pages.brackets; sides = (if b then t else u).pages.sides })
    × ((if b then t else u).display.grid.width ≡ s.display.grid.width)
one-but true s t u first second = first
one-but false s t u first second = second

marked-xterm : (marker last : ℕ) (params : List ℕ) → sets_page_mode marker last params ≡ false → (b : Option Sides)
    → StaysBut (effect_between (Sequence (Some marker) (record { items = params }) None last) b)
unfolding bounded_effect
marked-xterm marker last params h None s =
    let event = Sequence (Some marker) (record { items = params }) None last in
    marked-but event marker last params (sequence-fits (Some marker) None last params h) h s
marked-xterm marker last params h (Some m) s =
    let event = Sequence (Some marker) (record { items = params }) None last in
    let fits : Fits (effect event) = sequence-fits (Some marker) None last params h in
    one-but (marker == byte "?" && erases last params) s (resetting (λ x. effect event) m s) (screen_effect event s)
    (refl, fits s.display) (marked-but event marker last params fits h s)

pub event-but : (event : Event) → is_page_function event ≡ false → StaysBut (xterm_effect event)
event-but (Print b) h = but (xterm_effect (Print b)) (event-stays (Print b) h refl)
event-but (Control b) h = but (xterm_effect (Control b)) (event-stays (Control b) h refl)
event-but (Escape None last) h = but (xterm_effect (Escape None last)) (event-stays (Escape None last) h h)
event-but (Escape (Some inter) last) h =
    but (xterm_effect (Escape (Some inter) last)) (event-stays (Escape (Some inter) last) h refl)
event-but (Sequence None params inter last) h =
    but (xterm_effect (Sequence None params inter last)) (event-stays (Sequence None params inter last) h refl)
event-but (Sequence (Some marker) params None last) h = λ s. marked-xterm marker last params.items h (bounds_of s) s
event-but (Sequence (Some marker) params (Some inter) last) h =
    but (xterm_effect (Sequence (Some marker) params (Some inter) last))
    (event-stays (Sequence (Some marker) params (Some inter) last) h refl)
