-- Each action keeps the size of both pages, through the tables of functions. So all that happens at bytes happens on a screen of one size.
use Rattle.std.proofs.Common.{◌≡◌, ◌≤◌, ◌∙◌, ℕ, zero, suc, Bool, true, false, List, [], ◌∷◌, ◌++◌, Option, Some, None, refl, sym, subst}
use Rattle.std.specs.Prelude.{if◌then◌else◌, ◌==◌, ◌&&◌, nat_le, nat_lt, min, length}
use Rattle.vt_syntax.specs.declared.event.Event.{Event}
use Rattle.vt_syntax.specs.declared.event.Event.TheVariants.{Print, Control, Escape, Sequence}
use Rattle.vt_glyph.specs.Invocation.{glyph_read, after_read}
use Rattle.vt_glyph.specs.Tables.{substitute_glyph}
use Rattle.vt_screen.specs.declared.size.Size.{Size}
use Rattle.vt_term.specs.State.{bottom_row, last_column}
use Rattle.vt_term.specs.Parameters.{first, second}
use Rattle.vt_term.specs.Functions.{row}
use Rattle.vt_term.specs.Moving.{are_margins}
use Rattle.vt_term.specs.Modes.{with_mode, private_modes_any}
use Rattle.vt_term.specs.Saving.{save_cursor}
use Rattle.vt_term.specs.Resets.{is_level}
use Rattle.vt_term.proofs.Tables.{AllRows, looked_up-holds}
use Rattle.vt_utf8.specs.Cells.{cells}
use Rattle.vt_feed.specs.Actions.{Action, Function, Character, state_after}
use Rattle.vt_feed.specs.Languages.{Reading, utf8}
use Rattle.vt_feed.specs.Observing.{Happening, Byte, Does, does, happenings}
use Rattle.vt_wide.specs.Edits.{parted, columns, written, written_inserting, inserted}
use Rattle.vt_xterm_cell.specs.Words.{CellParts}
use Rattle.vt_xterm_cell.specs.Cells.{blank_cell, written_cell}
use Rattle.vt_xterm_cell.specs.Wide.{xterm_wide}
use Rattle.vt_xterm_display.specs.declared.sides.Sides.{Sides}
use Rattle.vt_xterm_display.specs.State.{Grid, Shown, PageState, XtermState, xterm_kind, on_shown, moved, between}
use Rattle.vt_xterm_display.specs.Moving.{is_between, set_margins, are_sides, set_sides}
use Rattle.vt_xterm_display.specs.Tabs.{times, is_pending, waiting, horizontal_tab, back_tab, cursor_forward_tabulation, cursor_backward_tabulation}
use Rattle.vt_xterm_display.specs.Rows.{incoming, index, reverse_index, next_line, line_feed, is_enclosed}
use Rattle.vt_xterm_display.specs.Rows.{rows_up_from, rows_down, insert_line, delete_line}
use Rattle.vt_xterm_display.specs.Editing.{erase_in_line, erase_in_display, erase_character, insert_character, delete_character}
use Rattle.vt_xterm_display.specs.Writing.{wrapped, after_wrap, room, put, put_if_room, write, write_if_read, print, mark, unshifted, is_written}
use Rattle.vt_xterm_display.specs.Writing.{write_character, repeated, repeat, cell_before, count_in, room_after_wrap}
use Rattle.vt_xterm_display.specs.Pages.{restore, side_mode, fitted, exchanged, show_page, with_erased_page, show_or_clear}
use Rattle.vt_xterm_display.specs.Pages.{save_or_restore, show_and_save, column_mode, with_columns, xterm_modes, with_xterm_mode, change_modes}
use Rattle.vt_xterm_display.specs.Pages.{cursor_shapes, set_cursor_style}
use Rattle.vt_xterm_display.specs.Resets.{screen_alignment, reset_to_initial_state, set_conformance_level}
use Rattle.vt_xterm_display.specs.Functions.{Table, is_bare, substitute, rows_down_by, save_or_set_sides, restore_if_bare}
use Rattle.vt_xterm_display.specs.Functions.{controls, plain_escapes, alignments, sequences, private_sequences, space_sequences}
use Rattle.vt_xterm_display.specs.Functions.{exclamation_sequences, quote_sequences, plainly, function_in, effect, xterm}
use Rattle.vt_xterm_display.specs.Text.{xterm_text_limit}
use Rattle.vt_xterm_log.specs.Log.{AreShort}
use Rattle.vt_xterm_log.proofs.Shared.{event-size, private_mode-size, conformance_level-size}

abbrev pub OfSize : Size → XtermState → Type 0
OfSize z s = (s.shown.grid.size ≡ z) × (s.other.grid.size ≡ z)

abbrev pub Keeps : (XtermState → XtermState) → Type 0
Keeps f = (z : Size) (s : XtermState) → OfSize z s → OfSize z (f s)

-- between margins
abbrev ShownKeeps : (Sides → Shown → Shown) → Type 0
ShownKeeps f = (m : Sides) (d : Shown) → (f m d).grid.size ≡ d.grid.size

-- a function that doesn't look at the state first
kept : (z : Size) (s : XtermState) → OfSize z s → OfSize z s
kept z s is = is

-- one of two
either : (b : Bool) (x y : XtermState) (z : Size) → OfSize z x → OfSize z y → OfSize z (if b then x else y)
either true x y z one other = one
either false x y z one other = other

shown-either : (b : Bool) (x y : Shown) (z : Size) → x.grid.size ≡ z → y.grid.size ≡ z → (if b then x else y).grid.size ≡ z
shown-either true x y z one other = one
shown-either false x y z one other = other

grid-either : (b : Bool) (x y : Grid) (z : Size) → x.size ≡ z → y.size ≡ z → (if b then x else y).size ≡ z
grid-either true x y z one other = one
grid-either false x y z one other = other

page-either : (b : Bool) (x y : PageState) (z : Size) → x.grid.size ≡ z → y.grid.size ≡ z → (if b then x else y).grid.size ≡ z
page-either true x y z one other = one
page-either false x y z one other = other

moved-kept : (f : Sides → Shown → Shown) → ShownKeeps f → Keeps (moved f)
moved-kept f keeps z s is = (keeps s.sides s.shown ∙ is.0, is.1)

times-kept : (n : ℕ) (f : XtermState → XtermState) → Keeps f → Keeps (times n f)
times-kept zero f keeps z s is = is
times-kept (suc n) f keeps z s is = keeps z (times n f s) (times-kept n f keeps z s is)

-- ---- rows

index-size : ShownKeeps index
unfolding parted
index-size m d = grid-either (d.cursor.row == d.margins.bottom && is_between m d) _ _ d.grid.size refl refl

reverse_index-size : ShownKeeps reverse_index
unfolding parted
reverse_index-size m d = grid-either (d.cursor.row == d.margins.top && is_between m d) _ _ d.grid.size refl refl

line_feed-size : ShownKeeps line_feed
line_feed-size m d = shown-either d.modes.lnm (next_line m d) (index m d) d.grid.size (index-size m d) (index-size m d)

index-kept : Keeps (moved index)
index-kept = moved-kept index index-size

reverse_index-kept : Keeps (moved reverse_index)
reverse_index-kept = moved-kept reverse_index reverse_index-size

next_line-kept : Keeps (moved next_line)
next_line-kept = moved-kept next_line index-size

line_feed-kept : Keeps (moved line_feed)
line_feed-kept = moved-kept line_feed line_feed-size

insert_line-kept : (n : ℕ) → Keeps (insert_line n)
unfolding parted
insert_line-kept n z s is = either (is_enclosed s.sides s.shown) _ s z is is

delete_line-kept : (n : ℕ) → Keeps (delete_line n)
unfolding parted
delete_line-kept n z s is = either (is_enclosed s.sides s.shown) _ s z is is

rows_up-kept : (n : ℕ) → Keeps (between (λ m d. record d { grid = rows_up_from d.margins.top n m d }))
unfolding parted
rows_up-kept n z s is = is

rows_down-kept : (n : ℕ) → Keeps (between (rows_down n))
unfolding parted
rows_down-kept n z s is = is

rows_down_by-kept : (params : List ℕ) → Keeps (rows_down_by params)
unfolding parted
rows_down_by-kept params z s is = either (length params == 1) _ s z is is

-- ---- margins and tabs

set_margins-kept : (p1 p2 : ℕ) → Keeps (set_margins p1 p2)
set_margins-kept p1 p2 z s is = either (are_margins (bottom_row s.shown) p1 p2) _ s z is is

set_sides-kept : (p1 p2 : ℕ) → Keeps (set_sides p1 p2)
set_sides-kept p1 p2 z s is = either (are_sides (last_column s.shown) p1 p2) _ s z is is

save_or_set_sides-kept : (params : List ℕ) → Keeps (save_or_set_sides params)
save_or_set_sides-kept params z s is =
    either s.bounded _ _ z (set_sides-kept (first params) (second params) z s is) (either (is_bare params) (on_shown save_cursor s) s z is is)

forward-kept : (n : ℕ) → Keeps (cursor_forward_tabulation n)
forward-kept n z s is =
    either (is_pending s) (waiting s) _ z (either (nat_lt s.sides.right (last_column s.shown)) _ s z is is)
    (times-kept (min n (last_column s.shown)) (moved horizontal_tab) kept z s is)

backward-kept : (n : ℕ) → Keeps (cursor_backward_tabulation n)
backward-kept n z s is = times-kept (min n (last_column s.shown)) (moved back_tab) kept z s is

-- ---- erasing, inserting and deleting

erase_in_line-kept : (selective : Bool) (p : ℕ) → Keeps (erase_in_line selective p)
unfolding parted
erase_in_line-kept selective p z s is = either (p == 0) _ _ z is (either (p == 1) _ _ z is (either (p == 2) _ s z is is))

erase_in_display-kept : (selective : Bool) (p : ℕ) → Keeps (erase_in_display selective p)
unfolding parted
erase_in_display-kept selective p z s is = either (p == 0) _ _ z is (either (p == 1) _ _ z is (either (p == 2) _ s z is is))

erase_character-kept : (n : ℕ) → Keeps (moved (erase_character n))
unfolding parted
erase_character-kept n z s is = is

insert_character-kept : (n : ℕ) → Keeps (moved (insert_character n))
unfolding parted
insert_character-kept n z s is = (grid-either (is_between s.sides s.shown) _ s.shown.grid z is.0 is.0, is.1)

delete_character-kept : (n : ℕ) → Keeps (delete_character n)
unfolding parted
delete_character-kept n z s is = either (is_between s.sides s.shown) _ s z is is

-- ---- writing

written-size : (e cell : CellParts) (g : Grid) (row col : ℕ) → (written xterm_wide blank_cell e g row col cell).size ≡ g.size
unfolding parted
written-size e cell g row col = grid-either (xterm_wide.is_wide cell) _ _ g.size refl refl

inserting-size : (e cell : CellParts) (g : Grid) (row col right : ℕ)
    → (written_inserting xterm_wide blank_cell e g row col right cell).size ≡ g.size
unfolding parted
inserting-size e cell g row col right = written-size e cell (inserted xterm_wide blank_cell e g row col right (columns xterm_wide cell)) row col

put-kept : (cell : CellParts) → Keeps (put cell)
unfolding put
put-kept cell z s is = (
  grid-either (s.shown.modes.irm && is_between s.sides s.shown) _ _ s.shown.grid.size
      (inserting-size (incoming s.shown) cell s.shown.grid s.shown.cursor.row s.shown.cursor.col s.sides.right)
      (written-size (incoming s.shown) cell s.shown.grid s.shown.cursor.row s.shown.cursor.col)
      ∙ is.0,
  is.1,
)

wrap-kept : Keeps after_wrap
unfolding after_wrap
wrap-kept z s is = either (is_pending s) (moved wrapped s) s z (index-size s.sides s.shown ∙ is.0, is.1) is

room-kept : (cell : CellParts) → Keeps (put_if_room cell)
unfolding put_if_room
room-kept cell z s is =
    let next : XtermState = moved next_line s in
    either (nat_le (columns xterm_wide cell) (room s.sides s.shown)) (put cell s) _ z (put-kept cell z s is)
    (either s.shown.modes.decawm (put cell next) s z (put-kept cell z next (next_line-kept z s is)) is)

write-kept : (cell : CellParts) → Keeps (write cell)
unfolding write
write-kept cell z s is = room-kept cell z (after_wrap s) (wrap-kept z s is)

substitute-kept : Keeps substitute
substitute-kept z s is = write-kept (written_cell s.shown.brush substitute_glyph false) z s is

print-kept : (b : ℕ) → Keeps (print b)
print-kept b z s is = go (glyph_read s.shown.sets b) (on_shown (λ d. record d { sets = after_read d.sets b }) s) is
  where
    go : (glyph : Option ℕ) (t : XtermState) → OfSize z t → OfSize z (write_if_read glyph t)
    go None t of = of
    go (Some c) t of = write-kept (written_cell t.shown.brush c false) z t of

character-kept : (c : ℕ) → Keeps (write_character c)
character-kept c z s is =
    let cell : CellParts = written_cell s.shown.brush c (cells c == 2) in
    let unshifts : XtermState = on_shown unshifted s in
    either (cells c == 0) (mark c s) _ z is (either (is_written (cells c) s) (write cell unshifts) s z (write-kept cell z unshifts is) is)

repeat-kept : (n : ℕ) → Keeps (repeat n)
repeat-kept n z s is =
    either (s.shown.cursor.col == 1 && (if is_pending s then false else true)) s _ z is
    (times-kept (min n (count_in (room_after_wrap s) (cell_before s).wide)) (write (repeated s)) (write-kept (repeated s)) z s is)

-- ---- pages and modes

restore-kept : Keeps restore
restore-kept z s is = (shown-either _ _ _ z is.0 is.0, is.1)

restore_if_bare-kept : (params : List ℕ) → Keeps (restore_if_bare params)
restore_if_bare-kept params z s is = either (is_bare params) (restore s) s z (restore-kept z s is) is

side_mode-kept : (on : Bool) → Keeps (side_mode on)
side_mode-kept on z s is = either on _ _ z is is

fitted-size : (width : ℕ) (page : PageState) → (fitted width page).grid.size ≡ page.grid.size
fitted-size width page = page-either (page.grid.width == width) page _ page.grid.size refl refl

exchanged-kept : (alternate : Bool) → Keeps (exchanged alternate)
exchanged-kept alternate z s is = (fitted-size s.shown.grid.width s.other ∙ is.1, is.0)

show_page-kept : (alternate : Bool) → Keeps (show_page alternate)
show_page-kept alternate z s is =
    either s.alternate _ _ z (either alternate s (exchanged false s) z is (exchanged-kept false z s is))
    (either alternate (exchanged true s) s z (exchanged-kept true z s is) is)

show_or_clear-kept : (alternate : Bool) → Keeps (show_or_clear alternate)
show_or_clear-kept alternate z s is =
    either alternate (show_page true s) _ z (show_page-kept true z s is)
    (either s.alternate (with_erased_page (exchanged false s)) s z (exchanged-kept false z s is) is)

save_or_restore-kept : (save : Bool) → Keeps (save_or_restore save)
save_or_restore-kept save z s is = either save (on_shown save_cursor s) (restore s) z is (restore-kept z s is)

show_and_save-kept : (alternate : Bool) → Keeps (show_and_save alternate)
show_and_save-kept alternate z s is =
    let shows : XtermState = show_page true (on_shown save_cursor s) in
    either alternate (erase_in_display false 2 shows) (restore (show_page false s)) z
    (erase_in_display-kept false 2 z shows (show_page-kept true z (on_shown save_cursor s) is))
    (restore-kept z (show_page false s) (show_page-kept false z s is))

column_mode-kept : (wide : Bool) → Keeps (column_mode wide)
column_mode-kept wide z s is = either s.resizes (with_columns wide s) s z is is

ruleset mode_sizes = (
  kept,
  column_mode-kept,
  show_page-kept,
  side_mode-kept,
  show_or_clear-kept,
  save_or_restore-kept,
  show_and_save-kept,
)

abbrev ModeKeeps : ℕ → (Bool → XtermState → XtermState) → Type 0
ModeKeeps key f = (on : Bool) → Keeps (f on)

modes-kept : AllRows ModeKeeps xterm_modes
unfolding AllRows
modes-kept = search mode_sizes

mode-kept : (on : Bool) (p : ℕ) → Keeps (with_xterm_mode on p)
unfolding with_xterm_mode
mode-kept on p z s is =
    looked_up-holds ModeKeeps xterm_modes p (λ on. on_shown (with_mode (private_modes_any xterm_kind) on p))
    (λ on z s is. (private_mode-size xterm_kind on p s.shown ∙ is.0, is.1)) modes-kept on z s is

change_modes-kept : (on : Bool) (params : List ℕ) → Keeps (change_modes on params)
change_modes-kept on [] z s is = is
change_modes-kept on (p ∷ params) z s is = change_modes-kept on params z (with_xterm_mode on p s) (mode-kept on p z s is)

cursor_style-kept : (p : ℕ) → Keeps (set_cursor_style p)
unfolding set_cursor_style AllRows
cursor_style-kept p =
    looked_up-holds (λ key (f : XtermState → XtermState). Keeps f) cursor_shapes p (λ s. s) kept (search kept)

level-kept : (p1 p2 : ℕ) → Keeps (set_conformance_level p1 p2)
level-kept p1 p2 z s is =
    either (is_level p1 p2) _ s z (conformance_level-size xterm_kind p1 p2 s.shown ∙ is.0, is.1) is

-- ---- tables

abbrev FunctionKeeps : ℕ → (List ℕ → XtermState → XtermState) → Type 0
FunctionKeeps key f = (params : List ℕ) → Keeps (f params)

reset-kept : Keeps reset_to_initial_state
reset-kept z s is = (is.0, is.0)

ruleset sizes = (
  kept,
  index-kept,
  reverse_index-kept,
  next_line-kept,
  line_feed-kept,
  insert_line-kept,
  delete_line-kept,
  rows_up-kept,
  rows_down-kept,
  rows_down_by-kept,
  set_margins-kept,
  save_or_set_sides-kept,
  forward-kept,
  backward-kept,
  erase_in_line-kept,
  erase_in_display-kept,
  erase_character-kept,
  insert_character-kept,
  delete_character-kept,
  substitute-kept,
  repeat-kept,
  restore-kept,
  restore_if_bare-kept,
  change_modes-kept,
  cursor_style-kept,
  level-kept,
  reset-kept,
)

controls-kept : AllRows FunctionKeeps controls
unfolding AllRows
controls-kept = search sizes

escapes-kept : AllRows FunctionKeeps plain_escapes
unfolding AllRows
escapes-kept = search sizes

alignments-kept : (inter : ℕ) → AllRows FunctionKeeps (alignments inter)
unfolding AllRows
alignments-kept inter =
    looked_up-holds (λ key table. AllRows FunctionKeeps table) (row "#" (row "8" (λ params. screen_alignment) ∷ []) ∷ []) inter [] tt
    (search sizes)

sequences-kept : (marker inter : Option ℕ) → AllRows FunctionKeeps (sequences marker inter)
unfolding AllRows sequences
sequences-kept None None = search sizes
sequences-kept (Some marker) None =
    looked_up-holds (λ key table. AllRows FunctionKeeps table) (row "?" private_sequences ∷ []) marker [] tt (search sizes)
sequences-kept None (Some inter) =
    looked_up-holds (λ key table. AllRows FunctionKeeps table)
    (row " " space_sequences ∷ row "!" exclamation_sequences ∷ (0x22, quote_sequences) ∷ []) inter [] tt (search sizes)
sequences-kept (Some marker) (Some inter) = tt

function-kept : (table : Table) (event : Event) (last : ℕ) (params : List ℕ) → AllRows FunctionKeeps table
    → Keeps (function_in table event last params)
unfolding function_in
function-kept table event last params all z s is =
    looked_up-holds FunctionKeeps table last (λ params. plainly event)
    (λ params z s is. (event-size xterm_kind event s.shown ∙ is.0, is.1)) all params z s is

effect-kept : (event : Event) → Keeps (effect event)
effect-kept (Print b) = print-kept b
effect-kept (Control b) = function-kept controls (Control b) b [] controls-kept
effect-kept (Escape None last) = function-kept plain_escapes (Escape None last) last [] escapes-kept
effect-kept (Escape (Some inter) last) =
    function-kept (alignments inter) (Escape (Some inter) last) last [] (alignments-kept inter)
effect-kept (Sequence marker params inter last) =
    function-kept (sequences marker inter) (Sequence marker params inter last) last params.items (sequences-kept marker inter)

pub action-kept : (action : Action) → Keeps (xterm.effect action)
action-kept (Function event) = effect-kept event
action-kept (Character c) = character-kept c

-- ---- what happens at bytes

after-kept : (xs : List Action) → Keeps (state_after xterm xs)
after-kept [] z s is = is
after-kept (x ∷ xs) z s is = after-kept xs z (xterm.effect x s) (action-kept x z s is)

module _ (limit : ℕ) (z : Size) (fits : xterm_text_limit z ≤ limit) where
  short : (s : XtermState) → OfSize z s → xterm_text_limit s.shown.grid.size ≤ limit
  short s is = subst (λ (y : Size). xterm_text_limit y ≤ limit) (sym is.0) fits

  short-append : (xs ys : List (Happening XtermState)) → AreShort limit xs → AreShort limit ys → AreShort limit (xs ++ ys)
  short-append [] ys first second = second
  short-append (Byte ∷ xs) ys first second = short-append xs ys first second
  short-append (Does action s ∷ xs) ys first second = (first.0, short-append xs ys first.1 second)

  does-short : (xs : List Action) (s : XtermState) → OfSize z s → AreShort limit (does xterm xs s)
  does-short [] s is = tt
  does-short (x ∷ xs) s is = (short s is, does-short xs (xterm.effect x s) (action-kept x z s is))

  -- the texts of all screens are short enough
  pub happenings-short : (r : Reading) (s : XtermState) (bytes : List ℕ) → OfSize z s → AreShort limit (happenings utf8 xterm r s bytes)
  happenings-short r s [] is = tt
  happenings-short r s (b ∷ bytes) is =
      short-append (does xterm (utf8.asks r b) s) _ (does-short (utf8.asks r b) s is)
      (happenings-short (utf8.next r b) (state_after xterm (utf8.asks r b) s) bytes (after-kept (utf8.asks r b) z s is))
