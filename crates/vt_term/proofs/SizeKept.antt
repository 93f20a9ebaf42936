-- Playing keeps the size: each function does, through the tables of functions, and events do.
use Rattle.std.proofs.Common.{◌≡◌, ◌∙◌, ℕ, Bool, true, false, List, [], ◌∷◌, Option, Some, None, refl, sym, subst, cond}
use Rattle.std.specs.Prelude.{if◌then◌else◌, ◌==◌, ◌||◌, ◌-◌, slice_set, length}
use Rattle.vt_syntax.specs.declared.event.Event.{Event}
use Rattle.vt_syntax.specs.declared.event.Event.TheVariants.{Print, Control, Escape, Sequence}
use Rattle.vt_syntax.specs.Held.{events_from}
use Rattle.vt_glyph.specs.Designation.{set_of_final}
use Rattle.vt_glyph.specs.declared.set.Set.{Set}
use Rattle.vt_glyph.specs.Invocation.{glyph_read, after_read}
use Rattle.vt_screen.specs.declared.size.Size.{Size}
use Rattle.vt_screen.specs.Grid.{Grid, put, put_inserting, scroll_up}
use Rattle.vt_screen.specs.Cells.{cell_of}
use Rattle.vt_term.specs.State.{Display, State, bottom_row}
use Rattle.vt_term.specs.Sound.{IsSoundAt, IsSoundSized, IsSoundDisplayAt, IsSoundSizedDisplay}
use Rattle.vt_term.specs.Moving.{home, index, reverse_index, next_line, line_feed, are_margins, bottom_margin, set_margins}
use Rattle.vt_term.specs.Parameters.{from_one}
use Rattle.vt_term.specs.Tabs.{clear_tabs, no_stops}
use Rattle.vt_term.specs.Writing.{print, after_wrap, put_glyph, write_glyph, write_if_read}
use Rattle.vt_term.specs.Editing.{insert_line, delete_line, names_area, erase_in_display, erase_in_line}
use Rattle.vt_term.specs.Modes.{with_mode, change_modes, ansi_modes, private_modes}
use Rattle.vt_term.specs.Rendition.{with_protection, select_character_attribute}
use Rattle.vt_term.specs.Resets.{asked_form, soft_reset_to, set_conformance_level}
use Rattle.vt_term.specs.Functions.{Function, FunctionTable, function_in, no_function}
use Rattle.vt_term.specs.Functions.{controls, control, plain_escapes, plain_escape, space_escapes, number_sign_escapes}
use Rattle.vt_term.specs.Functions.{escape_tables, escape_with, designate, designate_to}
use Rattle.vt_term.specs.Functions.{marker_tables, intermediate_tables, sequence_in, sequences_of, effect}
use Rattle.vt_term.specs.Play.{play, after_events}
use Rattle.vt_term.proofs.Tables.{AllRows, looked_up-holds}
use Rattle.vt_term.specs.Functions.{control_any, escape_with_any, plain_escape_any, sequences_any}

abbrev pub KeepsSize : (Display → Display) → Type 0
KeepsSize f = (s : Display) → (f s).grid.size ≡ s.grid.size

-- a function that doesn't look at the display first
kept : (s : Display) → s.grid.size ≡ s.grid.size
kept s = refl

-- one of two grids
either-size : (b : Bool) (g h : Grid) (size : Size) → g.size ≡ size → h.size ≡ size → (if b then g else h).size ≡ size
either-size true g h size one other = one
either-size false g h size one other = other

-- one of two displays
one-size : (b : Bool) (s t : Display) (size : Size) → s.grid.size ≡ size → t.grid.size ≡ size
    → (if b then s else t).grid.size ≡ size
one-size true s t size one other = one
one-size false s t size one other = other

index-size : KeepsSize index
index-size s = either-size _ _ _ _ refl refl

reverse_index-size : KeepsSize reverse_index
reverse_index-size s = either-size _ _ _ _ refl refl

next_line-size : KeepsSize next_line
next_line-size s = either-size _ _ _ _ refl refl

line_feed-size : KeepsSize line_feed
line_feed-size s = one-size s.modes.lnm (next_line s) (index s) _ (next_line-size s) (index-size s)

set_margins-size : (p1 p2 : ℕ) → KeepsSize (set_margins p1 p2)
set_margins-size p1 p2 s = one-size (are_margins (bottom_row s) p1 p2) _ s _ refl refl

clear_tabs-size : (p : ℕ) → KeepsSize (clear_tabs p)
clear_tabs-size p s = go (p == 0) (p == 3)
  where
    go : (a b : Bool) → (if a then record s { stops = slice_set s.stops (s.cursor.col - 1) false } else (
        if b then record s { stops = no_stops (length s.stops) } else s)).grid.size ≡ s.grid.size
    go true b = refl
    go false true = refl
    go false false = refl

pub erase_in_display_kept : (selective : Bool) (p : ℕ) → KeepsSize (erase_in_display selective p)
erase_in_display_kept selective p s = one-size (names_area p) _ s _ refl refl

erase_in_line-size : (selective : Bool) (p : ℕ) → KeepsSize (erase_in_line selective p)
erase_in_line-size selective p s = one-size (names_area p) _ s _ refl refl

insert_line-size : (n : ℕ) → KeepsSize (insert_line n)
insert_line-size n s = either-size _ _ _ _ refl refl

delete_line-size : (n : ℕ) → KeepsSize (delete_line n)
delete_line-size n s = either-size _ _ _ _ refl refl

put_glyph-size : (g : ℕ) → KeepsSize (put_glyph g)
put_glyph-size g s = either-size s.modes.irm _ _ _ refl refl

after_wrap-size : KeepsSize after_wrap
after_wrap-size s = one-size s.cursor.wrap (next_line s) s _ (next_line-size s) refl

pub write_glyph-size : (g : ℕ) → KeepsSize (write_glyph g)
write_glyph-size g s = put_glyph-size g (after_wrap s) ∙ after_wrap-size s

print-size : (b : ℕ) → KeepsSize (print b)
print-size b s = go (glyph_read s.sets b)
  where
    go : (glyph : Option ℕ) → (write_if_read glyph (record s { sets = after_read s.sets b })).grid.size ≡ s.grid.size
    go None = refl
    go (Some g) = write_glyph-size g (record s { sets = after_read s.sets b })

pub set_conformance_level-size : (p1 p2 : ℕ) → KeepsSize (set_conformance_level p1 p2)
set_conformance_level-size p1 p2 s = go (asked_form p1 p2)
  where
    go : (form : Option Bool) → (soft_reset_to form s).grid.size ≡ s.grid.size
    go None = refl
    go (Some eight) = refl

designate-size : (slot last : ℕ) → KeepsSize (designate slot last)
designate-size slot last s = go (set_of_final last)
  where
    go : (set : Option Set) → (designate_to slot set s).grid.size ≡ s.grid.size
    go None = refl
    go (Some set) = refl

select_character_attribute-size : (p : ℕ) → KeepsSize (select_character_attribute p)
select_character_attribute-size p s = go (p == 1) (p == 0 || p == 2)
  where
    go : (a b : Bool) → (if a then with_protection true s else (if b then with_protection false s else s)).grid.size ≡ s.grid.size
    go true b = refl
    go false true = refl
    go false false = refl

-- ---- tables

abbrev ModeKeepsSize : ℕ → (Bool → Display → Display) → Type 0
ModeKeepsSize key f = (on : Bool) → KeepsSize (f on)

-- with these values
abbrev FunctionKeepsSize : List ℕ → ℕ → Function → Type 0
FunctionKeepsSize values key f = KeepsSize (f.effect values)

function-size : (values : List ℕ) (table : FunctionTable) (b : ℕ) → AllRows (FunctionKeepsSize values) table
    → KeepsSize ((function_in table b).effect values)
function-size values table b all =
    looked_up-holds (FunctionKeepsSize values) table b no_function (λ s. refl) all

change_modes-size : (table : List (ℕ × (Bool → Display → Display))) → AllRows ModeKeepsSize table → (on : Bool)
    → (params : List ℕ) → KeepsSize (change_modes table on params)
unfolding with_mode
change_modes-size table all on [] s = refl
change_modes-size table all on (p ∷ params) s =
    change_modes-size table all on params (with_mode table on p s)
    ∙ looked_up-holds ModeKeepsSize table p (λ on s. s) (λ on s. refl) all on s

ansi_modes-size : AllRows ModeKeepsSize ansi_modes
unfolding AllRows
ansi_modes-size = search kept

private_modes-size : AllRows ModeKeepsSize private_modes
unfolding AllRows
private_modes-size = search kept

pub private_modes-change : (on : Bool) (params : List ℕ) → KeepsSize (change_modes private_modes on params)
private_modes-change on params = change_modes-size private_modes private_modes-size on params

ruleset sizes = (
  kept,
  index-size,
  reverse_index-size,
  next_line-size,
  line_feed-size,
  set_margins-size,
  clear_tabs-size,
  erase_in_display_kept,
  erase_in_line-size,
  insert_line-size,
  delete_line-size,
  write_glyph-size,
  select_character_attribute-size,
  set_conformance_level-size,
)

control-size : (b : ℕ) → KeepsSize (control b)
unfolding control_any AllRows
control-size b = function-size [] controls b (search sizes)

plain_escape-size : (last : ℕ) → KeepsSize (plain_escape last)
unfolding plain_escape_any AllRows
plain_escape-size last = function-size [] plain_escapes last (search sizes)

escape_with-size : (inter last : ℕ) → KeepsSize (escape_with inter last)
unfolding escape_with_any AllRows
escape_with-size inter last =
    let space = function-size [] space_escapes last (search sizes) in
    let number = function-size [] number_sign_escapes last (search sizes) in
    looked_up-holds (λ key (f : ℕ → Function). KeepsSize ((f last).effect [])) escape_tables inter (λ last. no_function)
    (λ s. refl) (search (space, number, designate-size))

sequences_of-size : (params : List ℕ) (marker inter : Option ℕ)
    → AllRows (FunctionKeepsSize params) (sequences_of marker inter)
unfolding sequences_any AllRows
sequences_of-size params None None =
    let set : KeepsSize (change_modes ansi_modes true params) = change_modes-size ansi_modes ansi_modes-size true params in
    let reset : KeepsSize (change_modes ansi_modes false params) = change_modes-size ansi_modes ansi_modes-size false params in
    search (sizes, set, reset)
sequences_of-size params (Some marker) None =
    let set : KeepsSize (change_modes private_modes true params) =
    change_modes-size private_modes private_modes-size true params in
    let reset : KeepsSize (change_modes private_modes false params) =
    change_modes-size private_modes private_modes-size false params in
    looked_up-holds (λ key table. AllRows (FunctionKeepsSize params) table) marker_tables marker [] tt
    (search (sizes, set, reset))
sequences_of-size params None (Some inter) =
    looked_up-holds (λ key table. AllRows (FunctionKeepsSize params) table) intermediate_tables inter [] tt (search sizes)
sequences_of-size params (Some marker) (Some inter) = tt

-- ---- events and bytes

pub effect-size : (event : Event) → KeepsSize (effect event)
unfolding sequence_in
effect-size (Print b) = print-size b
effect-size (Control b) = control-size b
effect-size (Escape None last) = plain_escape-size last
effect-size (Escape (Some inter) last) = escape_with-size inter last
effect-size (Sequence marker params inter last) =
    function-size params.items (sequences_of marker inter) last (sequences_of-size params.items marker inter)

pub after_events-size : (events : List Event) → KeepsSize (after_events events)
after_events-size [] s = refl
after_events-size (event ∷ events) s = after_events-size events (effect event s) ∙ effect-size event s

pub play_kept : (s : State) (bytes : List ℕ) → (play s bytes).state.display.grid.size ≡ s.display.grid.size
unfolding play
play_kept s bytes = after_events-size (events_from s.held bytes) s.display

-- ---- a state of a size is sound at its own size

pub own-display : (size : Size) (s : Display) → IsSoundDisplayAt size s → IsSoundSizedDisplay s
own-display size s sound = subst (λ z. IsSoundDisplayAt z s) (sym sound.of_size) sound

pub own-size : (size : Size) (s : State) → IsSoundAt size s → IsSoundSized s
own-size size s sound = subst (λ z. IsSoundAt z s) (sym sound.display.of_size) sound

pub at-size : (size : Size) (s : State) → IsSoundSized s → s.display.grid.size ≡ size → IsSoundAt size s
at-size size s sound is = subst (λ z. IsSoundAt z s) is sound

pub play-at : ((s : State) (bytes : List ℕ) → IsSoundSized s → IsSoundSized (play s bytes).state)
    → (size : Size) (s : State) (bytes : List ℕ) → IsSoundAt size s → IsSoundAt size (play s bytes).state
play-at keeps size s bytes sound =
    at-size size (play s bytes).state (keeps s bytes (own-size size s sound)) (play_kept s bytes ∙ sound.display.of_size)
