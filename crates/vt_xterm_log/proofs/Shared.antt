-- Each function that an xterm shares with a VT220 keeps the size of the screen, through the tables of functions.
use Rattle.std.proofs.Common.{◌≡◌, ◌∙◌, ℕ, Bool, true, false, List, [], ◌∷◌, Option, Some, None, refl}
use Rattle.std.specs.Prelude.{if◌then◌else◌, ◌==◌, ◌||◌, ◌-◌, slice_set, length}
use Rattle.vt_syntax.specs.declared.event.Event.{Event}
use Rattle.vt_syntax.specs.declared.event.Event.TheVariants.{Print, Control, Escape, Sequence}
use Rattle.vt_glyph.specs.Designation.{set_of_final}
use Rattle.vt_glyph.specs.declared.set.Set.{Set}
use Rattle.vt_glyph.specs.Invocation.{glyph_read, after_read}
use Rattle.vt_screen.specs.declared.size.Size.{Size}
use Rattle.vt_screen.specs.Grid.{GridOf}
use Rattle.vt_term.specs.Kinds.{KindOf}
use Rattle.vt_term.specs.State.{DisplayOf, bottom_row}
use Rattle.vt_term.specs.Parameters.{first, second, count}
use Rattle.vt_term.specs.Moving.{index_any, reverse_index_any, next_line_any, line_feed_any, are_margins, set_margins}
use Rattle.vt_term.specs.Tabs.{clear_tabs, no_stops}
use Rattle.vt_term.specs.Writing.{print_any, after_wrap_any, put_glyph_any, write_glyph_any, write_if_read_any}
use Rattle.vt_term.specs.Editing.{insert_line_any, delete_line_any, names_area, erase_in_display_any, erase_in_line_any}
use Rattle.vt_term.specs.Modes.{with_mode, change_modes, ansi_modes_any, private_modes_any}
use Rattle.vt_term.specs.Rendition.{with_protection_any, select_protection_any}
use Rattle.vt_term.specs.Resets.{asked_form, soft_reset_to_any, conformance_level_any}
use Rattle.vt_term.specs.Functions.{FunctionOf, FunctionTableOf, function_in, no_function}
use Rattle.vt_term.specs.Functions.{controls_any, control_any, plain_escapes_any, plain_escape_any, space_escapes_any}
use Rattle.vt_term.specs.Functions.{number_sign_escapes_any, escape_tables_any, escape_with_any, designate, designate_to}
use Rattle.vt_term.specs.Functions.{marker_tables_any, intermediate_tables_any, sequence_in, sequences_any, effect_any}
use Rattle.vt_term.proofs.Tables.{AllRows, looked_up-holds}

module _ {C B : Type 0} (k : KindOf C B) where
  abbrev pub KeepsSize : (DisplayOf C B → DisplayOf C B) → Type 0
  KeepsSize f = (s : DisplayOf C B) → (f s).grid.size ≡ s.grid.size

  -- a function that doesn't look at the display first
  kept : (s : DisplayOf C B) → s.grid.size ≡ s.grid.size
  kept s = refl

  -- one of two grids
  either-size : (b : Bool) (g h : GridOf C) (size : Size) → g.size ≡ size → h.size ≡ size → (if b then g else h).size ≡ size
  either-size true g h size one other = one
  either-size false g h size one other = other

  -- one of two displays
  one-size : (b : Bool) (s t : DisplayOf C B) (size : Size) → s.grid.size ≡ size → t.grid.size ≡ size
      → (if b then s else t).grid.size ≡ size
  one-size true s t size one other = one
  one-size false s t size one other = other

  index-size : KeepsSize (index_any k)
  index-size s = either-size _ _ _ _ refl refl

  reverse_index-size : KeepsSize (reverse_index_any k)
  reverse_index-size s = either-size _ _ _ _ refl refl

  next_line-size : KeepsSize (next_line_any k)
  next_line-size s = either-size _ _ _ _ refl refl

  line_feed-size : KeepsSize (line_feed_any k)
  line_feed-size s = one-size s.modes.lnm (next_line_any k s) (index_any k s) _ (next_line-size s) (index-size s)

  set_margins-size : (p1 p2 : ℕ) → KeepsSize (set_margins p1 p2)
  set_margins-size p1 p2 s = one-size (are_margins (bottom_row s) p1 p2) _ s _ refl refl

  clear_tabs-size : (p : ℕ) → KeepsSize (clear_tabs p)
  clear_tabs-size p s = go (p == 0) (p == 3)
    where
      go : (a b : Bool) → (if a then record s { stops = slice_set s.stops (s.cursor.col - 1) false } else (
          if b then record s { stops = no_stops (length s.stops) } else s)).grid.size ≡ s.grid.size
      go true b = refl
      go false true = refl
      go false false = refl

  erase_in_display-size : (selective : Bool) (p : ℕ) → KeepsSize (erase_in_display_any k selective p)
  erase_in_display-size selective p s = one-size (names_area p) _ s _ refl refl

  erase_in_line-size : (selective : Bool) (p : ℕ) → KeepsSize (erase_in_line_any k selective p)
  erase_in_line-size selective p s = one-size (names_area p) _ s _ refl refl

  insert_line-size : (n : ℕ) → KeepsSize (insert_line_any k n)
  insert_line-size n s = either-size _ _ _ _ refl refl

  delete_line-size : (n : ℕ) → KeepsSize (delete_line_any k n)
  delete_line-size n s = either-size _ _ _ _ refl refl

  put_glyph-size : (g : ℕ) → KeepsSize (put_glyph_any k g)
  put_glyph-size g s = either-size s.modes.irm _ _ _ refl refl

  after_wrap-size : KeepsSize (after_wrap_any k)
  after_wrap-size s = one-size s.cursor.wrap (next_line_any k s) s _ (next_line-size s) refl

  write_glyph-size : (g : ℕ) → KeepsSize (write_glyph_any k g)
  write_glyph-size g s = put_glyph-size g (after_wrap_any k s) ∙ after_wrap-size s

  print-size : (b : ℕ) → KeepsSize (print_any k b)
  print-size b s = go (glyph_read s.sets b)
    where
      go : (glyph : Option ℕ) → (write_if_read_any k glyph (record s { sets = after_read s.sets b })).grid.size ≡ s.grid.size
      go None = refl
      go (Some g) = write_glyph-size g (record s { sets = after_read s.sets b })

  pub conformance_level-size : (p1 p2 : ℕ) → KeepsSize (conformance_level_any k p1 p2)
  conformance_level-size p1 p2 s = go (asked_form p1 p2)
    where
      go : (form : Option Bool) → (soft_reset_to_any k form s).grid.size ≡ s.grid.size
      go None = refl
      go (Some eight) = refl

  designate-size : (slot last : ℕ) → KeepsSize (designate slot last)
  designate-size slot last s = go (set_of_final last)
    where
      go : (set : Option Set) → (designate_to slot set s).grid.size ≡ s.grid.size
      go None = refl
      go (Some set) = refl

  select_protection-size : (p : ℕ) → KeepsSize (select_protection_any k p)
  select_protection-size p s = go (p == 1) (p == 0 || p == 2)
    where
      go : (a b : Bool) → (if a then with_protection_any k true s else (if b then with_protection_any k false s else s)).grid.size ≡ s.grid.size
      go true b = refl
      go false true = refl
      go false false = refl

  -- ---- tables

  abbrev ModeKeepsSize : ℕ → (Bool → DisplayOf C B → DisplayOf C B) → Type 0
  ModeKeepsSize key f = (on : Bool) → KeepsSize (f on)

  abbrev FunctionKeepsSize : List ℕ → ℕ → FunctionOf C B → Type 0
  FunctionKeepsSize values key f = KeepsSize (f.effect values)

  function-size : (values : List ℕ) (table : FunctionTableOf C B) (b : ℕ) → AllRows (FunctionKeepsSize values) table
      → KeepsSize ((function_in table b).effect values)
  function-size values table b all =
      looked_up-holds (FunctionKeepsSize values) table b no_function (λ s. refl) all

  mode-size : (table : List (ℕ × (Bool → DisplayOf C B → DisplayOf C B))) → AllRows ModeKeepsSize table → (on : Bool)
      → (p : ℕ) → KeepsSize (with_mode table on p)
  unfolding with_mode
  mode-size table all on p s = looked_up-holds ModeKeepsSize table p (λ on s. s) (λ on s. refl) all on s

  change_modes-size : (table : List (ℕ × (Bool → DisplayOf C B → DisplayOf C B))) → AllRows ModeKeepsSize table → (on : Bool)
      → (params : List ℕ) → KeepsSize (change_modes table on params)
  change_modes-size table all on [] s = refl
  change_modes-size table all on (p ∷ params) s =
      change_modes-size table all on params (with_mode table on p s) ∙ mode-size table all on p s

  ansi_modes-size : AllRows ModeKeepsSize ansi_modes_any
  unfolding AllRows
  ansi_modes-size = search kept

  private_modes-size : AllRows ModeKeepsSize (private_modes_any k)
  unfolding AllRows
  private_modes-size = search kept

  pub private_mode-size : (on : Bool) (p : ℕ) → KeepsSize (with_mode (private_modes_any k) on p)
  private_mode-size = mode-size (private_modes_any k) private_modes-size

  ruleset sizes = (
    kept,
    index-size,
    reverse_index-size,
    next_line-size,
    line_feed-size,
    set_margins-size,
    clear_tabs-size,
    erase_in_display-size,
    erase_in_line-size,
    insert_line-size,
    delete_line-size,
    write_glyph-size,
    select_protection-size,
    conformance_level-size,
  )

  control-size : (b : ℕ) → KeepsSize (control_any k b)
  unfolding control_any AllRows
  control-size b = function-size [] (controls_any k) b (search sizes)

  plain_escape-size : (last : ℕ) → KeepsSize (plain_escape_any k last)
  unfolding plain_escape_any AllRows
  plain_escape-size last = function-size [] (plain_escapes_any k) last (search sizes)

  escape_with-size : (inter last : ℕ) → KeepsSize (escape_with_any k inter last)
  unfolding escape_with_any AllRows
  escape_with-size inter last =
      let space = function-size [] (space_escapes_any k) last (search sizes) in
      let number = function-size [] (number_sign_escapes_any k) last (search sizes) in
      looked_up-holds (λ key (f : ℕ → FunctionOf C B). KeepsSize ((f last).effect [])) (escape_tables_any k) inter (λ last. no_function)
      (λ s. refl) (search (space, number, designate-size))

  sequences-size : (params : List ℕ) (marker inter : Option ℕ)
      → AllRows (FunctionKeepsSize params) (sequences_any k marker inter)
  unfolding sequences_any AllRows
  sequences-size params None None =
      let set : KeepsSize (change_modes ansi_modes_any true params) = change_modes-size ansi_modes_any ansi_modes-size true params in
      let reset : KeepsSize (change_modes ansi_modes_any false params) = change_modes-size ansi_modes_any ansi_modes-size false params in
      (kept, (kept, (kept, (kept, (kept, (kept, (erase_in_display-size false (first params), (erase_in_line-size false (first params), (insert_line-size (count params), (delete_line-size (count params), (kept, (kept, (kept, (kept, (clear_tabs-size (first params), (set, (reset, (kept, (kept, (set_margins-size (first params) (second params), tt))))))))))))))))))))
  sequences-size params (Some marker) None =
      let set : KeepsSize (change_modes (private_modes_any k) true params) =
      change_modes-size (private_modes_any k) private_modes-size true params in
      let reset : KeepsSize (change_modes (private_modes_any k) false params) =
      change_modes-size (private_modes_any k) private_modes-size false params in
      looked_up-holds (λ key table. AllRows (FunctionKeepsSize params) table) (marker_tables_any k) marker [] tt
      (search (sizes, set, reset))
  sequences-size params None (Some inter) =
      looked_up-holds (λ key table. AllRows (FunctionKeepsSize params) table) (intermediate_tables_any k) inter [] tt (search sizes)
  sequences-size params (Some marker) (Some inter) = tt

  pub event-size : (event : Event) → KeepsSize (effect_any k event)
  unfolding sequence_in
  event-size (Print b) = print-size b
  event-size (Control b) = control-size b
  event-size (Escape None last) = plain_escape-size last
  event-size (Escape (Some inter) last) = escape_with-size inter last
  event-size (Sequence marker params inter last) =
      function-size params.items (sequences_any k marker inter) last (sequences-size params.items marker inter)
