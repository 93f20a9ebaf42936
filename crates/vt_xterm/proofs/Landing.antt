-- Between left and right margins every function leaves margins that fit, and so do events, bytes and characters.
use Rattle.std.proofs.Common.{rules, arith, ◌≡◌, ℕ, ◌≤◌, ◌+◌, ◌-◌, Bool, true, false, zero, suc, List, [], Option, Some, None}
use Rattle.std.proofs.Common.{refl, subst, sym, ap, ◌∙◌}
use Rattle.std.specs.Prelude.{◌==◌, ◌&&◌, ◌||◌, not, nat_le, nat_lt, min, max, length, is_some, unwrap_or, find, if◌then◌else◌}
use Rattle.std.specs.List.{range_with_len}
use Rattle.std.proofs.lemmas.Bool.{false≢true}
use Rattle.std.proofs.lemmas.Bool.Decides.{nat_tests}
use Rattle.vt_syntax.specs.declared.event.Event.{Event}
use Rattle.vt_syntax.specs.declared.event.Event.TheVariants.{Print, Control, Escape, Sequence}
use Rattle.vt_glyph.specs.Invocation.{glyph_read, after_read}
use Rattle.vt_glyph.specs.Laws.{GlyphLaws, SetsLaws}
use Rattle.vt_glyph.specs.LookUp.{look_up}
use Rattle.vt_glyph.specs.Tables.{space, substitute_glyph}
use Rattle.vt_screen.specs.declared.size.Size.{Size}
use Rattle.vt_screen.specs.Grid.{Grid, is_within}
use Rattle.vt_screen.specs.Between.{columns_up, columns_down, delete_between}
use Rattle.vt_screen.specs.Laws.{RowLaws, TestLaws}
use Rattle.vt_term.specs.declared.state.Modes.{Modes}
use Rattle.vt_term.specs.State.{Display, last_column, bottom_row, at_place, has_stop_at}
use Rattle.vt_term.specs.Sound.{IsSoundSizedDisplay}
use Rattle.vt_term.specs.Parameters.{first, second, count, from_one}
use Rattle.vt_term.specs.Moving.{are_margins, bottom_margin}
use Rattle.vt_term.specs.Tabs.{next_stop_of}
use Rattle.vt_term.specs.Editing.{with_grid, names_area}
use Rattle.vt_term.specs.Functions.{effect}
use Rattle.vt_term.proofs.SizeKept.{own-display}
use Rattle.vt_term.proofs.Tables.{AllRows, looked_up-holds, same-numbers}
use Rattle.vt_utf8.specs.Cells.{cells}
use Rattle.vt_utf8.specs.Similar.{shown}
use Rattle.vt_utf8.specs.Translation.{unshifted}
use Rattle.vt_xterm.specs.declared.sides.Sides.{Sides}
use Rattle.vt_xterm.specs.Columns.{line_position_absolute, line_position_forward}
use Rattle.vt_xterm.specs.Repeating.{times}
use Rattle.vt_xterm.specs.Tabs.{tab, stop_before}
use Rattle.vt_xterm.specs.Sides.{AreSides, FitsMargins, FitsSides, are_narrow, is_between, is_enclosed, is_wrapping, is_pending, last_reached, sides_after}
use Rattle.vt_xterm.specs.Sides as between
use Rattle.vt_xterm.specs.Pages.{Screens, on_display}
use Rattle.vt_xterm.specs.Bounded.{BoundedTable, bounded_in, bounded_plain, bounded_controls, has_row, other_plain, other_between}
use Rattle.vt_xterm.specs.Bounded.{resets, erases, is_unbounded, bounded_effect, resetting, leaving, writing, writing_if_read}
use Rattle.vt_xterm.specs.Bounded.{writing_times, writing_both, writing_wide, writing_beyond, is_at_end, printing}
use Rattle.vt_xterm.specs.Bounded.{repeating, margins_set, editing, waiting, tabbing}
use Rattle.vt_xterm.specs.Attributes.{select_attributes}
use Rattle.vt_xterm.specs.Front.{screen_effect, effect_between, xterm_effect, plain_functions, function_in, functions_of}
use Rattle.vt_xterm.specs.Front.{save_or_set_sides, restore_if_bare}
use Rattle.vt_xterm.proofs.Bounds.{both-true, other-wrap, stop_before-bounds, width-part, Leaves as LeavesPart}
use Rattle.vt_xterm.proofs.Bounds.{index-width, reverse_index-width, next_line-width, line_feed-width, insert_line-width}
use Rattle.vt_xterm.proofs.Bounds.{delete_line-width, insert_character-width, delete_character-width}
use Rattle.vt_xterm.proofs.Bounds.{cursor_forward_tabulation-width, cursor_backward_tabulation-width}
use Rattle.vt_xterm.proofs.Bounds.{put_glyph-part, set_margins-part, next_line-part, after_wrap-part}
use Rattle.vt_xterm.proofs.Bounds.{horizontal_tab-in, back_tab-in}
use Rattle.vt_xterm.proofs.SoundScreens.{AreSound}
use Rattle.vt_xterm.proofs.Places.{LeavesPlace, Leaves, looked_up-or, control-place, unbounded-place, other-place}
use Rattle.vt_xterm.proofs.Places.{marked-place}
use Rattle.vt_xterm.proofs.Fitting.{Fit, KeepsFit, one-fit, still-fit, still-sides, display-fit, s-fit, restore_if_bare-fit, screen-event-fit}
use Rattle.vt_xterm.proofs.Fitting.{escape-fit, escape_with-fit, marked-fit, with_inter-fit, both-fit}

-- ---- functions that reset a pending wrap

-- under DECOM the cursor stays between the margins
abbrev Lands : (Sides → Display → Display) → Type 0
Lands f = (m : Sides) (s : Display) → IsSoundSizedDisplay s → FitsMargins m s → (f m s).modes.decom ≡ true
    → is_between m (f m s) ≡ true

inside : (left right col : ℕ) → is_within left right col ≡ true → (left ≤ col) × (col ≤ right)
inside left right col is = (grind (arith, nat_tests, is), grind (arith, nat_tests, is))

within : (left right col : ℕ) → left ≤ col → col ≤ right → is_within left right col ≡ true
within left right col low high = grind (arith, nat_tests)

-- the margins that it leaves
abbrev LeavesLoose : (Sides → Display → Display) → Type 0
LeavesLoose f = (m : Sides) (s : Display) → IsSoundSizedDisplay s → FitsMargins m s
    → FitsMargins (record m { wrap = false }) (f m s)

loosely : (f : Sides → Display → Display) → LeavesPart (λ g. g.width) f → Lands f → LeavesLoose f
loosely f width lands m s sound i = record {
  sides = other-wrap (last_column (f m s)) m false (subst (λ w. AreSides w m) (sym (width m s)) i.sides);
  wrap = λ h. absurd cc;
  origin = lands m s sound i;
}

-- the column stays, and so does DECOM
column-lands : (f : Sides → Display → Display) → ((m : Sides) (s : Display) → (f m s).cursor.col ≡ s.cursor.col)
    → ((m : Sides) (s : Display) → (f m s).modes.decom ≡ s.modes.decom) → Lands f
column-lands f col decom m s sound i on = rw (col m s) (i.origin (sym (decom m s) ∙ on))

forward-within : (left right last col n : ℕ) → left ≤ col → col ≤ right
    → is_within left right (min (col + n) (if nat_le col right then right else last)) ≡ true
forward-within left right last col n low high = grind (arith, nat_tests)

backward-within : (left right col n : ℕ) → left ≤ col → col ≤ right
    → is_within left right (max (col - n) (if nat_le left col then left else 1)) ≡ true
backward-within left right col n low high = grind (arith, nat_tests)

counted-within : (left right n : ℕ) → left ≤ right → 1 ≤ n → is_within left right (min (left + n - 1) right) ≡ true
counted-within left right n two some = grind (arith, nat_tests)

-- to the right, not past the margin
up-within : (left right col n : ℕ) → left ≤ col → col ≤ right → is_within left right (min (col + n) right) ≡ true
up-within left right col n low high = grind (arith, nat_tests)

tab-within : (left right stop : ℕ) → left ≤ right → left ≤ stop → is_within left right (min stop right) ≡ true
tab-within left right stop two low = grind (arith, nat_tests)

back-within : (left right stop : ℕ) → left ≤ right → stop ≤ right → is_within left right (max stop left) ≡ true
back-within left right stop two high = grind (arith, nat_tests)

left-within : (left right : ℕ) → left ≤ right → is_within left right left ≡ true
left-within left right two = grind (arith, nat_tests)

two-columns : (m : Sides) (s : Display) → FitsMargins m s → m.left ≤ m.right
two-columns m s i = omega (arith, i.sides.two_columns)

here : (m : Sides) (s : Display) → FitsMargins m s → s.modes.decom ≡ true → (m.left ≤ s.cursor.col) × (s.cursor.col ≤ m.right)
here m s i on = inside m.left m.right s.cursor.col (i.origin on)

cursor_forward-lands : (n : ℕ) → Lands (between.cursor_forward n)
cursor_forward-lands n m s sound i on =
    let at = here m s i on in forward-within m.left m.right (last_column s) s.cursor.col n at.0 at.1

cursor_backward-lands : (n : ℕ) → Lands (between.cursor_backward n)
cursor_backward-lands n m s sound i on =
    let at = here m s i on in backward-within m.left m.right s.cursor.col n at.0 at.1

carriage_return-lands : Lands between.carriage_return
carriage_return-lands m s sound i on = let set : s.modes.decom ≡ true = on in rw set (left-within m.left m.right (two-columns m s i))

cursor_position-lands : (line col : ℕ) → Lands (between.cursor_position line col)
cursor_position-lands line col m s sound i on =
    let set : s.modes.decom ≡ true = on in
    rw set (counted-within m.left m.right (from_one col) (two-columns m s i) (omega arith))

cursor_character_absolute-lands : (n : ℕ) → 1 ≤ n → Lands (between.cursor_character_absolute n)
cursor_character_absolute-lands n some m s sound i on =
    let set : s.modes.decom ≡ true = on in
    rw set (counted-within m.left m.right n (two-columns m s i) some)

character_position_forward-lands : (n : ℕ) → Lands (between.character_position_forward n)
character_position_forward-lands n m s sound i on =
    let set : s.modes.decom ≡ true = on in
    let at = here m s i on in
    rw set (up-within m.left m.right s.cursor.col n at.0 at.1)

cursor_next_line-lands : (n : ℕ) → Lands (between.cursor_next_line n)
cursor_next_line-lands n m s sound i on = let set : s.modes.decom ≡ true = on in rw set (left-within m.left m.right (two-columns m s i))

cursor_preceding_line-lands : (n : ℕ) → Lands (between.cursor_preceding_line n)
cursor_preceding_line-lands n m s sound i on = let set : s.modes.decom ≡ true = on in rw set (left-within m.left m.right (two-columns m s i))

index-lands : Lands between.index
index-lands = column-lands between.index (λ m s. refl) (λ m s. refl)

reverse_index-lands : Lands between.reverse_index
reverse_index-lands = column-lands between.reverse_index (λ m s. refl) (λ m s. refl)

next_line-lands : Lands between.next_line
next_line-lands m s sound i on = let set : s.modes.decom ≡ true = on in rw set (left-within m.left m.right (two-columns m s i))

line_feed-lands : Lands between.line_feed
line_feed-lands m s sound i = go s.modes.lnm
  where
    go : (b : Bool) → (if b then between.next_line m s else between.index m s).modes.decom ≡ true
        → is_between m (if b then between.next_line m s else between.index m s) ≡ true
    go true = next_line-lands m s sound i
    go false = index-lands m s sound i

insert_character-lands : (n : ℕ) → Lands (between.insert_character n)
insert_character-lands n = column-lands (between.insert_character n) (λ m s. refl) (λ m s. refl)

delete_character-lands : (n : ℕ) → Lands (between.delete_character n)
delete_character-lands n m s sound i = go (is_between m s)
  where
    t : Display
    t = with_grid (delete_between s.grid s.cursor.row s.cursor.col m.right n) s

    go : (b : Bool) → (if b then t else s).modes.decom ≡ true → is_between m (if b then t else s) ≡ true
    go true = i.origin
    go false = i.origin

-- IL and DL
edited-lands : (grid : Sides → Display → Grid) → Lands (λ m s. between.line_edited (grid m s) m s)
edited-lands grid m s sound i on = left-within m.left m.right (two-columns m s i)

insert_line-lands : (n : ℕ) → Lands (between.insert_line n)
insert_line-lands n = edited-lands (λ m s. columns_down s.grid s.cursor.row s.margins.bottom m.left m.right n)

delete_line-lands : (n : ℕ) → Lands (between.delete_line n)
delete_line-lands n = edited-lands (λ m s. columns_up s.grid s.cursor.row s.margins.bottom m.left m.right n)

line_position_absolute-lands : (n : ℕ) → Lands (λ m. line_position_absolute n)
line_position_absolute-lands n = column-lands (λ m. line_position_absolute n) (λ m s. refl) (λ m s. refl)

line_position_forward-lands : (n : ℕ) → Lands (λ m. line_position_forward n)
line_position_forward-lands n = column-lands (λ m. line_position_forward n) (λ m s. refl) (λ m s. refl)

-- the next stop isn't left of the column
found-low : (p : ℕ → Bool) (a n d low : ℕ) → low ≤ a → low ≤ d → low ≤ unwrap_or (find p (range_with_len a n)) d
found-low p a zero d low from or = or
found-low p a (suc n) d low from or = go (p a) (found-low p (a + 1) n d low (omega arith) or)
  where
    go : (b : Bool) → low ≤ unwrap_or (find p (range_with_len (a + 1) n)) d
        → low ≤ unwrap_or (if b then Some a else find p (range_with_len (a + 1) n)) d
    go true rest = from
    go false rest = rest

next_stop-right : (stops : List Bool) (col last : ℕ) → col ≤ last → col ≤ next_stop_of stops col last
next_stop-right stops col last fits =
    found-low (λ c. has_stop_at stops c) (col + 1) (last - col) last col (omega arith) fits

horizontal_tab-lands : Lands between.horizontal_tab
horizontal_tab-lands m s sound i on =
    let at = here m s i on in
    let right = next_stop-right s.stops s.cursor.col (last_column s) sound.cursor.col_last in
    tab-within m.left m.right (next_stop_of s.stops s.cursor.col (last_column s)) (two-columns m s i)
    (omega (arith, at.0, right))

back_tab-lands : Lands between.back_tab
back_tab-lands m s sound i on =
    let at = here m s i on in
    let stop = (stop_before-bounds s.stops s.cursor.col s.cursor.col sound.cursor.col_1 (omega arith)).1 in
    let set : s.modes.decom ≡ true = on in
    rw set (back-within m.left m.right (stop_before s.stops s.cursor.col) (two-columns m s i) (omega (arith, at.1, stop)))

-- so many times a function that leaves the grid
times-hold : (holds : Display → Type 0) (k : ℕ) (f : Display → Display) → ((t : Display) → holds t → holds (f t)) → (s : Display)
    → holds s → holds (times k f s)
times-hold holds zero f keeps s i = i
times-hold holds (suc k) f keeps s i = keeps (times k f s) (times-hold holds k f keeps s i)

loosened : (m : Sides) (s : Display) → FitsMargins m s → FitsMargins (record m { wrap = false }) s
loosened m s i = record { sides = other-wrap (last_column s) m false i.sides; wrap = λ h. absurd cc; origin = i.origin }

cursor_forward_tabulation-lands : (n : ℕ) → Lands (between.cursor_forward_tabulation n)
cursor_forward_tabulation-lands n m s sound i =
    let loose : Sides = record m { wrap = false } in
    (times-hold (λ t. IsSoundSizedDisplay t × FitsMargins loose t) (min n (last_column s)) (between.horizontal_tab m)
    (λ t h. (
      horizontal_tab-in t.grid.size m t (other-wrap (last_column t) loose m.wrap h.1.sides) h.0,
      loosely between.horizontal_tab (λ m s. refl) horizontal_tab-lands loose t h.0 h.1,
    )) s (sound, loosened m s i)).1.origin

cursor_backward_tabulation-lands : (n : ℕ) → Lands (between.cursor_backward_tabulation n)
cursor_backward_tabulation-lands n m s sound i =
    let loose : Sides = record m { wrap = false } in
    (times-hold (λ t. IsSoundSizedDisplay t × FitsMargins loose t) (min n (last_column s)) (between.back_tab m)
    (λ t h. (
      back_tab-in t.grid.size m t (other-wrap (last_column t) loose m.wrap h.1.sides) h.0,
      loosely between.back_tab (λ m s. refl) back_tab-lands loose t h.0 h.1,
    )) s (sound, loosened m s i)).1.origin

bounded_controls-land : AllRows (λ key f. LeavesLoose (f [])) bounded_controls
unfolding AllRows
bounded_controls-land =
    let feed : LeavesLoose between.line_feed = loosely between.line_feed line_feed-width line_feed-lands in (
      loosely (between.cursor_backward 1) (λ m s. refl) (cursor_backward-lands 1),
      (
        feed,
        (
          feed,
          (
            feed,
            (
              loosely between.carriage_return (λ m s. refl) carriage_return-lands,
              (
                loosely between.index index-width index-lands,
                (
                  loosely between.next_line next_line-width next_line-lands,
                  (loosely between.reverse_index reverse_index-width reverse_index-lands, tt),
                ),
              ),
            ),
          ),
        ),
      ),
    )

bounded_plain-land : (params : List ℕ) → AllRows (λ key f. LeavesLoose (f params)) bounded_plain
unfolding AllRows
bounded_plain-land params =
    let n : ℕ = count params in
    let some : 1 ≤ n = omega arith in
    let column : LeavesLoose (between.cursor_character_absolute n) =
    loosely (between.cursor_character_absolute n) (λ m s. refl) (cursor_character_absolute-lands n some) in
    let position : LeavesLoose (between.cursor_position (first params) (second params)) =
    loosely (between.cursor_position (first params) (second params)) (λ m s. refl)
    (cursor_position-lands (first params) (second params)) in (
      loosely (between.insert_character n) (insert_character-width n) (insert_character-lands n),
      (
        loosely (between.cursor_forward n) (λ m s. refl) (cursor_forward-lands n),
        (
          loosely (between.cursor_backward n) (λ m s. refl) (cursor_backward-lands n),
          (
            loosely (between.cursor_next_line n) (λ m s. refl) (cursor_next_line-lands n),
            (
              loosely (between.cursor_preceding_line n) (λ m s. refl) (cursor_preceding_line-lands n),
              (
                column,
                (
                  position,
                  (
                    loosely (between.delete_character n) (delete_character-width n) (delete_character-lands n),
                    (
                      loosely (between.cursor_backward_tabulation n) (cursor_backward_tabulation-width n)
                          (cursor_backward_tabulation-lands n),
                      (
                        column,
                        (
                          loosely (between.character_position_forward n) (λ m s. refl) (character_position_forward-lands n),
                          (
                            loosely (λ m. line_position_absolute n) (λ m s. refl) (line_position_absolute-lands n),
                            (
                              loosely (λ m. line_position_forward n) (λ m s. refl) (line_position_forward-lands n),
                              (position, tt),
                            ),
                          ),
                        ),
                      ),
                    ),
                  ),
                ),
              ),
            ),
          ),
        ),
      ),
    )

-- a function of a VT220 that leaves the place
left-loose : (f : Display → Display) → Leaves f → LeavesLoose (λ m. f)
left-loose f leaves m s sound i = loosened m (f s) (still-fit m s (f s) (leaves s) i)

bounded_in-land : (table : BoundedTable) (event : Event) (last : ℕ) (params : List ℕ)
    → (has_row table last ≡ false → Leaves (effect event)) → AllRows (λ key f. LeavesLoose (f params)) table
    → LeavesLoose (bounded_in table event last params)
unfolding bounded_in has_row
bounded_in-land table event last params leaves all =
    looked_up-or (λ key f. LeavesLoose (f params)) table last (λ params m. effect event)
    (λ none. left-loose (effect event) (leaves none)) all

-- ---- a glyph

-- the cursor's column is in reach
wrap-place : (m : Sides) (s : Display) → FitsMargins m s → s.modes.decom ≡ true → is_between m (between.after_wrap m s) ≡ true
wrap-place m s i on = go (is_pending m s)
  where
    moved : Display
    moved = record (between.index m s) { cursor = at_place (between.index m s).cursor.row m.left }

    go : (b : Bool) → is_between m (if b then moved else s) ≡ true
    go true = left-within m.left m.right (two-columns m s i)
    go false = i.origin on

same-modes : (m : Sides) (s : Display) → (between.after_wrap m s).modes ≡ s.modes
same-modes m s = go (is_pending m s)
  where
    moved : Display
    moved = record (between.index m s) { cursor = at_place (between.index m s).cursor.row m.left }

    go : (b : Bool) → (if b then moved else s).modes ≡ s.modes
    go true = refl
    go false = refl

next-within : (left right last col : ℕ) → left ≤ col → col ≤ right
    → is_within left right (if nat_lt col (if nat_le col right then right else last) then col + 1 else col) ≡ true
next-within left right last col low high = grind (arith, nat_tests)

stays-there : (right last col : ℕ) → (col == right) ≡ true → nat_lt col (if nat_le col right then right else last) ≡ false
stays-there right last col is = grind (arith, nat_tests)

next-col : (m : Sides) (t : Display)
    → (between.next_place m t).col ≡ (if nat_lt t.cursor.col (last_reached m t) then t.cursor.col + 1 else t.cursor.col)
next-col m t = go (nat_lt t.cursor.col (last_reached m t))
  where
    go : (b : Bool) → (if b then at_place t.cursor.row (t.cursor.col + 1)
        else record t.cursor { wrap = t.modes.decawm && t.cursor.col == last_column t }).col ≡ (if b then t.cursor.col + 1 else t.cursor.col)
    go true = refl
    go false = refl

-- after a pending wrap
put-fit : (glyph : ℕ) (m : Sides) (t : Display) → AreSides (last_column t) m
    → (t.modes.decom ≡ true → is_between m t ≡ true)
    → FitsMargins (record m { wrap = is_wrapping m t }) (between.put_glyph glyph m t)
put-fit glyph m t fits origin = record {
  sides = subst (λ w. AreSides w (record m { wrap = is_wrapping m t })) (sym (put_glyph-part (λ g. g.width) width-part glyph m t))
      (other-wrap (last_column t) m (is_wrapping m t) fits);
  wrap = wraps;
  origin = λ on.
      let at = inside m.left m.right t.cursor.col (origin on) in
      ap (λ c. is_within m.left m.right c) (next-col m t)
      ∙ next-within m.left m.right (last_column t) t.cursor.col at.0 at.1;
}
  where
    wraps : is_wrapping m t ≡ true → is_wrapping m (between.put_glyph glyph m t) ≡ true
    wraps is =
        let some = (both-true t.modes.decawm (t.cursor.col == m.right && nat_lt m.right (last_column t)) is).1 in
        let col = (both-true (t.cursor.col == m.right) (nat_lt m.right (last_column t)) some).0 in
        let same : (between.put_glyph glyph m t).cursor.col ≡ t.cursor.col =
        next-col m t ∙ ap (λ b. if b then t.cursor.col + 1 else t.cursor.col) (stays-there m.right (last_column t) t.cursor.col col) in
        ap (λ c. t.modes.decawm && (c == m.right && nat_lt m.right (last_column (between.put_glyph glyph m t)))) same
        ∙ ap (λ w. t.modes.decawm && (t.cursor.col == m.right && nat_lt m.right w))
        (put_glyph-part (λ g. g.width) width-part glyph m t)
        ∙ is

pub writing-fit : (glyph : ℕ) (m : Sides) (s : Screens) → FitsMargins m s.display → Fit (writing glyph m s)
writing-fit glyph m s i =
    let t = between.after_wrap m s.display in
    put-fit glyph m t (subst (λ w. AreSides w m) (sym (after_wrap-part (λ g. g.width) width-part m s.display)) i.sides)
    (λ on. wrap-place m s.display i (sym (ap (λ (x : Modes). x.decom) (same-modes m s.display)) ∙ on))

writing_times-fit : (k glyph : ℕ) (m : Sides) (s : Screens) → FitsMargins m s.display → Fit s → Fit (writing_times k glyph m s)
writing_times-fit zero glyph m s i fit = fit
writing_times-fit (suc k) glyph m s i fit =
    let next = writing-fit glyph m s i in
    writing_times-fit k glyph (sides_after m s.display) (writing glyph m s) next next

repeating-fit : (n : ℕ) (m : Sides) (s : Screens) → FitsMargins m s.display → Fit s → Fit (repeating n m s)
repeating-fit n m s i fit =
    one-fit (between.column_before m s.display == 0) s
    (writing_times (min n (between.room m s.display)) (between.glyph_before m s.display) m s) fit
    (writing_times-fit (min n (between.room m s.display)) (between.glyph_before m s.display) m s i fit)

printing-fit : (b : ℕ) (m : Sides) (s : Screens) → FitsMargins m s.display → Fit s → Fit (printing b m s)
printing-fit b m s i fit = go (glyph_read s.display.sets b)
  where
    t : Screens
    t = on_display (λ d. record d { sets = after_read d.sets b }) s

    place : LeavesPlace s.display t.display
    place = (refl, (refl, (refl, refl)))

    go : (glyph : Option ℕ) → Fit (writing_if_read glyph m t)
    go None = still-sides s.pages.sides s.display t.display place fit
    go (Some glyph) = writing-fit glyph m t (still-fit m s.display t.display place i)

-- ---- margins, and rows that move

-- home under the top and bottom margins that it sets
set_margins-lands : (p1 p2 : ℕ) → Lands (between.set_margins p1 p2)
set_margins-lands p1 p2 m s sound i = go (are_margins (bottom_row s) p1 p2)
  where
    t : Display
    t = record s { margins = record { top = from_one p1; bottom = bottom_margin (bottom_row s) p2 } }

    home : (between.home m t).modes.decom ≡ true → is_between m (between.home m t) ≡ true
    home on = let set : s.modes.decom ≡ true = on in rw set (left-within m.left m.right (two-columns m s i))

    go : (b : Bool) → (if b then between.home m t else s).modes.decom ≡ true
        → is_between m (if b then between.home m t else s) ≡ true
    go true = home
    go false = i.origin

margins-land : (p1 p2 : ℕ) → LeavesLoose (between.set_margins p1 p2)
margins-land p1 p2 =
    loosely (between.set_margins p1 p2) (set_margins-part (λ g. g.width) width-part p1 p2) (set_margins-lands p1 p2)

margins_set-fit : (p1 p2 : ℕ) (m : Sides) (s : Screens) → IsSoundSizedDisplay s.display → FitsMargins m s.display → Fit s
    → Fit (margins_set p1 p2 m s)
margins_set-fit p1 p2 m s sound i fit =
    one-fit (are_margins (bottom_row s.display) p1 p2) (resetting (between.set_margins p1 p2) m s) s
    (margins-land p1 p2 m s.display sound i) fit

-- ---- events

-- between the margins a function keeps them
abbrev KeepsBetween : (Sides → Screens → Screens) → Type 0
KeepsBetween f = (size : Size) (m : Sides) (s : Screens) → AreSound size s → FitsMargins m s.display → Fit s → Fit (f m s)

rows-fit : (f : Sides → Display → Display) → ((m : Sides) → Leaves (f m)) → KeepsBetween (leaving f)
rows-fit f leaves size m s i at fit = still-sides s.pages.sides s.display (f m s.display) (leaves m s.display) fit

reset-fit : (f : Sides → Display → Display) → LeavesLoose f → KeepsBetween (resetting f)
reset-fit f lands size m s i at fit = lands m s.display (own-display size s.display i.0) at

-- IL and DL
editing-fit : (f : Sides → Display → Display) → LeavesLoose f → KeepsBetween (editing f)
editing-fit f lands size m s i at fit =
    one-fit (is_enclosed m s.display) (resetting f m s) s (reset-fit f lands size m s i at fit) fit

-- HT and CHT
pending-wraps : (m : Sides) (s : Display) → IsSoundSizedDisplay s → FitsMargins m s → is_pending m s ≡ true → s.modes.decawm ≡ true
pending-wraps m s sound i = go m.wrap refl
  where
    go : (b : Bool) → m.wrap ≡ b → (b || s.cursor.wrap) ≡ true → s.modes.decawm ≡ true
    go true is h = (both-true s.modes.decawm (s.cursor.col == m.right && nat_lt m.right (last_column s)) (i.wrap is)).0
    go false is h = sound.wrap h

waits-there : (wraps : Bool) (right last : ℕ) → wraps ≡ true → nat_lt right last ≡ true
    → (wraps && (right == right && nat_lt right last)) ≡ true
waits-there wraps right last on is = grind (arith, nat_tests)

waiting-fit : (m : Sides) (s : Screens) → IsSoundSizedDisplay s.display → FitsMargins m s.display → is_pending m s.display ≡ true
    → Fit (waiting m s)
waiting-fit m s sound i pending = go (nat_lt m.right (last_column s.display)) refl
  where
    d : Display
    d = s.display

    go : (b : Bool) → nat_lt m.right (last_column d) ≡ b
        → FitsMargins (record m { wrap = b }) (if b then record d { cursor = at_place d.cursor.row m.right } else d)
    go true is = record {
      sides = other-wrap (last_column d) m true i.sides;
      wrap = λ h. waits-there d.modes.decawm m.right (last_column d) (pending-wraps m d sound i pending) is;
      origin = λ on. within m.left m.right m.right (two-columns m d i) (omega arith);
    }
    go false is = loosened m d i

tabbing-fit : (n : ℕ) → KeepsBetween (tabbing n)
tabbing-fit n size m s i at fit = go (is_pending m s.display) refl
  where
    tabs : LeavesLoose (between.cursor_forward_tabulation n)
    tabs =
        loosely (between.cursor_forward_tabulation n) (cursor_forward_tabulation-width n) (cursor_forward_tabulation-lands n)

    go : (b : Bool) → is_pending m s.display ≡ b
        → Fit (if b then waiting m s else resetting (between.cursor_forward_tabulation n) m s)
    go true is = waiting-fit m s (own-display size s.display i.0) at is
    go false is = reset-fit (between.cursor_forward_tabulation n) tabs size m s i at fit

-- SGR, SCP and RCP have a row of their own, and the others are a VT220's
plain_functions-fit : (params : List ℕ)
    → AllRows (λ key f. resets key params ≡ false → is_some (look_up other_plain key) ≡ false → KeepsFit (f params)) plain_functions
unfolding AllRows has_row
plain_functions-fit params =
    let attributes : KeepsFit (on_display (select_attributes params)) =
    display-fit (select_attributes params) (λ s. (refl, (refl, (refl, refl)))) in
    let saves : KeepsFit (λ s. save_or_set_sides params s.pages.sides s) = s-fit params in
    let restores : KeepsFit (restore_if_bare params) = restore_if_bare-fit params in
    search (rules, attributes, saves, restores)

other_screen-fit : (event : Event) (last : ℕ) (params : List ℕ) → resets last params ≡ false
    → is_some (look_up other_plain last) ≡ false → Leaves (effect event)
    → KeepsFit (function_in plain_functions event last params)
unfolding function_in
other_screen-fit event last params none other leaves =
    looked_up-holds
    (λ key f. resets key params ≡ false → is_some (look_up other_plain key) ≡ false → KeepsFit (f params)) plain_functions last
    (λ params. on_display (effect event)) (λ h k. display-fit (effect event) leaves) (plain_functions-fit params) none other

other_between-fit : (params : List ℕ) (last : ℕ) → resets last params ≡ false
    → KeepsBetween (other_between screen_effect (Sequence None (record { items = params }) None last) last params)
unfolding other_between AllRows functions_of
other_between-fit params last none =
    let event = Sequence None (record { items = params }) None last in
    let n : ℕ = count params in
    looked_up-or (λ key f. KeepsBetween (f params)) other_plain last (λ values m. screen_effect event)
    (λ h size m s i at fit.
    other_screen-fit event last params none h (other-place last params none h) size s i fit) (
      tabbing-fit n,
      (
        editing-fit (between.insert_line n) (loosely (between.insert_line n) (insert_line-width n) (insert_line-lands n)),
        (
          editing-fit (between.delete_line n) (loosely (between.delete_line n) (delete_line-width n) (delete_line-lands n)),
          (
            rows-fit (between.rows_up n) (λ m s. (refl, (refl, (refl, refl)))),
            (
              λ size m s i at fit. one-fit (length params == 1) (on_display (between.rows_down n m) s) s
                  (rows-fit (between.rows_down n) (λ m s. (refl, (refl, (refl, refl)))) size m s i at fit) fit,
              (
                rows-fit (between.rows_down n) (λ m s. (refl, (refl, (refl, refl)))),
                (
                  λ size m s i at fit. repeating-fit n m s at fit,
                  (
                    λ size m s i at fit. margins_set-fit (first params) (second params) m s
                        (own-display size s.display i.0) at fit,
                    tt,
                  ),
                ),
              ),
            ),
          ),
        ),
      ),
    )

-- a row of the table, or CUU, CUD, ECH, ED or EL
no-row : (a b c : Bool) → a ≡ false → (a || (b || c)) ≡ true → (b || c) ≡ true
no-row false b c h is = is
no-row true b c h is = absurd cc

erases-one : (a b c d x area : Bool) → ((a || (b || x)) || ((c || d) && area)) ≡ true → (a || (b || (x || (c || d)))) ≡ true
erases-one true b c d x area is = refl
erases-one false true c d x area is = refl
erases-one false false c d true area is = refl
erases-one false false true d false area is = refl
erases-one false false false true false area is = refl
erases-one false false false false false area is = absurd cc

plain-land : (params : List ℕ) (last : ℕ) → resets last params ≡ true
    → LeavesLoose (bounded_in bounded_plain (Sequence None (record { items = params }) None last) last params)
plain-land params last is =
    bounded_in-land bounded_plain (Sequence None (record { items = params }) None last) last params
    (λ none. unbounded-place last params
    (erases-one (last == 0x41) (last == 0x42) (last == 0x4A) (last == 0x4B) (last == 0x58) (names_area (first params))
    (no-row (has_row bounded_plain last) (is_unbounded last) (erases last params) none is)))
    (bounded_plain-land params)

-- CSI ? J and CSI ? K are no functions of the front
no_mode-j : is_some (look_up (functions_of (Some 0x3F) None) 0x4A) ≡ false
unfolding functions_of
no_mode-j = refl

no_mode-k : is_some (look_up (functions_of (Some 0x3F) None) 0x4B) ≡ false
unfolding functions_of
no_mode-k = refl

control-fit : (b : ℕ) → KeepsBetween (bounded_effect screen_effect (Control b))
unfolding bounded_effect
control-fit b size m s i at fit = go (b == 0x1A) refl (b == 0x09) refl (has_row bounded_controls b) refl
  where
    other : Bool → Screens
    other tabs = on_display (λ d. if tabs then tab d else effect (Control b) d) s

    reset : Screens
    reset = resetting (bounded_in bounded_controls (Control b) b []) m s

    go : (x : Bool) → (b == 0x1A) ≡ x → (tabs : Bool) → (b == 0x09) ≡ tabs → (y : Bool) → has_row bounded_controls b ≡ y
        → Fit (if x then writing substitute_glyph m s else (if tabs then tabbing 1 m s else (if y then reset else other tabs)))
    go true is tabs are y has = writing-fit substitute_glyph m s at
    go false is true are y has = tabbing-fit 1 size m s i at fit
    go false is false are true has =
        reset-fit (bounded_in bounded_controls (Control b) b [])
        (bounded_in-land bounded_controls (Control b) b [] (λ none. absurd (false≢true (sym none ∙ has))) bounded_controls-land) size m s i at fit
    go false is false are false has = display-fit (effect (Control b)) (control-place b is are has) size s i fit

plain-fit : (params : List ℕ) (last : ℕ) → KeepsBetween (bounded_effect screen_effect (Sequence None (record { items = params }) None last))
unfolding bounded_effect
plain-fit params last size m s i at fit = go (resets last params) refl
  where
    event : Event
    event = Sequence None (record { items = params }) None last

    go : (b : Bool) → resets last params ≡ b
        → Fit (if b then resetting (bounded_in bounded_plain event last params) m s
        else other_between screen_effect event last params m s)
    go true is =
        reset-fit (bounded_in bounded_plain event last params) (plain-land params last is) size m s i at fit
    go false is = other_between-fit params last is size m s i at fit

-- DECSED and DECSEL
selective-place : (marker last : ℕ) (params : List ℕ) → (marker == 0x3F && erases last params) ≡ true
    → Leaves (effect (Sequence (Some marker) (record { items = params }) None last))
selective-place marker last params is =
    let parts = both-true (marker == 0x3F) (erases last params) is in
    let final = both-true (last == 0x4A || last == 0x4B) (names_area (first params)) parts.1 in
    subst (λ x. Leaves (effect (Sequence (Some x) (record { items = params }) None last))) (sym (same-numbers marker 0x3F parts.0))
    (by_final (last == 0x4A) refl (last == 0x4B) refl final.0)
  where
    place : (x : ℕ) → is_some (look_up (functions_of (Some 0x3F) None) x) ≡ false → last ≡ x
        → Leaves (effect (Sequence (Some 0x3F) (record { items = params }) None last))
    place x none same =
        subst (λ y. Leaves (effect (Sequence (Some 0x3F) (record { items = params }) None y))) (sym same) (marked-place 0x3F x params none)

    by_final : (a : Bool) → (last == 0x4A) ≡ a → (b : Bool) → (last == 0x4B) ≡ b → (a || b) ≡ true
        → Leaves (effect (Sequence (Some 0x3F) (record { items = params }) None last))
    by_final true first b second one = place 0x4A no_mode-j (same-numbers last 0x4A first)
    by_final false first true second one = place 0x4B no_mode-k (same-numbers last 0x4B second)
    by_final false first false second one = absurd cc

module _ (glyphs : GlyphLaws) (sets : SetsLaws) (rows : RowLaws) (tests : TestLaws) where
  selected-fit : (marker last : ℕ) (params : List ℕ)
      → KeepsBetween (bounded_effect screen_effect (Sequence (Some marker) (record { items = params }) None last))
  unfolding bounded_effect
  selected-fit marker last params size m s i at fit = go (marker == 0x3F && erases last params) refl
    where
      event : Event
      event = Sequence (Some marker) (record { items = params }) None last

      go : (b : Bool) → (marker == 0x3F && erases last params) ≡ b
          → Fit (if b then resetting (λ x. effect event) m s else screen_effect event s)
      go true is =
          reset-fit (λ x. effect event) (left-loose (effect event) (selective-place marker last params is)) size m s i at fit
      go false is = marked-fit glyphs sets rows tests marker last params size s i fit

  bounded-fit : (event : Event) → KeepsBetween (bounded_effect screen_effect event)
  unfolding bounded_effect
  bounded-fit (Print b) size m s i at fit = printing-fit b m s at fit
  bounded-fit (Control b) size m s i at fit = control-fit b size m s i at fit
  bounded-fit (Escape None last) size m s i at fit = escape-fit glyphs sets rows tests last size s i fit
  bounded-fit (Escape (Some inter) last) size m s i at fit = escape_with-fit glyphs sets rows tests inter last size s i fit
  bounded-fit (Sequence None params None last) size m s i at fit = plain-fit params.items last size m s i at fit
  bounded-fit (Sequence (Some marker) params None last) size m s i at fit =
      selected-fit marker last params.items size m s i at fit
  bounded-fit (Sequence None params (Some inter) last) size m s i at fit =
      with_inter-fit glyphs sets rows tests inter last params.items size s i fit
  bounded-fit (Sequence (Some marker) params (Some inter) last) size m s i at fit =
      both-fit glyphs sets rows tests marker inter last params.items size s i fit

  pub event-fit : (event : Event) → KeepsFit (xterm_effect event)
  unfolding between.bounds
  event-fit event size s i fit = go s.pages.sides refl fit
    where
      w : ℕ
      w = last_column s.display

      narrow : (m : Sides) → s.pages.sides ≡ Some m → FitsMargins m s.display → (b : Bool) → are_narrow w m ≡ b
          → Fit (effect_between event (if b then Some m else None) s)
      narrow m e at true is = bounded-fit event size m s i at fit
      narrow m e at false is =
          screen-event-fit glyphs sets rows tests event size s i
          (ap (between.bounds w) e ∙ ap (λ (b : Bool). if b then Some m else None) is) fit

      go : (sides : Option Sides) → s.pages.sides ≡ sides → FitsSides s.display sides
          → Fit (effect_between event (between.bounds w sides) s)
      go None e at = screen-event-fit glyphs sets rows tests event size s i (ap (between.bounds w) e) fit
      go (Some m) e at = narrow m e at (are_narrow w m) refl

-- ---- characters beyond ASCII

unshifted-place : (s : Display) → LeavesPlace s (unshifted s)
unshifted-place s = (refl, (refl, (refl, refl)))

both-written : (glyph : ℕ) (m : Sides) (s : Screens) → FitsMargins m s.display → Fit (writing_both glyph m s)
both-written glyph m s i =
    writing-fit space (sides_after m s.display) (writing glyph m s) (writing-fit glyph m s i)

-- at the end no wrap is pending, and then NEL leaves none
no-wrap : (here wrap flag : Bool) → (here && not (wrap || flag)) ≡ true → wrap ≡ false
no-wrap here false flag h = refl
no-wrap true true flag h = absurd cc
no-wrap false true flag h = absurd cc

next_line-fit : (m : Sides) (s : Display) → IsSoundSizedDisplay s → FitsMargins m s → m.wrap ≡ false
    → FitsMargins m (between.next_line m s)
next_line-fit m s sound i wrap = record {
  sides = subst (λ w. AreSides w m) (sym (next_line-part (λ g. g.width) width-part m s)) i.sides;
  wrap = λ h. absurd (false≢true (sym wrap ∙ h));
  origin = next_line-lands m s sound i;
}

wide-fit : (glyph : ℕ) (m : Sides) (s : Screens) → IsSoundSizedDisplay s.display → FitsMargins m s.display → Fit s
    → Fit (writing_wide glyph m s)
wide-fit glyph m s sound i fit = go (is_at_end m s.display) refl
  where
    next : Screens
    next = on_display (λ d. unshifted (between.next_line m d)) s

    go : (b : Bool) → is_at_end m s.display ≡ b → Fit (if not b then writing_both glyph m (on_display unshifted s)
        else (if s.display.modes.decawm then writing_both glyph m next else s))
    go true is =
        let wrap = no-wrap (s.display.cursor.col == last_reached m s.display) m.wrap s.display.cursor.wrap is in
        one-fit s.display.modes.decawm (writing_both glyph m next) s
        (both-written glyph m next
        (still-fit m (between.next_line m s.display) next.display (unshifted-place (between.next_line m s.display))
        (next_line-fit m s.display sound i wrap))) fit
    go false is =
        both-written glyph m (on_display unshifted s)
        (still-fit m s.display (unshifted s.display) (unshifted-place s.display) i)

pub beyond-fit : (c : ℕ) (m : Sides) (s : Screens) → IsSoundSizedDisplay s.display → FitsMargins m s.display → Fit s
    → Fit (writing_beyond c m s)
beyond-fit c m s sound i fit =
    one-fit (cells c == 0) s
    (if cells c == 1 then writing (shown c) m (on_display unshifted s) else writing_wide (shown c) m s) fit
    (one-fit (cells c == 1) (writing (shown c) m (on_display unshifted s)) (writing_wide (shown c) m s)
    (writing-fit (shown c) m (on_display unshifted s)
    (still-fit m s.display (unshifted s.display) (unshifted-place s.display) i))
    (wide-fit (shown c) m s sound i fit))
