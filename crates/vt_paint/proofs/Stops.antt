-- Tab stops, and the width.
use Rattle.std.proofs.Common.{◌≡◌, inl, inr, Bool, true, false, not, cond, ℕ, ◌+◌, ◌-◌, ◌≤◌, ◌<◌, min, max, List, []}
use Rattle.std.proofs.Common.{◌∷◌, ◌++◌, length, get_or, set, arith, refl, sym, ap, ◌∙◌, get_or-set_same, eqb, take}
use Rattle.std.proofs.Common.{get_or-set_other}
use Rattle.std.specs.Cmp.Lexicographic.{pointwise, pointwise_decides}
use Rattle.std.specs.List.{range_with_len, list_all}
use Rattle.std.proofs.lemmas.List.{ext_get_or, get_or-take, length-take-le}
use Rattle.vt_glyph.proofs.Lists.{all_in_range}
use Rattle.vt_paint.specs.declared.tables.TheConstants.{STOPS_AT_POWER_UP}
use Rattle.std.proofs.Math.ListN.{length-set}
use Rattle.std.proofs.lemmas.List.FromFn.{get_or-map-range_with_len, length-map-range_with_len}
use Rattle.std.proofs.lemmas.Bool.{eq-eqb, eqb-true}
use Rattle.std.proofs.lemmas.Bool.Decides.{eqb_tells}
use Rattle.vt_syntax.specs.declared.event.Event.{Event}
use Rattle.vt_screen.specs.Cells.{blank}
use Rattle.vt_screen.specs.declared.size.Size.{Size}
use Rattle.vt_screen.specs.Sizes.{width_of, IsSize}
use Rattle.vt_screen.specs.Grid.{blank_grid, grid_of}
use Rattle.vt_term.specs.declared.state.Cursor.{Cursor}
use Rattle.vt_term.specs.State.{Display, at_place, stops_of, is_stop_at_power_up, display_of}
use Rattle.vt_term.specs.Tabs.{no_stops}
use Rattle.vt_term.specs.Modes.{with_mode}
use Rattle.vt_term.specs.Functions.{sequence_in}
use Rattle.vt_screen.specs.Same.{same_bool, when}
use Rattle.vt_paint.specs.Controls.{private_mode, reset_to_initial_state, cursor_position, clear_all_tabs, set_tab}
use Rattle.vt_paint.specs.Items.{stop_events, is_wide, width_events, made_stops, stops_item}
use Rattle.vt_paint.specs.Private.Parts.{stops_from}
use Rattle.vt_paint.proofs.AfterEvents.{display_after, Makes, MakesSome, then_makes, none_makes, range_leaves}
use Rattle.vt_paint.proofs.Equality.{same_bool-decides}
use Rattle.vt_term.specs.Functions.{control_any, plain_escape_any, sequences_any}

-- power-up of a size with this width, these stops and this cursor
abbrev pub with_stops : Size → Bool → List Bool → Cursor → Display
with_stops size wide stops cursor = record (display_of size) { grid = blank_grid size wide; stops = stops; cursor = cursor }

-- the stops of the columns before c are made
record AreMade (columns : ℕ) (stops made : List Bool) (c : ℕ) : Type 0 where
  len : length made ≡ columns
  before : (j : ℕ) → j + 1 < c → get_or made j false ≡ get_or stops j false
  after : (j : ℕ) → c ≤ j + 1 → j < columns → get_or made j false ≡ false

none_made : (columns : ℕ) (stops : List Bool) → AreMade columns stops (no_stops columns) 1
unfolding no_stops
none_made columns stops = record {
  len = length-map-range_with_len (λ c. false) 1 columns;
  before = λ j h. absurd (omega arith);
  after = λ j h l. get_or-map-range_with_len (λ c. false) 1 columns j (1 + j) false l refl;
}

all_made : (columns : ℕ) (stops made : List Bool) → length stops ≡ columns → AreMade columns stops made (columns + 1)
    → made ≡ stops
all_made columns stops made long h =
    ext_get_or false made stops (omega (arith, h.len, long)) (λ k l. h.before k (omega (arith, h.len)))

more_made : (columns : ℕ) (stops made : List Bool) (c : ℕ) → 1 ≤ c → c ≤ columns → get_or stops (c - 1) false ≡ true
    → AreMade columns stops made c
    → AreMade columns stops (set made (c - 1) true) (c + 1)
more_made columns stops made c c1 cw is h = record {
  len = length-set made (c - 1) true ∙ h.len;
  before = λ j b. elim (eqb_tells j (c - 1)) [
    | inl e ↦ rw e.1 (get_or-set_same made (c - 1) true false (omega (arith, h.len)) ∙ sym is)
    | inr e ↦ get_or-set_other made (c - 1) j true false e.1 ∙ h.before j (omega (arith, e))
  ];
  after = λ j a b. get_or-set_other made (c - 1) j true false (λ e. omega arith) ∙ h.after j (omega arith) b;
}

skip_made : (columns : ℕ) (stops made : List Bool) (c : ℕ) → 1 ≤ c → c ≤ columns → get_or stops (c - 1) false ≡ false
    → AreMade columns stops made c
    → AreMade columns stops made (c + 1)
skip_made columns stops made c c1 cw is h = record {
  len = h.len;
  before = λ j b. elim (eqb_tells j (c - 1)) [
    | inl e ↦ rw e.1 (h.after (c - 1) (omega arith) (omega arith) ∙ sym is)
    | inr e ↦ h.before j (omega (arith, e))
  ];
  after = λ j a b. h.after j (omega arith) b;
}

-- the display with the stops of the columns before c
record IsMade (size : Size) (stops : List Bool) (c : ℕ) (x : Display) : Type 0 where
  made : List Bool
  cursor : Cursor
  is : x ≡ with_stops size true made cursor
  are : AreMade size.wide stops made c

set_tab_leaves : (size : Size) (made : List Bool) (cursor : Cursor) (c : ℕ) → 1 ≤ size.rows → 1 ≤ c → c ≤ size.wide
    → display_after (with_stops size true made cursor) (cursor_position 1 c ∷ set_tab ∷ [])
    ≡ with_stops size true (set made (c - 1) true) (at_place 1 c)
unfolding display_after sequence_in sequences_any control_any
set_tab_leaves size made cursor c r1 c1 cw =
    let row : min 1 size.rows ≡ 1 = omega arith in
    let col : min (max c 1) size.wide ≡ c = omega arith in
    rw (row, col) refl

stop_leaves : (size : Size) (stops : List Bool) (c : ℕ) (x : Display) → 1 ≤ size.rows → 1 ≤ c → c ≤ size.wide
    → IsMade size stops c x → IsMade size stops (c + 1) (display_after x (stop_events stops c))
unfolding display_after stop_events
stop_leaves size stops c x r1 c1 cw w = go (get_or stops (c - 1) false) refl
  where
    go : (b : Bool) → get_or stops (c - 1) false ≡ b
        → IsMade size stops (c + 1) (display_after x (cond b (cursor_position 1 c ∷ set_tab ∷ []) []))
    go true e = record {
      made = set w.made (c - 1) true;
      cursor = at_place 1 c;
      is = ap (λ y. display_after y (cursor_position 1 c ∷ set_tab ∷ [])) w.is
          ∙ set_tab_leaves size w.made w.cursor c r1 c1 cw;
      are = more_made size.wide stops w.made c c1 cw e w.are;
    }
    go false e =
        record { made = w.made; cursor = w.cursor; is = w.is; are = skip_made size.wide stops w.made c c1 cw e w.are }

-- a blank grid of one width is that of the other, if the two widths are equal
one_width : (size : Size) (a b : Bool) → eqb size.narrow size.wide ≡ true → blank_grid size a ≡ blank_grid size b
one_width size a b same = ap (λ w. grid_of size w (λ r c. blank)) (go a ∙ sym (go b))
  where
    go : (b : Bool) → width_of size b ≡ size.wide
    go true = refl
    go false = eqb-true size.narrow size.wide same

-- DECCOLM, if it changes the width, selects a width
width_leaves : (size : Size) (from to : Bool) (stops : List Bool) (cursor : Cursor) → IsSize size
    → MakesSome (width_events size to) (with_stops size from stops cursor) (with_stops size to stops)
unfolding display_after sequence_in sequences_any with_mode
width_leaves size from to stops cursor sized = go (eqb size.narrow size.wide) refl to
  where
    go : (same : Bool) → eqb size.narrow size.wide ≡ same → (to : Bool)
        → MakesSome (cond (not same) (private_mode 3 to ∷ []) []) (with_stops size from stops cursor)
        (with_stops size to stops)
    go true e to = record {
      some = cursor;
      makes = none_makes (ap (λ g. record (with_stops size from stops cursor) { grid = g }) (one_width size from to e));
    }
    go false e true =
        let col : min 1 size.wide ≡ 1 = omega (arith, sized.narrow, sized.wide) in
        record { some = at_place 1 1; makes = record { is = rw col refl } }
    go false e false =
        let col : min 1 size.narrow ≡ 1 = omega (arith, sized.narrow) in
        record { some = at_place 1 1; makes = record { is = rw col refl } }

-- the width is set on a wide screen
narrow_leaves : (size : Size) (wide : Bool) (stops : List Bool) (cursor : Cursor) → IsSize size
    → MakesSome (when (not (is_wide size (width_of size wide))) (width_events size false)) (with_stops size true stops cursor)
    (with_stops size wide stops)
narrow_leaves size true stops cursor sized =
    rw (eq-eqb size.wide size.wide refl) (record { some = cursor; makes = none_makes refl })
narrow_leaves size false stops cursor sized = go (eqb size.narrow size.wide) refl
  where
    go : (same : Bool) → eqb size.narrow size.wide ≡ same
        → MakesSome (when (not same) (width_events size false)) (with_stops size true stops cursor)
        (with_stops size false stops)
    go true e = record {
      some = cursor;
      makes = none_makes (ap (λ g. record (with_stops size true stops cursor) { grid = g }) (one_width size true false e));
    }
    go false e = width_leaves size true false stops cursor sized

-- the width is set at power-up
wide_leaves : (size : Size) (wide : Bool) → IsSize size
    → MakesSome (when (is_wide size (width_of size wide)) (width_events size true)) (display_of size)
    (with_stops size wide (stops_of size.wide))
wide_leaves size true sized =
    rw (eq-eqb size.wide size.wide refl) (width_leaves size false true (stops_of size.wide) (at_place 1 1) sized)
wide_leaves size false sized = go (eqb size.narrow size.wide) refl
  where
    go : (same : Bool) → eqb size.narrow size.wide ≡ same
        → MakesSome (when same (width_events size true)) (display_of size) (with_stops size false (stops_of size.wide))
    go true e =
        let w = width_leaves size false true (stops_of size.wide) (at_place 1 1) sized in
        record {
          some = w.some;
          makes = record {
            is = w.makes.is
                ∙ ap (λ g. record (with_stops size true (stops_of size.wide) w.some) { grid = g }) (one_width size true false e);
          };
        }
    go false e = record { some = at_place 1 1; makes = none_makes refl }

pub reset_leaves : (t : Display) → Makes (reset_to_initial_state ∷ []) t (display_of t.grid.size)
unfolding display_after plain_escape_any
reset_leaves t = record { is = refl }

-- the wide screen, without stops
start : (size : Size) (stops : List Bool) (cursor : Cursor)
    → IsMade size stops 1 (display_after (with_stops size true (stops_of size.wide) cursor) (clear_all_tabs ∷ []))
unfolding display_after sequence_in sequences_any with_mode stops_of
start size stops cursor = record {
  made = no_stops size.wide;
  cursor = cursor;
  is = ap (λ n. with_stops size true (no_stops n) cursor) (length-map-range_with_len is_stop_at_power_up 1 size.wide);
  are = none_made size.wide stops;
}

pub stops_leaves : (size : Size) (wide : Bool) (stops : List Bool) → IsSize size → length stops ≡ size.wide
    → MakesSome (stops_item size (width_of size wide) stops) (display_of size) (with_stops size wide stops)
unfolding stops_item made_stops
stops_leaves size wide stops sized long = go (pointwise same_bool stops (stops_of size.wide)) refl
  where
    narrow : List Event
    narrow = when (not (is_wide size (width_of size wide))) (width_events size false)

    go : (b : Bool) → pointwise same_bool stops (stops_of size.wide) ≡ b
        → MakesSome (cond b (when (is_wide size (width_of size wide)) (width_events size true))
        (width_events size true ++ (clear_all_tabs ∷ (stops_from stops 1 size.wide ++ narrow)))) (display_of size)
        (with_stops size wide stops)
    go true e = rw ((pointwise_decides same_bool-decides stops (stops_of size.wide)).0 e) (wide_leaves size wide sized)
    go false e =
        let v = width_leaves size false true (stops_of size.wide) (at_place 1 1) sized in
        let x0 = display_after (with_stops size true (stops_of size.wide) v.some) (clear_all_tabs ∷ []) in
        let w = range_leaves (λ c x. IsMade size stops c x) (λ c. stop_events stops c) size.wide 1 (size.wide + 1) (omega arith)
        (λ c x c1 cw w. stop_leaves size stops c x (omega (arith, sized.rows.0)) c1 (omega arith) w) x0 (start size stops v.some) in
        let n = narrow_leaves size wide stops w.cursor sized in
        let all : Makes (stops_from stops 1 size.wide) x0 (with_stops size true stops w.cursor) =
        record { is = w.is ∙ ap (λ m. with_stops size true m w.cursor) (all_made size.wide stops w.made long w.are) } in
        record {
          some = n.some;
          makes = then_makes v.makes (then_makes {es = clear_all_tabs ∷ []} (record { is = refl }) (then_makes all n.makes));
        }

-- ---- the table of the stops at power-up

table_is : list_all (λ j. same_bool (get_or STOPS_AT_POWER_UP j false) (is_stop_at_power_up (j + 1))) (range_with_len 0 255) ≡ true
table_is = refl

-- its front is that of a narrower screen
pub table_front : (columns : ℕ) → columns ≤ 255 → take columns STOPS_AT_POWER_UP ≡ stops_of columns
unfolding stops_of
table_front columns few =
    let long : length (take columns STOPS_AT_POWER_UP) ≡ columns = length-take-le columns STOPS_AT_POWER_UP few in
    ext_get_or false (take columns STOPS_AT_POWER_UP) (stops_of columns)
    (long ∙ sym (length-map-range_with_len is_stop_at_power_up 1 columns))
    (λ k l.
    let inside : k < columns = omega (arith, l, long) in
    get_or-take columns STOPS_AT_POWER_UP k false inside
    ∙ (same_bool-decides (get_or STOPS_AT_POWER_UP k false) (is_stop_at_power_up (k + 1))).0
    (all_in_range (λ j. same_bool (get_or STOPS_AT_POWER_UP j false) (is_stop_at_power_up (j + 1))) 0 255 k table_is (omega arith)
    (omega arith))
    ∙ sym (get_or-map-range_with_len is_stop_at_power_up 1 columns k (k + 1) false inside (omega arith)))
