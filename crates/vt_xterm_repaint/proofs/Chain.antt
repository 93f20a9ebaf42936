-- The tab stops and both pages are made.
use Rattle.std.proofs.Common.{◌≡◌, inl, inr, ℕ, zero, suc, ◌+◌, ◌-◌, ◌≤◌, ◌<◌, Bool, true, false, List, [], ◌∷◌, ◌++◌, length, min, arith, refl, sym, ap, ◌∙◌, subst}
use Rattle.std.proofs.Common.{get_or, set, get_or-set_same, get_or-set_other}
use Rattle.std.specs.Prelude.{◌==◌, not, if◌then◌else◌}
use Rattle.std.specs.List.{range_with_len, flat_map}
use Rattle.std.proofs.lemmas.Bool.Decides.{nat_tests, eqb_tells}
use Rattle.std.proofs.lemmas.List.{ext_get_or}
use Rattle.std.proofs.lemmas.List.FromFn.{get_or-map-range_with_len, length-map-range_with_len}
use Rattle.std.proofs.Math.ListN.{length-set}
use Rattle.vt_screen.specs.Sizes.{width_of}
use Rattle.vt_screen.specs.declared.size.Size.{Size}
use Rattle.vt_screen.specs.Same.{when}
use Rattle.vt_term.specs.declared.state.Cursor.{Cursor}
use Rattle.vt_term.specs.State.{at_place, stops_of}
use Rattle.vt_term.specs.Tabs.{no_stops}
use Rattle.vt_term.specs.Functions.{control_any, sequences_any, sequence_in}
use Rattle.vt_feed.specs.Actions.{Function, state_after}
use Rattle.vt_paint.specs.Controls.{cursor_position, private_mode, clear_all_tabs, set_tab}
use Rattle.vt_xterm_cell.specs.Look.{plain_look}
use Rattle.vt_xterm_display.specs.Functions.{xterm, function_in, sequences}
use Rattle.vt_xterm_display.specs.Pages.{with_xterm_mode, fitted}
use Rattle.vt_xterm_display.specs.State.{Grid, PageState, XtermState, blank_page}
use Rattle.vt_xterm_repaint.specs.Items.{functions, width_item, stop_item, stops_item, page_item}
use Rattle.vt_xterm_repaint.specs.Repaint.{page_shown, pages_actions}
use Rattle.vt_xterm_repaint.proofs.Parts.{IsWidth, ArePages}
use Rattle.vt_xterm_repaint.proofs.Drawing.{drawn}
use Rattle.vt_xterm_repaint.proofs.Rows.{after-append, cursor-effect}
use Rattle.vt_xterm_repaint.proofs.Pages.{blank_of, none_saved, begun, with_page, width-chosen, width-effect, page-effect}

-- the stops of the columns before c are made
record AreMade (columns : ℕ) (stops made : List Bool) (c : ℕ) : Type 0 where
  len : length made ≡ columns
  before : (j : ℕ) → j + 1 < c → get_or made j false ≡ get_or stops j false
  after : (j : ℕ) → c ≤ j + 1 → j < columns → get_or made j false ≡ false

none_made : (columns : ℕ) (stops : List Bool) → AreMade columns stops (no_stops columns) 1
unfolding no_stops
none_made columns stops = record {
  len = length-map-range_with_len (λ c. false) 1 columns;
  before = λ j h. absurd (omega arith);
  after = λ j h l. get_or-map-range_with_len (λ c. false) 1 columns j (1 + j) false l refl;
}

all_made : (columns : ℕ) (stops made : List Bool) → length stops ≡ columns → AreMade columns stops made (columns + 1)
    → made ≡ stops
all_made columns stops made long h =
    ext_get_or false made stops (omega (arith, h.len, long)) (λ k l. h.before k (omega (arith, h.len)))

more_made : (columns : ℕ) (stops made : List Bool) (c : ℕ) → 1 ≤ c → c ≤ columns → get_or stops (c - 1) false ≡ true
    → AreMade columns stops made c
    → AreMade columns stops (set made (c - 1) true) (c + 1)
more_made columns stops made c c1 cw is h = record {
  len = length-set made (c - 1) true ∙ h.len;
  before = λ j b. elim (eqb_tells j (c - 1)) [
    | inl e ↦ rw e.1 (get_or-set_same made (c - 1) true false (omega (arith, h.len)) ∙ sym is)
    | inr e ↦ get_or-set_other made (c - 1) j true false e.1 ∙ h.before j (omega (arith, e))
  ];
  after = λ j a b. get_or-set_other made (c - 1) j true false (λ e. omega arith) ∙ h.after j (omega arith) b;
}

skip_made : (columns : ℕ) (stops made : List Bool) (c : ℕ) → 1 ≤ c → c ≤ columns → get_or stops (c - 1) false ≡ false
    → AreMade columns stops made c
    → AreMade columns stops made (c + 1)
skip_made columns stops made c c1 cw is h = record {
  len = h.len;
  before = λ j b. elim (eqb_tells j (c - 1)) [
    | inl e ↦ rw e.1 (h.after (c - 1) (omega arith) (omega arith) ∙ sym is)
    | inr e ↦ h.before j (omega (arith, e))
  ];
  after = λ j a b. h.after j (omega arith) b;
}

-- ---- stops

module _ (other : PageState) (alternate : Bool) (size : Size) (rows : 1 ≤ size.rows) (wide : IsWidth size size.wide) (thin : IsWidth size size.narrow) where
  abbrev G : Grid
  G = blank_of size size.wide

  abbrev D : List Bool → Cursor → XtermState
  D stops cursor = drawn (record { shape = G; stops = stops; saved = none_saved; other = other; alternate = alternate }) G cursor plain_look

  clear-effect : (stops : List Bool) → xterm.effect (Function clear_all_tabs) (D stops (at_place 1 1)) ≡ D (no_stops (length stops)) (at_place 1 1)
  unfolding function_in sequences sequences_any sequence_in
  clear-effect stops = refl

  tab-effect : (stops : List Bool) (row col : ℕ) → xterm.effect (Function set_tab) (D stops (at_place row col)) ≡ D (set stops (col - 1) true) (at_place row col)
  unfolding function_in control_any
  tab-effect stops row col = refl

  to-effect : (stops : List Bool) (p : Cursor) (col : ℕ) → 1 ≤ col → col ≤ size.wide
      → xterm.effect (Function (cursor_position 1 col)) (D stops p) ≡ D stops (at_place 1 col)
  to-effect stops p col c1 cw =
      cursor-effect (record { shape = G; stops = stops; saved = none_saved; other = other; alternate = alternate }) G p plain_look 1 col refl refl (omega arith) rows c1 cw

  record IsMade (stops : List Bool) (c : ℕ) (x : XtermState) : Type 0 where
    made : List Bool
    cursor : Cursor
    is : x ≡ D made cursor
    are : AreMade size.wide stops made c

  stop-effect : (stops : List Bool) (c : ℕ) (x : XtermState) → 1 ≤ c → c ≤ size.wide → IsMade stops c x
      → IsMade stops (c + 1) (state_after xterm (stop_item stops c) x)
  stop-effect stops c x c1 cw w = go (get_or stops (c - 1) false) refl
    where
      go : (b : Bool) → get_or stops (c - 1) false ≡ b
          → IsMade stops (c + 1) (state_after xterm (when b (functions (cursor_position 1 c ∷ set_tab ∷ []))) x)
      go true e = record {
        made = set w.made (c - 1) true;
        cursor = at_place 1 c;
        is = ap (λ (y : XtermState). state_after xterm (functions (cursor_position 1 c ∷ set_tab ∷ [])) y) w.is
            ∙ ap (λ (y : XtermState). xterm.effect (Function set_tab) y) (to-effect w.made w.cursor c c1 cw)
            ∙ tab-effect w.made 1 c;
        are = more_made size.wide stops w.made c c1 cw e w.are;
      }
      go false e = record { made = w.made; cursor = w.cursor; is = w.is; are = skip_made size.wide stops w.made c c1 cw e w.are }

  all-effect : (stops : List Bool) (n c : ℕ) (x : XtermState) → 1 ≤ c → c + n ≡ size.wide + 1 → IsMade stops c x
      → IsMade stops (size.wide + 1) (state_after xterm (flat_map (stop_item stops) (range_with_len c n)) x)
  all-effect stops zero c x c1 end w = subst (λ (k : ℕ). IsMade stops k x) (omega (arith, end)) w
  all-effect stops (suc n) c x c1 end w =
      subst (λ (y : XtermState). IsMade stops (size.wide + 1) y) (sym (after-append (stop_item stops c) (flat_map (stop_item stops) (range_with_len (c + 1) n)) x))
      (all-effect stops n (c + 1) (state_after xterm (stop_item stops c) x) (omega arith) (omega (arith, end))
      (stop-effect stops c x c1 (omega (arith, end)) w))

  pub stops-effect : (old stops : List Bool) → length old ≡ size.wide → length stops ≡ size.wide
      → state_after xterm (stops_item size stops) (begun old other alternate size size.narrow) ≡ begun stops other alternate size size.wide
  unfolding stops_item
  stops-effect old stops was long =
      let each = flat_map (stop_item stops) (range_with_len 1 size.wide) in
      let home = Function (cursor_position 1 1) ∷ [] in
      let made = all-effect stops size.wide 1 (D (no_stops size.wide) (at_place 1 1)) (omega arith) (omega arith)
      (record { made = no_stops size.wide; cursor = at_place 1 1; is = refl; are = none_made size.wide stops }) in
      after-append (width_item size true) (Function clear_all_tabs ∷ (each ++ home)) (begun old other alternate size size.narrow)
      ∙ ap (λ (s : XtermState). state_after xterm (Function clear_all_tabs ∷ (each ++ home)) s)
      (subst (λ (w : Bool). state_after xterm (width_item size w) (begun old other alternate size size.narrow) ≡ begun old other alternate size size.wide)
      same (width-effect old other alternate size size.narrow size.wide thin wide))
      ∙ ap (λ (s : XtermState). state_after xterm (each ++ home) s) (clear-effect old ∙ ap (λ (n : ℕ). D (no_stops n) (at_place 1 1)) was)
      ∙ after-append each home (D (no_stops size.wide) (at_place 1 1))
      ∙ ap (λ (s : XtermState). xterm.effect (Function (cursor_position 1 1)) s) made.is
      ∙ to-effect made.made made.cursor 1 (omega arith) wide.some
      ∙ ap (λ (xs : List Bool). D xs (at_place 1 1)) (all_made size.wide stops made.made long made.are)
    where
      same : (size.wide == size.wide) ≡ true
      same = grind (arith, nat_tests)

-- ---- both pages

blank-fitted : (size : Size) (width old : ℕ) → IsWidth size width → IsWidth size old
    → fitted width (record { grid = blank_of size old; saved = none_saved }) ≡ record { grid = blank_of size width; saved = none_saved }
blank-fitted size width old is was = elim (eqb_tells old width) [
  | inl e ↦ rw e.0 (ap (λ (w : ℕ). record { grid = blank_of size w; saved = none_saved }) e.1)
  | inr e ↦
      let same = width-chosen size width is in
      let some : 1 ≤ width_of size (width == size.wide) = subst (λ (w : ℕ). 1 ≤ w) (sym same) is.some in
      let col : min 1 (width_of size (width == size.wide)) ≡ 1 = omega (arith, some) in
      rw (e.0, col) (ap (λ (w : ℕ). record { grid = blank_of size w; saved = none_saved }) same)
]

begun-exchanged : (stops : List Bool) (size : Size) (old width : ℕ) → IsWidth size width → IsWidth size old
    → xterm.effect (Function (private_mode 47 true)) (begun stops (record { grid = blank_of size old; saved = none_saved }) false size width)
    ≡ begun stops (record { grid = blank_of size width; saved = none_saved }) true size width
unfolding function_in sequences with_xterm_mode
begun-exchanged stops size old width is was =
    rw (blank-fitted size width old is was) refl

begun-stays : (stops : List Bool) (other : PageState) (size : Size) (width : ℕ)
    → xterm.effect (Function (private_mode 47 false)) (begun stops other false size width) ≡ begun stops other false size width
unfolding function_in sequences with_xterm_mode
begun-stays stops other size width = refl

page-exchanged : (to : Bool) (stops : List Bool) (page : PageState) (old : ℕ) → IsWidth page.grid.size page.grid.width → IsWidth page.grid.size old
    → xterm.effect (Function (private_mode 47 to)) (with_page stops (record { grid = blank_of page.grid.size old; saved = none_saved }) (not to) page)
    ≡ begun stops page to page.grid.size page.grid.width
unfolding function_in sequences with_xterm_mode
page-exchanged true stops page old is was = rw (blank-fitted page.grid.size page.grid.width old is was) refl
page-exchanged false stops page old is was = rw (blank-fitted page.grid.size page.grid.width old is was) refl

abbrev blank_with : Size → ℕ → PageState
blank_with size width = record { grid = blank_of size width; saved = none_saved }

-- the widths of the page that isn't there yet
abbrev first_width : Bool → Size → ℕ
first_width alternate size = if alternate then size.narrow else size.wide

first-exchanged : (alternate : Bool) (stops : List Bool) (size : Size) → IsWidth size size.wide → IsWidth size size.narrow
    → xterm.effect (Function (private_mode 47 (not alternate))) (begun stops (blank_page size) false size size.wide)
    ≡ begun stops (blank_with size (first_width alternate size)) (not alternate) size size.wide
first-exchanged true stops size wide thin = begun-stays stops (blank_page size) size size.wide
first-exchanged false stops size wide thin = begun-exchanged stops size size.narrow size.wide wide thin

first-is : (alternate : Bool) (size : Size) → IsWidth size size.wide → IsWidth size size.narrow → IsWidth size (first_width alternate size)
first-is true size wide thin = thin
first-is false size wide thin = wide

pub pages-effect : (s : XtermState) → ArePages s → length (stops_of s.shown.grid.size.wide) ≡ s.shown.grid.size.wide
    → state_after xterm (pages_actions s) (begun (stops_of s.shown.grid.size.wide) (blank_page s.shown.grid.size) false s.shown.grid.size s.shown.grid.size.narrow)
    ≡ with_page s.shown.stops s.other s.alternate (page_shown s)
unfolding pages_actions
pages-effect s are long =
    let a = s.alternate in
    let size = s.shown.grid.size in
    let stops = s.shown.stops in
    let other = s.other in
    let z = other.grid.size in
    let same : z ≡ size = are.one_size in
    let wide : IsWidth z z.wide = subst (λ (y : Size). IsWidth y y.wide) (sym same) are.wide in
    let thin : IsWidth z z.narrow = subst (λ (y : Size). IsWidth y y.narrow) (sym same) are.narrow in
    let last = Function (private_mode 47 a) ∷ page_item (page_shown s) in
    let second = Function (private_mode 47 (not a)) ∷ (page_item other ++ last) in
    let w : ℕ = first_width a z in
    after-append (stops_item size stops) second (begun (stops_of size.wide) (blank_page size) false size size.narrow)
    ∙ ap (λ (x : XtermState). state_after xterm second x)
    (stops-effect (blank_page size) false size are.rows are.wide are.narrow (stops_of size.wide) stops long are.stops
    ∙ ap (λ (y : Size). begun stops (blank_page y) false y y.wide) (sym same))
    ∙ ap (λ (x : XtermState). state_after xterm (page_item other ++ last) x) (first-exchanged a stops z wide thin)
    ∙ after-append (page_item other) last (begun stops (blank_with z w) (not a) z z.wide)
    ∙ ap (λ (x : XtermState). state_after xterm last x) (page-effect stops (blank_with z w) (not a) other are.other z.wide wide)
    ∙ ap (λ (x : XtermState). state_after xterm (page_item (page_shown s)) x)
    (page-exchanged a stops other w are.other.width (first-is a z wide thin) ∙ ap (λ (y : Size). begun stops other a y other.grid.width) same)
    ∙ page-effect stops other a (page_shown s) are.shown other.grid.width (subst (λ (y : Size). IsWidth y other.grid.width) same are.other.width)
