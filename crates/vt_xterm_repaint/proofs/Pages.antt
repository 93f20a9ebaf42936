-- A page is made: its width, what is saved on it, its cells.
use Rattle.std.proofs.Common.{◌≡◌, inl, inr, ℕ, zero, suc, ◌+◌, ◌-◌, ◌≤◌, ◌<◌, Bool, true, false, Option, Some, None, List, [], ◌∷◌, ◌++◌, length, min, max, arith, rules, refl, sym, ap, ◌∙◌, subst}
use Rattle.std.specs.Prelude.{nat_le, nat_lt, ◌==◌, ◌⊎◌, not, slice_index_or, if◌then◌else◌}
use Rattle.std.proofs.lemmas.Bool.Decides.{nat_tests, eqb_tells, leb_tells}
use Rattle.vt_syntax.specs.declared.event.Event.{Event}
use Rattle.vt_glyph.specs.declared.set.Set.{Set}
use Rattle.vt_glyph.specs.declared.set.Set.TheVariants.{Ascii, British, German, Special, Supplemental}
use Rattle.vt_glyph.specs.Designation.{set_of_final, final_of}
use Rattle.vt_glyph.specs.GraphicSets.{GraphicSets, AreSoundSets}
use Rattle.vt_glyph.specs.Invocation.{sets_at_power_up, set_at, glyph_read, after_read}
use Rattle.vt_glyph.specs.Tables.{space}
use Rattle.vt_glyph.proofs.Designations.{set_of_final-final_of}
use Rattle.vt_screen.specs.Grid.{grid_of, at_or, put_any, IsGrid}
use Rattle.vt_screen.proofs.Places.{cell_at-grid_of, grid_of-same, IsGrid-grid_of}
use Rattle.vt_wide.specs.Edits.{is_parted, parted_row, written}
use Rattle.vt_wide.proofs.Parting.{parted_else}
use Rattle.vt_screen.specs.Sizes.{width_of}
use Rattle.vt_screen.specs.declared.size.Size.{Size}
use Rattle.vt_screen.specs.Same.{when}
use Rattle.vt_term.specs.declared.state.Cursor.{Cursor}
use Rattle.vt_term.specs.declared.state.SavedOf.{SavedOf}
use Rattle.vt_term.specs.State.{at_place, margins_of, modes_at_power_up, saved_any, saved_sets, saved_of}
use Rattle.vt_term.specs.Functions.{control_any, plain_escape_any, escape_with_any}
use Rattle.vt_feed.specs.Actions.{Action, Function, printed, state_after}
use Rattle.vt_paint.specs.Controls.{cursor_position, private_mode, save_cursor, designation, designation_of, left_event, right_event}
use Rattle.vt_xterm_cell.specs.declared.look.Look.{Look}
use Rattle.vt_xterm_cell.specs.Look.{plain_look}
use Rattle.vt_xterm_cell.specs.Words.{CellParts}
use Rattle.vt_xterm_cell.specs.Cells.{blank_cell, erased_cell}
use Rattle.vt_xterm_cell.specs.Wide.{xterm_wide}
use Rattle.vt_xterm_display.specs.Functions.{xterm, function_in, sequences}
use Rattle.vt_xterm_display.specs.Pages.{with_xterm_mode}
use Rattle.vt_xterm_display.specs.Writing.{write, after_wrap, put_if_room, put}
use Rattle.vt_xterm_display.specs.State.{Grid, PageState, XtermState, xterm_kind, full_sides, settings_at_power_up}
use Rattle.vt_xterm_repaint.specs.Colours.{HasColours}
use Rattle.vt_xterm_repaint.specs.Looks.{look_actions}
use Rattle.vt_xterm_repaint.specs.Cells.{grid_actions}
use Rattle.vt_xterm_repaint.specs.Items.{functions, width_item, set_item, locked_item, sets_item, saved_item, page_item}
use Rattle.vt_xterm_repaint.proofs.Parts.{IsWidth, IsSaved, IsPageOf}
use Rattle.vt_xterm_repaint.proofs.Drawing.{Common, drawn}
use Rattle.vt_xterm_repaint.proofs.Rows.{Shows, after-append, cursor-effect, grid-effect}
use Rattle.vt_xterm_repaint.proofs.Selected.{look-selected}

-- as `drawn`, with other sets, and DECOM
abbrev pub stated : Common → Grid → Cursor → Look → GraphicSets → Bool → XtermState
stated c g cursor look sets origin = record {
  shown = record {
    grid = g;
    cursor = cursor;
    brush = look;
    sets = sets;
    margins = margins_of c.shape.size;
    stops = c.stops;
    modes = record modes_at_power_up { decom = origin };
    saved = c.saved;
  };
  other = c.other;
  sides = full_sides c.shape.width;
  bounded = false;
  waits = false;
  alternate = c.alternate;
  resizes = true;
  settings = settings_at_power_up;
}

-- ---- sets

-- four designations
abbrev pub four : Set → Set → Set → Set → ℕ → ℕ → GraphicSets
four a b d e left right = record { g = a ∷ b ∷ d ∷ e ∷ []; left = left; right = right; pending = None }

list-four : (xs : List Set) → length xs ≡ 4
    → xs ≡ slice_index_or xs 0 Ascii ∷ slice_index_or xs 1 Ascii ∷ slice_index_or xs 2 Ascii ∷ slice_index_or xs 3 Ascii ∷ []
list-four [] is = absurd (omega (arith, is))
list-four (a ∷ []) is = absurd (omega (arith, is))
list-four (a ∷ b ∷ []) is = absurd (omega (arith, is))
list-four (a ∷ b ∷ d ∷ []) is = absurd (omega (arith, is))
list-four (a ∷ b ∷ d ∷ e ∷ []) is = refl
list-four (a ∷ b ∷ d ∷ e ∷ f ∷ xs) is = absurd (omega (arith, is))

sets-four : (sets : GraphicSets) → AreSoundSets sets → sets.pending ≡ None
    → sets ≡ four (set_at sets 0) (set_at sets 1) (set_at sets 2) (set_at sets 3) sets.left sets.right
sets-four sets sound none =
    ap (λ (x : Option ℕ). record sets { pending = x }) none
    ∙ ap (λ (xs : List Set). record { g = xs; left = sets.left; right = sets.right; pending = None }) (list-four sets.g sound.four)

module _ (b : XtermState) where
  abbrev T : GraphicSets → XtermState
  T sets = record b { shown = record b.shown { sets = sets } }

  g0-effect : (a b d e x : Set) (l r : ℕ) → xterm.effect (Function (designation "(" x)) (T (four a b d e l r)) ≡ T (four x b d e l r)
  unfolding function_in escape_with_any
  g0-effect a b d e Ascii l r = refl
  g0-effect a b d e British l r = refl
  g0-effect a b d e German l r = refl
  g0-effect a b d e Special l r = refl
  g0-effect a b d e Supplemental l r = refl

  g1-effect : (a b d e x : Set) (l r : ℕ) → xterm.effect (Function (designation ")" x)) (T (four a b d e l r)) ≡ T (four a x d e l r)
  unfolding function_in escape_with_any
  g1-effect a b d e Ascii l r = refl
  g1-effect a b d e British l r = refl
  g1-effect a b d e German l r = refl
  g1-effect a b d e Special l r = refl
  g1-effect a b d e Supplemental l r = refl

  g2-effect : (a b d e x : Set) (l r : ℕ) → xterm.effect (Function (designation "*" x)) (T (four a b d e l r)) ≡ T (four a b x e l r)
  unfolding function_in escape_with_any
  g2-effect a b d e Ascii l r = refl
  g2-effect a b d e British l r = refl
  g2-effect a b d e German l r = refl
  g2-effect a b d e Special l r = refl
  g2-effect a b d e Supplemental l r = refl

  g3-effect : (a b d e x : Set) (l r : ℕ) → xterm.effect (Function (designation "+" x)) (T (four a b d e l r)) ≡ T (four a b d x l r)
  unfolding function_in escape_with_any
  g3-effect a b d e Ascii l r = refl
  g3-effect a b d e British l r = refl
  g3-effect a b d e German l r = refl
  g3-effect a b d e Special l r = refl
  g3-effect a b d e Supplemental l r = refl

  left-effect : (a b d e : Set) (l r x : ℕ) → x < 4 → xterm.effect (Function (left_event x)) (T (four a b d e l r)) ≡ T (four a b d e x r)
  unfolding function_in control_any plain_escape_any
  left-effect a b d e l r zero few = refl
  left-effect a b d e l r (suc zero) few = refl
  left-effect a b d e l r (suc (suc zero)) few = refl
  left-effect a b d e l r (suc (suc (suc zero))) few = refl
  left-effect a b d e l r (suc (suc (suc (suc x)))) few = absurd (omega (arith, few))

  right-effect : (a b d e : Set) (l r x : ℕ) → 1 ≤ x → x < 4 → xterm.effect (Function (right_event x)) (T (four a b d e l r)) ≡ T (four a b d e l x)
  unfolding function_in control_any plain_escape_any
  right-effect a b d e l r zero some few = absurd (omega (arith, some))
  right-effect a b d e l r (suc zero) some few = refl
  right-effect a b d e l r (suc (suc zero)) some few = refl
  right-effect a b d e l r (suc (suc (suc zero))) some few = refl
  right-effect a b d e l r (suc (suc (suc (suc x)))) some few = absurd (omega (arith, few))

  -- a set, and a locking shift, that is sent if it isn't there
  set-effect : (slot : ℕ) (old new : Set) (F : Set → XtermState)
      → ((set : Set) → xterm.effect (Function (designation_of slot set)) (F old) ≡ F set)
      → state_after xterm (set_item slot old new) (F old) ≡ F new
  set-effect slot old new F sent = elim (eqb_tells (final_of old) (final_of new)) [
    | inl e ↦ rw e.0 (ap F (one old new e.1))
    | inr e ↦ rw e.0 (sent new)
  ]
    where
      one : (a b : Set) → final_of a ≡ final_of b → a ≡ b
      one a b e = let h : Some a ≡ Some b = sym (set_of_final-final_of a) ∙ ap set_of_final e ∙ set_of_final-final_of b in cc

  number-effect : (event : ℕ → Event) (old new : ℕ) (F : ℕ → XtermState) → xterm.effect (Function (event new)) (F old) ≡ F new
      → state_after xterm (when (not (old == new)) (Function (event new) ∷ [])) (F old) ≡ F new
  number-effect event old new F sent = elim (eqb_tells old new) [
    | inl e ↦ rw e.0 (ap F e.1)
    | inr e ↦ rw e.0 sent
  ]

  -- the sets that are wanted
  pub sets-effect : (old new : GraphicSets) → AreSoundSets old → AreSoundSets new → old.pending ≡ None → new.pending ≡ None
      → state_after xterm (sets_item old new) (T old) ≡ T new
  unfolding sets_item
  sets-effect old new sound are none nothing =
      let a : Set = set_at old 0 in
      let b : Set = set_at old 1 in
      let d : Set = set_at old 2 in
      let e : Set = set_at old 3 in
      let u : Set = set_at new 0 in
      let v : Set = set_at new 1 in
      let w : Set = set_at new 2 in
      let y : Set = set_at new 3 in
      let l : ℕ = old.left in
      let r : ℕ = old.right in
      let right = when (not (r == new.right)) (Function (right_event new.right) ∷ []) in
      let locked = locked_item old new in
      let e3 = set_item 3 e y ++ locked in
      let e2 = set_item 2 d w ++ e3 in
      let e1 = set_item 1 b v ++ e2 in
      ap (λ (sets : GraphicSets). state_after xterm (set_item 0 a u ++ e1) (T sets)) (sets-four old sound none)
      ∙ after-append (set_item 0 a u) e1 (T (four a b d e l r))
      ∙ ap (λ (s : XtermState). state_after xterm e1 s) (set-effect 0 a u (λ x. T (four x b d e l r)) (λ x. g0-effect a b d e x l r))
      ∙ after-append (set_item 1 b v) e2 (T (four u b d e l r))
      ∙ ap (λ (s : XtermState). state_after xterm e2 s) (set-effect 1 b v (λ x. T (four u x d e l r)) (λ x. g1-effect u b d e x l r))
      ∙ after-append (set_item 2 d w) e3 (T (four u v d e l r))
      ∙ ap (λ (s : XtermState). state_after xterm e3 s) (set-effect 2 d w (λ x. T (four u v x e l r)) (λ x. g2-effect u v d e x l r))
      ∙ after-append (set_item 3 e y) locked (T (four u v w e l r))
      ∙ ap (λ (s : XtermState). state_after xterm locked s) (set-effect 3 e y (λ x. T (four u v w x l r)) (λ x. g3-effect u v w e x l r))
      ∙ after-append (when (not (l == new.left)) (Function (left_event new.left) ∷ [])) right (T (four u v w y l r))
      ∙ ap (λ (s : XtermState). state_after xterm right s)
      (number-effect left_event l new.left (λ x. T (four u v w y x r)) (left-effect u v w y l r new.left are.left))
      ∙ number-effect right_event r new.right (λ x. T (four u v w y new.left x)) (right-effect u v w y new.left r new.right are.right.0 are.right.1)
      ∙ ap T (sym (sets-four new are nothing))

-- ---- the width

-- a page of this width, blank
abbrev pub blank_of : Size → ℕ → Grid
blank_of size width = grid_of size width (λ r k. blank_cell)

-- what is saved at power-up
abbrev pub none_saved : SavedOf Look
none_saved = saved_any xterm_kind

pub width-chosen : (size : Size) (width : ℕ) → IsWidth size width → width_of size (width == size.wide) ≡ width
width-chosen size width is = elim (eqb_tells width size.wide) [
  | inl e ↦ rw e.0 (sym e.1)
  | inr e ↦ rw e.0 (go is.either e.1)
]
  where
    go : (width ≡ size.narrow) ⊎ (width ≡ size.wide) → (width ≡ size.wide → ⊥) → size.narrow ≡ width
    go (inl h) n = sym h
    go (inr h) n = absurd (n h)

-- the screen as at power-up, with a page of some width
abbrev pub begun : List Bool → PageState → Bool → Size → ℕ → XtermState
begun stops other alternate size width = record {
  shown = record {
    grid = blank_of size width;
    cursor = at_place 1 1;
    brush = plain_look;
    sets = sets_at_power_up;
    margins = margins_of size;
    stops = stops;
    modes = modes_at_power_up;
    saved = none_saved;
  };
  other = other;
  sides = full_sides width;
  bounded = false;
  waits = false;
  alternate = alternate;
  resizes = true;
  settings = settings_at_power_up;
}

pub width-effect : (stops : List Bool) (other : PageState) (alternate : Bool) (size : Size) (old width : ℕ) → IsWidth size old → IsWidth size width
    → state_after xterm (width_item size (width == size.wide)) (begun stops other alternate size old) ≡ begun stops other alternate size width
unfolding function_in sequences with_xterm_mode
width-effect stops other alternate size old width was is = go (size.narrow == size.wide) refl
  where
    one : (w : ℕ) → IsWidth size w → size.narrow ≡ size.wide → w ≡ size.narrow
    one w i same = by i.either
      where
        by : (w ≡ size.narrow) ⊎ (w ≡ size.wide) → w ≡ size.narrow
        by (inl h) = h
        by (inr h) = h ∙ sym same

    columns : (wide : Bool) → 1 ≤ width_of size wide
        → xterm.effect (Function (private_mode 3 wide)) (begun stops other alternate size old) ≡ begun stops other alternate size (width_of size wide)
    columns true some =
        let col : min 1 size.wide ≡ 1 = omega (arith, some) in
        rw col refl
    columns false some =
        let col : min 1 size.narrow ≡ 1 = omega (arith, some) in
        rw col refl

    go : (same : Bool) → (size.narrow == size.wide) ≡ same
        → state_after xterm (when (not (size.narrow == size.wide)) (Function (private_mode 3 (width == size.wide)) ∷ [])) (begun stops other alternate size old)
        ≡ begun stops other alternate size width
    go true same =
        let equal : size.narrow ≡ size.wide = grind (arith, nat_tests, same) in
        rw same (ap (begun stops other alternate size) (one old was equal ∙ sym (one width is equal)))
    go false same = rw same (columns (width == size.wide) (subst (λ (w : ℕ). 1 ≤ w) (sym (width-chosen size width is)) is.some)
        ∙ ap (begun stops other alternate size) (width-chosen size width is))

-- ---- what is saved

module _ (size : Size) (width : ℕ) (grid : IsGrid (blank_of size width)) where
  blank_at : (r k : ℕ) → 1 ≤ r → r ≤ size.rows → 1 ≤ k → k ≤ width → at_or blank_cell (blank_of size width) r k ≡ blank_cell
  blank_at r k r1 rh k1 kw = cell_at-grid_of blank_cell size width (λ r k. blank_cell) r k r1 rh k1 kw

  blank_put : (row col : ℕ) → put_any blank_cell (blank_of size width) row col blank_cell ≡ blank_of size width
  blank_put row col = grid_of-same size width _ _ (λ r k r1 rh k1 kw. elim (eqb_tells r row) [
    | inl e ↦ elim (eqb_tells k col) [
      | inl f ↦ rw (e.0, f.0) refl
      | inr f ↦ rw (e.0, f.0) (ap (λ x. at_or blank_cell (blank_of size width) x k) (sym e.1) ∙ blank_at r k r1 rh k1 kw)
    ]
    | inr e ↦ rw e.0 (blank_at r k r1 rh k1 kw)
  ])

  blank_parted : (e : CellParts) (row col : ℕ) → 1 ≤ row → row ≤ size.rows
      → parted_row xterm_wide blank_cell (λ x. e) (blank_of size width) row col ≡ blank_of size width
  blank_parted e row col r1 rh = sym (parted_else xterm_wide blank_cell (λ x. e) (blank_of size width) row col none grid)
    where
      none : is_parted xterm_wide blank_cell (blank_of size width) row col ≡ false
      none = elim (leb_tells 2 col) [
        | inr a ↦ rw a.0 refl
        | inl a ↦ elim (leb_tells col width) [
          | inr b ↦ rw (a.0, b.0) refl
          | inl b ↦ rw (a.0, b.0, blank_at row col r1 rh (omega (arith, a.1)) b.1) refl
        ]
      ]

  blank_written : (e : CellParts) (row col : ℕ) → 1 ≤ row → row ≤ size.rows
      → written xterm_wide blank_cell e (blank_of size width) row col blank_cell ≡ blank_of size width
  blank_written e row col r1 rh =
      ap (λ (g : Grid). put_any blank_cell (parted_row xterm_wide blank_cell (λ x. e) g row (col + 1)) row col blank_cell) (blank_parted e row col r1 rh)
      ∙ ap (λ (g : Grid). put_any blank_cell g row col blank_cell) (blank_parted e row (col + 1) r1 rh)
      ∙ blank_put row col

module _ (c : Common) (grid : IsGrid (blank_of c.shape.size c.shape.width)) where
  abbrev E : Grid
  E = blank_of c.shape.size c.shape.width

  origin-effect : (p : Cursor) (look : Look) (sets : GraphicSets) (was on : Bool)
      → xterm.effect (Function (private_mode 6 on)) (stated c E p look sets was) ≡ stated c E (at_place 1 1) look sets on
  unfolding function_in sequences with_xterm_mode
  origin-effect p look sets was true = refl
  origin-effect p look sets was false = refl

  place-effect : (p : Cursor) (look : Look) (sets : GraphicSets) (origin : Bool) (line col : ℕ) → 1 ≤ line → line ≤ c.shape.size.rows
      → 1 ≤ col → col ≤ c.shape.width
      → xterm.effect (Function (cursor_position line col)) (stated c E p look sets origin) ≡ stated c E (at_place line col) look sets origin
  unfolding function_in sequences
  place-effect p look sets true line col l1 lh c1 cw =
      let row : min (1 + max line 1 - 1) c.shape.size.rows ≡ line = omega (arith, l1, lh) in
      let column : min (1 + max col 1 - 1) c.shape.width ≡ col = omega (arith, c1, cw) in
      ap (λ (x : ℕ). stated c E (at_place x (min (1 + max col 1 - 1) c.shape.width)) look sets true) row
      ∙ ap (λ (x : ℕ). stated c E (at_place line x) look sets true) column
  place-effect p look sets false line col l1 lh c1 cw =
      let row : min (max line 1) c.shape.size.rows ≡ line = omega (arith, l1, lh) in
      let column : min (max col 1) c.shape.width ≡ col = omega (arith, c1, cw) in
      ap (λ (x : ℕ). stated c E (at_place x (min (max col 1) c.shape.width)) look sets false) row
      ∙ ap (λ (x : ℕ). stated c E (at_place line x) look sets false) column

  -- a space at the end of a row of a blank page makes a wrap pending, and leaves the page blank
  space-effect : (row col : ℕ) (origin : Bool) → 1 ≤ row → row ≤ c.shape.size.rows → 1 ≤ col → col ≡ c.shape.width
      → xterm.effect (printed space) (stated c E (at_place row col) plain_look sets_at_power_up origin)
      ≡ stated c E (record { row = row; col = col; wrap = true }) plain_look sets_at_power_up origin
  unfolding glyph_read after_read write after_wrap put_if_room put
  space-effect row col origin r1 rh c1 last =
      let inside : nat_le col c.shape.width ≡ true = grind (arith, nat_tests, last) in
      let one : nat_le 1 (c.shape.width - col + 1) ≡ true = grind (arith, nat_tests) in
      let past : nat_le (col + 1) c.shape.width ≡ false = grind (arith, nat_tests, last) in
      let same : (c.shape.width == c.shape.width) ≡ true = grind (arith, nat_tests) in
      let after : nat_lt c.shape.width c.shape.width ≡ false = grind (arith, nat_tests) in
      rw (inside, one, past, same, after)
      (ap (λ (g : Grid). stated c g (record { row = row; col = c.shape.width; wrap = true }) plain_look sets_at_power_up origin)
      (blank_written c.shape.size c.shape.width grid (erased_cell plain_look) row col r1 rh)
      ∙ ap (λ (x : ℕ). stated c E (record { row = row; col = x; wrap = true }) plain_look sets_at_power_up origin) (sym last))

  save-effect : (p : Cursor) (look : Look) (sets : GraphicSets) (origin : Bool)
      → xterm.effect (Function save_cursor) (stated c E p look sets origin)
      ≡ stated (record c { saved = saved_of p look sets origin }) E p look sets origin
  unfolding function_in plain_escape_any
  save-effect p look sets origin = refl

power_up_sound : AreSoundSets sets_at_power_up
power_up_sound = record { four = refl; left = omega arith; right = (omega arith, omega arith); pending = search rules }

module _ (c : Common) (grid : IsGrid (blank_of c.shape.size c.shape.width)) (saved : SavedOf Look)
    (is : IsSaved c.shape.size c.shape.width saved) where
  abbrev F : Grid
  F = blank_of c.shape.size c.shape.width

  abbrev U : Cursor → Look → GraphicSets → Bool → XtermState
  U = stated c F

  -- with it saved
  abbrev d : Common
  d = record c { saved = saved }

  abbrev there : Cursor
  there = record { row = saved.row; col = saved.col; wrap = saved.wrap }

  originated : (p : Cursor) (on : Bool)
      → state_after xterm (when on (functions (private_mode 6 true ∷ []))) (U p plain_look sets_at_power_up false)
      ≡ U (if on then at_place 1 1 else p) plain_look sets_at_power_up on
  originated p true = origin-effect c grid p plain_look sets_at_power_up false true
  originated p false = refl

  wrapped : (on : Bool) → saved.wrap ≡ on
      → state_after xterm (when on (printed space ∷ [])) (U (at_place saved.row saved.col) plain_look sets_at_power_up saved.origin)
      ≡ U (record { row = saved.row; col = saved.col; wrap = on }) plain_look sets_at_power_up saved.origin
  wrapped true wraps = space-effect c grid saved.row saved.col saved.origin is.place.row_1 is.place.row_last is.place.col_1 (is.place.wrap_last wraps)
  wrapped false wraps = refl

  ended : (on : Bool)
      → state_after xterm (when on (functions (private_mode 6 false ∷ []))) (stated d F there saved.brush (saved_sets saved) on)
      ≡ stated d F (if on then at_place 1 1 else there) saved.brush (saved_sets saved) false
  ended true = origin-effect d grid there saved.brush (saved_sets saved) true false
  ended false = refl

  pub saved-effect : (p : Cursor)
      → state_after xterm (saved_item saved) (U p plain_look sets_at_power_up false)
      ≡ stated d F (if saved.origin then at_place 1 1 else there) saved.brush (saved_sets saved) false
  unfolding saved_item
  saved-effect p =
      let o = saved.origin in
      let first = when o (functions (private_mode 6 true ∷ [])) in
      let last = when o (functions (private_mode 6 false ∷ [])) in
      let e = Function save_cursor ∷ last in
      let sets = sets_item sets_at_power_up (saved_sets saved) in
      let q : Cursor = if o then at_place 1 1 else p in
      after-append first (Function (cursor_position saved.row saved.col) ∷ (when saved.wrap (printed space ∷ []) ++ (look_actions saved.brush ++ (sets ++ e))))
      (U p plain_look sets_at_power_up false)
      ∙ ap (λ (s : XtermState). state_after xterm (Function (cursor_position saved.row saved.col) ∷ (when saved.wrap (printed space ∷ []) ++ (look_actions saved.brush ++ (sets ++ e)))) s)
      (originated p o)
      ∙ ap (λ (s : XtermState). state_after xterm (when saved.wrap (printed space ∷ []) ++ (look_actions saved.brush ++ (sets ++ e))) s)
      (place-effect c grid q plain_look sets_at_power_up o saved.row saved.col is.place.row_1 is.place.row_last is.place.col_1 is.place.col_last)
      ∙ after-append (when saved.wrap (printed space ∷ [])) (look_actions saved.brush ++ (sets ++ e)) (U (at_place saved.row saved.col) plain_look sets_at_power_up o)
      ∙ ap (λ (s : XtermState). state_after xterm (look_actions saved.brush ++ (sets ++ e)) s) (wrapped saved.wrap refl)
      ∙ after-append (look_actions saved.brush) (sets ++ e) (U there plain_look sets_at_power_up o)
      ∙ ap (λ (s : XtermState). state_after xterm (sets ++ e) s) (look-selected saved.brush (U there plain_look sets_at_power_up o) is.colours)
      ∙ after-append sets e (U there saved.brush sets_at_power_up o)
      ∙ ap (λ (s : XtermState). state_after xterm e s) (sets-effect (U there saved.brush sets_at_power_up o) sets_at_power_up (saved_sets saved) power_up_sound is.sets refl refl)
      ∙ ap (λ (s : XtermState). state_after xterm last s) (save-effect c grid there saved.brush (saved_sets saved) o)
      ∙ ended o

-- ---- the whole page

plain_has : HasColours plain_look
plain_has = record { foreground = tt; background = tt }

-- a screen with this page, and all else as at power-up
abbrev pub with_page : List Bool → PageState → Bool → PageState → XtermState
with_page stops other alternate page =
    drawn (record { shape = page.grid; stops = stops; saved = page.saved; other = other; alternate = alternate }) page.grid (at_place 1 1) plain_look

module _ (stops : List Bool) (other : PageState) (alternate : Bool) (page : PageState) (is : IsPageOf page) where
  abbrev C : SavedOf Look → Common
  C saved = record { shape = page.grid; stops = stops; saved = saved; other = other; alternate = alternate }

  abbrev V : Grid
  V = blank_of page.grid.size page.grid.width

  blank_grid : IsGrid V
  blank_grid = IsGrid-grid_of page.grid.size page.grid.width (λ r k. blank_cell) is.cells.grid.size is.cells.grid.width

  finished : (s : XtermState) → Shows (C page.saved) page.grid s
      → state_after xterm (look_actions plain_look ++ Function (cursor_position 1 1) ∷ []) s ≡ with_page stops other alternate page
  finished s shows =
      ap (λ (x : XtermState). state_after xterm (look_actions plain_look ++ Function (cursor_position 1 1) ∷ []) x) shows.is
      ∙ after-append (look_actions plain_look) (Function (cursor_position 1 1) ∷ []) (drawn (C page.saved) page.grid shows.cursor shows.look)
      ∙ ap (λ (x : XtermState). xterm.effect (Function (cursor_position 1 1)) x)
      (look-selected plain_look (drawn (C page.saved) page.grid shows.cursor shows.look) plain_has)
      ∙ cursor-effect (C page.saved) page.grid shows.cursor plain_look 1 1 refl refl (omega arith)
      (omega (arith, is.cells.grid.size.rows.0)) (omega arith) is.width.some

  pub page-effect : (old : ℕ) → IsWidth page.grid.size old
      → state_after xterm (page_item page) (begun stops other alternate page.grid.size old) ≡ with_page stops other alternate page
  unfolding page_item
  page-effect old was =
      let size = page.grid.size in
      let width = width_item size (page.grid.width == size.wide) in
      let reset = sets_item (saved_sets page.saved) sets_at_power_up in
      let end = look_actions plain_look ++ Function (cursor_position 1 1) ∷ [] in
      let p : Cursor = if page.saved.origin then at_place 1 1 else record { row = page.saved.row; col = page.saved.col; wrap = page.saved.wrap } in
      after-append width (saved_item page.saved ++ (reset ++ (grid_actions page.grid ++ end))) (begun stops other alternate size old)
      ∙ ap (λ (s : XtermState). state_after xterm (saved_item page.saved ++ (reset ++ (grid_actions page.grid ++ end))) s)
      (width-effect stops other alternate size old page.grid.width was is.width)
      ∙ after-append (saved_item page.saved) (reset ++ (grid_actions page.grid ++ end)) (begun stops other alternate size page.grid.width)
      ∙ ap (λ (s : XtermState). state_after xterm (reset ++ (grid_actions page.grid ++ end)) s)
      (saved-effect (C none_saved) blank_grid page.saved is.saved (at_place 1 1))
      ∙ after-append reset (grid_actions page.grid ++ end) (stated (C page.saved) V p page.saved.brush (saved_sets page.saved) false)
      ∙ ap (λ (s : XtermState). state_after xterm (grid_actions page.grid ++ end) s)
      (sets-effect (stated (C page.saved) V p page.saved.brush sets_at_power_up false) (saved_sets page.saved) sets_at_power_up is.saved.sets power_up_sound refl refl)
      ∙ after-append (grid_actions page.grid) end (drawn (C page.saved) V p page.saved.brush)
      ∙ finished _ (grid-effect (C page.saved) is.cells is.width.some p page.saved.brush)
