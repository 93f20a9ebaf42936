-- The rows of a page are written one after another.
use Rattle.std.proofs.Common.{◌≡◌, inl, inr, ℕ, zero, suc, ◌+◌, ◌≤◌, ◌<◌, Bool, true, false, List, [], ◌∷◌, ◌++◌, map, length, min, max, arith, refl, sym, ap, ◌∙◌, subst}
use Rattle.std.specs.Prelude.{nat_le, ◌==◌, ◌&&◌, ◌||◌, not, if◌then◌else◌}
use Rattle.std.specs.List.{range_with_len, flat_map}
use Rattle.std.proofs.lemmas.Bool.{false≢true}
use Rattle.std.proofs.lemmas.Bool.Decides.{nat_tests, eqb_tells, leb_tells}
use Rattle.vt_glyph.specs.Tables.{space}
use Rattle.vt_screen.specs.Grid.{at_or, row_or, is_within, grid_of}
use Rattle.vt_screen.specs.Same.{same_bool, when}
use Rattle.vt_term.specs.declared.state.Cursor.{Cursor}
use Rattle.vt_term.specs.State.{at_place}
use Rattle.vt_term.specs.Functions.{byte, sequences_any, sequence_in}
use Rattle.vt_xterm_cell.specs.Rendition.{rendered}
use Rattle.vt_feed.specs.Actions.{Action, Function, state_after}
use Rattle.vt_paint.specs.Controls.{sequence_of, protection_to, cursor_position}
use Rattle.vt_wide.specs.Edits.{columns}
use Rattle.vt_wide.specs.Whole.{beside, Fit}
use Rattle.vt_xterm_cell.specs.declared.look.Colour.{Colour}
use Rattle.vt_xterm_cell.specs.declared.look.Colour.TheVariants.{Default, Indexed, Rgb}
use Rattle.vt_xterm_cell.specs.declared.look.Attributes.{Attributes}
use Rattle.vt_xterm_cell.specs.declared.look.Look.{Look}
use Rattle.vt_xterm_cell.specs.Look.{plain_look}
use Rattle.vt_xterm_cell.specs.Words.{CellParts}
use Rattle.vt_xterm_cell.specs.Cells.{blank_cell, second_cell, is_second}
use Rattle.vt_xterm_cell.specs.Characters.{is_shown, has_columns, are_marks}
use Rattle.vt_xterm_cell.specs.Wide.{xterm_wide}
use Rattle.vt_xterm_display.specs.Functions.{xterm, function_in, sequences}
use Rattle.vt_xterm_display.specs.State.{Grid, XtermState}
use Rattle.vt_xterm_repaint.specs.Looks.{look_actions, both_colours, attribute_values, same_colour, same_attributes, same_look}
use Rattle.vt_xterm_repaint.specs.Colours.{HasColours}
use Rattle.vt_xterm_repaint.specs.Cells.{is_blank, glyph_actions, cell_actions, are_blank, cells_actions, row_actions, grid_actions}
use Rattle.vt_xterm_repaint.specs.Painted.{painted, placed}
use Rattle.vt_xterm_repaint.proofs.Parts.{IsPage}
use Rattle.vt_xterm_repaint.proofs.Painted.{placed_next, painted_blanks, painted_row, painted_none, painted_all}
use Rattle.vt_xterm_repaint.proofs.Rendered.{look-rendered}
use Rattle.vt_xterm_repaint.proofs.Drawing.{Common, drawn, behind, glyph-effect}

-- ---- equal looks

both : (x y : Bool) → (x && y) ≡ true → (x ≡ true) × (y ≡ true)
both true true is = (refl, refl)
both true false is = absurd (false≢true is)
both false y is = absurd (false≢true is)

bools : (x y : Bool) → same_bool x y ≡ true → x ≡ y
bools true true is = refl
bools false false is = refl
bools true false is = absurd (false≢true is)
bools false true is = absurd (false≢true is)

equal : (i j : ℕ) → (i == j) ≡ true → i ≡ j
equal i j is = grind (arith, nat_tests, is)

colours : (a b : Colour) → same_colour a b ≡ true → a ≡ b
colours Default Default is = refl
colours (Indexed i) (Indexed j) is = ap Indexed (equal i j is)
colours (Rgb r g b) (Rgb s h c) is =
    let first = both (r == s) (g == h && b == c) is in
    let rest = both (g == h) (b == c) first.1 in
    ap (λ x. Rgb x g b) (equal r s first.0) ∙ ap (λ x. Rgb s x b) (equal g h rest.0) ∙ ap (Rgb s h) (equal b c rest.1)
colours Default (Indexed j) is = absurd (false≢true is)
colours Default (Rgb s h c) is = absurd (false≢true is)
colours (Indexed i) Default is = absurd (false≢true is)
colours (Indexed i) (Rgb s h c) is = absurd (false≢true is)
colours (Rgb r g b) Default is = absurd (false≢true is)
colours (Rgb r g b) (Indexed j) is = absurd (false≢true is)

attributes : (a b : Attributes) → same_attributes a b ≡ true → a ≡ b
attributes a b is =
    let h1 = both _ _ is in
    let h2 = both _ _ h1.1 in
    let h3 = both _ _ h2.1 in
    let h4 = both _ _ h3.1 in
    let h5 = both _ _ h4.1 in
    let h6 = both _ _ h5.1 in
    let h7 = both _ _ h6.1 in
    let h8 = both _ _ h7.1 in
    ap (λ x. record a { bold = x }) (bools _ _ h1.0)
    ∙ ap (λ x. record a { bold = b.bold; faint = x }) (bools _ _ h2.0)
    ∙ ap (λ x. record a { bold = b.bold; faint = b.faint; italic = x }) (bools _ _ h3.0)
    ∙ ap (λ x. record a { bold = b.bold; faint = b.faint; italic = b.italic; underlined = x }) (bools _ _ h4.0)
    ∙ ap (λ x. record b { doubly_underlined = x; blinking = a.blinking; reverse = a.reverse; invisible = a.invisible; crossed_out = a.crossed_out }) (bools _ _ h5.0)
    ∙ ap (λ x. record b { blinking = x; reverse = a.reverse; invisible = a.invisible; crossed_out = a.crossed_out }) (bools _ _ h6.0)
    ∙ ap (λ x. record b { reverse = x; invisible = a.invisible; crossed_out = a.crossed_out }) (bools _ _ h7.0)
    ∙ ap (λ x. record b { invisible = x; crossed_out = a.crossed_out }) (bools _ _ h8.0)
    ∙ ap (λ x. record b { crossed_out = x }) (bools _ _ h8.1)

pub looks-same : (a b : Look) → same_look a b ≡ true → a ≡ b
unfolding same_look
looks-same a b is =
    let h1 = both (same_colour a.foreground b.foreground) _ is in
    let h2 = both (same_colour a.background b.background) _ h1.1 in
    let h3 = both (same_attributes a.attributes b.attributes) _ h2.1 in
    ap (λ x. record a { foreground = x }) (colours a.foreground b.foreground h1.0)
    ∙ ap (λ x. record a { foreground = b.foreground; background = x }) (colours a.background b.background h2.0)
    ∙ ap (λ x. record b { attributes = x; protected = a.protected }) (attributes a.attributes b.attributes h3.0)
    ∙ ap (λ x. record b { protected = x }) (bools a.protected b.protected h3.1)

off : (w : Bool) → not w ≡ true → w ≡ false
off false h = refl
off true h = absurd (false≢true h)

pub blank-is : (x : CellParts) → is_blank x ≡ true → x ≡ blank_cell
unfolding is_blank
blank-is x is =
    let h1 = both (x.character == space) _ is in
    let h2 = both (x.mark == 0) _ h1.1 in
    let h3 = both (x.other_mark == 0) _ h2.1 in
    let h4 = both (not x.wide) (same_look x.look plain_look) h3.1 in
    ap (λ i. record x { character = i }) (equal x.character space h1.0)
    ∙ ap (λ i. record x { character = space; mark = i }) (equal x.mark 0 h2.0)
    ∙ ap (λ i. record x { character = space; mark = 0; other_mark = i }) (equal x.other_mark 0 h3.0)
    ∙ ap (λ w. record blank_cell { wide = w; look = x.look }) (off x.wide h4.0)
    ∙ ap (λ l. record blank_cell { look = l }) (looks-same x.look plain_look h4.1)

-- ---- a look is selected

sgr-effect : (c : Common) (g : Grid) (p : Cursor) (old : Look) (values : List ℕ)
    → xterm.effect (Function (sequence_of values (byte "m"))) (drawn c g p old) ≡ drawn c g p (rendered values old)
unfolding function_in sequences sequences_any sequence_in
sgr-effect c g p old values = refl

protection-effect : (c : Common) (g : Grid) (p : Cursor) (old : Look) (on : Bool)
    → xterm.effect (Function (protection_to on)) (drawn c g p old) ≡ drawn c g p (record old { protected = on })
unfolding function_in sequences sequences_any sequence_in
protection-effect c g p old true = refl
protection-effect c g p old false = refl

no_values : (xs : List ℕ) (l : Look) → (length xs == 0) ≡ true → rendered xs l ≡ l
unfolding rendered
no_values [] l is = refl
no_values (x ∷ xs) l is = absurd (omega (arith, equal (length (x ∷ xs)) 0 is))

pub look-effect : (c : Common) (g : Grid) (p : Cursor) (old look : Look) → HasColours look
    → state_after xterm (look_actions look) (drawn c g p old) ≡ drawn c g p look
unfolding look_actions
look-effect c g p old look has =
    ap (λ (s : XtermState). state_after xterm (when (not (length (both_colours look) == 0)) (Function (sequence_of (both_colours look) (byte "m")) ∷ [])
    ++ Function (protection_to look.protected) ∷ []) s) (sgr-effect c g p old (attribute_values look.attributes))
    ∙ go (length (both_colours look) == 0) refl
  where
    first : Look
    first = rendered (attribute_values look.attributes) old

    last : (l : Look) → l ≡ rendered (both_colours look) first → xterm.effect (Function (protection_to look.protected)) (drawn c g p l) ≡ drawn c g p look
    last l is = protection-effect c g p l look.protected
        ∙ ap (λ (k : Look). drawn c g p (record k { protected = look.protected })) (is ∙ look-rendered look old has)

    go : (none : Bool) → (length (both_colours look) == 0) ≡ none
        → state_after xterm (when (not (length (both_colours look) == 0)) (Function (sequence_of (both_colours look) (byte "m")) ∷ [])
        ++ Function (protection_to look.protected) ∷ []) (drawn c g p first) ≡ drawn c g p look
    go true is = rw is (last first (sym (no_values (both_colours look) first is)))
    go false is = rw is (ap (λ (s : XtermState). xterm.effect (Function (protection_to look.protected)) s) (sgr-effect c g p first (both_colours look))
        ∙ last (rendered (both_colours look) first) refl)

-- ---- a page

-- a state with these cells, wherever the cursor is, in any look
pub record Shows (c : Common) (g : Grid) (s : XtermState) : Type 0 where
  pub cursor : Cursor
  pub look : Look
  pub is : s ≡ drawn c g cursor look

pub after-append : (xs ys : List Action) (s : XtermState) → state_after xterm (xs ++ ys) s ≡ state_after xterm ys (state_after xterm xs s)
after-append [] ys s = refl
after-append (x ∷ xs) ys s = after-append xs ys (xterm.effect x s)

-- a cell that isn't a second one has a character and marks
pub graphic_parts : (ch m o : ℕ) (w : Bool) → (not w && ch == 0) ≡ false → is_shown ch m o w ≡ true → (has_columns ch w ≡ true) × (are_marks m o ≡ true)
unfolding is_shown
graphic_parts ch m o w first is = both (has_columns ch w) (are_marks m o) (drop (ch == 0) w (m == 0 && o == 0) _ first is)
  where
    drop : (a v d e : Bool) → (not v && a) ≡ false → (((a && not v) && d) || e) ≡ true → e ≡ true
    drop true true d e h i = i
    drop false true d e h i = i
    drop false false d e h i = i
    drop true false d e h i = absurd (false≢true (sym h))

second-none : (before : Look) (x : CellParts) → is_second x ≡ true → cell_actions before x ≡ []
unfolding cell_actions
second-none before x is = rw is refl

module _ (c : Common) (page : IsPage c.shape) (row : ℕ) (r1 : 1 ≤ row) (rh : row ≤ c.shape.size.rows) where
  -- the cell of a column
  abbrev B : ℕ → CellParts
  B col = beside blank_cell c.shape row col

  inside : (col : ℕ) → 1 ≤ col → col ≤ c.shape.width → at_or blank_cell c.shape row col ≡ B col
  inside col c1 cw =
      let here : is_within 1 c.shape.width col ≡ true = grind (arith, nat_tests, c1, cw) in
      rw here refl

  fit : (col : ℕ) → col ≤ c.shape.width → Fit xterm_wide (B col) (B (col + 1))
  fit col cw = page.whole.fit row col r1 rh cw

  -- how many columns are written after the characters of some columns
  abbrev done : ℕ → ℕ
  done col = if is_second (B (col + 1)) then col + 1 else col

  abbrev P : ℕ → Grid
  P col = painted blank_cell c.shape row col

  abbrev S : ℕ → Look → XtermState
  S col look = drawn c (P col) (behind c.shape row col) look

  -- the cells behind some columns
  abbrev from : ℕ → ℕ → List CellParts
  from col n = map (at_or blank_cell c.shape row) (range_with_len (col + 1) n)

  wide_next : (col : ℕ) (look : Look) → col ≤ c.shape.width → is_second (B (col + 1)) ≡ true → B (col + 1) ≡ second_cell (B col).look
  wide_next col look cw is = (fit col cw).second ((fit col cw).wide ∙ is)

  second_then : (col : ℕ) → col + 1 ≤ c.shape.width → is_second (B (col + 1)) ≡ true → is_second (B (col + 1 + 1)) ≡ false
  second_then col cw is = sym (fit (col + 1) cw).wide ∙ no_wide (B (col + 1)).wide ((B (col + 1)).character == 0) is
    where
      no_wide : (w z : Bool) → (not w && z) ≡ true → w ≡ false
      no_wide false z h = refl
      no_wide true z h = absurd (false≢true h)

  -- a character of one or two columns, where nothing is written yet
  cell-effect : (col : ℕ) (before : Look) → col + 1 ≤ c.shape.width → is_second (B (col + 1)) ≡ false
      → state_after xterm (cell_actions before (B (col + 1))) (S col before) ≡ S (done (col + 1)) (B (col + 1)).look
  unfolding cell_actions
  cell-effect col before cw first =
      let x : CellParts = B (col + 1) in
      let is : at_or blank_cell c.shape row (col + 1) ≡ x = inside (col + 1) (omega arith) cw in
      let shown : is_shown x.character x.mark x.other_mark x.wide ≡ true =
      subst (λ (y : CellParts). is_shown y.character y.mark y.other_mark y.wide ≡ true) is (page.shown row (col + 1) r1 rh (omega arith) cw) in
      let has : HasColours x.look = subst (λ (y : CellParts). HasColours y.look) is (page.colours row (col + 1) r1 rh (omega arith) cw) in
      let parts = graphic_parts x.character x.mark x.other_mark x.wide first shown in
      rw first (
      after-append (when (not (same_look before x.look)) (look_actions x.look)) (glyph_actions x) (S col before)
      ∙ ap (λ (s : XtermState). state_after xterm (glyph_actions x) s) (looked (same_look before x.look) refl has)
      ∙ ap (λ (p : Cursor). state_after xterm (glyph_actions x) (drawn c (P col) p x.look)) place
      ∙ glyph-effect c page.grid row col x.look x.character x.mark x.other_mark x.wide r1 rh room first parts.0 parts.1
      ∙ ap (λ (y : CellParts). drawn c (placed xterm_wide blank_cell (P col) row (col + 1) y) (behind c.shape row (col + columns xterm_wide x)) x.look) (sym is)
      ∙ ap (λ (g : Grid). drawn c g (behind c.shape row (col + columns xterm_wide x)) x.look) (next is)
      ∙ ap (λ (n : ℕ). S n x.look) count)
    where
      looked : (same : Bool) → same_look before (B (col + 1)).look ≡ same → HasColours (B (col + 1)).look
          → state_after xterm (when (not (same_look before (B (col + 1)).look)) (look_actions (B (col + 1)).look)) (S col before) ≡ S col (B (col + 1)).look
      looked true is has = rw is (ap (S col) (looks-same before (B (col + 1)).look is))
      looked false is has = rw is (look-effect c (P col) (behind c.shape row col) before (B (col + 1)).look has)

      place : behind c.shape row col ≡ at_place row (col + 1)
      place =
          let fits : nat_le (col + 1) c.shape.width ≡ true = grind (arith, nat_tests, cw) in
          rw fits refl

      wide_fits : (w : Bool) → (B (col + 1)).wide ≡ w → col + (if w then 2 else 1) ≤ c.shape.width
      wide_fits true is = elim (leb_tells (col + 2) c.shape.width) [
        | inl h ↦ h.1
        | inr h ↦
            let out : is_within 1 c.shape.width (col + 1 + 1) ≡ false = grind (arith, nat_tests, h.1) in
            let none : is_second (B (col + 1 + 1)) ≡ false = rw out refl in
            absurd (false≢true (sym none ∙ sym (fit (col + 1) cw).wide ∙ is))
      ]
      wide_fits false is = cw

      room : col + (if (B (col + 1)).wide then 2 else 1) ≤ c.shape.width
      room = wide_fits (B (col + 1)).wide refl

      next : at_or blank_cell c.shape row (col + 1) ≡ B (col + 1)
          → placed xterm_wide blank_cell (P col) row (col + 1) (at_or blank_cell c.shape row (col + 1)) ≡ P (col + columns xterm_wide (B (col + 1)))
      next is = placed_next xterm_wide blank_cell c.shape row col r1 rh (λ wide.
          let is_wide : (B (col + 1)).wide ≡ true = ap (λ (y : CellParts). y.wide) (sym is) ∙ wide in
          inside (col + 1 + 1) (omega arith) (subst (λ (w : Bool). col + 1 + 1 ≤ c.shape.width) is_wide (two is_wide))
          ∙ (fit (col + 1) cw).second is_wide ∙ ap (λ (y : CellParts). second_cell y.look) (sym is))
          ∙ ap (λ (y : CellParts). P (col + columns xterm_wide y)) is
        where
          two : (B (col + 1)).wide ≡ true → col + 1 + 1 ≤ c.shape.width
          two is = subst (λ (w : Bool). col + (if w then 2 else 1) ≤ c.shape.width → col + 1 + 1 ≤ c.shape.width) (sym is) (λ h. omega (arith, h)) room

      count : col + columns xterm_wide (B (col + 1)) ≡ done (col + 1)
      count = by (B (col + 1)).wide refl
        where
          by : (w : Bool) → (B (col + 1)).wide ≡ w → col + (if (B (col + 1)).wide then 2 else 1) ≡ (if is_second (B (col + 1 + 1)) then col + 1 + 1 else col + 1)
          by true is = rw (is, sym (fit (col + 1) cw).wide ∙ is) (omega arith)
          by false is = rw (is, sym (fit (col + 1) cw).wide ∙ is) refl

  -- blank cells behind some columns
  blanks : (col n : ℕ) → col + n ≡ c.shape.width → are_blank (from col n) ≡ true → (k : ℕ) → col < k → k ≤ c.shape.width → at_or blank_cell c.shape row k ≡ blank_cell
  blanks col zero end is k low high = absurd (omega (arith, end, low, high))
  blanks col (suc n) end is k low high =
      let parts = both (is_blank (at_or blank_cell c.shape row (col + 1))) (are_blank (from (col + 1) n)) is in
      elim (eqb_tells k (col + 1)) [
        | inl e ↦ ap (at_or blank_cell c.shape row) e.1 ∙ blank-is _ parts.0
        | inr e ↦ blanks (col + 1) n (omega (arith, end)) parts.1 k (omega (arith, low, e.1)) high
      ]

  painted_to_end : (col : ℕ) → ((k : ℕ) → col < k → k ≤ c.shape.width → at_or blank_cell c.shape row k ≡ blank_cell) → P (done col) ≡ P c.shape.width
  painted_to_end col blank = go (is_second (B (col + 1)))
    where
      go : (x : Bool) → P (if x then col + 1 else col) ≡ P c.shape.width
      go true = painted_blanks xterm_wide blank_cell c.shape row (col + 1) (λ k low high. blank k (omega (arith, low)) high)
      go false = painted_blanks xterm_wide blank_cell c.shape row col blank

  -- the cells behind some columns are written, after the look of those columns
  cells-effect : (n col : ℕ) (before : Look) → col + n ≡ c.shape.width → (is_second (B (col + 1)) ≡ true → before ≡ (B (col + 1)).look)
      → Shows c (P c.shape.width) (state_after xterm (cells_actions before (from col n)) (S (done col) before))
  cells-effect zero col before end second =
      record {
        cursor = behind c.shape row (done col);
        look = before;
        is = ap (λ (g : Grid). drawn c g (behind c.shape row (done col)) before) (painted_to_end col (λ k low high. absurd (omega (arith, end, low, high))));
      }
  cells-effect (suc n) col before end second = go (is_blank x && are_blank (from (col + 1) n)) refl (is_second (B (col + 1))) refl
      (cells-effect n (col + 1) x.look (omega (arith, end)) second_next)
    where
      x : CellParts
      x = at_or blank_cell c.shape row (col + 1)

      cw : col + 1 ≤ c.shape.width
      cw = omega (arith, end)

      is_x : x ≡ B (col + 1)
      is_x = inside (col + 1) (omega arith) cw

      rest : Look → List Action
      rest look = cells_actions look (from (col + 1) n)

      second_next : is_second (B (col + 1 + 1)) ≡ true → x.look ≡ (B (col + 1 + 1)).look
      second_next is = ap (λ (y : CellParts). y.look) is_x ∙ sym (ap (λ (y : CellParts). y.look) (wide_next (col + 1) before cw is))

      go : (blank : Bool) → (is_blank x && are_blank (from (col + 1) n)) ≡ blank → (sec : Bool) → is_second (B (col + 1)) ≡ sec
          → Shows c (P c.shape.width) (state_after xterm (rest x.look) (S (done (col + 1)) x.look))
          → Shows c (P c.shape.width) (state_after xterm (if is_blank x && are_blank (from (col + 1) n) then [] else cell_actions before x ++ rest x.look) (S (done col) before))
      go true is sec at on = rw is (record {
        cursor = behind c.shape row (done col);
        look = before;
        is = ap (λ (g : Grid). drawn c g (behind c.shape row (done col)) before) (painted_to_end col (blanks col (suc n) end is));
      })
      go false is true at on =
          let same : before ≡ x.look = second at ∙ sym (ap (λ (y : CellParts). y.look) is_x) in
          let none : cell_actions before x ≡ [] = second-none before x (ap is_second is_x ∙ at) in
          let there : done col ≡ done (col + 1) = rw (at, second_then col cw at) refl in
          rw (is, none) (rw (there, same) on)
      go false is false at on =
          let here : done col ≡ col = rw at refl in
          rw is (rw here (subst (λ (s : XtermState). Shows c (P c.shape.width) s)
          (sym (after-append (cell_actions before x) (rest x.look) (S col before)
          ∙ ap (λ (s : XtermState). state_after xterm (rest x.look) s)
          (ap (λ (y : CellParts). state_after xterm (cell_actions before y) (S col before)) is_x ∙ cell-effect col before cw at
          ∙ ap (λ (y : CellParts). S (done (col + 1)) y.look) (sym is_x)))) on))

-- ---- rows

-- CUP, on a page of the same shape
pub cursor-effect : (c : Common) (g : Grid) (p : Cursor) (look : Look) (line col : ℕ) → g.size ≡ c.shape.size → g.width ≡ c.shape.width
    → 1 ≤ line → line ≤ g.size.rows → 1 ≤ col → col ≤ g.width
    → xterm.effect (Function (cursor_position line col)) (drawn c g p look) ≡ drawn c g (at_place line col) look
unfolding function_in sequences
cursor-effect c g p look line col size width l1 lh c1 cw =
    let row : min (max line 1) g.size.rows ≡ line = omega (arith, l1, lh) in
    let column : min (max col 1) g.width ≡ col = omega (arith, c1, cw) in
    ap (λ (x : ℕ). drawn c g (at_place x (min (max col 1) g.width)) look) row ∙ ap (λ (x : ℕ). drawn c g (at_place line x) look) column

first_cells : (c : Common) (row : ℕ) → row_or blank_cell c.shape row ≡ map (at_or blank_cell c.shape row) (range_with_len (0 + 1) c.shape.width)
unfolding row_or
first_cells c row = refl

module _ (c : Common) (page : IsPage c.shape) (wide : 1 ≤ c.shape.width) where
  plain_colours : HasColours plain_look
  plain_colours = record { foreground = tt; background = tt }

  row-effect : (row : ℕ) (s : XtermState) → 1 ≤ row → row ≤ c.shape.size.rows → Shows c (painted blank_cell c.shape row 0) s
      → Shows c (painted blank_cell c.shape (row + 1) 0) (state_after xterm (row_actions c.shape row) s)
  unfolding row_actions
  row-effect row s r1 rh shows = go (are_blank (row_or blank_cell c.shape row)) refl
    where
      w : ℕ
      w = c.shape.width

      R : Grid
      R = painted blank_cell c.shape row 0

      next : painted blank_cell c.shape row c.shape.width ≡ painted blank_cell c.shape (row + 1) 0
      next = painted_row xterm_wide blank_cell c.shape row

      no_second : is_second (beside blank_cell c.shape row (0 + 1)) ≡ false
      no_second = sym (page.whole.fit row 0 r1 rh (omega arith)).wide

      cells : List Action
      cells = cells_actions plain_look (row_or blank_cell c.shape row)

      written : Shows c (painted blank_cell c.shape row c.shape.width)
          (state_after xterm (cells_actions plain_look (map (at_or blank_cell c.shape row) (range_with_len (0 + 1) c.shape.width)))
          (drawn c (painted blank_cell c.shape row (if is_second (beside blank_cell c.shape row (0 + 1)) then 0 + 1 else 0))
          (behind c.shape row (if is_second (beside blank_cell c.shape row (0 + 1)) then 0 + 1 else 0)) plain_look))
      written = cells-effect c page row r1 rh c.shape.width 0 plain_look (omega arith) (λ is. absurd (false≢true (sym no_second ∙ is)))

      begun : drawn c (painted blank_cell c.shape row (if is_second (beside blank_cell c.shape row (0 + 1)) then 0 + 1 else 0))
          (behind c.shape row (if is_second (beside blank_cell c.shape row (0 + 1)) then 0 + 1 else 0)) plain_look
          ≡ drawn c R (at_place row 1) plain_look
      begun =
          let low : nat_le (0 + 1) c.shape.width ≡ true = grind (arith, nat_tests, wide) in
          rw (no_second, low) refl

      moved_there : state_after xterm (Function (cursor_position row 1) ∷ (look_actions plain_look ++ cells)) s
          ≡ state_after xterm cells (drawn c R (at_place row 1) plain_look)
      moved_there =
          ap (λ (x : XtermState). state_after xterm (look_actions plain_look ++ cells) (xterm.effect (Function (cursor_position row 1)) x)) shows.is
          ∙ ap (λ (x : XtermState). state_after xterm (look_actions plain_look ++ cells) x)
          (cursor-effect c R shows.cursor shows.look row 1 refl refl r1 rh (omega arith) wide)
          ∙ after-append (look_actions plain_look) cells (drawn c R (at_place row 1) shows.look)
          ∙ ap (λ (x : XtermState). state_after xterm cells x) (look-effect c R (at_place row 1) shows.look plain_look plain_colours)

      go : (blank : Bool) → are_blank (row_or blank_cell c.shape row) ≡ blank
          → Shows c (painted blank_cell c.shape (row + 1) 0)
          (state_after xterm (when (not (are_blank (row_or blank_cell c.shape row))) (Function (cursor_position row 1) ∷ (look_actions plain_look ++ cells))) s)
      go true is = rw is (record {
        cursor = shows.cursor;
        look = shows.look;
        is = shows.is ∙ ap (λ (g : Grid). drawn c g shows.cursor shows.look)
            (painted_blanks xterm_wide blank_cell c.shape row 0
            (blanks c page row r1 rh 0 c.shape.width (omega arith) (ap are_blank (sym (first_cells c row)) ∙ is)) ∙ next);
      })
      go false is = rw is (subst (λ (g : Grid). Shows c g
          (state_after xterm (Function (cursor_position row 1) ∷ (look_actions plain_look ++ cells)) s)) next
          (subst (λ (x : XtermState). Shows c (painted blank_cell c.shape row c.shape.width) x) (sym moved_there)
          (subst (λ (xs : List CellParts). Shows c (painted blank_cell c.shape row c.shape.width)
          (state_after xterm (cells_actions plain_look xs) (drawn c R (at_place row 1) plain_look))) (sym (first_cells c row))
          (subst (λ (x : XtermState). Shows c (painted blank_cell c.shape row c.shape.width)
          (state_after xterm (cells_actions plain_look (map (at_or blank_cell c.shape row) (range_with_len (0 + 1) c.shape.width))) x)) begun written))))

  rows-effect : (n row : ℕ) (s : XtermState) → 1 ≤ row → row + n ≡ c.shape.size.rows + 1 → Shows c (painted blank_cell c.shape row 0) s
      → Shows c (painted blank_cell c.shape (c.shape.size.rows + 1) 0) (state_after xterm (flat_map (row_actions c.shape) (range_with_len row n)) s)
  rows-effect zero row s r1 end shows = subst (λ (x : ℕ). Shows c (painted blank_cell c.shape x 0) s) (omega (arith, end)) shows
  rows-effect (suc n) row s r1 end shows =
      subst (λ (x : XtermState). Shows c (painted blank_cell c.shape (c.shape.size.rows + 1) 0) x)
      (sym (after-append (row_actions c.shape row) (flat_map (row_actions c.shape) (range_with_len (row + 1) n)) s))
      (rows-effect n (row + 1) (state_after xterm (row_actions c.shape row) s) (omega arith) (omega (arith, end))
      (row-effect row s r1 (omega (arith, end)) shows))

  -- all cells are written on a blank page
  pub grid-effect : (p : Cursor) (look : Look)
      → Shows c c.shape (state_after xterm (grid_actions c.shape) (drawn c (grid_of c.shape.size c.shape.width (λ r k. blank_cell)) p look))
  unfolding grid_actions
  grid-effect p look =
      subst (λ (g : Grid). Shows c g (state_after xterm (grid_actions c.shape) (drawn c (grid_of c.shape.size c.shape.width (λ r k. blank_cell)) p look)))
      (painted_all xterm_wide blank_cell c.shape page.grid)
      (rows-effect c.shape.size.rows 1 (drawn c (grid_of c.shape.size c.shape.width (λ r k. blank_cell)) p look) (omega arith) (omega arith)
      (record { cursor = p; look = look; is = ap (λ (g : Grid). drawn c g p look) (sym (painted_none xterm_wide blank_cell c.shape)) }))
