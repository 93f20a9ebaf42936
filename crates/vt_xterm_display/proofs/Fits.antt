-- A right margin parts no character at which a wrap is pending.
use Rattle.std.proofs.Common.{◌≡◌, ◌⊎◌, inl, inr, ℕ, ◌+◌, ◌-◌, ◌≤◌, ◌<◌, List, length, All, Bool, true, false, not, ◌&&◌, ◌||◌, ◌==◌, if◌then◌else◌, arith, refl, sym, ap, ◌∙◌, subst}
use Rattle.std.specs.Prelude.{nat_le, nat_lt, slice_index}
use Rattle.std.proofs.lemmas.Bool.{false≢true}
use Rattle.std.proofs.lemmas.Bool.Decides.{nat_tests, eqb_tells, leb_tells}
use Rattle.vt_screen.specs.declared.size.Size.{Size}
use Rattle.vt_screen.specs.Grid.{at_or, is_within, put_any, row_any}
use Rattle.vt_screen.specs.Between.{given_any, rectangle, from_below_any, from_above_any}
use Rattle.vt_screen.proofs.Maps.{among}
use Rattle.vt_term.specs.State.{at_place}
use Rattle.vt_term.specs.declared.state.Cursor.{Cursor}
use Rattle.vt_wide.specs.Kinds.{IsLetter}
use Rattle.vt_wide.specs.Edits.{columns, is_parted, parted, parted_twice, parted_between, inserted, written, written_inserting, run_any, written_bytes, joined, moved_up, moved_down}
use Rattle.vt_wide.specs.Whole.{beside, IsWhole}
use Rattle.vt_wide.proofs.Parting.{row_put}
use Rattle.vt_wide.proofs.Wholes.{parted_at, made_at, beside_in, in_row}
use Rattle.vt_xterm_cell.specs.Words.{CellParts}
use Rattle.vt_xterm_cell.specs.Cells.{blank_cell, is_second}
use Rattle.vt_xterm_cell.specs.Wide.{xterm_wide, xterm_halves}
use Rattle.vt_xterm_display.specs.State.{Grid, XtermState}
use Rattle.vt_xterm_display.specs.Whole.{parts_none}
use Rattle.vt_xterm_display.specs.Sound.{IsSoundXterm}
use Rattle.vt_xterm_display.specs.Moving.{last_reached}
use Rattle.vt_xterm_display.specs.Writing.{cursor_at, waits_at, advanced}

-- ---- the cell after the margin

pub none_of : (g : Grid) (row right : ℕ) → is_second (beside blank_cell g row (right + 1)) ≡ false → parts_none g row right ≡ true
unfolding parts_none
none_of g row right is = elim (leb_tells (right + 1) g.width) [
  | inl h ↦ elim (leb_tells 1 (right + 1)) [
    | inl l ↦ first _ _ _ (sym (ap is_second (beside_in blank_cell g row (right + 1) l.1 h.1)) ∙ is)
    | inr l ↦ absurd (omega (arith, l))
  ]
  | inr h ↦ past _ _ _ h.0
]
  where
    first : (a b c : Bool) → c ≡ false → not (a && (b && c)) ≡ true
    first true true c is = rw is refl
    first true false c is = refl
    first false b c is = refl

    past : (a b c : Bool) → b ≡ false → not (a && (b && c)) ≡ true
    past true b c is = rw is refl
    past false b c is = refl

pub of_none : (g : Grid) (row right : ℕ) → 1 ≤ right → parts_none g row right ≡ true → is_second (beside blank_cell g row (right + 1)) ≡ false
unfolding parts_none
of_none g row right some none = elim (leb_tells (right + 1) g.width) [
  | inl h ↦
      let low : nat_le 2 (right + 1) ≡ true = grind (arith, nat_tests, some) in
      ap is_second (beside_in blank_cell g row (right + 1) (omega arith) h.1) ∙ second _ _ _ low h.0 none
  | inr h ↦
      let out : is_within 1 g.width (right + 1) ≡ false = grind (arith, nat_tests, h.1) in
      rw out refl
]
  where
    second : (a b c : Bool) → a ≡ true → b ≡ true → not (a && (b && c)) ≡ true → c ≡ false
    second true true true p q is = absurd (false≢true is)
    second true true false p q is = refl
    second true false c p q is = absurd (false≢true q)
    second false b c p q is = absurd (false≢true p)

-- the last column
pub edge_none : (g : Grid) (row right width : ℕ) → g.width ≡ width → right ≡ width → parts_none g row right ≡ true
edge_none g row right width is last =
    let out : is_within 1 g.width (right + 1) ≡ false = grind (arith, nat_tests, is, last) in
    none_of g row right (rw out refl)

-- ---- what stays

after_parted : (g : Grid) (rows : ℕ → Bool) (r at col : ℕ) → 1 ≤ r → r ≤ g.size.rows → is_second (beside blank_cell g r at) ≡ false
    → is_second (beside blank_cell (parted xterm_wide blank_cell xterm_wide.spaced g rows col) r at) ≡ false
after_parted g rows r at col r1 rh is = ap is_second (parted_at xterm_wide blank_cell xterm_wide.spaced g rows col r at r1 rh)
    ∙ go ((rows r && is_parted xterm_wide blank_cell g r col) && is_within (col - 1) col at)
  where
    go : (x : Bool) → is_second (if x then xterm_wide.spaced (beside blank_cell g r at) else beside blank_cell g r at) ≡ false
    go true = (xterm_halves.spaced (beside blank_cell g r at)).second
    go false = is

after_margin : (g : Grid) (f : ℕ → ℕ → CellParts) (row top bottom left right : ℕ) → 1 ≤ row → row ≤ g.size.rows
    → beside blank_cell (given_any blank_cell g (rectangle top bottom left right) f) row (right + 1) ≡ beside blank_cell g row (right + 1)
after_margin g f row top bottom left right r1 rh =
    let out : rectangle top bottom left right row (right + 1) ≡ false = grind (arith, nat_tests) in
    made_at blank_cell g.size g.width (λ r c. if rectangle top bottom left right r c then f r c else at_or blank_cell g r c) row (right + 1) r1 rh
    ∙ rw out refl

-- rows that move between the margins
pub up_none : (empty : CellParts) (g h : Grid) (row top bottom left right n : ℕ) → h ≡ moved_up xterm_wide blank_cell empty g top bottom left right n
    → 1 ≤ row → row ≤ g.size.rows → 1 ≤ right → parts_none g row right ≡ true → parts_none h row right ≡ true
unfolding parted
up_none empty g h row top bottom left right n is r1 rh some none =
    let rows : ℕ → Bool = is_within top bottom in
    let P : Grid = parted xterm_wide blank_cell xterm_wide.spaced g rows left in
    let Q : Grid = parted_between xterm_wide blank_cell g top bottom left right in
    rw is (none_of _ row right (
    ap is_second (after_margin Q (from_below_any blank_cell empty Q bottom n) row top bottom left right r1 rh)
    ∙ after_parted P rows row (right + 1) (right + 1) r1 rh (after_parted g rows row (right + 1) left r1 rh (of_none g row right some none))))

pub down_none : (empty : CellParts) (g h : Grid) (row top bottom left right n : ℕ) → h ≡ moved_down xterm_wide blank_cell empty g top bottom left right n
    → 1 ≤ row → row ≤ g.size.rows → 1 ≤ right → parts_none g row right ≡ true → parts_none h row right ≡ true
unfolding parted
down_none empty g h row top bottom left right n is r1 rh some none =
    let rows : ℕ → Bool = is_within top bottom in
    let P : Grid = parted xterm_wide blank_cell xterm_wide.spaced g rows left in
    let Q : Grid = parted_between xterm_wide blank_cell g top bottom left right in
    rw is (none_of _ row right (
    ap is_second (after_margin Q (from_above_any blank_cell empty Q top n) row top bottom left right r1 rh)
    ∙ after_parted P rows row (right + 1) (right + 1) r1 rh (after_parted g rows row (right + 1) left r1 rh (of_none g row right some none))))

-- a mark
pub joined_none : (g h : Grid) (row at mark right : ℕ) → h ≡ joined xterm_wide blank_cell g row at mark → 1 ≤ row → row ≤ g.size.rows → 1 ≤ right
    → parts_none g row right ≡ true → parts_none h row right ≡ true
joined_none g h row at mark right is r1 rh some none =
    let was = of_none g row right some none in
    let p : ℕ → CellParts = λ c. if c == at then xterm_wide.marked (at_or blank_cell g row at) mark else at_or blank_cell g row c in
    rw is (none_of _ row right (ap is_second (in_row blank_cell g row p (right + 1) r1 rh) ∙ elim (among 1 g.width (right + 1)) [
      | inl t ↦
          let here : is_second (at_or blank_cell g row (right + 1)) ≡ false =
          sym (ap is_second (beside_in blank_cell g row (right + 1) t.1 t.2)) ∙ was in
          elim (eqb_tells (right + 1) at) [
            | inl e ↦ rw (t.0, e.0) (xterm_halves.marked_first (at_or blank_cell g row at) mark
                ∙ ap (λ c. is_second (at_or blank_cell g row c)) (sym e.1) ∙ here)
            | inr e ↦ rw (t.0, e.0) here
          ]
      | inr t ↦ rw t.0 refl
    ]))

-- ---- what is written

-- the first of n columns has no second cell, and the last one no first cell of a wide character
pub record Ends (g : Grid) (row col n : ℕ) : Type 0 where
  pub first : is_second (beside blank_cell g row col) ≡ false
  pub last : (beside blank_cell g row (col + n - 1)).wide ≡ false

one_ends : (g : Grid) (row col : ℕ) (cell : CellParts) → cell.wide ≡ false → is_second cell ≡ false → (1 ≤ row) × (row ≤ g.size.rows)
    → (1 ≤ col) × (col + 1 ≤ g.width + 1) → Ends (put_any blank_cell g row col cell) row col 1
one_ends g row col cell narrow first inside fits =
    let p : ℕ → CellParts = λ c. if c == col then cell else at_or blank_cell g row c in
    let within : is_within 1 g.width col ≡ true = grind (arith, nat_tests, fits) in
    let test : (col == col) ≡ true = grind (arith, nat_tests) in
    let here : beside blank_cell (row_any blank_cell g row p) row col ≡ cell =
    in_row blank_cell g row p col inside.0 inside.1 ∙ rw (within, test) refl in
    let same : col + 1 - 1 ≡ col = omega arith in
    record {
      first = ap is_second here ∙ first;
      last = ap (λ c. (beside blank_cell (row_any blank_cell g row p) row c).wide) same ∙ ap (λ (x : CellParts). x.wide) here ∙ narrow;
    }

two_ends : (g : Grid) (row col : ℕ) (cell : CellParts) → is_second cell ≡ false → (1 ≤ row) × (row ≤ g.size.rows)
    → (1 ≤ col) × (col + 2 ≤ g.width + 1)
    → Ends (put_any blank_cell (put_any blank_cell g row col cell) row (col + 1) (xterm_wide.second cell)) row col 2
two_ends g row col cell first inside fits =
    let p : ℕ → CellParts = λ c. if c == col + 1 then xterm_wide.second cell else (if c == col then cell else at_or blank_cell g row c) in
    let is = row_put blank_cell g row (col + 1) (λ c. if c == col then cell else at_or blank_cell g row c) (xterm_wide.second cell) in
    let within : is_within 1 g.width col ≡ true = grind (arith, nat_tests, fits) in
    let next_in : is_within 1 g.width (col + 1) ≡ true = grind (arith, nat_tests, fits) in
    let other : (col == col + 1) ≡ false = grind (arith, nat_tests) in
    let test : (col == col) ≡ true = grind (arith, nat_tests) in
    let next_test : (col + 1 == col + 1) ≡ true = grind (arith, nat_tests) in
    let here : beside blank_cell (row_any blank_cell g row p) row col ≡ cell =
    in_row blank_cell g row p col inside.0 inside.1 ∙ rw (within, other, test) refl in
    let next : beside blank_cell (row_any blank_cell g row p) row (col + 1) ≡ xterm_wide.second cell =
    in_row blank_cell g row p (col + 1) inside.0 inside.1 ∙ rw (next_in, next_test) refl in
    let same : col + 2 - 1 ≡ col + 1 = omega arith in
    subst (λ (x : Grid). Ends x row col 2) (sym is) (record {
      first = ap is_second here ∙ first;
      last = ap (λ c. (beside blank_cell (row_any blank_cell g row p) row c).wide) same ∙ ap (λ (x : CellParts). x.wide) next;
    })

pub written_ends : (empty cell : CellParts) (g h : Grid) (row col : ℕ) → is_second cell ≡ false → h ≡ written xterm_wide blank_cell empty g row col cell
    → (1 ≤ row) × (row ≤ g.size.rows) → (1 ≤ col) × (col + columns xterm_wide cell ≤ g.width + 1) → Ends h row col (columns xterm_wide cell)
unfolding parted
written_ends empty cell g h row col first is inside fits = subst (λ (x : Grid). Ends x row col (columns xterm_wide cell)) (sym is) (go cell.wide refl fits)
  where
    const : CellParts → CellParts
    const x = empty

    go : (x : Bool) → cell.wide ≡ x → (1 ≤ col) × (col + (if x then 2 else 1) ≤ g.width + 1) → Ends
        (if x then put_any blank_cell (put_any blank_cell (parted_twice xterm_wide blank_cell const g row col (col + 2)) row col cell) row (col + 1) (xterm_wide.second cell)
        else put_any blank_cell (parted_twice xterm_wide blank_cell const g row col (col + 1)) row col cell) row col (if x then 2 else 1)
    go true wide fits = two_ends (parted_twice xterm_wide blank_cell const g row col (col + 2)) row col cell first inside fits
    go false wide fits = one_ends (parted_twice xterm_wide blank_cell const g row col (col + 1)) row col cell wide first inside fits

pub pushed_ends : (empty cell : CellParts) (g h : Grid) (row col right : ℕ) → is_second cell ≡ false
    → h ≡ written_inserting xterm_wide blank_cell empty g row col right cell
    → (1 ≤ row) × (row ≤ g.size.rows) → (1 ≤ col) × (col + columns xterm_wide cell ≤ g.width + 1) → Ends h row col (columns xterm_wide cell)
unfolding parted
pushed_ends empty cell g h row col right first is inside fits =
    written_ends empty cell (inserted xterm_wide blank_cell empty g row col right (columns xterm_wide cell)) h row col first is inside fits

run_ends : (g : Grid) (row col n : ℕ) (cell_of : ℕ → CellParts) → ((i : ℕ) → i < n → ((cell_of i).wide ≡ false) × (is_second (cell_of i) ≡ false))
    → (1 ≤ row) × (row ≤ g.size.rows) → 1 ≤ n → (1 ≤ col) × (col + n ≤ g.width + 1) → Ends (run_any blank_cell cell_of g row col n) row col n
run_ends g row col n cell_of narrow inside some fits =
    let p : ℕ → CellParts = λ c. if nat_le col c && nat_lt c (col + n) then cell_of (c - col) else at_or blank_cell g row c in
    let here : (c : ℕ) → col ≤ c → c < col + n → beside blank_cell (row_any blank_cell g row p) row c ≡ cell_of (c - col) = λ c low high.
    let test : (nat_le col c && nat_lt c (col + n)) ≡ true = grind (arith, nat_tests, low, high) in
    let within : is_within 1 g.width c ≡ true = grind (arith, nat_tests, low, high, fits) in
    in_row blank_cell g row p c inside.0 inside.1 ∙ rw (within, test) refl in
    record {
      first = ap is_second (here col (omega arith) (omega (arith, some))) ∙ (narrow (col - col) (omega (arith, some))).1;
      last = ap (λ (x : CellParts). x.wide) (here (col + n - 1) (omega (arith, some)) (omega (arith, some)))
          ∙ (narrow (col + n - 1 - col) (omega (arith, some))).0;
    }

pub letters_ends : (empty pen : CellParts) (g h : Grid) (row col : ℕ) (bytes : List ℕ) → All IsLetter bytes
    → h ≡ written_bytes xterm_wide blank_cell empty g row col bytes pen → (1 ≤ row) × (row ≤ g.size.rows) → 1 ≤ length bytes
    → (1 ≤ col) × (col + length bytes ≤ g.width + 1) → Ends h row col (length bytes)
unfolding parted
letters_ends empty pen g h row col bytes letters is inside some fits = subst (λ (x : Grid). Ends x row col (length bytes)) (sym is)
    (run_ends (parted_twice xterm_wide blank_cell const g row col (col + length bytes)) row col (length bytes)
    (λ i. xterm_wide.with_byte pen (slice_index bytes i)) narrow inside some fits)
  where
    const : CellParts → CellParts
    const x = empty

    shown : (b : ℕ) → IsLetter b → nat_le 0x20 b ≡ true
    shown b is = grind (arith, nat_tests, is.0)

    narrow : (i : ℕ) → i < length bytes → ((xterm_wide.with_byte pen (slice_index bytes i)).wide ≡ false)
        × (is_second (xterm_wide.with_byte pen (slice_index bytes i)) ≡ false)
    narrow i low =
        let cell = xterm_halves.letter pen (slice_index bytes i) (shown (slice_index bytes i) (letters i 0 low)) in
        (cell.wide, cell.second)

-- ---- the cursor after it

reached_is : (col right width : ℕ) → ((if nat_le col right then right else width) ≡ right)
    ⊎ (((if nat_le col right then right else width) ≡ width) × (right < col))
reached_is col right width = elim (leb_tells col right) [
  | inl h ↦ inl (rw h.0 refl)
  | inr h ↦ inr (rw h.0 refl, h.1)
]

record Stops (place past reached : ℕ) (cursor : Cursor) : Type 0 where
  beyond : reached < past
  row : cursor.row ≡ place
  col : cursor.col ≡ reached

pending_stops : (row past reached last : ℕ) (decawm : Bool)
    → (waits_at past reached last decawm || (cursor_at row past reached last decawm).wrap) ≡ true
    → Stops row past reached (cursor_at row past reached last decawm)
pending_stops row past reached last decawm pending = go (nat_le past reached) refl pending
  where
    go : (x : Bool) → nat_le past reached ≡ x
        → ((if x then false else decawm && nat_lt reached last)
        || (if x then at_place row past else record { row = row; col = reached; wrap = decawm && reached == last }).wrap) ≡ true
        → Stops row past reached (if x then at_place row past else record { row = row; col = reached; wrap = decawm && reached == last })
    go true is pending = absurd (false≢true pending)
    go false is pending = record { beyond = grind (arith, nat_tests, is); row = refl; col = refl }

-- n columns that are written end at the right margin, or begin after it
margin_none : (g : Grid) (row col n right : ℕ) → Ends g row col n → IsWhole xterm_wide blank_cell g → (1 ≤ row) × (row ≤ g.size.rows)
    → right ≤ g.width → (col + n ≡ right + 1) ⊎ (col ≡ right + 1) → parts_none g row right ≡ true
margin_none g row col n right ends whole inside high (inl e) =
    let same : col + n - 1 ≡ right = omega (arith, e) in
    none_of g row right (sym (whole.fit row right inside.0 inside.1 high).wide
    ∙ ap (λ c. (beside blank_cell g row c).wide) (sym same) ∙ ends.last)
margin_none g row col n right ends whole inside high (inr e) =
    none_of g row right (ap (λ c. is_second (beside blank_cell g row c)) (sym e) ∙ ends.first)

written_at : (g : Grid) (row col n right width : ℕ) (decawm : Bool) → Ends g row col n
    → IsWhole xterm_wide blank_cell g → (1 ≤ row) × (row ≤ g.size.rows) → (col ≤ width) × (right ≤ width) × (g.width ≡ width)
    → col + n ≤ (if nat_le col right then right else width) + 1
    → (waits_at (col + n) (if nat_le col right then right else width) width decawm
    || (cursor_at row (col + n) (if nat_le col right then right else width) width decawm).wrap) ≡ true
    → (cursor_at row (col + n) (if nat_le col right then right else width) width decawm).col ≤ right + 1
    → parts_none g (cursor_at row (col + n) (if nat_le col right then right else width) width decawm).row right ≡ true
written_at g row col n right width decawm ends whole inside high room pending near =
    let stops = pending_stops row (col + n) (if nat_le col right then right else width) width decawm pending in
    ap (λ r. parts_none g r right) stops.row ∙ margin_none g row col n right ends whole inside (omega (arith, high)) (elim (reached_is col right width) [
      | inl e ↦ inl (omega (arith, e, room, stops.beyond))
      | inr e ↦ inr (omega (arith, e, high, near, stops.col))
    ])

-- a state's cursor and its wait after n columns, which were written
pub written_none : {s : XtermState} (t : XtermState) (g : Grid) (m n : ℕ) (cursor : Cursor) (waits : Bool) → IsSoundXterm s → s ≡ t → m ≡ n
    → Ends g s.shown.cursor.row s.shown.cursor.col n → IsWhole xterm_wide blank_cell g
    → (1 ≤ s.shown.cursor.row) × (s.shown.cursor.row ≤ s.shown.grid.size.rows) → s.shown.cursor.col ≤ s.shown.grid.width
    → g.size ≡ s.shown.grid.size → g.width ≡ s.shown.grid.width
    → t.shown.cursor.col + n ≤ last_reached t.sides t.shown + 1
    → cursor ≡ (advanced m t).shown.cursor → waits ≡ (advanced m t).waits
    → (waits || cursor.wrap) ≡ true → cursor.col ≤ s.sides.right + 1 → parts_none g cursor.row s.sides.right ≡ true
written_none {s} t g m n cursor waits sound same count ends whole inside within size width room is waits_is =
    let at : cursor ≡ (advanced n s).shown.cursor =
    is ∙ ap (λ k. (advanced k t).shown.cursor) count ∙ ap (λ (x : XtermState). (advanced n x).shown.cursor) (sym same) in
    let wait : waits ≡ (advanced n s).waits =
    waits_is ∙ ap (λ k. (advanced k t).waits) count ∙ ap (λ (x : XtermState). (advanced n x).waits) (sym same) in
    let some : s.shown.cursor.col + n ≤ last_reached s.sides s.shown + 1 =
    subst (λ (x : XtermState). x.shown.cursor.col + n ≤ last_reached x.sides x.shown + 1) (sym same) room in
    let rows : s.shown.cursor.row ≤ g.size.rows = subst (λ (x : Size). s.shown.cursor.row ≤ x.rows) (sym size) inside.1 in
    rw (at, wait) (λ pending near. written_at g s.shown.cursor.row s.shown.cursor.col n s.sides.right s.shown.grid.width s.shown.modes.decawm
    ends whole (inside.0, rows) (within, sound.sides.to_last_column, width) some pending near)

-- a flag that stays in a last column alone
pub last_of : (x : Bool) (a b : ℕ) → x ≡ (a == b) → x ≡ true → a ≡ b
last_of x a b is on = elim (eqb_tells a b) [ inl e ↦ e.1 | inr e ↦ absurd (false≢true (sym e.0 ∙ sym is ∙ on)) ]
