-- A state on a screen of another size: it is sound, and on its own size it is the same.
use Rattle.std.proofs.Common.{◌≡◌, ◌∙◌, ℕ, zero, suc, ◌+◌, ◌-◌, ◌≤◌, ◌<◌, Bool, true, false, ◌&&◌, ◌==◌, if◌then◌else◌, List, [], length}
use Rattle.std.proofs.Common.{min, max, ◌++◌, append_assoc}
use Rattle.std.specs.List.{range_with_len, flat_map}
use Rattle.std.proofs.Common.{arith, refl, sym, ap, subst, inl, inr, IsTrue}
use Rattle.std.proofs.Math.Dec.{leb}
use Rattle.std.proofs.lemmas.Bool.Decides.{leb_tells, eqb_tells}
use Rattle.std.proofs.lemmas.Bool.{and_parts, false≢true}
use Rattle.vt_screen.specs.declared.size.Size.{Size}
use Rattle.vt_screen.specs.Sizes.{IsSize}
use Rattle.vt_screen.specs.Cells.{blank}
use Rattle.vt_screen.specs.Grid.{Grid, width_on, width_on_any, grid_on, row_of}
use Rattle.vt_screen.proofs.Places.{width-bounds, length-row_of, get_or-row_of, row_of-same}
use Rattle.vt_screen.proofs.Vt220Grids.{grid_on-sound}
use Rattle.vt_screen.proofs.SoundGrids.{grid_on-sound as any_grid_on-sound}
use Rattle.vt_screen.specs.Shown.{blank_is_shown}
use Rattle.vt_screen.proofs.Vt220Grids.{own-size}
use Rattle.vt_screen.proofs.OtherSize.{own-width}
use Rattle.vt_term.specs.declared.state.Cursor.{Cursor}
use Rattle.vt_term.specs.declared.state.Margins.{Margins}
use Rattle.vt_term.specs.State.{Saved}
use Rattle.vt_term.specs.State.{DisplayOf, Display, State, margins_of}
use Rattle.vt_term.specs.Sound.{IsPlace, AreSoundMargins, IsSoundDisplayOf, IsSoundSizedDisplay, IsSoundAt, IsSoundSized}
use Rattle.vt_term.specs.Pages.{PageState, IsSoundPageAt, IsSoundSizedPage}
use Rattle.vt_term.specs.Resizing.{count_off, col_on, wrap_on, page_on}
use Rattle.vt_term.specs.Resizing.{cursor_on, saved_on, stops_on, is_stop_on, is_as_large, margins_on, display_on, display_on_any}
use Rattle.vt_term.specs.Resizing.{state_on, log_on, hidden_off, hidden_log}
use Rattle.vt_term.specs.Text.{lines_text, line_text}
use Rattle.vt_term.proofs.Stops.{stops-same, length-stops_where}

-- a place that was brought inside
place_on : (rows width old_rows old_width row col inside : ℕ) (wrap : Bool) → 1 ≤ inside → inside ≤ rows → 1 ≤ width
    → IsPlace old_rows old_width row col wrap → IsPlace rows width inside (col_on width col wrap) (wrap_on width col wrap)
place_on rows width old_rows old_width row col inside true some last wide place = record {
  row_1 = omega arith;
  row_last = omega arith;
  col_1 = omega arith;
  col_last = omega arith;
  wrap_last = λ h. elim (leb_tells width col) [ inl t ↦ omega (arith, t) | inr t ↦ absurd (false≢true (sym t.0 ∙ h)) ];
}
place_on rows width old_rows old_width row col inside false some last wide place = record {
  row_1 = omega arith;
  row_last = omega arith;
  col_1 = omega (arith, place.col_1);
  col_last = omega arith;
  wrap_last = λ h. absurd (false≢true h);
}

-- margins and the cursor of a screen that is as large, or full margins
margins-sound : (large : Bool) (size : Size) (rows : ℕ) (m : Margins) → (large ≡ true → rows ≡ size.rows) → 2 ≤ size.rows
    → AreSoundMargins rows m → AreSoundMargins size.rows (if large then m else margins_of size)
margins-sound true size rows m same two sound = subst (λ n. AreSoundMargins n m) (same refl) sound
margins-sound false size rows m same two sound = record { from_row_1 = omega arith; two_rows = omega arith; to_last_row = omega arith }

origin-inside : (large : Bool) (size : Size) (m : Margins) (row : ℕ) → (large ≡ true → row ≤ size.rows)
    → large ≡ true → (m.top ≤ row) × (row ≤ m.bottom)
    → ((if large then m else margins_of size).top ≤ min row size.rows)
    × (min row size.rows ≤ (if large then m else margins_of size).bottom)
origin-inside true size m row low h inside = (omega (arith, low refl, inside), omega (arith, inside))
origin-inside false size m row low h inside = absurd (false≢true h)

rows-equal : {C B : Type 0} (size : Size) (s : DisplayOf C B) → is_as_large size s ≡ true → s.grid.size.rows ≡ size.rows
rows-equal {C = C} size s h = elim (eqb_tells s.grid.size.rows size.rows) [
  | inl e ↦ e.1
  | inr e ↦ absurd (false≢true (sym e.0 ∙ (and_parts _ _ h).0))
]

pub page_on-sound : (size : Size) (off : ℕ) (page : PageState) → IsSize size → IsSoundSizedPage page
    → IsSoundPageAt size (page_on size off page)
page_on-sound size off page sized sound =
    let some : 1 ≤ size.rows = omega (arith, sized.rows.0) in
    let wide : (2 ≤ width_on size page.grid) × (width_on size page.grid ≤ size.wide) =
    width-bounds size (width_on size page.grid) sized (page.grid.width == page.grid.size.wide, refl) in
    record {
      of_size = refl;
      grid = grid_on-sound size off page.grid sized sound.grid;
      saved = place_on size.rows (width_on size page.grid) page.grid.size.rows page.grid.width page.saved.row page.saved.col
          (min (max 1 (page.saved.row - off)) size.rows) page.saved.wrap (omega (arith, some)) (omega arith) (omega (arith, wide))
          sound.saved;
      saved_sets = sound.saved_sets;
    }

pub display_on-sound : {C B : Type 0} {shown : C → Bool} (z : C) (size : Size) (s : DisplayOf C B) → IsTrue (shown z) → IsSize size
    → IsSoundDisplayOf shown s.grid.size s → IsSoundDisplayOf shown size (display_on_any z size s)
unfolding stops_on
display_on-sound {shown = shown} z size s on sized sound =
    let some : 1 ≤ size.rows = omega (arith, sized.rows.0) in
    let wide : (2 ≤ width_on_any size s.grid) × (width_on_any size s.grid ≤ size.wide) =
    width-bounds size (width_on_any size s.grid) sized (s.grid.width == s.grid.size.wide, refl) in
    record {
      of_size = refl;
      grid = any_grid_on-sound z size (count_off size s) s.grid on sized sound.grid;
      cursor = place_on size.rows (width_on_any size s.grid) s.grid.size.rows s.grid.width s.cursor.row s.cursor.col
          (min s.cursor.row size.rows) s.cursor.wrap (omega (arith, some, sound.cursor.row_1)) (omega arith) (omega (arith, wide))
          sound.cursor;
      wrap = λ h. sound.wrap (and_parts _ _ h).0;
      origin = λ h. origin-inside (is_as_large size s) size s.margins s.cursor.row
          (λ large. omega (arith, sound.cursor.row_last, rows-equal size s large))
          (and_parts _ _ h).1
          (sound.origin (and_parts _ _ h).0);
      sets = sound.sets;
      margins = margins-sound (is_as_large size s) size s.grid.size.rows s.margins (rows-equal size s) sized.rows.0 sound.margins;
      stops = length-stops_where size.wide (is_stop_on s.stops);
      saved = place_on size.rows (width_on_any size s.grid) s.grid.size.rows s.grid.width s.saved.row s.saved.col
          (min (max 1 (s.saved.row - count_off size s)) size.rows) s.saved.wrap (omega (arith, some)) (omega arith)
          (omega (arith, wide)) sound.saved;
      saved_sets = sound.saved_sets;
    }

-- a display that was brought to the size of another one
pub brought-sound : {C B : Type 0} {shown : C → Bool} (z : C) (s inside now new : DisplayOf C B) → IsTrue (shown z) → inside ≡ now
    → IsSize inside.grid.size → IsSoundDisplayOf shown s.grid.size s → new ≡ display_on_any z now.grid.size s
    → IsSoundDisplayOf shown new.grid.size new
brought-sound {shown = shown} z s inside now new on same sized sound is =
    subst (λ d. IsSoundDisplayOf shown d.grid.size d) (sym is)
    (display_on-sound z now.grid.size s on (subst (λ d. IsSize d.grid.size) same sized) sound)

pub state_on-sound : (size : Size) (s : State) → IsSize size → IsSoundSized s → IsSoundAt size (state_on size s)
state_on-sound size s sized sound = record { display = display_on-sound blank size s.display blank_is_shown sized sound.display; held = sound.held }

-- ---- on its own size

module _ (rows width row col : ℕ) (wrap : Bool) (place : IsPlace rows width row col wrap) where
  same_row : min row rows ≡ row
  same_row = omega (arith, place.row_last)

  same_saved_row : min (max 1 (row - 0)) rows ≡ row
  same_saved_row = omega (arith, place.row_1, place.row_last)

  same_col : col_on width col wrap ≡ col
  same_col = go wrap place.wrap_last
    where
      go : (w : Bool) → (w ≡ true → col ≡ width) → col_on width col w ≡ col
      go true last = omega (arith, last refl)
      go false last = omega (arith, place.col_last)

  same_wrap : wrap_on width col wrap ≡ wrap
  same_wrap = go wrap place.wrap_last
    where
      go : (w : Bool) → (w ≡ true → col ≡ width) → (w && leb width col) ≡ w
      go true last = elim (leb_tells width col) [ inl t ↦ t.0 | inr t ↦ absurd (omega (arith, t, last refl)) ]
      go false last = refl

own-cursor : (rows width : ℕ) (c : Cursor) → IsPlace rows width c.row c.col c.wrap → cursor_on rows width c ≡ c
own-cursor rows width c place =
    let f : ℕ → ℕ → Bool → Cursor = λ r k w. record { row = r; col = k; wrap = w } in
    ap (λ r. f r (col_on width c.col c.wrap) (wrap_on width c.col c.wrap)) (same_row rows width c.row c.col c.wrap place)
    ∙ ap (λ k. f c.row k (wrap_on width c.col c.wrap)) (same_col rows width c.row c.col c.wrap place)
    ∙ ap (f c.row c.col) (same_wrap rows width c.row c.col c.wrap place)

own-saved : (rows width : ℕ) (s : Saved) → IsPlace rows width s.row s.col s.wrap → saved_on rows width 0 s ≡ s
own-saved rows width s place =
    let f : ℕ → ℕ → Bool → Saved = λ r k w. record s { row = r; col = k; wrap = w } in
    ap (λ r. f r (col_on width s.col s.wrap) (wrap_on width s.col s.wrap)) (same_saved_row rows width s.row s.col s.wrap place)
    ∙ ap (λ k. f s.row k (wrap_on width s.col s.wrap)) (same_col rows width s.row s.col s.wrap place)
    ∙ ap (f s.row s.col) (same_wrap rows width s.row s.col s.wrap place)

own-stops : (columns : ℕ) (stops : List Bool) → length stops ≡ columns → stops_on columns stops ≡ stops
unfolding stops_on
own-stops columns stops long = sym (stops-same columns (is_stop_on stops) stops long (λ k low.
    let here : k + 1 - 1 ≡ k = omega arith in
    elim (leb_tells (k + 1) (length stops)) [
      | inl t ↦ rw (t.0, here) refl
      | inr t ↦ absurd (omega (arith, t))
    ]))

both-equal : (a b c d : ℕ) → a ≡ b → c ≡ d → (a == b && c == d) ≡ true
both-equal a b c d first second = elim (eqb_tells a b) [
  | inl e ↦ elim (eqb_tells c d) [ inl f ↦ rw (e.0, f.0) refl | inr f ↦ absurd (f.1 second) ]
  | inr e ↦ absurd (e.1 first)
]

kept_decom : (d large : Bool) → large ≡ true → (d && large) ≡ d
kept_decom true large h = h
kept_decom false large h = refl

abbrev made_of : Display → Grid → Cursor → Margins → List Bool → Bool → Saved → Display
made_of s g c m ts o saved = record s {
  grid = g;
  cursor = c;
  margins = m;
  stops = ts;
  modes = record s.modes { decom = o };
  saved = saved;
}

pub own-display : (s : Display) → IsSoundSizedDisplay s → display_on s.grid.size s ≡ s
own-display s sound =
    let none : count_off s.grid.size s ≡ 0 = omega (arith, sound.cursor.row_last) in
    let width : width_on s.grid.size s.grid ≡ s.grid.width = own-width s.grid.size s.grid.width sound.grid.shape.width in
    let large : is_as_large s.grid.size s ≡ true =
    both-equal s.grid.size.rows s.grid.size.rows s.grid.width (width_on s.grid.size s.grid) refl (sym width) in
    let grid : grid_on s.grid.size (count_off s.grid.size s) s.grid ≡ s.grid =
    ap (λ n. grid_on s.grid.size n s.grid) none ∙ own-size s.grid sound.grid.shape in
    let cursor : cursor_on s.grid.size.rows (width_on s.grid.size s.grid) s.cursor ≡ s.cursor =
    ap (λ w. cursor_on s.grid.size.rows w s.cursor) width ∙ own-cursor s.grid.size.rows s.grid.width s.cursor sound.cursor in
    let brought : Saved = saved_on s.grid.size.rows (width_on s.grid.size s.grid) (count_off s.grid.size s) s.saved in
    let saved : brought ≡ s.saved =
    ap (λ n. saved_on s.grid.size.rows (width_on s.grid.size s.grid) n s.saved) none
    ∙ ap (λ w. saved_on s.grid.size.rows w 0 s.saved) width ∙ own-saved s.grid.size.rows s.grid.width s.saved sound.saved in
    let margins : margins_on s.grid.size s ≡ s.margins = ap (λ (b : Bool). if b then s.margins else margins_of s.grid.size) large in
    let stops : stops_on s.grid.size.wide s.stops ≡ s.stops = own-stops s.grid.size.wide s.stops sound.stops in
    let decom : (s.modes.decom && is_as_large s.grid.size s) ≡ s.modes.decom =
    kept_decom s.modes.decom (is_as_large s.grid.size s) large in
    ap (λ g. made_of s g (cursor_on s.grid.size.rows (width_on s.grid.size s.grid) s.cursor) (margins_on s.grid.size s)
    (stops_on s.grid.size.wide s.stops) (s.modes.decom && is_as_large s.grid.size s)
    brought) grid
    ∙ ap (λ c. made_of s s.grid c (margins_on s.grid.size s) (stops_on s.grid.size.wide s.stops)
    (s.modes.decom && is_as_large s.grid.size s) brought) cursor
    ∙ ap (λ m. made_of s s.grid s.cursor m (stops_on s.grid.size.wide s.stops) (s.modes.decom && is_as_large s.grid.size s)
    brought) margins
    ∙ ap (λ ts. made_of s s.grid s.cursor s.margins ts (s.modes.decom && is_as_large s.grid.size s)
    brought) stops
    ∙ ap (λ o. made_of s s.grid s.cursor s.margins s.stops o brought) decom
    ∙ ap (λ saved. made_of s s.grid s.cursor s.margins s.stops s.modes.decom saved) saved

pub own-state : (s : State) → IsSoundSized s → state_on s.display.grid.size s ≡ s
own-state s sound = ap (λ (d : Display). record s { display = d }) (own-display s.display sound.display)

pub own-log : (s : State) → IsSoundSized s → log_on s.display.grid.size s ≡ []
unfolding lines_text
own-log s sound =
    let none : count_off s.display.grid.size s.display ≡ 0 = omega (arith, sound.display.cursor.row_last) in
    rw none refl

pub own-page : (page : PageState) → IsSoundSizedPage page → page_on page.grid.size 0 page ≡ page
own-page page sound =
    let width : width_on page.grid.size page.grid ≡ page.grid.width = own-width page.grid.size page.grid.width sound.grid.shape.width in
    let saved : saved_on page.grid.size.rows (width_on page.grid.size page.grid) 0 page.saved ≡ page.saved =
    ap (λ w. saved_on page.grid.size.rows w 0 page.saved) width
    ∙ own-saved page.grid.size.rows page.grid.width page.saved sound.saved in
    let make : Grid → Saved → PageState = λ g s. record { grid = g; saved = s } in
    ap (λ g. make g (saved_on page.grid.size.rows (width_on page.grid.size page.grid) 0 page.saved)) (own-size page.grid sound.grid.shape)
    ∙ ap (make page.grid) saved

pub own-hidden_log : (page : PageState) → IsSoundSizedPage page → hidden_log page.grid.size page ≡ []
unfolding lines_text
own-hidden_log page sound =
    let none : hidden_off page.grid.size page ≡ 0 = omega (arith, sound.saved.row_last) in
    rw none refl

-- ---- no line is lost if the height changes alone

-- lines, and those after them
lines-on : (f : ℕ → List ℕ) (a n m : ℕ)
    → flat_map f (range_with_len a n) ++ flat_map f (range_with_len (a + n) m) ≡ flat_map f (range_with_len a (n + m))
lines-on f a zero m =
    let here : a + zero ≡ a = omega arith in
    let sum : zero + m ≡ m = omega arith in
    ap (λ b. flat_map f (range_with_len b m)) here ∙ ap (λ k. flat_map f (range_with_len a k)) (sym sum)
lines-on f a (suc n) m =
    let next : a + suc n ≡ a + 1 + n = omega arith in
    let sum : suc n + m ≡ suc (n + m) = omega arith in
    append_assoc (f a) (flat_map f (range_with_len (a + 1) n)) (flat_map f (range_with_len (a + suc n) m))
    ∙ ap (λ (t : List ℕ). f a ++ t)
    (ap (λ b. flat_map f (range_with_len (a + 1) n) ++ flat_map f (range_with_len b m)) next ∙ lines-on f (a + 1) n m)
    ∙ ap (λ k. flat_map f (range_with_len a k)) (sym sum)

-- the same lines under other numbers
lines-moved : (f g : ℕ → List ℕ) (off a b n : ℕ) → a + off ≡ b → ((r : ℕ) → a ≤ r → r < a + n → g r ≡ f (r + off))
    → flat_map g (range_with_len a n) ≡ flat_map f (range_with_len b n)
lines-moved f g off a b zero is same = refl
lines-moved f g off a b (suc n) is same =
    ap (λ (t : List ℕ). t ++ flat_map g (range_with_len (a + 1) n)) (same a (omega arith) (omega arith) ∙ ap f is)
    ∙ ap (λ (t : List ℕ). f b ++ t)
    (lines-moved f g off (a + 1) (b + 1) n (omega (arith, is)) (λ r low high. same r (omega (arith, low)) (omega (arith, high))))

-- a row that stays
row-stays : (s : Size) (off : ℕ) (g : Grid) (r : ℕ) → width_on s g ≡ g.width → 1 ≤ r → r ≤ s.rows → r + off ≤ g.size.rows
    → row_of (grid_on s off g) r ≡ row_of g (r + off)
row-stays s off g r wide r1 last there =
    sym (row_of-same blank s (width_on s g) _ r (row_of g (r + off)) r1 last (length-row_of blank g (r + off) ∙ sym wide) (λ c c1 cw.
    get_or-row_of blank g (r + off) c blank c1 (omega (arith, cw, wide))
    ∙ elim (leb_tells (r + off) g.size.rows) [
      | inl t ↦ elim (leb_tells c g.width) [
        | inl u ↦ rw (t.0, u.0) refl
        | inr u ↦ absurd (omega (arith, u, cw, wide))
      ]
      | inr t ↦ absurd (omega (arith, t, there))
    ]))

-- the lines that leave, and those that stay up to a row
lines-kept : (s : Size) (off row left : ℕ) (g : Grid) → width_on s g ≡ g.width → left + off ≡ row → row ≤ g.size.rows → left ≤ s.rows
    → lines_text off g ++ lines_text left (grid_on s off g) ≡ lines_text row g
unfolding lines_text
lines-kept s off row left g wide is last fits =
    let f : ℕ → List ℕ = λ r. line_text (row_of g r) in
    let all : off + left ≡ row = omega (arith, is) in
    ap (λ (t : List ℕ). flat_map f (range_with_len 1 off) ++ t)
    (lines-moved f (λ r. line_text (row_of (grid_on s off g) r)) off 1 (1 + off) left refl (λ r low high.
    ap line_text (row-stays s off g r wide low (omega (arith, high, fits)) (omega (arith, high, is, last)))))
    ∙ lines-on f 1 off left
    ∙ ap (λ n. flat_map f (range_with_len 1 n)) all

pub kept : (size : Size) (s : State) → IsSoundSized s → width_on size s.display.grid ≡ s.display.grid.width
    → log_on size s ++ lines_text (state_on size s).display.cursor.row (state_on size s).display.grid
    ≡ lines_text s.display.cursor.row s.display.grid
kept size s sound wide =
    lines-kept size (count_off size s.display) s.display.cursor.row (min s.display.cursor.row size.rows) s.display.grid wide (omega arith)
    (omega (arith, sound.display.cursor.row_last)) (omega arith)

-- the saved place of a page, and the rows that leave by it
pub hidden_line : (size : Size) (page : PageState) → IsSize size → IsSoundSizedPage page
    → (page_on size (hidden_off size page) page).saved.row + hidden_off size page ≡ page.saved.row
hidden_line size page sized sound = omega (arith, sized.rows.0, sound.saved.row_1)

pub kept_page : (size : Size) (page : PageState) → IsSize size → IsSoundSizedPage page → width_on size page.grid ≡ page.grid.width
    → hidden_log size page ++ lines_text (page_on size (hidden_off size page) page).saved.row (page_on size (hidden_off size page) page).grid ≡ lines_text page.saved.row page.grid
kept_page size page sized sound wide =
    lines-kept size (hidden_off size page) page.saved.row (page_on size (hidden_off size page) page).saved.row page.grid wide
    (hidden_line size page sized sound) (omega (arith, sound.saved.row_last)) (omega arith)
