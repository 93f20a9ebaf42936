-- The left and right margins still fit after every function, and after characters.
use Rattle.std.proofs.Common.{rules, arith, ◌≡◌, ℕ, ◌≤◌, ◌<◌, ◌-◌, Bool, true, false, List, [], ◌∷◌, Option, Some, None}
use Rattle.std.proofs.Common.{refl, subst, sym, ap, ◌∙◌}
use Rattle.std.specs.Prelude.{◌==◌, ◌&&◌, not, nat_le, nat_lt, min, max, is_some, unwrap_or, if◌then◌else◌}
use Rattle.std.proofs.lemmas.Bool.{false≢true}
use Rattle.std.proofs.lemmas.Bool.Decides.{nat_tests}
use Rattle.vt_syntax.specs.declared.event.Event.{Event}
use Rattle.vt_syntax.specs.declared.event.Event.TheVariants.{Print, Control, Escape, Sequence}
use Rattle.vt_glyph.specs.LookUp.{look_up}
use Rattle.vt_glyph.specs.Laws.{GlyphLaws, SetsLaws}
use Rattle.vt_screen.specs.declared.size.Size.{Size}
use Rattle.vt_screen.specs.Grid.{is_within, width_on}
use Rattle.vt_screen.proofs.OtherSize.{own-width}
use Rattle.vt_screen.specs.Laws.{RowLaws, TestLaws}
use Rattle.vt_screen.specs.Sizes.{IsSize, width_of}
use Rattle.vt_term.specs.State.{Display, last_column, bottom_row, at_place}
use Rattle.vt_term.specs.Sound.{IsSoundDisplayAt, IsSoundSizedDisplay}
use Rattle.vt_term.specs.Parameters.{first, second}
use Rattle.vt_term.specs.Editing.{erase_in_display}
use Rattle.vt_term.specs.Saving.{save_cursor, restore_cursor}
use Rattle.vt_term.specs.Modes.{private_modes, with_mode, column_mode, autowrap_mode, origin_mode}
use Rattle.vt_term.specs.Resets.{screen_alignment, is_level}
use Rattle.vt_term.specs.Resizing.{col_on, is_as_large, display_on}
use Rattle.vt_term.specs.Functions.{byte, effect}
use Rattle.vt_term.proofs.SoundEffects as terminals
use Rattle.vt_term.proofs.Tables.{AllRows, looked_up-holds, same-numbers}
use Rattle.vt_xterm.specs.declared.sides.Sides.{Sides}
use Rattle.vt_xterm.specs.Sides.{AreSides, FitsMargins, FitsSides, full_sides, are_narrow, is_between, is_wrapping}
use Rattle.vt_xterm.specs.Sides as between
use Rattle.vt_xterm.specs.Pages.{PagesState, Screens, on_display, sided, exchanged, show_page, with_blank, show_or_clear}
use Rattle.vt_xterm.specs.Pages.{change_sides, sides_set, with_full_sides, bounds_of, restored, restore_screens, set_sides, side_mode}
use Rattle.vt_xterm.specs.Pages.{sided_origin_mode, origin_mode_between, autowrap_mode_between, save_or_restore, show_and_save}
use Rattle.vt_xterm.specs.Pages.{allow_column_mode, allowed_column_mode, bracket_pastes, page_modes, with_page_mode, change_page_modes}
use Rattle.vt_xterm.specs.Bounded.{is_bare}
use Rattle.vt_xterm.specs.Resizing.{sides_on}
use Rattle.vt_xterm.specs.Front.{FunctionTable, save_or_set_sides, restore_if_bare, plain_functions, private_functions, exclamation_functions}
use Rattle.vt_xterm.specs.Front.{quote_functions, intermediate_functions, functions_of, function_in, plain_escapes, alignments}
use Rattle.vt_xterm.specs.Front.{set_level_wrapping, set_level_without_sides, screen_effect}
use Rattle.vt_xterm.proofs.Bounds.{other-wrap, set-fit, both-true, brought-part, width-part}
use Rattle.vt_xterm.proofs.SoundScreens.{AreSound, fixed, fitted-sound, show_page-keeps, save_or_restore-keeps, page_mode-keeps}
use Rattle.vt_xterm.proofs.SoundScreens.{screen_alignment-keeps, screen-event-keeps}
use Rattle.vt_xterm.proofs.Stays.{screen-stays}
use Rattle.vt_xterm.proofs.Places.{LeavesPlace, Leaves, unless-place, looked_up-or, erase_in_display-place, private_mode-place}
use Rattle.vt_xterm.proofs.Places.{plain_escape-place, escape_with-place, marked-place, with_inter-place, both-place}

-- ---- margins

pub still-fit : (m : Sides) (s t : Display) → LeavesPlace s t → FitsMargins m s → FitsMargins m t
still-fit m s t e i = record {
  sides = subst (λ w. AreSides w m) (sym e.0) i.sides;
  wrap = λ h. rw (e.0, e.1.0, e.1.1.0) (i.wrap h);
  origin = λ h. rw e.1.0 (i.origin (sym e.1.1.1 ∙ h));
}

pub still-sides : (sides : Option Sides) (s t : Display) → LeavesPlace s t → FitsSides s sides → FitsSides t sides
still-sides None s t e i = tt
still-sides (Some m) s t e i = still-fit m s t e i

pub wide-columns : (size : Size) (t : Display) → IsSoundDisplayAt size t → 1 < last_column t
wide-columns size t sound = go (last_column t) t.grid.size sound.grid.shape.size sound.grid.shape.width
  where
    go : (w : ℕ) (z : Size) → IsSize z → (wide : Bool) × (w ≡ width_of z wide) → 1 < w
    go w z is (true, wide) = omega (arith, is.narrow, is.wide, wide)
    go w z is (false, narrow) = omega (arith, is.narrow, narrow)

within-all : (left right col last : ℕ) → left ≡ 1 → right ≡ last → 1 ≤ col → col ≤ last → is_within left right col ≡ true
within-all left right col last one all low high = grind (arith, nat_tests)

-- full margins
full-fit : (size : Size) (m : Sides) (t : Display) → IsSoundDisplayAt size t → m.left ≡ 1 → m.right ≡ last_column t
    → m.wrap ≡ false → FitsMargins m t
full-fit size m t sound left right wrap = record {
  sides = record {
    from_column_1 = omega (arith, left);
    two_columns = omega (arith, left, right, wide-columns size t sound);
    to_last_column = omega (arith, right);
  };
  wrap = λ h. absurd (false≢true (sym wrap ∙ h));
  origin = λ h. within-all m.left m.right t.cursor.col (last_column t) left right sound.cursor.col_1 sound.cursor.col_last;
}

pub full-sides-fit : (size : Size) (t : Display) → IsSoundDisplayAt size t → FitsMargins (full_sides (last_column t)) t
full-sides-fit size t sound = full-fit size (full_sides (last_column t)) t sound refl refl refl

pub filled-fit : (size : Size) (t : Display) (sides : Option Sides) → IsSoundDisplayAt size t
    → FitsSides t (change_sides (λ m. full_sides (last_column t)) sides)
filled-fit size t None sound = tt
filled-fit size t (Some m) sound = full-sides-fit size t sound

-- margins that leave no column out
all-columns : (left right w : ℕ) → 1 ≤ left → left < right → right ≤ w
    → ((nat_le 1 left && (nat_lt left right && nat_le right w)) && not (left == 1 && right == w)) ≡ false
    → (left ≡ 1) × (right ≡ w)
all-columns left right w low two high is = (grind (arith, nat_tests), grind (arith, nat_tests))

not-narrow : (w : ℕ) (m : Sides) → AreSides w m → are_narrow w m ≡ false → (m.left ≡ 1) × (m.right ≡ w)
not-narrow w m fits is =
    all-columns m.left m.right w fits.from_column_1 fits.two_columns fits.to_last_column is

no-room : (right last : ℕ) → right ≡ last → nat_lt right last ≡ false
no-room right last is = grind (arith, nat_tests)

unwrapped-at-end : (m : Sides) (s : Display) → FitsMargins m s → m.right ≡ last_column s → m.wrap ≡ false
unwrapped-at-end m s i right = go m.wrap i.wrap
  where
    go : (b : Bool) → (b ≡ true → is_wrapping m s ≡ true) → b ≡ false
    go false h = refl
    go true h =
        let some = (both-true s.modes.decawm (s.cursor.col == m.right && nat_lt m.right (last_column s)) (h refl)).1 in
        let less = (both-true (s.cursor.col == m.right) (nat_lt m.right (last_column s)) some).1 in
        sym less ∙ no-room m.right (last_column s) right

-- they fit any sound display of that width
full-stays : (size : Size) (m : Sides) (s t : Display) → IsSoundDisplayAt size t → t.grid.width ≡ s.grid.width
    → are_narrow (last_column s) m ≡ false → FitsMargins m s → FitsMargins m t
full-stays size m s t sound width is i =
    let all = not-narrow (last_column s) m i.sides is in
    full-fit size m t sound all.0 (all.1 ∙ sym width) (unwrapped-at-end m s i all.1)

wide-of : (w : ℕ) (m : Sides) → between.bounds w (Some m) ≡ None → are_narrow w m ≡ false
unfolding between.bounds
wide-of w m none = go (are_narrow w m) none
  where
    go : (b : Bool) → (if b then Some m else None) ≡ None → b ≡ false
    go true h = absurd cc
    go false h = refl

pub wide-sides : (size : Size) (sides : Option Sides) (s t : Display) → IsSoundDisplayAt size t → t.grid.width ≡ s.grid.width
    → between.bounds (last_column s) sides ≡ None → FitsSides s sides → FitsSides t sides
wide-sides size None s t sound width none i = tt
wide-sides size (Some m) s t sound width none i = full-stays size m s t sound width (wide-of (last_column s) m none) i

-- without a pending wrap
pub loose : (m : Sides) (t : Display) → AreSides (last_column t) m → (t.modes.decom ≡ true → is_between m t ≡ true)
    → FitsMargins (record m { wrap = false }) t
loose m t fits origin = record {
  sides = other-wrap (last_column t) m false fits;
  wrap = λ h. absurd cc;
  origin = origin;
}

loose-sides : (sides : Option Sides) (t : Display) → FitsSides t sides
    → FitsSides t (change_sides (λ m. record m { wrap = false }) sides)
loose-sides None t i = tt
loose-sides (Some m) t i = loose m t i.sides i.origin

-- ---- screens

abbrev pub Fit : Screens → Type 0
Fit s = FitsSides s.display s.pages.sides

abbrev pub KeepsFit : (Screens → Screens) → Type 0
KeepsFit f = (size : Size) (s : Screens) → AreSound size s → Fit s → Fit (f s)

pub one-fit : (b : Bool) (s t : Screens) → Fit s → Fit t → Fit (if b then s else t)
one-fit true s t first second = first
one-fit false s t first second = second

pub display-fit : (f : Display → Display) → Leaves f → KeepsFit (on_display f)
display-fit f leaves size s i fit = still-sides s.pages.sides s.display (f s.display) (leaves s.display) fit

-- ---- DECRC

brought-within : (left right col : ℕ) → left < right → is_within left right (max left (min col right)) ≡ true
brought-within left right col two = grind (arith, nat_tests)

stays-within : (decom inside : Bool) → (decom && not inside) ≡ false → decom ≡ true → inside ≡ true
stays-within true true h on = refl
stays-within true false h on = absurd cc
stays-within false inside h on = absurd cc

brought-origin : (m : Sides) (t : Display) → m.left < m.right → (between.brought m t).modes.decom ≡ true
    → is_between m (between.brought m t) ≡ true
brought-origin m t two = go (t.modes.decom && not (is_between m t)) refl
  where
    moved : Display
    moved = record t { cursor = at_place t.cursor.row (max m.left (min t.cursor.col m.right)) }

    go : (b : Bool) → (t.modes.decom && not (is_between m t)) ≡ b → (if b then moved else t).modes.decom ≡ true
        → is_between m (if b then moved else t) ≡ true
    go true is on = brought-within m.left m.right t.cursor.col two
    go false is on = stays-within t.modes.decom (is_between m t) is on

back-fit : (size : Size) (sides : Option Sides) (d : Display) → IsSoundDisplayAt size (restore_cursor d) → FitsSides d sides
    → FitsSides (restored (between.bounds (last_column d) sides) d) (change_sides (λ m. record m { wrap = false }) sides)
unfolding between.bounds
back-fit size None d sound i = tt
back-fit size (Some m) d sound i = go (are_narrow (last_column d) m) refl
  where
    t : Display
    t = restore_cursor d

    go : (b : Bool) → are_narrow (last_column d) m ≡ b
        → FitsMargins (record m { wrap = false }) (restored (if b then Some m else None) d)
    go true is =
        loose m (between.brought m t)
        (subst (λ w. AreSides w m) (sym (brought-part (λ g. g.width) width-part m t)) i.sides)
        (brought-origin m t i.sides.two_columns)
    go false is =
        let all = not-narrow (last_column d) m i.sides is in
        full-fit size (record m { wrap = false }) t sound all.0 all.1 refl

pub restore_screens-fit : KeepsFit restore_screens
restore_screens-fit size s i fit =
    back-fit size s.pages.sides s.display (fixed restore_cursor terminals.restore_cursor-keeps (λ t. refl) size s.display i.0) fit

-- ---- pages

exchanged-fit : (alternate : Bool) → KeepsFit (exchanged alternate)
exchanged-fit alternate size s i fit =
    let shape = i.0.grid.shape.width in
    let page = fitted-sound size s.display.grid.width shape.0 s.pages.other
    (shape.1 ∙ ap (λ z. width_of z shape.0) i.0.of_size) i.1 in
    still-sides s.pages.sides s.display (exchanged alternate s).display (page.1, (refl, (refl, refl))) fit

pub show_page-fit : (alternate : Bool) → KeepsFit (show_page alternate)
show_page-fit alternate size s i fit = go s.pages.alternate alternate
  where
    go : (b on : Bool) → Fit (if b then (if on then s else exchanged false s) else (if on then exchanged true s else s))
    go true true = fit
    go true false = exchanged-fit false size s i fit
    go false true = exchanged-fit true size s i fit
    go false false = fit

show_or_clear-fit : (alternate : Bool) → KeepsFit (show_or_clear alternate)
show_or_clear-fit true size s i fit = show_page-fit true size s i fit
show_or_clear-fit false size s i fit =
    one-fit s.pages.alternate (with_blank (show_page false s)) s (show_page-fit false size s i fit) fit

save_or_restore-fit : (save : Bool) → KeepsFit (save_or_restore save)
save_or_restore-fit true = display-fit save_cursor (λ s. (refl, (refl, (refl, refl))))
save_or_restore-fit false = restore_screens-fit

show_and_save-fit : (alternate : Bool) → KeepsFit (show_and_save alternate)
show_and_save-fit true size s i fit =
    let saved = on_display save_cursor s in
    let shown = show_page true saved in
    let sound = save_or_restore-keeps true size s i in
    let there : Fit shown = show_page-fit true size saved sound (save_or_restore-fit true size s i fit) in
    loose-sides shown.pages.sides (erase_in_display false 2 shown.display)
    (display-fit (erase_in_display false 2) (erase_in_display-place false 2) size shown (show_page-keeps true size saved sound) there)
show_and_save-fit false size s i fit =
    restore_screens-fit size (show_page false s) (show_page-keeps false size s i) (show_page-fit false size s i fit)

-- ---- modes

allow_column_mode-fit : (on : Bool) → KeepsFit (allow_column_mode on)
allow_column_mode-fit on size s i fit = fit

bracket_pastes-fit : (on : Bool) → KeepsFit (bracket_pastes on)
bracket_pastes-fit on size s i fit = fit

allowed_column_mode-fit : (wide : Bool) → KeepsFit (allowed_column_mode wide)
allowed_column_mode-fit wide size s i fit =
    one-fit s.pages.resizes (with_full_sides (on_display (column_mode wide) s)) s
    (filled-fit size (column_mode wide s.display) s.pages.sides
    (fixed (column_mode wide) (terminals.column_mode-keeps wide) (λ t. refl) size s.display i.0)) fit

left-within : (left right : ℕ) → left < right → is_within left right left ≡ true
left-within left right two = grind (arith, nat_tests)

-- home, with this DECOM
home-origin : (m : Sides) (s : Display) → m.left < m.right → (between.home m s).modes.decom ≡ true
    → is_between m (between.home m s) ≡ true
home-origin m s two on = let set : s.modes.decom ≡ true = on in rw set (left-within m.left m.right two)

origin-fit : (size : Size) (on : Bool) (sides : Option Sides) (s : Screens) → IsSoundDisplayAt size s.display → FitsSides s.display sides
    → FitsSides (sided_origin_mode on (between.bounds (last_column s.display) sides) s).display
    (change_sides (λ m. record m { wrap = false }) sides)
unfolding between.bounds
origin-fit size on None s sound i = tt
origin-fit size on (Some m) s sound i = go (are_narrow (last_column s.display) m) refl
  where
    go : (b : Bool) → are_narrow (last_column s.display) m ≡ b
        → FitsMargins (record m { wrap = false }) (sided_origin_mode on (if b then Some m else None) s).display
    go true is =
        loose m (between.origin_mode on m s.display) i.sides
        (home-origin m (record s.display { modes = record s.display.modes { decom = on } }) i.sides.two_columns)
    go false is =
        let all = not-narrow (last_column s.display) m i.sides is in
        full-fit size (record m { wrap = false }) (origin_mode on s.display)
        (fixed (origin_mode on) (terminals.origin_mode-keeps on) (λ t. refl) size s.display sound) all.0 all.1 refl

same-sides : (on : Bool) (b : Option Sides) (s : Screens) → (sided_origin_mode on b s).pages ≡ s.pages
same-sides on None s = refl
same-sides on (Some m) s = refl

origin_mode_between-fit : (on : Bool) → KeepsFit (origin_mode_between on)
origin_mode_between-fit on size s i fit =
    let after = sided_origin_mode on (bounds_of s) s in
    subst (λ (p : PagesState). FitsSides after.display (change_sides (λ m. record m { wrap = false }) p.sides)) (sym (same-sides on (bounds_of s) s))
    (origin-fit size on s.pages.sides s i.0 fit)

wraps-fit : (sides : Option Sides) (s : Display) → FitsSides s sides → FitsSides (autowrap_mode true s) sides
wraps-fit None s i = tt
wraps-fit (Some m) s i = record {
  sides = i.sides;
  wrap = λ h. (both-true s.modes.decawm (s.cursor.col == m.right && nat_lt m.right (last_column s)) (i.wrap h)).1;
  origin = i.origin;
}

unwraps-fit : (sides : Option Sides) (s : Display) → FitsSides s sides
    → FitsSides (autowrap_mode false s) (change_sides (λ m. record m { wrap = false }) sides)
unwraps-fit None s i = tt
unwraps-fit (Some m) s i = loose m (autowrap_mode false s) i.sides i.origin

autowrap_mode_between-fit : (on : Bool) → KeepsFit (autowrap_mode_between on)
autowrap_mode_between-fit true size s i fit = wraps-fit s.pages.sides s.display fit
autowrap_mode_between-fit false size s i fit = unwraps-fit s.pages.sides s.display fit

side_mode-fit : (on : Bool) → KeepsFit (side_mode on)
side_mode-fit false size s i fit = tt
side_mode-fit true size s i fit = go s.pages.sides fit
  where
    go : (sides : Option Sides) → FitsSides s.display sides
        → FitsSides s.display (sides_set s.display sides)
    go None h = full-sides-fit size s.display i.0
    go (Some m) h = h

page_modes-fit : AllRows (λ key f. (on : Bool) → KeepsFit (f on)) page_modes
unfolding AllRows
page_modes-fit = (
  allowed_column_mode-fit,
  (
    origin_mode_between-fit,
    (
      autowrap_mode_between-fit,
      (
        allow_column_mode-fit,
        (
          show_page-fit,
          (side_mode-fit, (show_or_clear-fit, (save_or_restore-fit, (show_and_save-fit, (bracket_pastes-fit, tt))))),
        ),
      ),
    ),
  ),
)

page_mode-fit : (on : Bool) (p : ℕ) → KeepsFit (with_page_mode on p)
unfolding with_page_mode
page_mode-fit on p =
    looked_up-or (λ key f. (on : Bool) → KeepsFit (f on)) page_modes p (λ on. on_display (with_mode private_modes on p))
    (λ none on. display-fit (with_mode private_modes on p) (private_mode-place on p none)) page_modes-fit on

-- ---- DECSLRM

set_sides-fit : (p1 p2 : ℕ) → KeepsFit (set_sides p1 p2)
set_sides-fit p1 p2 size s i fit = go (between.are_sides (last_column s.display) p1 p2) refl
  where
    m : Sides
    m = between.sides_of (last_column s.display) p1 p2

    go : (b : Bool) → between.are_sides (last_column s.display) p1 p2 ≡ b
        → Fit (if b then sided (Some m) (on_display (between.home m) s) else s)
    go true is =
        let two = set-fit (last_column s.display) p1 p2 is in
        loose m (between.home m s.display) two (home-origin m s.display two.two_columns)
    go false is = fit

save_or_set_sides-fit : (params : List ℕ) (sides : Option Sides) → KeepsFit (save_or_set_sides params sides)
save_or_set_sides-fit params None size s i fit =
    one-fit (is_bare params) (on_display save_cursor s) s (save_or_restore-fit true size s i fit) fit
save_or_set_sides-fit params (Some m) size s i fit = set_sides-fit (first params) (second params) size s i fit

pub s-fit : (params : List ℕ) → KeepsFit (λ s. save_or_set_sides params s.pages.sides s)
s-fit params size s i fit = save_or_set_sides-fit params s.pages.sides size s i fit

pub restore_if_bare-fit : (params : List ℕ) → KeepsFit (restore_if_bare params)
restore_if_bare-fit params size s i fit =
    one-fit (is_bare params) (restore_screens s) s (restore_screens-fit size s i fit) fit

-- ---- functions, if the margins leave no column out

-- one that leaves the width, and a sound display
unfoldable Wide : (Screens → Screens) → Type 0
Wide f = (size : Size) (s : Screens) → IsSoundDisplayAt size (f s).display → AreSound size s
    → (f s).display.grid.width ≡ s.display.grid.width → bounds_of s ≡ None → Fit s → Fit (f s)

kept-wide : (f : Screens → Screens) → ((s : Screens) → (f s).pages.sides ≡ s.pages.sides) → Wide f
unfolding Wide
kept-wide f same size s sound i width none fit =
    subst (FitsSides (f s).display) (sym (same s)) (wide-sides size s.pages.sides s.display (f s).display sound width none fit)

any-wide : (f : Screens → Screens) → KeepsFit f → Wide f
unfolding Wide
any-wide f fits size s sound i width none fit = fits size s i fit

-- ---- rows that a table lacks

missed : {X : Type 0} (b : Bool) (x : X) → is_some (if b then Some x else None) ≡ false → b ≡ false
missed true x h = h
missed false x h = refl

not-both : (a b : Bool) → a ≡ false → (a && b) ≡ false
not-both a b is = rw is refl

none-after : (table : Option FunctionTable) (last : ℕ) → is_some table ≡ false
    → is_some (look_up (unwrap_or table []) last) ≡ false
none-after None last h = refl
none-after (Some rows) last h = absurd cc

-- ---- events

module _ (glyphs : GlyphLaws) (sets : SetsLaws) (rows : RowLaws) (tests : TestLaws) where
  change_page_modes-fit : (on : Bool) (params : List ℕ) → KeepsFit (change_page_modes on params)
  change_page_modes-fit on [] size s i fit = fit
  change_page_modes-fit on (p ∷ params) size s i fit =
      change_page_modes-fit on params size (with_page_mode on p s) (page_mode-keeps glyphs sets on p size s i)
      (page_mode-fit on p size s i fit)

  -- what the table has, or what the front has no row for
  function_in-fit : (table : FunctionTable) (event : Event) (last : ℕ) (params : List ℕ)
      → (is_some (look_up table last) ≡ false → Leaves (effect event)) → AllRows (λ key f. KeepsFit (f params)) table
      → KeepsFit (function_in table event last params)
  unfolding function_in
  function_in-fit table event last params leaves all =
      looked_up-or (λ key f. KeepsFit (f params)) table last (λ params. on_display (effect event))
      (λ none. display-fit (effect event) (leaves none)) all

  pub escape-fit : (last : ℕ) → KeepsFit (screen_effect (Escape None last))
  unfolding AllRows
  escape-fit last =
      function_in-fit plain_escapes (Escape None last) last [] (plain_escape-place last)
      (restore_screens-fit, (λ size s i fit. tt, tt))

  alignment-fit : KeepsFit (λ s. with_full_sides (on_display screen_alignment s))
  alignment-fit size s i fit =
      filled-fit size (screen_alignment s.display) s.pages.sides (screen_alignment-keeps size s.display i.0)

  pub escape_with-fit : (inter last : ℕ) → KeepsFit (screen_effect (Escape (Some inter) last))
  unfolding AllRows
  escape_with-fit inter last =
      looked_up-or (λ key table. KeepsFit (function_in table (Escape (Some key) last) last []))
      ((byte "#", alignments) ∷ []) inter []
      (λ none. function_in-fit [] (Escape (Some inter) last) last []
      (λ h. escape_with-place inter last (not-both (inter == 0x23) (last == 0x38) (missed (inter == 0x23) alignments none))) tt) (
        function_in-fit alignments (Escape (Some 0x23) last) last []
            (λ none. escape_with-place 0x23 last (missed (last == 0x38) (λ params s. with_full_sides (on_display screen_alignment s)) none)) (alignment-fit, tt),
        tt,
      )

  private-fit : (event : Event) (last : ℕ) (params : List ℕ)
      → (is_some (look_up (functions_of (Some 0x3F) None) last) ≡ false → Leaves (effect event))
      → KeepsFit (function_in private_functions event last params)
  unfolding functions_of AllRows
  private-fit event last params leaves =
      function_in-fit private_functions event last params leaves
      (change_page_modes-fit true params, (change_page_modes-fit false params, tt))

  pub marked-fit : (marker last : ℕ) (params : List ℕ) → KeepsFit (screen_effect (Sequence (Some marker) (record { items = params }) None last))
  unfolding functions_of AllRows
  marked-fit marker last params =
      looked_up-or (λ key table. KeepsFit (function_in table (Sequence (Some key) (record { items = params }) None last) last params))
      ((byte "?", private_functions) ∷ []) marker []
      (λ none. function_in-fit [] (Sequence (Some marker) (record { items = params }) None last) last params
      (λ h. marked-place marker last params (none-after (look_up ((byte "?", private_functions) ∷ []) marker) last none)) tt)
      (private-fit (Sequence (Some 0x3F) (record { items = params }) None last) last params (marked-place 0x3F last params), tt)

  level-place : (params : List ℕ) (s : Display) → is_level (first params) (second params) ≡ false
      → LeavesPlace s (set_level_wrapping params s)
  level-place params s is = unless-place (is_level (first params) (second params)) s _ is

  level-fit : (params : List ℕ) → KeepsFit (set_level_without_sides params)
  level-fit params size s i fit = go (is_level (first params) (second params)) refl
    where
      leveled : Screens
      leveled = on_display (set_level_wrapping params) s

      go : (b : Bool) → is_level (first params) (second params) ≡ b → Fit (if b then sided None leveled else leveled)
      go true is = tt
      go false is =
          still-sides s.pages.sides s.display (set_level_wrapping params s.display) (level-place params s.display is) fit

  quote-fit : (event : Event) (last : ℕ) (params : List ℕ)
      → (is_some (look_up (functions_of None (Some 0x22)) last) ≡ false → Leaves (effect event))
      → KeepsFit (function_in quote_functions event last params)
  unfolding functions_of AllRows
  quote-fit event last params leaves = function_in-fit quote_functions event last params leaves (level-fit params, tt)

  exclamation-fit : (event : Event) (last : ℕ) (params : List ℕ)
      → (is_some (look_up (functions_of None (Some 0x21)) last) ≡ false → Leaves (effect event))
      → KeepsFit (function_in exclamation_functions event last params)
  unfolding functions_of AllRows
  exclamation-fit event last params leaves =
      function_in-fit exclamation_functions event last params leaves (λ size s i fit. tt, tt)

  pub with_inter-fit : (inter last : ℕ) (params : List ℕ) → KeepsFit (screen_effect (Sequence None (record { items = params }) (Some inter) last))
  unfolding functions_of AllRows
  with_inter-fit inter last params =
      looked_up-or (λ key table. KeepsFit (function_in table (Sequence None (record { items = params }) (Some key) last) last params))
      intermediate_functions inter []
      (λ none. function_in-fit [] (Sequence None (record { items = params }) (Some inter) last) last params
      (λ h. with_inter-place inter last params (none-after (look_up intermediate_functions inter) last none)) tt) (
        quote-fit (Sequence None (record { items = params }) (Some 0x22) last) last params (with_inter-place 0x22 last params),
        (exclamation-fit (Sequence None (record { items = params }) (Some 0x21) last) last params (with_inter-place 0x21 last params), tt),
      )

  pub both-fit : (marker inter last : ℕ) (params : List ℕ)
      → KeepsFit (screen_effect (Sequence (Some marker) (record { items = params }) (Some inter) last))
  unfolding functions_of AllRows
  both-fit marker inter last params =
      function_in-fit [] (Sequence (Some marker) (record { items = params }) (Some inter) last) last params
      (λ h. both-place marker inter last params) tt

  plain_functions-wide : (params : List ℕ) → AllRows (λ key f. Wide (f params)) plain_functions
  unfolding AllRows
  plain_functions-wide params =
      let saves : Wide (λ s. save_or_set_sides params s.pages.sides s) = any-wide _ (s-fit params) in
      let restores : Wide (restore_if_bare params) = any-wide _ (restore_if_bare-fit params) in
      search (rules, kept-wide, saves, restores)

  plain-wide : (event : Event) (last : ℕ) (params : List ℕ) → Wide (function_in plain_functions event last params)
  unfolding function_in
  plain-wide event last params =
      looked_up-holds (λ key f. Wide (f params)) plain_functions last (λ params. on_display (effect event))
      (kept-wide (on_display (effect event)) (λ s. refl)) (plain_functions-wide params)

  wide-fit : (event : Event) → Wide (screen_effect event) → (size : Size) (s : Screens) → AreSound size s
      → (screen_effect event s).display.grid.width ≡ s.display.grid.width → bounds_of s ≡ None → Fit s
      → Fit (screen_effect event s)
  unfolding Wide
  wide-fit event wide size s i width none fit =
      wide size s (screen-event-keeps glyphs sets rows tests event size s i).0 i width none fit

  pub screen-event-fit : (event : Event) (size : Size) (s : Screens) → AreSound size s → bounds_of s ≡ None → Fit s
      → Fit (screen_effect event s)
  unfolding functions_of
  screen-event-fit (Print b) size s i none fit =
      wide-fit (Print b) (kept-wide (screen_effect (Print b)) (λ s. refl)) size s i (screen-stays (Print b) refl refl s).1 none fit
  screen-event-fit (Control b) size s i none fit =
      wide-fit (Control b) (kept-wide (screen_effect (Control b)) (λ s. refl)) size s i (screen-stays (Control b) refl refl s).1 none
      fit
  screen-event-fit (Escape None last) size s i none fit = escape-fit last size s i fit
  screen-event-fit (Escape (Some inter) last) size s i none fit = escape_with-fit inter last size s i fit
  screen-event-fit (Sequence None params None last) size s i none fit =
      let event = Sequence None params None last in
      wide-fit event (plain-wide event last params.items) size s i (screen-stays event refl refl s).1 none fit
  screen-event-fit (Sequence (Some marker) params None last) size s i none fit = marked-fit marker last params.items size s i fit
  screen-event-fit (Sequence None params (Some inter) last) size s i none fit = with_inter-fit inter last params.items size s i fit
  screen-event-fit (Sequence (Some marker) params (Some inter) last) size s i none fit =
      both-fit marker inter last params.items size s i fit

-- ---- another size

and-true : (b : Bool) → (b && true) ≡ b
and-true true = refl
and-true false = refl

col-stays : (width col : ℕ) (wrap : Bool) → (wrap ≡ true → col ≡ width) → col ≤ width → col_on width col wrap ≡ col
col-stays width col true last fits = let is : col ≡ width = last refl in grind (arith, nat_tests, is)
col-stays width col false last fits = grind (arith, nat_tests, fits)

-- a screen that is as large
large-place : (size : Size) (s : Display) → IsSoundSizedDisplay s → is_as_large size s ≡ true → LeavesPlace s (display_on size s)
large-place size s sound is =
    let same = both-true (bottom_row s == size.rows) (last_column s == width_on size s.grid) is in
    let width : last_column s ≡ width_on size s.grid = same-numbers (last_column s) (width_on size s.grid) same.1 in (
      sym width,
      (
        ap (λ w. col_on w s.cursor.col s.cursor.wrap) (sym width)
            ∙ col-stays (last_column s) s.cursor.col s.cursor.wrap sound.cursor.wrap_last sound.cursor.col_last,
        (refl, ap (λ b. s.modes.decom && b) is ∙ and-true s.modes.decom),
      ),
    )

pub resized-fit : (size : Size) (s : Display) (sides : Option Sides) → IsSoundSizedDisplay s
    → IsSoundDisplayAt size (display_on size s) → FitsSides s sides → FitsSides (display_on size s) (sides_on size s sides)
resized-fit size s sides sound after fit = go (is_as_large size s) refl
  where
    go : (b : Bool) → is_as_large size s ≡ b → FitsSides (display_on size s)
        (if b then sides else change_sides (λ m. full_sides (width_on size s.grid)) sides)
    go true is = still-sides sides s (display_on size s) (large-place size s sound is) fit
    go false is = filled-fit size (display_on size s) sides after

both-equal : (a b c d : ℕ) → a ≡ b → c ≡ d → (a == b && c == d) ≡ true
both-equal a b c d one two = grind (arith, nat_tests)

-- its own size
pub own-sides : (s : Display) (sides : Option Sides) → IsSoundSizedDisplay s → sides_on s.grid.size s sides ≡ sides
own-sides s sides sound =
    let width : width_on s.grid.size s.grid ≡ s.grid.width = own-width s.grid.size s.grid.width sound.grid.shape.width in
    let large : is_as_large s.grid.size s ≡ true =
    both-equal s.grid.size.rows s.grid.size.rows s.grid.width (width_on s.grid.size s.grid) refl (sym width) in
    ap (λ b. if b then sides else change_sides (λ m. full_sides (width_on s.grid.size s.grid)) sides) large
