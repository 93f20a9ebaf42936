-- The repaint is events, short and ASCII.
use Rattle.std.proofs.Common.{◌≡◌, Bool, true, false, not, cond, leb, ltb, ◌&&◌, ℕ, suc, ◌+◌, ◌-◌, ◌≤◌, List, [], ◌∷◌, ◌++◌}
use Rattle.std.proofs.Common.{length, length-append, All, inr, arith, refl, sym, subst, ◌*◌, Option, Some, None, decimal, append_assoc}
use Rattle.std.proofs.Common.{append-nil}
use Rattle.std.specs.Fmt.{digits}
use Rattle.std.specs.List.{list_all}
use Rattle.std.specs.Str.{IsAscii}
use Rattle.std.proofs.lemmas.Bool.{leb-true, ltb-true, and_parts}
use Rattle.std.proofs.lemmas.Fmt.{length-decimal-le, IsAscii-decimal}
use Rattle.std.proofs.lemmas.List.Sums.{AllPass-from_list_all}
use Rattle.std.proofs.lemmas.Str.{IsAscii-append}
use Rattle.std.proofs.lemmas.Str.Ascii.{IsAscii-from_all}
use Rattle.std.proofs.lemmas.Grind.{flat_map-append}
use Rattle.std.proofs.lemmas.List.Elements.{All-nil, All-cons, All-append}
use Rattle.vt_syntax.specs.declared.event.Event.{Event}
use Rattle.vt_syntax.specs.Spelling.{IsEvent, spell_event, spell_events}
use Rattle.vt_term.specs.State.{Display}
use Rattle.vt_term.specs.Sound.{IsSoundDisplayAt}
use Rattle.vt_paint.specs.Controls.{private_mode, reset_to_initial_state}
use Rattle.vt_paint.proofs.Speech.{speaks-ascii}
use Rattle.vt_paint.specs.Repaint.{made_events}
use Rattle.vt_screen.specs.declared.size.Size.{Size}
use Rattle.vt_term.proofs.SizeKept.{own-display}
use Rattle.vt_paint.specs.Limits.{row_limit}
use Rattle.vt_paint.specs.Items.{first_items, placed_items}
use Rattle.vt_paint.proofs.RowLimits.{three_digits}
use Rattle.vt_paint.proofs.Within.{AreSpelledWithin, made_within, first_within, placed_within}
use Rattle.vt_screen.proofs.Places.{width-bounds}
use Rattle.vt_xterm.specs.declared.sides.Sides.{Sides}
use Rattle.vt_xterm.specs.Play.{Whole}
use Rattle.vt_xterm_paint.specs.Repaint.{other_shown, paste_item, xterm_paint_limit, xterm_repaint_events}
use Rattle.vt_xterm_paint.specs.Repaint.{are_sent, sent_sides, sides_to, sides_item, column_named, is_wrapping, shown_events, shown_sides}

-- events of at most n bytes, which are ASCII
pub record AreAsciiWithin (n : ℕ) (es : List Event) : Type 0 where
  pub events : All IsEvent es
  pub short : length (spell_events es) ≤ n
  pub ascii : IsAscii (spell_events es)

then-within : (m n : ℕ) (es fs : List Event) → AreAsciiWithin m es → AreAsciiWithin n fs → AreAsciiWithin (m + n) (es ++ fs)
then-within m n es fs h k = record {
  events = All-append IsEvent es fs h.events k.events;
  short = rw (flat_map-append spell_event es fs, length-append (spell_events es) (spell_events fs))
      (omega (arith, h.short, k.short));
  ascii = rw (flat_map-append spell_event es fs) (IsAscii-append (spell_events es) (spell_events fs) h.ascii k.ascii);
}

small-ascii : (bytes : List ℕ) → list_all (λ b. leb (suc b) 128) bytes ≡ true → IsAscii bytes
small-ascii bytes h =
    IsAscii-from_all bytes (λ k d l. leb-true _ 128 (AllPass-from_list_all (λ b. leb (suc b) 128) bytes h k d l))

-- by computing
one-within : (event : Event) → IsEvent event → list_all (λ b. leb (suc b) 128) (spell_events (event ∷ [])) ≡ true
    → AreAsciiWithin (length (spell_events (event ∷ []))) (event ∷ [])
one-within event is small = record {
  events = All-cons IsEvent event [] is (All-nil IsEvent);
  short = omega arith;
  ascii = small-ascii (spell_events (event ∷ [])) small;
}

mode-is : (n : ℕ) (on : Bool) → n ≤ 9999 → IsEvent (private_mode n on)
mode-is n on small = record {
  is_marker = (omega arith, omega arith);
  are_values = record { some = omega arith; few = omega arith; small = All-cons (λ v. v ≤ 9999) n [] small (All-nil (λ v. v ≤ 9999)) };
  is_intermediate = tt;
  low = low on;
  high = high on;
}
  where
    low : (on : Bool) → 0x40 ≤ cond on 0x68 0x6C
    low true = omega arith
    low false = omega arith

    high : (on : Bool) → cond on 0x68 0x6C ≤ 0x7E
    high true = omega arith
    high false = omega arith

reset-within : AreAsciiWithin 2 (reset_to_initial_state ∷ [])
reset-within = one-within reset_to_initial_state (tt, inr (omega arith, omega arith)) refl

allow-within : (on : Bool) → AreAsciiWithin 6 (private_mode 40 on ∷ [])
unfolding digits
allow-within true = one-within (private_mode 40 true) (mode-is 40 true (omega arith)) refl
allow-within false = one-within (private_mode 40 false) (mode-is 40 false (omega arith)) refl

page-within : (on : Bool) → AreAsciiWithin 6 (private_mode 47 on ∷ [])
unfolding digits
page-within true = one-within (private_mode 47 true) (mode-is 47 true (omega arith)) refl
page-within false = one-within (private_mode 47 false) (mode-is 47 false (omega arith)) refl

paste-within : (brackets : Bool) → AreAsciiWithin 8 (paste_item brackets)
unfolding digits
paste-within true = one-within (private_mode 2004 true) (mode-is 2004 true (omega arith)) refl
paste-within false = record { events = All-nil IsEvent; short = omega arith; ascii = small-ascii [] refl }

narrow-within : AreAsciiWithin 5 (private_mode 3 false ∷ [])
unfolding digits
narrow-within = one-within (private_mode 3 false) (mode-is 3 false (omega arith)) refl

at-most : (m n : ℕ) (es : List Event) → m ≤ n → AreAsciiWithin m es → AreAsciiWithin n es
at-most m n es few h = record { events = h.events; short = omega (arith, h.short, few); ascii = h.ascii }

spelled-ascii : (n : ℕ) (es : List Event) → AreSpelledWithin n es → AreAsciiWithin n es
spelled-ascii n es h = record { events = h.events; short = h.short; ascii = speaks-ascii (spell_events es) h.speaks }

-- of the items of a page
abbrev items_limit : Size → ℕ
items_limit size = size.rows * row_limit size + 10 * size.wide + 318

items-within : (size : Size) (s : Display) → IsSoundDisplayAt size s → AreAsciiWithin (items_limit size) (made_events s)
items-within size s i =
    subst (λ (z : Size). AreAsciiWithin (items_limit z) (made_events s)) i.of_size
    (spelled-ascii _ (made_events s) (made_within s (own-display size s i)))

-- ?69
sided-within : AreAsciiWithin 6 (private_mode 69 true ∷ [])
unfolding digits
sided-within = one-within (private_mode 69 true) (mode-is 69 true (omega arith)) refl

-- DECSLRM
sides-to-within : (left right : ℕ) → left ≤ 255 → right ≤ 255 → AreAsciiWithin 10 (sides_to left right ∷ [])
sides-to-within left right few most =
    let a = length-decimal-le 3 left (omega arith) (omega arith) (omega arith) in
    let b = length-decimal-le 3 right (omega arith) (omega arith) (omega arith) in
    record {
      events = All-cons IsEvent _ [] (record {
        is_marker = tt;
        are_values = record {
          some = omega arith;
          few = omega arith;
          small = All-cons (λ v. v ≤ 9999) left (right ∷ []) (omega arith)
              (All-cons (λ v. v ≤ 9999) right [] (omega arith) (All-nil (λ v. v ≤ 9999)));
        };
        is_intermediate = tt;
        low = omega arith;
        high = omega arith;
      }) (All-nil IsEvent);
      short = simp length-append (omega (arith, a, b));
      ascii = subst (λ (bytes : List ℕ). IsAscii bytes) (sym (small-numbers left right)) (IsAscii-append (0x1B ∷ 0x5B ∷ []) _ (small-ascii (0x1B ∷ 0x5B ∷ []) refl)
          (IsAscii-append (decimal left) _ (IsAscii-decimal left (omega arith))
          (IsAscii-append (0x3B ∷ []) _ (small-ascii (0x3B ∷ []) refl)
          (IsAscii-append (decimal right) (0x73 ∷ []) (IsAscii-decimal right (omega arith)) (small-ascii (0x73 ∷ []) refl)))));
    }
  where
    small-numbers : (left right : ℕ) → spell_events (sides_to left right ∷ [])
        ≡ (0x1B ∷ 0x5B ∷ []) ++ (decimal left ++ ((0x3B ∷ []) ++ (decimal right ++ 0x73 ∷ [])))
    small-numbers left right = simp (append_assoc, append-nil) refl

none-within : (n : ℕ) → AreAsciiWithin n []
none-within n = record { events = All-nil IsEvent; short = omega arith; ascii = small-ascii [] refl }

sides-within : (width : ℕ) (sides : Option Sides) → width ≤ 255 → AreAsciiWithin 16 (sides_item (sent_sides width sides))
sides-within width None small = none-within 16
sides-within width (Some m) small = go (are_sent width m) refl
  where
    go : (b : Bool) → are_sent width m ≡ b → AreAsciiWithin 16 (sides_item (cond b (Some m) None))
    go true is =
        let first = and_parts (leb 1 m.left) (ltb m.left m.right && leb m.right width) is in
        let rest = and_parts (ltb m.left m.right) (leb m.right width) first.1 in
        let less = ltb-true m.left m.right rest.0 in
        let most = leb-true m.right width rest.1 in
        then-within 6 10 (private_mode 69 true ∷ []) (sides_to m.left m.right ∷ []) sided-within
        (sides-to-within m.left m.right (omega arith) (omega arith))
    go false is = none-within 16

-- the column that CUP names
column-small : (width : ℕ) (sides : Option Sides) (s : Display) → s.cursor.col ≤ width → width ≤ 255
    → column_named (sent_sides width sides) s ≤ 255
column-small width None s last small = omega arith
column-small width (Some m) s last small = go (are_sent width m) refl
  where
    by : (origin : Bool) → 1 ≤ m.left → cond origin (s.cursor.col - m.left + 1) s.cursor.col ≤ 255
    by true from = omega arith
    by false from = omega arith

    go : (b : Bool) → are_sent width m ≡ b → column_named (cond b (Some m) None) s ≤ 255
    go true is =
        let first = and_parts (leb 1 m.left) (ltb m.left m.right && leb m.right width) is in
        by s.modes.decom (leb-true 1 m.left first.0)
    go false is = omega arith

-- the items of the display that is shown
shown-within : (size : Size) (s : Display) (sides : Option Sides) → IsSoundDisplayAt size s
    → AreAsciiWithin (items_limit size + 16) (shown_events (sent_sides s.grid.width sides) s)
unfolding shown_events
shown-within size s sides i =
    let sent = sent_sides s.grid.width sides in
    let own = own-display size s i in
    let sized = own.grid.shape.size in
    let width = (width-bounds s.grid.size s.grid.width sized own.grid.shape.width).1 in
    let wrap = is_wrapping sent s in
    let rows = s.grid.size.rows in
    let col = column-small s.grid.width sides s own.cursor.col_last (omega (arith, width, sized.columns)) in
    subst (λ (z : Size). AreAsciiWithin (items_limit z + 16) (shown_events sent s)) i.of_size
    (at-most _ (items_limit s.grid.size + 16) _ (omega (arith, three_digits rows))
    (then-within _ _ (first_items s wrap) _ (spelled-ascii _ (first_items s wrap) (first_within s wrap own))
    (then-within 16 _ (sides_item sent) _ (sides-within s.grid.width sides (omega (arith, width, sized.columns)))
    (spelled-ascii _ (placed_items true s (column_named sent s) wrap)
    (placed_within true s (column_named sent s) wrap own col)))))

pub repaint-within : (size : Size) (w : Whole) → IsSoundDisplayAt size (other_shown w.pages)
    → IsSoundDisplayAt size w.state.display → AreAsciiWithin (xterm_paint_limit size) (xterm_repaint_events w)
unfolding xterm_repaint_events
repaint-within size w i j =
    let a = w.pages.alternate in
    at-most _ (xterm_paint_limit size) _ (omega arith)
    (then-within 6 _ (private_mode 40 true ∷ []) _ (allow-within true)
    (then-within 2 _ (reset_to_initial_state ∷ []) _ reset-within
    (then-within 6 _ (private_mode 47 (not a) ∷ []) _ (page-within (not a))
    (then-within (items_limit size) _ (made_events (other_shown w.pages)) _ (items-within size (other_shown w.pages) i)
    (then-within 6 _ (private_mode 47 a ∷ []) _ (page-within a)
    (then-within 5 _ (private_mode 3 false ∷ []) _ narrow-within
    (then-within (items_limit size + 16) _ (shown_events (shown_sides w) w.state.display) _ (shown-within size w.state.display w.pages.sides j)
    (then-within 6 8 (private_mode 40 w.pages.resizes ∷ []) _ (allow-within w.pages.resizes)
    (paste-within w.pages.brackets)))))))))
