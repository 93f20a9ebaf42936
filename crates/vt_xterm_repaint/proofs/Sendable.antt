-- A repaint's actions can be spelled, and report nothing.
use Rattle.std.proofs.Common.{◌≡◌, ℕ, zero, suc, ◌+◌, ◌-◌, ◌≤◌, ◌<◌, ◌⊎◌, inl, inr, Bool, true, false, Option, Some, None, List, [], ◌∷◌, ◌++◌, map, length, All, arith, refl, ap, ◌∙◌}
use Rattle.std.specs.Prelude.{⊤, nat_lt, ◌==◌, ◌&&◌, not, if◌then◌else◌}
use Rattle.std.specs.List.{range_with_len, flat_map}
use Rattle.std.proofs.lemmas.List.Elements.{All-nil, All-cons, All-append, All-head, All-tail}
use Rattle.vt_syntax.specs.Class.{opens_string}
use Rattle.vt_syntax.specs.Spelling.{AreValues}
use Rattle.vt_glyph.specs.declared.set.Set.{Set}
use Rattle.vt_glyph.specs.declared.set.Set.TheVariants.{Ascii, British, German, Special, Supplemental}
use Rattle.vt_glyph.specs.Designation.{final_of}
use Rattle.vt_glyph.specs.GraphicSets.{GraphicSets}
use Rattle.vt_glyph.specs.Invocation.{sets_at_power_up, set_at}
use Rattle.vt_glyph.specs.Tables.{space}
use Rattle.vt_screen.specs.Grid.{IsGrid, at_or, row_or}
use Rattle.vt_screen.specs.Sizes.{width_of}
use Rattle.vt_screen.specs.Same.{when}
use Rattle.vt_screen.specs.declared.size.Size.{Size}
use Rattle.vt_syntax.specs.declared.event.Event.TheVariants.{Control, Escape, Sequence}
use Rattle.vt_term.specs.declared.state.Modes.{Modes}
use Rattle.vt_term.specs.declared.state.SavedOf.{SavedOf}
use Rattle.vt_term.specs.State.{saved_sets, has_stop_at}
use Rattle.vt_term.specs.Functions.{byte, sequences_any}
use Rattle.vt_term.specs.Reports.{control_report_any, sequence_report_any}
use Rattle.vt_feed.specs.Actions.{Action, Function, Character, printed, reports}
use Rattle.vt_feed.specs.Spelled.{IsSpelled}
use Rattle.vt_paint.specs.Controls.{sequence_of, protection_to, private_mode, ansi_mode, cursor_position, margins_to, clear_all_tabs, set_tab, save_cursor, reset_to_initial_state, designation_of, left_event, right_event, shift_to, keypad, report_form}
use Rattle.vt_wide.specs.Edits.{first_column}
use Rattle.vt_xterm_cell.specs.declared.look.Look.{Look}
use Rattle.vt_xterm_cell.specs.Look.{plain_look}
use Rattle.vt_xterm_cell.specs.Words.{CellParts}
use Rattle.vt_xterm_cell.specs.Cells.{blank_cell, is_second}
use Rattle.vt_xterm_cell.specs.Characters.{is_shown}
use Rattle.vt_xterm_cell.specs.Wide.{xterm_wide}
use Rattle.vt_xterm_display.specs.declared.settings.Settings.{Settings}
use Rattle.vt_xterm_display.specs.declared.settings.Mouse.{Mouse}
use Rattle.vt_xterm_display.specs.declared.settings.Coding.{Coding}
use Rattle.vt_xterm_display.specs.declared.settings.Shape.{Shape}
use Rattle.vt_xterm_display.specs.declared.settings.Mouse.TheVariants.{Off, Presses, Buttons, Drags, Motion}
use Rattle.vt_xterm_display.specs.declared.settings.Coding.TheVariants.{Bytes, Utf8, Sgr, Urxvt, Pixels}
use Rattle.vt_xterm_display.specs.declared.settings.Shape.TheVariants.{Block, Underline, Bar}
use Rattle.vt_xterm_display.specs.Functions.{reported, xterm}
use Rattle.vt_xterm_display.specs.State.{Grid, PageState, XtermState}
use Rattle.vt_xterm_display.specs.Tabs.{is_pending}
use Rattle.vt_xterm_repaint.specs.Looks.{attribute_values, both_colours, same_look, look_actions}
use Rattle.vt_xterm_repaint.specs.Colours.{HasColours}
use Rattle.vt_xterm_repaint.specs.Cells.{is_blank, character_action, mark_actions, glyph_actions, cell_actions, are_blank, cells_actions, row_actions, grid_actions}
use Rattle.vt_xterm_repaint.specs.Items.{functions, width_item, stop_item, stops_item, set_item, locked_item, sets_item, saved_item, page_item, margins_item, move_item, again_item, cursor_item, modes_item, mouse_item, coding_item, shape_number, style_item, settings_item, shift_item}
use Rattle.vt_xterm_repaint.specs.Repaint.{page_shown, pages_actions, last_actions, repaint_actions}
use Rattle.vt_xterm_repaint.proofs.Parts.{IsPage, IsPageOf, ArePages, AreMargins, HasParts}
use Rattle.vt_xterm_repaint.proofs.Rows.{graphic_parts}
use Rattle.vt_xterm_repaint.proofs.Selected.{sgr-silent, protection-silent}
use Rattle.vt_xterm_repaint.proofs.Spelled.{look-spelled, glyph-spelled, glyph-graphic}
use Rattle.vt_xterm_repaint.proofs.Rebuilt.{ends, bounds}

-- an action that can be spelled, and reports nothing
pub record IsSendable (x : Action) : Type 0 where
  pub silent : (s : XtermState) → reported x s ≡ []
  pub spelled : IsSpelled x

abbrev pub Sends : List Action → Type 0
Sends [] = ⊤
Sends (x ∷ xs) = IsSendable x × Sends xs

pub sends-silent : (xs : List Action) → Sends xs → (s : XtermState) → reports xterm xs s ≡ []
sends-silent [] are s = refl
sends-silent (x ∷ xs) are s =
    ap (λ (r : List ℕ). r ++ reports xterm xs (xterm.effect x s)) (are.0.silent s)
    ∙ sends-silent xs are.1 (xterm.effect x s)

pub sends-spelled : (xs : List Action) → Sends xs → All IsSpelled xs
sends-spelled [] are = All-nil IsSpelled
sends-spelled (x ∷ xs) are = All-cons IsSpelled x xs are.0.spelled (sends-spelled xs are.1)

-- ---- lists

both-sent : (xs ys : List Action) → Sends xs → Sends ys → Sends (xs ++ ys)
both-sent [] ys first second = second
both-sent (x ∷ xs) ys first second = (first.0, both-sent xs ys first.1 second)

when-sent : (on : Bool) (xs : List Action) → Sends xs → Sends (when on xs)
when-sent true xs are = are
when-sent false xs are = tt

each-sent : (f : ℕ → List Action) (n c : ℕ) → ((i : ℕ) → c ≤ i → i < c + n → Sends (f i)) → Sends (flat_map f (range_with_len c n))
each-sent f zero c each = tt
each-sent f (suc n) c each =
    both-sent (f c) (flat_map f (range_with_len (c + 1) n)) (each c (omega arith) (omega arith))
    (each-sent f n (c + 1) (λ i low high. each i (omega (arith, low)) (omega (arith, high))))

-- actions that report nothing, and can be spelled
abbrev IsSilent : Action → Type 0
IsSilent x = (s : XtermState) → reported x s ≡ []

joined-sent : (xs : List Action) → All IsSilent xs → All IsSpelled xs → Sends xs
joined-sent [] silent spelled = tt
joined-sent (x ∷ xs) silent spelled = (
  record { silent = All-head IsSilent x xs silent; spelled = All-head IsSpelled x xs spelled },
  joined-sent xs (All-tail IsSilent x xs silent) (All-tail IsSpelled x xs spelled),
)

-- ---- control sequences

abbrev IsSmall : ℕ → Type 0
IsSmall v = v ≤ 9999

one-value : (n : ℕ) → n ≤ 9999 → AreValues (n ∷ [])
one-value n small = record { some = omega arith; few = omega arith; small = All-cons IsSmall n [] small (All-nil IsSmall) }

two-values : (m n : ℕ) → m ≤ 9999 → n ≤ 9999 → AreValues (m ∷ n ∷ [])
two-values m n first second = record {
  some = omega arith;
  few = omega arith;
  small = All-cons IsSmall m (n ∷ []) first (All-cons IsSmall n [] second (All-nil IsSmall));
}

plain-spelled : (values : List ℕ) (last : ℕ) → AreValues values → 0x40 ≤ last → last ≤ 0x7E → IsSpelled (Function (sequence_of values last))
plain-spelled values last are low high = (record { is_marker = tt; are_values = are; is_intermediate = tt; low = low; high = high }, tt)

private-spelled : (n last : ℕ) → n ≤ 9999 → 0x40 ≤ last → last ≤ 0x7E
    → IsSpelled (Function (Sequence (Some (byte "?")) (record { items = n ∷ [] }) None last))
private-spelled n last small low high =
    (record { is_marker = (omega arith, omega arith); are_values = one-value n small; is_intermediate = tt; low = low; high = high }, tt)

mode-sent : (n : ℕ) (on : Bool) → n ≤ 9999 → IsSendable (Function (private_mode n on))
unfolding sequence_report_any sequences_any
mode-sent n true small = record { silent = λ s. refl; spelled = private-spelled n (byte "h") small (omega arith) (omega arith) }
mode-sent n false small = record { silent = λ s. refl; spelled = private-spelled n (byte "l") small (omega arith) (omega arith) }

ansi-sent : (n : ℕ) (on : Bool) → n ≤ 9999 → IsSendable (Function (ansi_mode n on))
unfolding sequence_report_any sequences_any
ansi-sent n true small = record { silent = λ s. refl; spelled = plain-spelled (n ∷ []) (byte "h") (one-value n small) (omega arith) (omega arith) }
ansi-sent n false small = record { silent = λ s. refl; spelled = plain-spelled (n ∷ []) (byte "l") (one-value n small) (omega arith) (omega arith) }

position-sent : (line col : ℕ) → line ≤ 9999 → col ≤ 9999 → IsSendable (Function (cursor_position line col))
unfolding sequence_report_any sequences_any
position-sent line col first second = record {
  silent = λ s. refl;
  spelled = plain-spelled (line ∷ col ∷ []) (byte "H") (two-values line col first second) (omega arith) (omega arith);
}

margins-sent : (top bottom : ℕ) → top ≤ 9999 → bottom ≤ 9999 → IsSendable (Function (margins_to top bottom))
unfolding sequence_report_any sequences_any
margins-sent top bottom first second = record {
  silent = λ s. refl;
  spelled = plain-spelled (top ∷ bottom ∷ []) (byte "r") (two-values top bottom first second) (omega arith) (omega arith);
}

sides-sent : (left right : ℕ) → left ≤ 9999 → right ≤ 9999 → IsSendable (Function (sequence_of (left ∷ right ∷ []) (byte "s")))
unfolding sequence_report_any sequences_any
sides-sent left right first second = record {
  silent = λ s. refl;
  spelled = plain-spelled (left ∷ right ∷ []) (byte "s") (two-values left right first second) (omega arith) (omega arith);
}

clear-sent : IsSendable (Function clear_all_tabs)
unfolding sequence_report_any sequences_any
clear-sent = record { silent = λ s. refl; spelled = plain-spelled (3 ∷ []) (byte "g") (one-value 3 (omega arith)) (omega arith) (omega arith) }

style-sent : (shape : Shape) (blinks : Bool) → Sends (style_item shape blinks)
unfolding sequence_report_any sequences_any
style-sent shape blinks = (
  record {
    silent = λ s. refl;
    spelled = (
      record {
        is_marker = tt;
        are_values = one-value _ (by shape blinks);
        is_intermediate = (omega arith, omega arith);
        low = omega arith;
        high = omega arith;
      },
      tt,
    );
  },
  tt,
)
  where
    by : (x : Shape) (b : Bool) → (if b then shape_number x - 1 else shape_number x) ≤ 9999
    by Block true = omega arith
    by Block false = omega arith
    by Underline true = omega arith
    by Underline false = omega arith
    by Bar true = omega arith
    by Bar false = omega arith

-- ---- controls and escape sequences

tab-sent : IsSendable (Function set_tab)
unfolding control_report_any opens_string
tab-sent = record { silent = λ s. refl; spelled = (inr (omega arith, omega arith, refl), tt) }

shift-sent : (slot : ℕ) → IsSendable (Function (shift_to slot))
unfolding control_report_any opens_string
shift-sent slot = by (slot == 2)
  where
    by : (second : Bool) → IsSendable (Function (if second then Control 0x8E else Control 0x8F))
    by true = record { silent = λ s. refl; spelled = (inr (omega arith, omega arith, refl), tt) }
    by false = record { silent = λ s. refl; spelled = (inr (omega arith, omega arith, refl), tt) }

escape-sent : (last : ℕ) → ((0x30 ≤ last) × (last < 0x40)) ⊎ ((0x60 ≤ last) × (last ≤ 0x7E)) → IsSendable (Function (Escape None last))
escape-sent last is = record { silent = λ s. refl; spelled = ((tt, is), tt) }

reset-sent : IsSendable (Function reset_to_initial_state)
reset-sent = escape-sent (byte "c") (inr (omega arith, omega arith))

save-sent : IsSendable (Function save_cursor)
save-sent = escape-sent (byte "7") (inl (omega arith, omega arith))

keypad-sent : (on : Bool) → IsSendable (Function (keypad on))
keypad-sent true = escape-sent (byte "=") (inl (omega arith, omega arith))
keypad-sent false = escape-sent (byte ">") (inl (omega arith, omega arith))

with-sent : (i last : ℕ) → 0x20 ≤ i → i ≤ 0x2F → 0x30 ≤ last → last ≤ 0x7E → IsSendable (Function (Escape (Some i) last))
with-sent i last i_low i_high low high = record { silent = λ s. refl; spelled = (((i_low, i_high), (low, high)), tt) }

form-sent : (on : Bool) → IsSendable (Function (report_form on))
form-sent true = with-sent (byte " ") (byte "G") (omega arith) (omega arith) (omega arith) (omega arith)
form-sent false = with-sent (byte " ") (byte "F") (omega arith) (omega arith) (omega arith) (omega arith)

designation-sent : (i : ℕ) (set : Set) → 0x20 ≤ i → i ≤ 0x2F → IsSendable (Function (Escape (Some i) (final_of set)))
designation-sent i Ascii low high = with-sent i 0x42 low high (omega arith) (omega arith)
designation-sent i British low high = with-sent i 0x41 low high (omega arith) (omega arith)
designation-sent i German low high = with-sent i 0x4B low high (omega arith) (omega arith)
designation-sent i Special low high = with-sent i 0x30 low high (omega arith) (omega arith)
designation-sent i Supplemental low high = with-sent i 0x3C low high (omega arith) (omega arith)

left-sent : (slot : ℕ) → IsSendable (Function (left_event slot))
unfolding control_report_any
left-sent slot = by (slot == 0) (slot == 1) (slot == 2)
  where
    by : (a b d : Bool) → IsSendable (Function (if a then Control 0x0F else (if b then Control 0x0E else (if d then Escape None (byte "n") else Escape None (byte "o")))))
    by true b d = record { silent = λ s. refl; spelled = (inl (omega arith, (λ e. omega arith), (λ e. omega arith)), tt) }
    by false true d = record { silent = λ s. refl; spelled = (inl (omega arith, (λ e. omega arith), (λ e. omega arith)), tt) }
    by false false true = escape-sent (byte "n") (inr (omega arith, omega arith))
    by false false false = escape-sent (byte "o") (inr (omega arith, omega arith))

right-sent : (slot : ℕ) → IsSendable (Function (right_event slot))
right-sent slot = by (slot == 1) (slot == 2)
  where
    by : (a b : Bool) → IsSendable (Function (if a then Escape None (byte "~") else (if b then Escape None (byte "}") else Escape None (byte "|"))))
    by true b = escape-sent (byte "~") (inr (omega arith, omega arith))
    by false true = escape-sent (byte "}") (inr (omega arith, omega arith))
    by false false = escape-sent (byte "|") (inr (omega arith, omega arith))

one-sent : (test : Bool) (x : Action) → IsSendable x → Sends (when test (x ∷ []))
one-sent test x is = when-sent test (x ∷ []) (is, tt)

sets-sent : (old new : GraphicSets) → Sends (sets_item old new)
unfolding sets_item
sets-sent old new =
    let left = when (not (old.left == new.left)) (Function (left_event new.left) ∷ []) in
    let right = when (not (old.right == new.right)) (Function (right_event new.right) ∷ []) in
    let locked = locked_item old new in
    let one = set_item 1 (set_at old 1) (set_at new 1) in
    let two = set_item 2 (set_at old 2) (set_at new 2) in
    let three = set_item 3 (set_at old 3) (set_at new 3) in
    both-sent (set_item 0 (set_at old 0) (set_at new 0)) (one ++ (two ++ (three ++ locked)))
    (one-sent (not (final_of (set_at old 0) == final_of (set_at new 0))) (Function (designation_of 0 (set_at new 0)))
    (designation-sent (byte "(") (set_at new 0) (omega arith) (omega arith)))
    (both-sent one (two ++ (three ++ locked)) (one-sent (not (final_of (set_at old 1) == final_of (set_at new 1))) (Function (designation_of 1 (set_at new 1)))
    (designation-sent (byte ")") (set_at new 1) (omega arith) (omega arith)))
    (both-sent two (three ++ locked) (one-sent (not (final_of (set_at old 2) == final_of (set_at new 2))) (Function (designation_of 2 (set_at new 2)))
    (designation-sent (byte "*") (set_at new 2) (omega arith) (omega arith)))
    (both-sent three locked (one-sent (not (final_of (set_at old 3) == final_of (set_at new 3))) (Function (designation_of 3 (set_at new 3)))
    (designation-sent (byte "+") (set_at new 3) (omega arith) (omega arith)))
    (both-sent left right (one-sent (not (old.left == new.left)) (Function (left_event new.left)) (left-sent new.left))
    (one-sent (not (old.right == new.right)) (Function (right_event new.right)) (right-sent new.right))))))

-- ---- looks and characters

look-quiet : (look : Look) → All IsSilent (look_actions look)
unfolding look_actions
look-quiet look =
    All-cons IsSilent (Function (sequence_of (attribute_values look.attributes) (byte "m"))) _ (sgr-silent (attribute_values look.attributes))
    (All-append IsSilent _ _ (colours (length (both_colours look) == 0))
    (All-cons IsSilent (Function (protection_to look.protected)) [] (protection-silent look.protected) (All-nil IsSilent)))
  where
    colours : (none : Bool) → All IsSilent (when (not none) (Function (sequence_of (both_colours look) (byte "m")) ∷ []))
    colours true = All-nil IsSilent
    colours false = All-cons IsSilent (Function (sequence_of (both_colours look) (byte "m"))) [] (sgr-silent (both_colours look)) (All-nil IsSilent)

look-sent : (look : Look) → HasColours look → Sends (look_actions look)
look-sent look are = joined-sent (look_actions look) (look-quiet look) (look-spelled look are)

plain_has : HasColours plain_look
plain_has = record { foreground = tt; background = tt }

character-quiet : (c : ℕ) → IsSilent (character_action c)
character-quiet c = by (nat_lt c 0x80)
  where
    by : (low : Bool) → IsSilent (if low then printed c else Character c)
    by true = λ s. refl
    by false = λ s. refl

mark-quiet : (m : ℕ) → All IsSilent (mark_actions m)
mark-quiet m = by (m == 0)
  where
    by : (none : Bool) → All IsSilent (when (not none) (Character m ∷ []))
    by true = All-nil IsSilent
    by false = All-cons IsSilent (Character m) [] (λ s. refl) (All-nil IsSilent)

glyph-sent : (x : CellParts) → is_second x ≡ false → is_shown x.character x.mark x.other_mark x.wide ≡ true → Sends (glyph_actions x)
glyph-sent x first is =
    let parts = graphic_parts x.character x.mark x.other_mark x.wide first is in
    joined-sent (glyph_actions x) (All-cons IsSilent (character_action x.character) _ (character-quiet x.character)
    (All-append IsSilent (mark_actions x.mark) (mark_actions x.other_mark) (mark-quiet x.mark) (mark-quiet x.other_mark)))
    (glyph-spelled x (glyph-graphic x parts.0 parts.1))

-- ---- cells

cell-sent : (before : Look) (x : CellParts) → is_shown x.character x.mark x.other_mark x.wide ≡ true → HasColours x.look
    → Sends (cell_actions before x)
unfolding cell_actions
cell-sent before x shown has = go (is_second x) refl
  where
    go : (second : Bool) → is_second x ≡ second
        → Sends (when (not second) (when (not (same_look before x.look)) (look_actions x.look) ++ glyph_actions x))
    go true is = tt
    go false is = both-sent _ _ (when-sent (not (same_look before x.look)) (look_actions x.look) (look-sent x.look has)) (glyph-sent x is shown)

cells-sent : (g : Grid) → IsPage g → (row : ℕ) → 1 ≤ row → row ≤ g.size.rows → (n c : ℕ) (before : Look) → 1 ≤ c → c + n ≡ g.width + 1
    → Sends (cells_actions before (map (at_or blank_cell g row) (range_with_len c n)))
cells-sent g page row r1 rh zero c before c1 end = tt
cells-sent g page row r1 rh (suc n) c before c1 end =
    go (is_blank x && are_blank behind) (cells-sent g page row r1 rh n (c + 1) x.look (omega arith) (omega (arith, end)))
  where
    x : CellParts
    x = at_or blank_cell g row c

    behind : List CellParts
    behind = map (at_or blank_cell g row) (range_with_len (c + 1) n)

    cw : c ≤ g.width
    cw = omega (arith, end)

    go : (blank : Bool) → Sends (cells_actions x.look behind) → Sends (if blank then [] else cell_actions before x ++ cells_actions x.look behind)
    go true more = tt
    go false more = both-sent (cell_actions before x) (cells_actions x.look behind)
        (cell-sent before x (page.shown row c r1 rh c1 cw) (page.colours row c r1 rh c1 cw)) more

rows-small : (g : Grid) → IsGrid g → g.size.rows ≤ 255
rows-small g is = omega (arith, is.size.rows)

width-small : (g : Grid) → IsGrid g → g.width ≤ 255
width-small g is = go is.width.0 is.width.1
  where
    go : (wide : Bool) → g.width ≡ width_of g.size wide → g.width ≤ 255
    go true e = omega (arith, e, is.size.columns)
    go false e = omega (arith, e, is.size.wide, is.size.columns)

row-sent : (g : Grid) → IsPage g → (row : ℕ) → 1 ≤ row → row ≤ g.size.rows → Sends (row_actions g row)
unfolding row_actions row_or
row-sent g page row r1 rh =
    let cells = cells_actions plain_look (row_or blank_cell g row) in
    when-sent (not (are_blank (row_or blank_cell g row))) (Function (cursor_position row 1) ∷ (look_actions plain_look ++ cells)) (
      position-sent row 1 (omega (arith, rh, rows-small g page.grid)) (omega arith),
      both-sent (look_actions plain_look) cells
          (look-sent plain_look plain_has) (cells-sent g page row r1 rh g.width 1 plain_look (omega arith) (omega arith)),
    )

grid-sent : (g : Grid) → IsPage g → Sends (grid_actions g)
unfolding grid_actions
grid-sent g page = each-sent (row_actions g) g.size.rows 1 (λ i low high. row-sent g page i low (omega (arith, high)))

-- ---- pages

width-sent : (size : Size) (wide : Bool) → Sends (width_item size wide)
width-sent size wide = when-sent (not (size.narrow == size.wide)) (Function (private_mode 3 wide) ∷ []) (mode-sent 3 wide (omega arith), tt)

stop-sent : (stops : List Bool) (c : ℕ) → c ≤ 9999 → Sends (stop_item stops c)
stop-sent stops c small =
    when-sent (has_stop_at stops c) (functions (cursor_position 1 c ∷ set_tab ∷ [])) (position-sent 1 c (omega arith) small, (tab-sent, tt))

home-sent : Sends (Function (cursor_position 1 1) ∷ [])
home-sent = (position-sent 1 1 (omega arith) (omega arith), tt)

stops-sent : (size : Size) (stops : List Bool) → size.wide ≤ 255 → Sends (stops_item size stops)
unfolding stops_item
stops-sent size stops small =
    let each = flat_map (stop_item stops) (range_with_len 1 size.wide) in
    let home = Function (cursor_position 1 1) ∷ [] in
    both-sent (width_item size true) (Function clear_all_tabs ∷ (each ++ home)) (width-sent size true) (
      clear-sent,
      both-sent each home
          (each-sent (stop_item stops) size.wide 1 (λ i low high. stop-sent stops i (omega (arith, high, small)))) home-sent,
    )

origin-sent : (test on : Bool) → Sends (when test (functions (private_mode 6 on ∷ [])))
origin-sent test on = when-sent test (functions (private_mode 6 on ∷ [])) (mode-sent 6 on (omega arith), tt)

space-sent : IsSendable (printed space)
space-sent = record { silent = λ s. refl; spelled = (inl (omega arith, omega arith), omega arith) }

saved-sent : (saved : SavedOf Look) → saved.row ≤ 255 → saved.col ≤ 255 → HasColours saved.brush → Sends (saved_item saved)
unfolding saved_item
saved-sent saved row col has =
    let e5 = Function save_cursor ∷ when saved.origin (functions (private_mode 6 false ∷ [])) in
    let e4 = sets_item sets_at_power_up (saved_sets saved) ++ e5 in
    let e3 = look_actions saved.brush ++ e4 in
    let e2 = when saved.wrap (printed space ∷ []) ++ e3 in
    let e1 = Function (cursor_position saved.row saved.col) ∷ e2 in
    both-sent (when saved.origin (functions (private_mode 6 true ∷ []))) e1 (origin-sent saved.origin true) (
      position-sent saved.row saved.col (omega (arith, row)) (omega (arith, col)),
      both-sent (when saved.wrap (printed space ∷ [])) e3
          (when-sent saved.wrap (printed space ∷ []) (space-sent, tt))
          (both-sent (look_actions saved.brush) e4 (look-sent saved.brush has)
          (both-sent (sets_item sets_at_power_up (saved_sets saved)) e5 (sets-sent sets_at_power_up (saved_sets saved)) (save-sent, origin-sent saved.origin false))),
    )

page-sent : (page : PageState) → IsPageOf page → Sends (page_item page)
unfolding page_item
page-sent page is =
    let grid = is.cells.grid in
    both-sent (width_item page.grid.size (page.grid.width == page.grid.size.wide)) _ (width-sent page.grid.size (page.grid.width == page.grid.size.wide))
    (both-sent (saved_item page.saved) _ (saved-sent page.saved (omega (arith, is.saved.place.row_last, rows-small page.grid grid))
    (omega (arith, is.saved.place.col_last, width-small page.grid grid)) is.saved.colours)
    (both-sent (sets_item (saved_sets page.saved) sets_at_power_up) _ (sets-sent (saved_sets page.saved) sets_at_power_up)
    (both-sent (grid_actions page.grid) _ (grid-sent page.grid is.cells)
    (both-sent (look_actions plain_look) _ (look-sent plain_look plain_has) home-sent))))

pages-sent : (w : XtermState) → ArePages w → Sends (pages_actions w)
unfolding pages_actions
pages-sent w are =
    let size = w.shown.grid.size in
    let second = Function (private_mode 47 w.alternate) ∷ page_item (page_shown w) in
    let first = Function (private_mode 47 (not w.alternate)) ∷ (page_item w.other ++ second) in
    both-sent (stops_item size w.shown.stops) first (stops-sent size w.shown.stops are.shown.cells.grid.size.columns) (
      mode-sent 47 (not w.alternate) (omega arith),
      both-sent (page_item w.other) second (page-sent w.other are.other)
          (mode-sent 47 w.alternate (omega arith), page-sent (page_shown w) are.shown),
    )

-- ---- what both pages share

-- a number that counts from a margin under DECOM
named-small : (origin : Bool) (n low : ℕ) → n ≤ 255 → (if origin then n - low + 1 else n) ≤ 9999
named-small true n low small = omega (arith, small)
named-small false n low small = omega (arith, small)

bounds-sent : (w : XtermState) → IsGrid w.shown.grid → AreMargins w → Sends (margins_item w)
bounds-sent w grid are =
    let rows = rows-small w.shown.grid grid in
    let width = width-small w.shown.grid grid in
    let m = w.sides in (
      margins-sent w.shown.margins.top w.shown.margins.bottom (omega (arith, are.margins.two_rows, are.margins.to_last_row, rows))
          (omega (arith, are.margins.to_last_row, rows)),
      when-sent w.bounded (functions (private_mode 69 true ∷ sequence_of (m.left ∷ m.right ∷ []) (byte "s") ∷ [])) (
        mode-sent 69 true (omega arith),
        (
          sides-sent m.left m.right (omega (arith, are.sides.two_columns, are.sides.to_last_column, width))
              (omega (arith, are.sides.to_last_column, width)),
          tt,
        ),
      ),
    )

move-sent : (w : XtermState) (col : ℕ) → w.shown.cursor.row ≤ 255 → col ≤ 255 → Sends (move_item w col)
move-sent w col row small = (
  position-sent _ _ (named-small w.shown.modes.decom w.shown.cursor.row w.shown.margins.top row)
      (named-small w.shown.modes.decom col w.sides.left small),
  tt,
)

cursor-sent : (w : XtermState) → HasParts w → Sends (cursor_item w)
unfolding cursor_item
cursor-sent w can = go (is_pending w) refl
  where
    page : IsPage w.shown.grid
    page = can.pages.shown.cells

    row : w.shown.cursor.row ≤ 255
    row = omega (arith, can.cursor.row, rows-small w.shown.grid page.grid)

    width : w.shown.grid.width ≤ 255
    width = width-small w.shown.grid page.grid

    f : ℕ
    f = first_column xterm_wide blank_cell w.shown.grid w.shown.cursor.row w.shown.cursor.col

    x : CellParts
    x = at_or blank_cell w.shown.grid w.shown.cursor.row f

    again : is_pending w ≡ true → Sends (move_item w f ++ (look_actions x.look ++ glyph_actions x))
    again is =
        let last = ends w can.margins can.cursor page is in
        let low = bounds w can.margins can.cursor page is in
        let high : f ≤ w.shown.grid.width = omega (arith, low, can.cursor.col) in
        both-sent (move_item w f) _ (move-sent w f row (omega (arith, high, width)))
        (both-sent (look_actions x.look) _ (look-sent x.look (page.colours w.shown.cursor.row f can.cursor.row.0 can.cursor.row.1 low.0 high))
        (glyph-sent x last.not_second (page.shown w.shown.cursor.row f can.cursor.row.0 can.cursor.row.1 low.0 high)))

    go : (pending : Bool) → is_pending w ≡ pending → Sends (if pending then again_item w w.shown.cursor.col else move_item w w.shown.cursor.col)
    go true is = again is
    go false is = move-sent w w.shown.cursor.col row (omega (arith, can.cursor.col, width))

modes-sent : (m : Modes) → Sends (modes_item m)
modes-sent m = (
  ansi-sent 2 m.kam (omega arith),
  (
    ansi-sent 4 m.irm (omega arith),
    (
      ansi-sent 12 m.srm (omega arith),
      (
        ansi-sent 20 m.lnm (omega arith),
        (
          mode-sent 1 m.decckm (omega arith),
          (
            mode-sent 4 m.decsclm (omega arith),
            (
              mode-sent 5 m.decscnm (omega arith),
              (
                mode-sent 7 m.decawm (omega arith),
                (
                  mode-sent 8 m.decarm (omega arith),
                  (mode-sent 25 m.dectcem (omega arith), (keypad-sent m.keypad_application, (form-sent m.reports_8bit, tt))),
                ),
              ),
            ),
          ),
        ),
      ),
    ),
  ),
)

mouse-sent : (mouse : Mouse) → Sends (mouse_item mouse)
mouse-sent Off = tt
mouse-sent Presses = (mode-sent 9 true (omega arith), tt)
mouse-sent Buttons = (mode-sent 1000 true (omega arith), tt)
mouse-sent Drags = (mode-sent 1002 true (omega arith), tt)
mouse-sent Motion = (mode-sent 1003 true (omega arith), tt)

coding-sent : (coding : Coding) → Sends (coding_item coding)
coding-sent Bytes = tt
coding-sent Utf8 = (mode-sent 1005 true (omega arith), tt)
coding-sent Sgr = (mode-sent 1006 true (omega arith), tt)
coding-sent Urxvt = (mode-sent 1015 true (omega arith), tt)
coding-sent Pixels = (mode-sent 1016 true (omega arith), tt)

settings-sent : (x : Settings) → Sends (settings_item x)
settings-sent x = (
  mode-sent 2004 x.brackets (omega arith),
  (
    mode-sent 1004 x.focus (omega arith),
    (
      mode-sent 2026 x.synchronized (omega arith),
      both-sent (mouse_item x.mouse) (coding_item x.coding ++ style_item x.shape x.blinks) (mouse-sent x.mouse)
          (both-sent (coding_item x.coding) (style_item x.shape x.blinks) (coding-sent x.coding) (style-sent x.shape x.blinks)),
    ),
  ),
)

pending-sent : (pending : Option ℕ) → Sends (shift_item pending)
pending-sent None = tt
pending-sent (Some slot) = (shift-sent slot, tt)

last-sent : (w : XtermState) → HasParts w → Sends (last_actions w)
unfolding last_actions
last-sent w can =
    let resizing = when (not w.resizes) (functions (private_mode 40 false ∷ [])) in
    let e4 = resizing ++ shift_item w.shown.sets.pending in
    let e3 = settings_item w.settings ++ e4 in
    let e2 = modes_item w.shown.modes ++ e3 in
    let e1 = sets_item sets_at_power_up w.shown.sets ++ e2 in
    both-sent (margins_item w) _ (bounds-sent w can.pages.shown.cells.grid can.margins)
    (both-sent (when w.shown.modes.decom (functions (private_mode 6 true ∷ []))) _ (origin-sent w.shown.modes.decom true)
    (both-sent (cursor_item w) _ (cursor-sent w can)
    (both-sent (look_actions w.shown.brush) e1 (look-sent w.shown.brush can.look)
    (both-sent (sets_item sets_at_power_up w.shown.sets) e2 (sets-sent sets_at_power_up w.shown.sets)
    (both-sent (modes_item w.shown.modes) e3 (modes-sent w.shown.modes)
    (both-sent (settings_item w.settings) e4 (settings-sent w.settings)
    (both-sent resizing (shift_item w.shown.sets.pending)
    (when-sent (not w.resizes) (functions (private_mode 40 false ∷ [])) (mode-sent 40 false (omega arith), tt)) (pending-sent w.shown.sets.pending))))))))

-- each action of a repaint
pub repaint-sent : (w : XtermState) → HasParts w → Sends (repaint_actions w)
unfolding repaint_actions
repaint-sent w can =
    (mode-sent 40 true (omega arith), (reset-sent, both-sent (pages_actions w) (last_actions w) (pages-sent w can.pages) (last-sent w can)))
