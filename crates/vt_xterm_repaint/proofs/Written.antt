-- What the writer appends: cells, one after another, and items of a range.
use Rattle.std.proofs.Common.{◌≡◌, ℕ, zero, suc, ◌+◌, ◌-◌, ◌<◌, Bool, true, false, None, List, [], ◌∷◌, ◌++◌, length, get_or, drop, arith, refl, sym, ap, ◌∙◌, subst, append-nil, append_assoc}
use Rattle.std.specs.Prelude.{not, ◌↔◌, IsTrue, ◌==◌, ◌&&◌, if◌then◌else◌}
use Rattle.std.specs.List.{range_with_len, flat_map}
use Rattle.std.proofs.lemmas.Bool.Decides.{nat_tests}
use Rattle.std.proofs.lemmas.Grind.{flat_map-append}
use Rattle.std.proofs.lemmas.List.{drop_more}
use Rattle.vt_glyph.specs.declared.set.Set.{Set}
use Rattle.vt_glyph.specs.Designation.{final_of}
use Rattle.vt_glyph.specs.GraphicSets.{GraphicSets}
use Rattle.vt_glyph.specs.Invocation.{sets_at_power_up}
use Rattle.vt_screen.specs.Grid.{row_or}
use Rattle.vt_screen.specs.Same.{same_bool, when}
use Rattle.vt_feed.specs.Actions.{Action, Function}
use Rattle.vt_feed.specs.Spelled.{spell_action, spell}
use Rattle.vt_syntax.specs.declared.event.Event.{Event}
use Rattle.vt_syntax.specs.Spelling.{spell_event, spell_events}
use Rattle.vt_paint.specs.Controls.{cursor_position, designation_of, private_mode}
use Rattle.vt_paint.proofs.Pushing.{range-more, Appends}
use Rattle.vt_xterm_cell.specs.declared.look.Colour.{Colour}
use Rattle.vt_xterm_cell.specs.declared.look.Colour.TheVariants.{Default, Indexed, Rgb}
use Rattle.vt_xterm_cell.specs.declared.look.Attributes.{Attributes}
use Rattle.vt_xterm_cell.specs.declared.look.Look.{Look}
use Rattle.vt_xterm_cell.specs.Look.{plain_look}
use Rattle.vt_xterm_cell.specs.Words.{CellParts}
use Rattle.vt_xterm_cell.specs.Cells.{blank_cell, space_with}
use Rattle.vt_xterm_display.specs.State.{Grid, XtermState}
use Rattle.vt_xterm_repaint.specs.Looks.{same_colour, same_attributes, same_look, look_actions}
use Rattle.vt_xterm_repaint.specs.Items.{functions, set_item, sets_item, margins_item, cursor_item}
use Rattle.vt_xterm_repaint.specs.Cells.{is_blank, are_blank, cell_actions, cells_actions, row_actions}
use Rattle.vt_xterm_repaint.specs.Repaint.{last_actions}
use Rattle.vt_xterm_repaint.specs.Private.Kept.{kept_actions}
use Rattle.vt_xterm_repaint.proofs.Rows.{looks-same, blank-is}

-- ---- equal looks and blank cells

same_tests : (r s : Bool) → (r ≡ true → s ≡ true) → (s ≡ true → r ≡ true) → r ≡ s
same_tests true true there back = refl
same_tests true false there back = sym (there refl)
same_tests false true there back = back refl
same_tests false false there back = refl

both_true : (x y : Bool) → x ≡ true → y ≡ true → (x && y) ≡ true
both_true x y h k = ap (λ (b : Bool). b && y) h ∙ k

bool_self : (b : Bool) → same_bool b b ≡ true
bool_self true = refl
bool_self false = refl

number_self : (n : ℕ) → (n == n) ≡ true
number_self n = grind (arith, nat_tests)

colour_self : (a : Colour) → same_colour a a ≡ true
colour_self Default = refl
colour_self (Indexed i) = number_self i
colour_self (Rgb r g b) = both_true (r == r) _ (number_self r) (both_true (g == g) _ (number_self g) (number_self b))

attributes_self : (a : Attributes) → same_attributes a a ≡ true
attributes_self a =
    both_true _ _ (bool_self a.bold) (both_true _ _ (bool_self a.faint) (both_true _ _ (bool_self a.italic)
    (both_true _ _ (bool_self a.underlined) (both_true _ _ (bool_self a.doubly_underlined) (both_true _ _ (bool_self a.blinking)
    (both_true _ _ (bool_self a.reverse) (both_true _ _ (bool_self a.invisible) (bool_self a.crossed_out))))))))

look_self : (a : Look) → same_look a a ≡ true
unfolding same_look
look_self a =
    both_true (same_colour a.foreground a.foreground) _ (colour_self a.foreground)
    (both_true (same_colour a.background a.background) _ (colour_self a.background)
    (both_true (same_attributes a.attributes a.attributes) _ (attributes_self a.attributes) (bool_self a.protected)))

blank_self : is_blank blank_cell ≡ true
unfolding is_blank same_look
blank_self = refl

pub looks-told : (a b : Look) (r : Bool) → IsTrue r ↔ (space_with a ≡ space_with b) → r ≡ same_look a b
looks-told a b r tells =
    same_tests r (same_look a b)
    (λ on. subst (λ (look : Look). same_look a look ≡ true) (ap (λ (x : CellParts). x.look) (tells.0 on)) (look_self a))
    (λ on. tells.1 (ap (λ (look : Look). space_with look) (looks-same a b on)))

pub blank-told : (x : CellParts) (r : Bool) → IsTrue r ↔ (x ≡ blank_cell) → r ≡ is_blank x
blank-told x r tells =
    same_tests r (is_blank x) (λ on. ap is_blank (tells.0 on) ∙ blank_self) (λ on. tells.1 (blank-is x on))

-- ---- the blank cells at the end of a row

pub blank-more : (xs : List CellParts) (end : ℕ) (x : CellParts) → end < length xs → x ≡ get_or xs end x → is_blank x ≡ true
    → are_blank (drop (end + 1) xs) ≡ true → are_blank (drop end xs) ≡ true
blank-more xs end x low is blank rest =
    ap (λ (cells : List CellParts). are_blank cells) (drop_more xs end x low)
    ∙ both_true (is_blank (get_or xs end x)) (are_blank (drop (end + 1) xs)) (ap is_blank (sym is) ∙ blank) rest

no_blank : (b : Bool) → (b && false) ≡ false
no_blank true = refl
no_blank false = refl

-- none of the cells up to one that isn't blank begins a blank end
pub shown-up-to : (xs : List CellParts) (end : ℕ) (x : CellParts) → end < length xs → x ≡ get_or xs end x → is_blank x ≡ false
    → (n : ℕ) → n < end + 1 → are_blank (drop n xs) ≡ false
shown-up-to xs end x low is shown n few = go (end - n) n (omega arith)
  where
    go : (gap n : ℕ) → n + gap ≡ end → are_blank (drop n xs) ≡ false
    go zero n e =
        let here : n ≡ end = omega arith in
        ap (λ (k : ℕ). are_blank (drop k xs)) here
        ∙ ap (λ (cells : List CellParts). are_blank cells) (drop_more xs end x low)
        ∙ ap (λ (b : Bool). b && are_blank (drop (end + 1) xs)) (ap is_blank (sym is) ∙ shown)
    go (suc gap) n e =
        ap (λ (cells : List CellParts). are_blank cells) (drop_more xs n x (omega arith))
        ∙ ap (λ (b : Bool). is_blank (get_or xs n x) && b) (go gap (n + 1) (omega arith))
        ∙ no_blank (is_blank (get_or xs n x))

-- ---- one cell after another

none_shown : (before : Look) (xs : List CellParts) → are_blank xs ≡ true → cells_actions before xs ≡ []
none_shown before [] is = refl
none_shown before (x ∷ xs) is =
    ap (λ (b : Bool). if b then [] else cell_actions before x ++ cells_actions x.look xs) is

first_shown : (before : Look) (xs rest : List CellParts) (x : CellParts) → xs ≡ x ∷ rest → are_blank xs ≡ false
    → cells_actions before xs ≡ cell_actions before x ++ cells_actions x.look rest
first_shown before xs rest x is shown =
    ap (λ (cells : List CellParts). cells_actions before cells) is
    ∙ ap (λ (b : Bool). if b then [] else cell_actions before x ++ cells_actions x.look rest)
    (sym (ap (λ (cells : List CellParts). are_blank cells) is) ∙ shown)

-- a cell is appended, and then the remaining ones still give the rest
pub cell-written : (before : Look) (xs : List CellParts) (i : ℕ) (x : CellParts) (mid new all : List ℕ) → i < length xs
    → x ≡ get_or xs i x → are_blank (drop i xs) ≡ false → mid ++ spell (cells_actions before (drop i xs)) ≡ all
    → new ≡ mid ++ spell (cell_actions before x) → new ++ spell (cells_actions x.look (drop (i + 1) xs)) ≡ all
cell-written before xs i x mid new all low is shown so_far written =
    let rest : List CellParts = drop (i + 1) xs in
    let here : drop i xs ≡ x ∷ rest = drop_more xs i x low ∙ ap (λ (y : CellParts). y ∷ rest) (sym is) in
    ap (λ (bytes : List ℕ). bytes ++ spell (cells_actions x.look rest)) written
    ∙ append_assoc mid (spell (cell_actions before x)) (spell (cells_actions x.look rest))
    ∙ ap (λ (bytes : List ℕ). mid ++ bytes) (sym (flat_map-append spell_action (cell_actions before x) (cells_actions x.look rest)))
    ∙ ap (λ (actions : List Action). mid ++ spell actions) (sym (first_shown before (drop i xs) rest x here shown))
    ∙ so_far

-- blank cells give nothing
pub all-written : (before : Look) (xs : List CellParts) (out all : List ℕ) → are_blank xs ≡ true
    → out ++ spell (cells_actions before xs) ≡ all → out ≡ all
all-written before xs out all blank so_far =
    sym (append-nil out) ∙ ap (λ (actions : List Action). out ++ spell actions) (sym (none_shown before xs blank)) ∙ so_far

-- ---- items of a range

-- the actions of one more number of a range are appended
pub actions-more : (f : ℕ → List Action) (a n m k : ℕ) (actions : List Action) (old before after : List ℕ) → a + n ≡ m → n + 1 ≡ k
    → before ≡ old ++ spell (flat_map f (range_with_len a n)) → after ≡ before ++ spell actions → actions ≡ f m
    → after ≡ old ++ spell (flat_map f (range_with_len a k))
actions-more f a n m k actions old before after e next h l is =
    rw (l, h, is, ← next, range-more a n m e) (simp (flat_map-append, append_assoc, append-nil))

-- ---- events as functions

functions_spelled : (events : List Event) → spell (functions events) ≡ spell_events events
functions_spelled [] = refl
functions_spelled (event ∷ events) = ap (λ (bytes : List ℕ). spell_event event ++ bytes) (functions_spelled events)

pub as_functions : {old new : List ℕ} {events : List Event} → Appends old new events → new ≡ old ++ spell (functions events)
as_functions {old} {new} {events} h = h.is ∙ ap (λ (bytes : List ℕ). old ++ bytes) (sym (functions_spelled events))

-- ---- one item after another

-- spelled actions were appended
pub record Pushes (old new : List ℕ) (actions : List Action) : Type 0 where
  pub is : new ≡ old ++ spell actions

pub pushed : {old new : List ℕ} (actions : List Action) → new ≡ old ++ spell actions → Pushes old new actions
pushed actions h = record { is = h }

-- actions that are said otherwise
pub pushed_as : {old new : List ℕ} {said actions : List Action} → said ≡ actions → new ≡ old ++ spell said → Pushes old new actions
pushed_as {old} {new} is h = record { is = h ∙ ap (λ (actions : List Action). old ++ spell actions) is }

-- a control function that is the spelling of an event
pub pushed_function : {old new bytes : List ℕ} (event : Event) → bytes ≡ spell_event event → new ≡ old ++ bytes
    → Pushes old new (Function event ∷ [])
pushed_function {old} {new} event is h = record {
  is = h ∙ ap (λ (xs : List ℕ). old ++ xs) (is ∙ sym (append-nil (spell_event event)));
}

pub then_pushed : {old mid new : List ℕ} {first rest : List Action} → Pushes old mid first → Pushes mid new rest
    → Pushes old new (first ++ rest)
then_pushed {old} {mid} {new} {first} {rest} h k = record {
  is =
      k.is
      ∙ ap (λ (bytes : List ℕ). bytes ++ spell rest) h.is
      ∙ append_assoc old (spell first) (spell rest)
      ∙ ap (λ (bytes : List ℕ). old ++ bytes) (sym (flat_map-append spell_action first rest));
}

-- if a test passes
pub pushed_when : {old new : List ℕ} (b : Bool) (actions : List Action) → new ≡ old ++ when b (spell actions)
    → Pushes old new (when b actions)
pushed_when {old} {new} b actions h = record { is = go b h }
  where
    go : (b : Bool) → new ≡ old ++ when b (spell actions) → new ≡ old ++ spell (when b actions)
    go true h = h
    go false h = h

-- a control function, if a test passes
pub pushed_event_when : {old new bytes : List ℕ} (b : Bool) (event : Event) → bytes ≡ spell_event event → new ≡ old ++ when b bytes
    → Pushes old new (when b (Function event ∷ []))
pushed_event_when {old} {new} {bytes} b event is h =
    pushed_when b (Function event ∷ []) (h ∙ ap (λ (xs : List ℕ). old ++ when b xs) (is ∙ sym (append-nil (spell_event event))))

-- the designation of a slot, by the finals of the sets
pub pushed_changed_set : {old new bytes : List ℕ} {a b : ℕ} (slot : ℕ) (before after : Set) → a ≡ final_of before → b ≡ final_of after
    → bytes ≡ spell_event (designation_of slot after) → new ≡ old ++ when (not (a == b)) bytes → Pushes old new (set_item slot before after)
pushed_changed_set {old} {new} {bytes} slot before after h k is e =
    pushed_event_when (not (final_of before == final_of after)) (designation_of slot after) is (rw (← h, ← k) e)

-- and by sets that are equal to them
pub pushed_set : {old new : List ℕ} {x y : Set} (slot : ℕ) (a b : Set) → x ≡ a → y ≡ b → new ≡ old ++ spell (set_item slot x y)
    → Pushes old new (set_item slot a b)
pushed_set slot a b h k e = record { is = rw (← h, ← k) e }

-- the same sets
pub sets_item-same : (g h : List Set) (l m r n : ℕ) (a b : GraphicSets) → g ≡ a.g → l ≡ a.left → r ≡ a.right
    → h ≡ b.g → m ≡ b.left → n ≡ b.right
    → sets_item (record { g = g; left = l; right = r; pending = None }) (record { g = h; left = m; right = n; pending = None })
    ≡ sets_item a b
unfolding sets_item
sets_item-same g h l m r n a b i j k x y z = rw (i, j, k, x, y, z) refl

-- a row that isn't blank
pub row_written : (g : Grid) (row : ℕ) (old new : List ℕ) → are_blank (row_or blank_cell g row) ≡ false
    → Pushes old new (Function (cursor_position row 1) ∷ (look_actions plain_look ++ cells_actions plain_look (row_or blank_cell g row)))
    → new ≡ old ++ spell (row_actions g row)
unfolding row_actions
row_written g row old new shown h =
    h.is
    ∙ ap (λ (b : Bool). old ++ spell (when (not b) (Function (cursor_position row 1)
    ∷ (look_actions plain_look ++ cells_actions plain_look (row_or blank_cell g row))))) (sym shown)

in_a_row : (a b c d e f : List Action) → (a ++ (b ++ c)) ++ ((d ++ e) ++ f) ≡ a ++ (b ++ (c ++ (d ++ (e ++ f))))
in_a_row a b c d e f =
    append_assoc a (b ++ c) ((d ++ e) ++ f)
    ∙ ap (λ (actions : List Action). a ++ actions) (append_assoc b c ((d ++ e) ++ f))
    ∙ ap (λ (actions : List Action). a ++ (b ++ (c ++ actions))) (append_assoc d e f)

-- the place, the pen and the rest
pub last_written : (s : XtermState) (old new : List ℕ)
    → Pushes old new ((margins_item s ++ (when s.shown.modes.decom (functions (private_mode 6 true ∷ [])) ++ cursor_item s))
    ++ ((look_actions s.shown.brush ++ sets_item sets_at_power_up s.shown.sets)
    ++ kept_actions s.shown.modes s.settings s.resizes s.shown.sets.pending))
    → new ≡ old ++ spell (last_actions s)
unfolding last_actions kept_actions
last_written s old new h =
    h.is
    ∙ ap (λ (actions : List Action). old ++ spell actions)
    (in_a_row (margins_item s) (when s.shown.modes.decom (functions (private_mode 6 true ∷ []))) (cursor_item s)
    (look_actions s.shown.brush) (sets_item sets_at_power_up s.shown.sets)
    (kept_actions s.shown.modes s.settings s.resizes s.shown.sets.pending))
