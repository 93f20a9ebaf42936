-- Which functions leave the width, the cursor's column, DECAWM and DECOM, on which it depends whether left and right margins fit.
use Rattle.std.proofs.Common.{rules, ◌≡◌, ℕ, Bool, true, false, List, [], ◌∷◌, Option, Some, None, refl, subst, sym, ◌∙◌}
use Rattle.std.specs.Prelude.{◌==◌, ◌||◌, ◌&&◌, unwrap_or, is_some, if◌then◌else◌}
use Rattle.vt_glyph.specs.LookUp.{look_up}
use Rattle.vt_glyph.specs.Designation.{set_of_final}
use Rattle.vt_glyph.specs.declared.set.Set.{Set}
use Rattle.vt_term.specs.State.{Display}
use Rattle.vt_term.specs.Tabs.{clear_tabs}
use Rattle.vt_term.specs.Editing.{names_area, erase_in_display, erase_in_line}
use Rattle.vt_term.specs.Rendition.{select_character_attribute}
use Rattle.vt_term.specs.Modes.{ansi_modes, private_modes, with_mode, change_modes}
use Rattle.vt_term.specs.Functions.{Function, no_function, controls, control, plain_escape, escape_with, escape_tables}
use Rattle.vt_term.specs.Functions.{space_escapes, number_sign_escapes, marker_tables, intermediate_tables, designate, designate_to}
use Rattle.vt_term.specs.Functions.{sequence_in, sequences_of, plain_sequences, private_sequences, greater_sequences}
use Rattle.vt_term.specs.Functions.{quote_sequences, exclamation_sequences}
use Rattle.vt_term.specs.Functions as terminal
use Rattle.vt_term.proofs.Tables.{AllRows, looked_up-holds, same-numbers}
use Rattle.vt_xterm.specs.Pages.{page_modes}
use Rattle.vt_xterm.specs.Bounded.{bounded_controls, other_plain, has_row, resets}
use Rattle.vt_xterm.specs.Front.{plain_escapes, functions_of, exclamation_functions, quote_functions}
use Rattle.vt_term.specs.Functions.{control_any, escape_with_any, plain_escape_any, sequences_any}

-- ---- a table that may have no row

module _ {X : Type 0} (holds : ℕ → X → Type 0) where
  pub looked_up-or : (rows : List (ℕ × X)) (key : ℕ) (otherwise : X)
      → (is_some (look_up rows key) ≡ false → holds key otherwise) → AllRows holds rows
      → holds key (unwrap_or (look_up rows key) otherwise)
  unfolding AllRows
  looked_up-or [] key otherwise none all = none refl
  looked_up-or (row ∷ rows) key otherwise none all =
      go (key == row.0) refl none (λ h. looked_up-or rows key otherwise h all.1)
    where
      go : (b : Bool) → (key == row.0) ≡ b
          → (is_some (if b then Some row.1 else look_up rows key) ≡ false → holds key otherwise)
          → ((is_some (look_up rows key) ≡ false → holds key otherwise) → holds key (unwrap_or (look_up rows key) otherwise))
          → holds key (unwrap_or (if b then Some row.1 else look_up rows key) otherwise)
      go true is h rest = subst (λ k. holds k row.1) (sym (same-numbers key row.0 is)) all.0
      go false is h rest = rest h

-- ---- functions that leave the place

abbrev pub LeavesPlace : Display → Display → Type 0
LeavesPlace s t = (t.grid.width ≡ s.grid.width) × ((t.cursor.col ≡ s.cursor.col)
    × ((t.modes.decawm ≡ s.modes.decawm) × (t.modes.decom ≡ s.modes.decom)))

abbrev pub Leaves : (Display → Display) → Type 0
Leaves f = (s : Display) → LeavesPlace s (f s)

pub same-place : (s : Display) → LeavesPlace s s
same-place s = (refl, (refl, (refl, refl)))

one-place : (b : Bool) (s t u : Display) → LeavesPlace s t → LeavesPlace s u → LeavesPlace s (if b then t else u)
one-place true s t u first second = first
one-place false s t u first second = second

-- nothing, if the test fails
pub unless-place : (b : Bool) (s t : Display) → b ≡ false → LeavesPlace s (if b then t else s)
unless-place true s t is = absurd cc
unless-place false s t is = same-place s

pub then-place : (s t u : Display) → LeavesPlace s t → LeavesPlace t u → LeavesPlace s u
then-place s t u one two = (two.0 ∙ one.0, (two.1.0 ∙ one.1.0, (two.1.1.0 ∙ one.1.1.0, two.1.1.1 ∙ one.1.1.1)))

pub erase_in_display-place : (selective : Bool) (p : ℕ) → Leaves (erase_in_display selective p)
erase_in_display-place selective p s = one-place (names_area p) s _ s (refl, (refl, (refl, refl))) (same-place s)

pub erase_in_line-place : (selective : Bool) (p : ℕ) → Leaves (erase_in_line selective p)
erase_in_line-place selective p s = one-place (names_area p) s _ s (refl, (refl, (refl, refl))) (same-place s)

clear_tabs-place : (p : ℕ) → Leaves (clear_tabs p)
clear_tabs-place p s =
    one-place (p == 0) s _ _ (refl, (refl, (refl, refl))) (one-place (p == 3) s _ s (refl, (refl, (refl, refl))) (same-place s))

select_character_attribute-place : (p : ℕ) → Leaves (select_character_attribute p)
select_character_attribute-place p s =
    one-place (p == 1) s _ _ (refl, (refl, (refl, refl)))
    (one-place (p == 0 || p == 2) s _ s (refl, (refl, (refl, refl))) (same-place s))

designate-place : (slot last : ℕ) → Leaves (designate slot last)
designate-place slot last s = go (set_of_final last)
  where
    go : (set : Option Set) → LeavesPlace s (designate_to slot set s)
    go None = same-place s
    go (Some set) = (refl, (refl, (refl, refl)))

ansi_mode-place : (on : Bool) (p : ℕ) → Leaves (with_mode ansi_modes on p)
unfolding with_mode AllRows
ansi_mode-place on p =
    looked_up-holds (λ key f. Leaves (f on)) ansi_modes p (λ on s. s) same-place (search rules)

ansi_modes-place : (on : Bool) (params : List ℕ) → Leaves (change_modes ansi_modes on params)
ansi_modes-place on [] s = same-place s
ansi_modes-place on (p ∷ params) s =
    then-place s (with_mode ansi_modes on p s) (change_modes ansi_modes on (p ∷ params) s) (ansi_mode-place on p s)
    (ansi_modes-place on params (with_mode ansi_modes on p s))

ruleset staying = (
  erase_in_display-place,
  erase_in_line-place,
  clear_tabs-place,
  select_character_attribute-place,
  designate-place,
  ansi_modes-place,
)

-- ---- what the front has no row for

-- a private mode
pub private_mode-place : (on : Bool) (p : ℕ) → is_some (look_up page_modes p) ≡ false → Leaves (with_mode private_modes on p)
unfolding with_mode AllRows
private_mode-place on p =
    looked_up-holds (λ key f. is_some (look_up page_modes key) ≡ false → Leaves (f on)) private_modes p (λ on s. s)
    (λ h. same-place) (search rules)

pub plain_escape-place : (last : ℕ) → is_some (look_up plain_escapes last) ≡ false → Leaves (plain_escape last)
unfolding plain_escape_any AllRows
plain_escape-place last =
    looked_up-holds (λ key f. is_some (look_up plain_escapes key) ≡ false → Leaves (f.effect [])) terminal.plain_escapes last
    no_function (λ h. same-place) (search rules)

pub escape_with-place : (inter last : ℕ) → (inter == 0x23 && last == 0x38) ≡ false → Leaves (escape_with inter last)
unfolding escape_with_any AllRows
escape_with-place inter last =
    looked_up-holds
    (λ key (f : ℕ → Function). (key == 0x23 && last == 0x38) ≡ false → Leaves ((f last).effect [])) escape_tables inter
    (λ last. no_function) (λ h. same-place) (
      λ h. looked_up-holds (λ key f. Leaves (f.effect [])) space_escapes last no_function same-place (search rules),
      (
        looked_up-holds (λ key f. (key == 0x38) ≡ false → Leaves (f.effect [])) number_sign_escapes last no_function
            (λ h. same-place) (search rules),
        (
          λ h. designate-place 0 last,
          (λ h. designate-place 1 last, (λ h. designate-place 2 last, (λ h. designate-place 3 last, tt))),
        ),
      ),
    )

private_sequence-place : (last : ℕ) (params : List ℕ) → is_some (look_up (functions_of (Some 0x3F) None) last) ≡ false
    → Leaves (sequence_in private_sequences last params)
unfolding sequence_in functions_of AllRows
private_sequence-place last params =
    looked_up-holds
    (λ key f. is_some (look_up (functions_of (Some 0x3F) None) key) ≡ false → Leaves (f.effect params)) private_sequences last
    no_function (λ h. same-place) (search (rules, staying))

greater_sequence-place : (last : ℕ) (params : List ℕ) → Leaves (sequence_in greater_sequences last params)
unfolding sequence_in AllRows
greater_sequence-place last params =
    looked_up-holds (λ key f. Leaves (f.effect params)) greater_sequences last no_function same-place (search rules)

quote_sequence-place : (last : ℕ) (params : List ℕ) → is_some (look_up quote_functions last) ≡ false
    → Leaves (sequence_in quote_sequences last params)
unfolding sequence_in AllRows
quote_sequence-place last params =
    looked_up-holds (λ key f. is_some (look_up quote_functions key) ≡ false → Leaves (f.effect params)) quote_sequences last
    no_function (λ h. same-place) (search (rules, staying))

exclamation_sequence-place : (last : ℕ) (params : List ℕ) → is_some (look_up exclamation_functions last) ≡ false
    → Leaves (sequence_in exclamation_sequences last params)
unfolding sequence_in AllRows
exclamation_sequence-place last params =
    looked_up-holds (λ key f. is_some (look_up exclamation_functions key) ≡ false → Leaves (f.effect params))
    exclamation_sequences last no_function (λ h. same-place) (search rules)

none-place : (last : ℕ) (params : List ℕ) → Leaves (sequence_in [] last params)
unfolding sequence_in
none-place last params s = same-place s

-- a control sequence with a marker or an intermediate
pub marked-place : (marker last : ℕ) (params : List ℕ) → is_some (look_up (functions_of (Some marker) None) last) ≡ false
    → Leaves (sequence_in (sequences_of (Some marker) None) last params)
unfolding sequences_any AllRows
marked-place marker last params =
    looked_up-holds
    (λ key table. is_some (look_up (functions_of (Some key) None) last) ≡ false → Leaves (sequence_in table last params))
    marker_tables marker [] (λ h. none-place last params)
    (private_sequence-place last params, (λ h. greater_sequence-place last params, tt))

pub with_inter-place : (inter last : ℕ) (params : List ℕ) → is_some (look_up (functions_of None (Some inter)) last) ≡ false
    → Leaves (sequence_in (sequences_of None (Some inter)) last params)
unfolding sequences_any functions_of AllRows
with_inter-place inter last params =
    looked_up-holds
    (λ key table. is_some (look_up (functions_of None (Some key)) last) ≡ false → Leaves (sequence_in table last params))
    intermediate_tables inter [] (λ h. none-place last params)
    (quote_sequence-place last params, (exclamation_sequence-place last params, tt))

pub both-place : (marker inter last : ℕ) (params : List ℕ) → Leaves (sequence_in (sequences_of (Some marker) (Some inter)) last params)
unfolding sequences_any
both-place marker inter last params = none-place last params

-- ---- what the margins don't bound, and has no row between them

pub control-place : (b : ℕ) → (b == 0x1A) ≡ false → (b == 0x09) ≡ false → has_row bounded_controls b ≡ false → Leaves (control b)
unfolding control_any has_row AllRows
control-place b =
    looked_up-holds
    (λ key f. (key == 0x1A) ≡ false → (key == 0x09) ≡ false → has_row bounded_controls key ≡ false → Leaves (f.effect [])) controls
    b no_function (λ h i k. same-place) (search rules)

-- CUU, CUD, ECH, ED and EL
pub unbounded-place : (last : ℕ) (params : List ℕ) → (last == 0x41 || (last == 0x42 || (last == 0x58 || (last == 0x4A || last == 0x4B)))) ≡ true
    → Leaves (sequence_in (sequences_of None None) last params)
unfolding sequence_in sequences_any AllRows
unbounded-place last params =
    looked_up-holds
    (λ key f. (key == 0x41 || (key == 0x42 || (key == 0x58 || (key == 0x4A || key == 0x4B)))) ≡ true → Leaves (f.effect params))
    plain_sequences last no_function (λ h. same-place) (search (rules, staying))

-- the others
pub other-place : (last : ℕ) (params : List ℕ) → resets last params ≡ false → is_some (look_up other_plain last) ≡ false
    → Leaves (sequence_in (sequences_of None None) last params)
unfolding sequence_in sequences_any has_row AllRows
other-place last params =
    looked_up-holds
    (λ key f. resets key params ≡ false → is_some (look_up other_plain key) ≡ false → Leaves (f.effect params)) plain_sequences
    last no_function (λ h k. same-place) (search (rules, staying))
