-- SGR: what its numbers do to a look. (ECMA-48 8.3.117; ctlseqs for 21, 90 to 107 and long colours; docs/XTERM.md)
use Rattle.std.specs.Prelude.{ℕ, ◌+◌, ◌-◌, List, [], ◌∷◌, ◌++◌, Bool, true, false, ◌==◌, ◌&&◌, ◌||◌, nat_le, nat_lt}
use Rattle.std.specs.Prelude.{if◌then◌else◌, Option, Some, None, unwrap_or, fold, map, length, slice_index}
use Rattle.std.specs.List.{range_with_len}
use Rattle.vt_glyph.specs.LookUp.{look_up}
use Rattle.vt_xterm_cell.specs.declared.look.Colour.{Colour}
use Rattle.vt_xterm_cell.specs.declared.look.Colour.TheVariants.{Default, Indexed, Rgb}
use Rattle.vt_xterm_cell.specs.declared.look.Attributes.{Attributes}
use Rattle.vt_xterm_cell.specs.declared.look.Look.{Look}
use Rattle.vt_xterm_cell.specs.Look.{plain_look}

-- ---- a number by itself

abbrev with_attributes : (Attributes → Attributes) → Look → Look
with_attributes change look = record look { attributes = change look.attributes }

abbrev pub in_foreground : Colour → Look → Look
in_foreground colour look = record look { foreground = colour }

abbrev pub on_background : Colour → Look → Look
on_background colour look = record look { background = colour }

-- 0 leaves the protection (ECMA-48 8.3.117; the protection is EK-VT220-RM's). Numbers without a source are those of ECMA-48
abbrev pub number_changes : List (ℕ × (Look → Look))
number_changes =
    (0, λ look. record plain_look { protected = look.protected })
    ∷ (1, with_attributes (λ a. record a { bold = true }))
    ∷ (2, with_attributes (λ a. record a { faint = true }))
    ∷ (3, with_attributes (λ a. record a { italic = true }))
    ∷ (4, with_attributes (λ a. record a { underlined = true }))
    ∷ (5, with_attributes (λ a. record a { blinking = true }))
    ∷ (6, with_attributes (λ a. record a { blinking = true }))  -- xterm: as 5
    ∷ (7, with_attributes (λ a. record a { reverse = true }))
    ∷ (8, with_attributes (λ a. record a { invisible = true }))
    ∷ (9, with_attributes (λ a. record a { crossed_out = true }))
    ∷ (21, with_attributes (λ a. record a { doubly_underlined = true }))
    ∷ (22, with_attributes (λ a. record a { bold = false; faint = false }))
    ∷ (23, with_attributes (λ a. record a { italic = false }))
    ∷ (24, with_attributes (λ a. record a { underlined = false; doubly_underlined = false }))
    ∷ (25, with_attributes (λ a. record a { blinking = false }))
    ∷ (27, with_attributes (λ a. record a { reverse = false }))
    ∷ (28, with_attributes (λ a. record a { invisible = false }))
    ∷ (29, with_attributes (λ a. record a { crossed_out = false }))
    ∷ (39, in_foreground Default)
    ∷ (49, on_background Default)
    ∷ []

unfoldable pub changed_by : ℕ → Look → Look
changed_by p look = unwrap_or (look_up number_changes p) (λ look. look) look

-- the numbers of eight colours, from this one on
abbrev pub is_of_eight : ℕ → ℕ → Bool
is_of_eight first p = nat_le first p && nat_lt p (first + 8)

-- the colours 0 to 7 by 30 to 37 and 40 to 47 (ECMA-48), and 8 to 15 by 90 to 97 and 100 to 107 (ctlseqs)
unfoldable pub with_number : ℕ → Look → Look
with_number p look =
    if is_of_eight 30 p then in_foreground (Indexed (p - 30)) look else (
    if is_of_eight 40 p then on_background (Indexed (p - 40)) look else (
    if is_of_eight 90 p then in_foreground (Indexed (p - 90 + 8)) look else (
    if is_of_eight 100 p then on_background (Indexed (p - 100 + 8)) look else
    changed_by p look)))

-- ---- long colours (ctlseqs; 58 without effect, and an empty parameter as 0, are this profile's)

-- these take parameters: of the foreground, the background, and an underline
abbrev pub is_long : ℕ → Bool
is_long p = p == 38 || (p == 48 || p == 58)

-- how many parameters a number is with what belongs to it: after 5 an index, after 2 red, green and blue
abbrev pub long_full : ℕ → ℕ
long_full form = if form == 5 then 3 else (if form == 2 then 5 else 2)

abbrev pub full : List ℕ → ℕ
full taken = if is_long (slice_index taken 0) then long_full (slice_index taken 1) else 1

-- the colour; what is missing at the end is 0, and what is above 255 makes it none
unfoldable pub long_colour : List ℕ → Option Colour
long_colour taken =
    if slice_index taken 1 == 5 && nat_le (slice_index taken 2) 255 then Some (Indexed (slice_index taken 2)) else (
    if slice_index taken 1 == 2 && (nat_le (slice_index taken 2) 255 && (nat_le (slice_index taken 3) 255 && nat_le (slice_index taken 4) 255))
    then Some (Rgb (slice_index taken 2) (slice_index taken 3) (slice_index taken 4)) else None)

-- a number with what belongs to it
unfoldable pub after_number : List ℕ → Look → Look
after_number taken look =
    if slice_index taken 0 == 38 then in_foreground (unwrap_or (long_colour taken) look.foreground) look else (
    if slice_index taken 0 == 48 then on_background (unwrap_or (long_colour taken) look.background) look else
    with_number (slice_index taken 0) look)

-- ---- all parameters

-- a number that isn't complete yet with what belongs to it, and the look before it
pub record Reading : Type 0 where
  pub taken : List ℕ
  pub look : Look

abbrev pub after_parameter : Reading → ℕ → Reading
after_parameter r p =
    if nat_lt (length (r.taken ++ p ∷ [])) (full (r.taken ++ p ∷ [])) then record r { taken = r.taken ++ p ∷ [] }
    else record { taken = []; look = after_number (r.taken ++ p ∷ []) r.look }

-- at the end a number is carried out with what there is
abbrev pub at_end : Reading → Look
at_end r = if length r.taken == 0 then r.look else after_number r.taken r.look

unfoldable pub rendered : List ℕ → Look → Look
rendered params look = at_end (fold after_parameter (record { taken = []; look = look }) params)

-- the numbers that change a look
abbrev pub attribute_numbers : List ℕ
attribute_numbers =
    map (λ row. row.0) number_changes ++ range_with_len 30 8 ++ range_with_len 40 8 ++ range_with_len 90 8
    ++ range_with_len 100 8 ++ 38 ∷ 48 ∷ []
