-- A look as control functions, in one fixed form. (ECMA-48 8.3.117; ctlseqs for 21, 90 to 107 and long colours; the form is this profile's)
use Rattle.std.specs.Prelude.{ℕ, ◌+◌, ◌-◌, List, [], ◌∷◌, ◌++◌, Bool, true, false, not, length, nat_lt, ◌==◌, ◌&&◌, if◌then◌else◌}
use Rattle.vt_screen.specs.Same.{same_bool, when}
use Rattle.vt_term.specs.Functions.{byte}
use Rattle.vt_feed.specs.Actions.{Action, Function}
use Rattle.vt_paint.specs.Controls.{sequence_of, protection_to}
use Rattle.vt_xterm_cell.specs.declared.look.Colour.{Colour}
use Rattle.vt_xterm_cell.specs.declared.look.Colour.TheVariants.{Default, Indexed, Rgb}
use Rattle.vt_xterm_cell.specs.declared.look.Attributes.{Attributes}
use Rattle.vt_xterm_cell.specs.declared.look.Look.{Look}

-- 0, which resets all but the protection, and each attribute
abbrev pub attribute_values : Attributes → List ℕ
attribute_values a =
    0 ∷ (when a.bold (1 ∷ [])
    ++ (when a.faint (2 ∷ [])
    ++ (when a.italic (3 ∷ [])
    ++ (when a.underlined (4 ∷ [])
    ++ (when a.doubly_underlined (21 ∷ [])
    ++ (when a.blinking (5 ∷ [])
    ++ (when a.reverse (7 ∷ [])
    ++ (when a.invisible (8 ∷ [])
    ++ when a.crossed_out (9 ∷ [])))))))))

-- a colour: by 30 or 40, by 90 or 100 for the colours 8 to 15, and by 38 or 48 for the others; nothing for the default
abbrev pub colour_values : ℕ → Colour → List ℕ
colour_values eight Default = []
colour_values eight (Indexed i) =
    if nat_lt i 8 then (eight + i) ∷ [] else (if nat_lt i 16 then (eight + 60 + (i - 8)) ∷ [] else (eight + 8) ∷ 5 ∷ i ∷ [])
colour_values eight (Rgb red green blue) = (eight + 8) ∷ 2 ∷ red ∷ green ∷ blue ∷ []

abbrev pub both_colours : Look → List ℕ
both_colours look = colour_values 30 look.foreground ++ colour_values 40 look.background

-- SGR of the attributes; SGR of the colours, if one isn't the default; DECSCA
unfoldable pub look_actions : Look → List Action
look_actions look =
    Function (sequence_of (attribute_values look.attributes) (byte "m"))
    ∷ (when (not (length (both_colours look) == 0)) (Function (sequence_of (both_colours look) (byte "m")) ∷ [])
    ++ Function (protection_to look.protected) ∷ [])

-- ---- equal looks

abbrev pub same_colour : Colour → Colour → Bool
same_colour Default Default = true
same_colour (Indexed i) (Indexed j) = i == j
same_colour (Rgb r g b) (Rgb s h c) = r == s && (g == h && b == c)
same_colour _ _ = false

abbrev pub same_attributes : Attributes → Attributes → Bool
same_attributes a b =
    same_bool a.bold b.bold && (same_bool a.faint b.faint && (same_bool a.italic b.italic && (same_bool a.underlined b.underlined
    && (same_bool a.doubly_underlined b.doubly_underlined && (same_bool a.blinking b.blinking && (same_bool a.reverse b.reverse
    && (same_bool a.invisible b.invisible && same_bool a.crossed_out b.crossed_out)))))))

unfoldable pub same_look : Look → Look → Bool
same_look a b =
    same_colour a.foreground b.foreground && (same_colour a.background b.background
    && (same_attributes a.attributes b.attributes && same_bool a.protected b.protected))
