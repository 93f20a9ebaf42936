-- Looks and characters are actions that can be spelled.
use Rattle.std.proofs.Common.{◌≡◌, ℕ, ◌+◌, ◌-◌, ◌≤◌, ◌<◌, ◌⊎◌, inl, inr, Bool, true, false, cond, not, List, [], ◌∷◌, ◌++◌, length, All, Option, Some, None, IfSome, refl, arith, length-append}
use Rattle.std.specs.Prelude.{nat_le, nat_lt, ◌==◌, ◌&&◌, ◌||◌, if◌then◌else◌}
use lib.Utf8.{scalar, low_scalar}
use Rattle.std.specs.Char.{IsScalar}
use Rattle.std.proofs.lemmas.Bool.{and_parts, and_from}
use Rattle.std.proofs.lemmas.Bool.Decides.{nat_tests}
use Rattle.std.proofs.lemmas.List.Elements.{All-nil, All-cons, All-append}
use Rattle.vt_syntax.specs.Class.{IsPlain}
use Rattle.vt_syntax.specs.Spelling.{IsMarker, IsSequence}
use Rattle.vt_screen.specs.Grid.{is_within}
use Rattle.vt_screen.specs.Same.{when}
use Rattle.vt_term.specs.Functions.{byte}
use Rattle.vt_utf8.specs.Cells.{cells}
use Rattle.vt_feed.specs.Actions.{Action, Function, Character}
use Rattle.vt_feed.specs.Spelled.{IsSpelled}
use Rattle.vt_paint.specs.Controls.{sequence_of, protection_to, ansi_mode, private_mode}
use Rattle.vt_xterm_cell.specs.declared.look.Attributes.{Attributes}
use Rattle.vt_xterm_cell.specs.declared.look.Colour.{Colour}
use Rattle.vt_xterm_cell.specs.declared.look.Colour.TheVariants.{Default, Indexed, Rgb}
use Rattle.vt_xterm_cell.specs.declared.look.Look.{Look}
use Rattle.vt_xterm_cell.specs.Words.{CellParts}
use Rattle.vt_xterm_cell.specs.Characters.{is_shown, is_empty, has_columns, is_mark, is_mark_or_none, is_format, are_marks}
use Rattle.vt_xterm_display.proofs.Graphic.{mark_parts, character_parts}
use Rattle.vt_xterm_repaint.specs.Cells.{character_action, mark_actions, glyph_actions}
use Rattle.vt_xterm_repaint.specs.Colours.{IsColour, HasColours}
use Rattle.vt_xterm_repaint.specs.GraphicCells.{IsGraphicCell}
use Rattle.vt_xterm_repaint.specs.Looks.{attribute_values, colour_values, both_colours, look_actions}

-- ---- values

abbrev IsSmall : ℕ → Type 0
IsSmall v = v ≤ 9999

record AreFew (n : ℕ) (values : List ℕ) : Type 0 where
  pub few : length values ≤ n
  pub small : All IsSmall values

none-few : AreFew 0 []
none-few = record { few = omega arith; small = All-nil IsSmall }

one-few : (n v : ℕ) (vs : List ℕ) → v ≤ 9999 → AreFew n vs → AreFew (n + 1) (v ∷ vs)
one-few n v vs small few = record { few = omega (arith, few.few); small = All-cons IsSmall v vs small few.small }

when-few : (n : ℕ) (on : Bool) (v : ℕ) (vs : List ℕ) → v ≤ 9999 → AreFew n vs → AreFew (n + 1) (when on (v ∷ []) ++ vs)
when-few n true v vs small few = one-few n v vs small few
when-few n false v vs small few = record { few = omega (arith, few.few); small = few.small }

last-few : (on : Bool) (v : ℕ) → v ≤ 9999 → AreFew 1 (when on (v ∷ []))
last-few true v small = one-few 0 v [] small none-few
last-few false v small = record { few = omega arith; small = All-nil IsSmall }

both-few : (m n : ℕ) (vs ws : List ℕ) → AreFew m vs → AreFew n ws → AreFew (m + n) (vs ++ ws)
both-few m n vs ws first second = record {
  few = omega (arith, first.few, second.few, length-append vs ws);
  small = All-append IsSmall vs ws first.small second.small;
}

at-most : (m n : ℕ) (vs : List ℕ) → m ≤ n → AreFew m vs → AreFew n vs
at-most m n vs less few = record { few = omega (arith, few.few, less); small = few.small }

attributes-few : (a : Attributes) → AreFew 10 (attribute_values a)
attributes-few a =
    one-few 9 0 _ (omega arith) (when-few 8 a.bold 1 _ (omega arith) (when-few 7 a.faint 2 _ (omega arith)
    (when-few 6 a.italic 3 _ (omega arith) (when-few 5 a.underlined 4 _ (omega arith)
    (when-few 4 a.doubly_underlined 21 _ (omega arith) (when-few 3 a.blinking 5 _ (omega arith)
    (when-few 2 a.reverse 7 _ (omega arith) (when-few 1 a.invisible 8 _ (omega arith)
    (last-few a.crossed_out 9 (omega arith))))))))))

colour-few : (eight : ℕ) (c : Colour) → eight ≤ 40 → IsColour c → AreFew 5 (colour_values eight c)
colour-few eight Default low is = at-most 0 5 [] (omega arith) none-few
colour-few eight (Rgb r g b) low is =
    one-few 4 (eight + 8) _ (omega (arith, low)) (one-few 3 2 _ (omega arith) (one-few 2 r _ (omega (arith, is.0))
    (one-few 1 g _ (omega (arith, is.1)) (one-few 0 b [] (omega (arith, is.2)) none-few))))
colour-few eight (Indexed i) low is = by (nat_lt i 8) (nat_lt i 16)
  where
    by : (few more : Bool) → AreFew 5 (cond few ((eight + i) ∷ []) (cond more ((eight + 60 + (i - 8)) ∷ []) ((eight + 8) ∷ 5 ∷ i ∷ [])))
    by true more = at-most 1 5 _ (omega arith) (one-few 0 (eight + i) [] (omega (arith, low, is)) none-few)
    by false true = at-most 1 5 _ (omega arith) (one-few 0 (eight + 60 + (i - 8)) [] (omega (arith, low, is)) none-few)
    by false false = at-most 3 5 _ (omega arith) (one-few 2 (eight + 8) _ (omega (arith, low)) (one-few 1 5 _ (omega arith)
        (one-few 0 i [] (omega (arith, is)) none-few)))

-- ---- functions

values-spelled : (values : List ℕ) → 0 < length values → AreFew 16 values → IsSpelled (Function (sequence_of values (byte "m")))
values-spelled values some few = (
  record {
    is_marker = tt;
    are_values = record { some = some; few = few.few; small = few.small };
    is_intermediate = tt;
    low = omega arith;
    high = omega arith;
  },
  tt,
)

one-spelled : (x : Action) → IsSpelled x → All IsSpelled (x ∷ [])
one-spelled x is = All-cons IsSpelled x [] is (All-nil IsSpelled)

colours-spelled : (values : List ℕ) → AreFew 16 values
    → All IsSpelled (when (not (length values == 0)) (Function (sequence_of values (byte "m")) ∷ []))
colours-spelled values few = by (length values == 0) refl
  where
    by : (none : Bool) → (length values == 0) ≡ none → All IsSpelled (when (not none) (Function (sequence_of values (byte "m")) ∷ []))
    by true is = All-nil IsSpelled
    by false is = one-spelled _ (values-spelled values (grind (arith, nat_tests)) few)

protection-spelled : (on : Bool) → IsSpelled (Function (protection_to on))
protection-spelled on = (
  record {
    is_marker = tt;
    are_values = record { some = omega arith; few = omega arith; small = All-cons IsSmall _ [] (by on) (All-nil IsSmall) };
    is_intermediate = (omega arith, omega arith);
    low = omega arith;
    high = omega arith;
  },
  tt,
)
  where
    by : (on : Bool) → cond on 1 0 ≤ 9999
    by true = omega arith
    by false = omega arith

pub look-spelled : (look : Look) → HasColours look → All IsSpelled (look_actions look)
unfolding look_actions
look-spelled look are =
    let attributes = at-most 10 16 _ (omega arith) (attributes-few look.attributes) in
    let colours = at-most 10 16 _ (omega arith) (both-few 5 5 (colour_values 30 look.foreground) (colour_values 40 look.background)
    (colour-few 30 look.foreground (omega arith) are.foreground) (colour-few 40 look.background (omega arith) are.background)) in
    All-cons IsSpelled _ _ (values-spelled (attribute_values look.attributes) (omega arith) attributes)
    (All-append IsSpelled _ _ (colours-spelled (both_colours look) colours) (one-spelled _ (protection-spelled look.protected)))

-- SM and RM, by the final byte
abbrev final : Bool → ℕ
final on = cond on 0x68 0x6C

mode-parts : (marker : Option ℕ) (n : ℕ) (on : Bool) → IfSome marker IsMarker → n ≤ 9999 → IsSequence marker (n ∷ []) None (final on)
mode-parts marker n on is small = record {
  is_marker = is;
  are_values = record { some = omega arith; few = omega arith; small = All-cons IsSmall n [] small (All-nil IsSmall) };
  is_intermediate = tt;
  low = low on;
  high = high on;
}
  where
    low : (on : Bool) → 0x40 ≤ final on
    low true = omega arith
    low false = omega arith

    high : (on : Bool) → final on ≤ 0x7E
    high true = omega arith
    high false = omega arith

pub ansi_mode-spelled : (n : ℕ) (on : Bool) → n ≤ 9999 → IsSpelled (Function (ansi_mode n on))
ansi_mode-spelled n on small = (mode-parts None n on tt small, tt)

pub private_mode-spelled : (n : ℕ) (on : Bool) → n ≤ 9999 → IsSpelled (Function (private_mode n on))
private_mode-spelled n on small = (mode-parts (Some 0x3F) n on (omega arith, omega arith) small, tt)

pub pair-spelled : (n m last : ℕ) → n ≤ 9999 → m ≤ 9999 → 0x40 ≤ last → last ≤ 0x7E
    → IsSpelled (Function (sequence_of (n ∷ m ∷ []) last))
pair-spelled n m last first second low high = (
  record {
    is_marker = tt;
    are_values = record {
      some = omega arith;
      few = omega arith;
      small = All-cons IsSmall n (m ∷ []) first (All-cons IsSmall m [] second (All-nil IsSmall));
    };
    is_intermediate = tt;
    low = low;
    high = high;
  },
  tt,
)

-- ---- characters

character-spelled : (c : ℕ) → IsScalar c → IsPlain c ⊎ (0x80 ≤ c) → IsSpelled (character_action c)
character-spelled c scalar (inl plain) =
    let low : nat_lt c 0x80 ≡ true = grind (arith, nat_tests) in rw low (inl plain, omega (arith, plain))
character-spelled c scalar (inr above) =
    let high : nat_lt c 0x80 ≡ false = grind (arith, nat_tests) in rw high (scalar, above)

mark-spelled : (m : ℕ) → IsScalar m → (m ≡ 0) ⊎ (0x80 ≤ m) → All IsSpelled (mark_actions m)
mark-spelled m scalar (inl none) = rw none (All-nil IsSpelled)
mark-spelled m scalar (inr above) =
    let some : (m == 0) ≡ false = grind (arith, nat_tests) in rw some (one-spelled (Character m) (scalar, above))

pub glyph-spelled : (cell : CellParts) → IsGraphicCell cell → All IsSpelled (glyph_actions cell)
glyph-spelled cell is =
    let first = and_parts _ _ is.scalars in
    let marks = and_parts _ _ first.1 in
    All-cons IsSpelled _ _ (character-spelled cell.character first.0 is.character)
    (All-append IsSpelled _ _ (mark-spelled cell.mark marks.0 is.mark) (mark-spelled cell.other_mark marks.1 is.other_mark))

-- a cell that can be written
pub glyph-graphic : (x : CellParts) → has_columns x.character x.wide ≡ true → are_marks x.mark x.other_mark ≡ true → IsGraphicCell x
glyph-graphic x is are =
    let character = character_parts x.character x.wide is in
    let marks = and_parts (is_mark_or_none x.mark) _ are in
    let mark = mark_parts x.mark marks.0 in
    let other = mark_parts x.other_mark (and_parts (is_mark_or_none x.other_mark) _ marks.1).0 in
    record {
      scalars = and_from (scalar x.character) (scalar x.mark && scalar x.other_mark) character.0
          (and_from (scalar x.mark) (scalar x.other_mark) mark.0 other.0);
      character = character.1;
      mark = mark.1;
      other_mark = other.1;
    }
