-- SGR gives the look whose values it has.
use Rattle.std.proofs.Common.{◌≡◌, ℕ, ◌+◌, ◌-◌, ◌≤◌, ◌<◌, Bool, true, false, cond, List, [], ◌∷◌, ◌++◌, refl, sym, ap, ◌∙◌, arith, append-nil}
use Rattle.std.specs.Prelude.{Option, Some, unwrap_or, nat_lt, nat_le, fold, if◌then◌else◌}
use Rattle.std.proofs.lemmas.Bool.Decides.{nat_tests}
use Rattle.vt_screen.specs.Same.{when}
use Rattle.vt_xterm_cell.specs.declared.look.Colour.{Colour}
use Rattle.vt_xterm_cell.specs.declared.look.Colour.TheVariants.{Default, Indexed, Rgb}
use Rattle.vt_xterm_cell.specs.declared.look.Attributes.{Attributes}
use Rattle.vt_xterm_cell.specs.declared.look.Look.{Look}
use Rattle.vt_xterm_cell.specs.Rendition.{Reading, is_long, changed_by, with_number, after_number, after_parameter, long_colour, at_end, rendered}
use Rattle.vt_xterm_cell.specs.Rendition.{in_foreground, on_background}
use Rattle.vt_xterm_repaint.specs.Looks.{attribute_values, colour_values, both_colours}
use Rattle.vt_xterm_repaint.specs.Colours.{IsColour, HasColours}

-- ---- attributes, one after another

abbrev plainly : Bool → Attributes → Look
plainly protected a = record { foreground = Default; background = Default; attributes = a; protected = protected }

abbrev set : Bool → Bool → Bool → Bool → Bool → Bool → Bool → Bool → Bool → Attributes
set bold faint italic underlined doubly_underlined blinking reverse invisible crossed_out = record {
  bold = bold;
  faint = faint;
  italic = italic;
  underlined = underlined;
  doubly_underlined = doubly_underlined;
  blinking = blinking;
  reverse = reverse;
  invisible = invisible;
  crossed_out = crossed_out;
}

-- one more value
abbrev Adds : Bool → ℕ → Bool → List ℕ → Attributes → Attributes → Type 0
Adds on n p rest a b = rendered (when on (n ∷ []) ++ rest) (plainly p a) ≡ rendered rest (plainly p b)

module _ (p : Bool) (rest : List ℕ) where
  bold-added : (b : Bool) → Adds b 1 p rest (set false false false false false false false false false) (set b false false false false false false false false)
  unfolding rendered after_number with_number changed_by
  bold-added true = refl
  bold-added false = refl

  faint-added : (b f : Bool) → Adds f 2 p rest (set b false false false false false false false false) (set b f false false false false false false false)
  unfolding rendered after_number with_number changed_by
  faint-added b true = refl
  faint-added b false = refl

  italic-added : (b f i : Bool) → Adds i 3 p rest (set b f false false false false false false false) (set b f i false false false false false false)
  unfolding rendered after_number with_number changed_by
  italic-added b f true = refl
  italic-added b f false = refl

  underlined-added : (b f i u : Bool) → Adds u 4 p rest (set b f i false false false false false false) (set b f i u false false false false false)
  unfolding rendered after_number with_number changed_by
  underlined-added b f i true = refl
  underlined-added b f i false = refl

  doubly-added : (b f i u d : Bool) → Adds d 21 p rest (set b f i u false false false false false) (set b f i u d false false false false)
  unfolding rendered after_number with_number changed_by
  doubly-added b f i u true = refl
  doubly-added b f i u false = refl

  blinking-added : (b f i u d k : Bool) → Adds k 5 p rest (set b f i u d false false false false) (set b f i u d k false false false)
  unfolding rendered after_number with_number changed_by
  blinking-added b f i u d true = refl
  blinking-added b f i u d false = refl

  reverse-added : (b f i u d k r : Bool) → Adds r 7 p rest (set b f i u d k false false false) (set b f i u d k r false false)
  unfolding rendered after_number with_number changed_by
  reverse-added b f i u d k true = refl
  reverse-added b f i u d k false = refl

  invisible-added : (b f i u d k r v : Bool) → Adds v 8 p rest (set b f i u d k r false false) (set b f i u d k r v false)
  unfolding rendered after_number with_number changed_by
  invisible-added b f i u d k r true = refl
  invisible-added b f i u d k r false = refl

crossed-added : (p b f i u d k r v c : Bool)
    → rendered (when c (9 ∷ [])) (plainly p (set b f i u d k r v false)) ≡ plainly p (set b f i u d k r v c)
unfolding rendered after_number with_number changed_by
crossed-added p b f i u d k r v true = refl
crossed-added p b f i u d k r v false = refl

reset-first : (rest : List ℕ) (old : Look) → rendered (0 ∷ rest) old
    ≡ rendered rest (plainly old.protected (set false false false false false false false false false))
unfolding rendered after_number with_number changed_by
reset-first rest old = refl

pub attributes-rendered : (a : Attributes) (old : Look) → rendered (attribute_values a) old ≡ plainly old.protected a
attributes-rendered a old =
    let p = old.protected in
    let crossed : List ℕ = when a.crossed_out (9 ∷ []) in
    let invisible : List ℕ = when a.invisible (8 ∷ []) ++ crossed in
    let reverse : List ℕ = when a.reverse (7 ∷ []) ++ invisible in
    let blinking : List ℕ = when a.blinking (5 ∷ []) ++ reverse in
    let doubly : List ℕ = when a.doubly_underlined (21 ∷ []) ++ blinking in
    let underlined : List ℕ = when a.underlined (4 ∷ []) ++ doubly in
    let italic : List ℕ = when a.italic (3 ∷ []) ++ underlined in
    let faint : List ℕ = when a.faint (2 ∷ []) ++ italic in
    reset-first (when a.bold (1 ∷ []) ++ faint) old ∙ bold-added p faint a.bold ∙ faint-added p italic a.bold a.faint
    ∙ italic-added p underlined a.bold a.faint a.italic ∙ underlined-added p doubly a.bold a.faint a.italic a.underlined
    ∙ doubly-added p blinking a.bold a.faint a.italic a.underlined a.doubly_underlined
    ∙ blinking-added p reverse a.bold a.faint a.italic a.underlined a.doubly_underlined a.blinking
    ∙ reverse-added p invisible a.bold a.faint a.italic a.underlined a.doubly_underlined a.blinking a.reverse
    ∙ invisible-added p crossed a.bold a.faint a.italic a.underlined a.doubly_underlined a.blinking a.reverse a.invisible
    ∙ crossed-added p a.bold a.faint a.italic a.underlined a.doubly_underlined a.blinking a.reverse a.invisible a.crossed_out

-- ---- colours

abbrev to_end : Reading → List ℕ → Look
to_end r params = at_end (fold after_parameter r params)

-- a number that takes no parameters
short : (p : ℕ) (rest : List ℕ) (look : Look) → is_long p ≡ false → rendered (p ∷ rest) look ≡ rendered rest (after_number (p ∷ []) look)
unfolding rendered
short p rest look h =
    ap (λ (t : Bool). to_end (if nat_lt 1 (if t then 2 else 1) then record { taken = p ∷ []; look = look }
    else record { taken = []; look = after_number (p ∷ []) look }) rest) h

index-is : (p i : ℕ) → i ≤ 0xFF → long_colour (p ∷ 5 ∷ i ∷ []) ≡ Some (Indexed i)
unfolding long_colour
index-is p i small = let is : nat_le i 255 ≡ true = grind (arith, nat_tests) in rw is refl

mixed-is : (p r g b : ℕ) → r ≤ 0xFF → g ≤ 0xFF → b ≤ 0xFF → long_colour (p ∷ 2 ∷ r ∷ g ∷ b ∷ []) ≡ Some (Rgb r g b)
unfolding long_colour
mixed-is p r g b red green blue =
    let is : nat_le r 255 ≡ true = grind (arith, nat_tests) in
    let next : nat_le g 255 ≡ true = grind (arith, nat_tests) in
    let last : nat_le b 255 ≡ true = grind (arith, nat_tests) in
    rw (is, next, last) refl

module _ (rest : List ℕ) (look : Look) where
  -- the colours 0 to 7, and 8 to 15
  few-in : (p i : ℕ) → p ≡ 30 + i → i < 8 → after_number (p ∷ []) look ≡ in_foreground (Indexed i) look
  unfolding after_number with_number
  few-in p i is low = grind (arith, nat_tests)

  few-on : (p i : ℕ) → p ≡ 40 + i → i < 8 → after_number (p ∷ []) look ≡ on_background (Indexed i) look
  unfolding after_number with_number
  few-on p i is low = grind (arith, nat_tests)

  more-in : (p i : ℕ) → p ≡ 90 + (i - 8) → 8 ≤ i → i < 16 → after_number (p ∷ []) look ≡ in_foreground (Indexed i) look
  unfolding after_number with_number
  more-in p i is high low = grind (arith, nat_tests)

  more-on : (p i : ℕ) → p ≡ 100 + (i - 8) → 8 ≤ i → i < 16 → after_number (p ∷ []) look ≡ on_background (Indexed i) look
  unfolding after_number with_number
  more-on p i is high low = grind (arith, nat_tests)

  -- an index, and red, green and blue
  long-in : (params : List ℕ) (colour : Colour) → long_colour (38 ∷ params) ≡ Some colour → after_number (38 ∷ params) look ≡ in_foreground colour look
  unfolding after_number
  long-in params colour is = ap (λ (o : Option Colour). in_foreground (unwrap_or o look.foreground) look) is

  long-on : (params : List ℕ) (colour : Colour) → long_colour (48 ∷ params) ≡ Some colour → after_number (48 ∷ params) look ≡ on_background colour look
  unfolding after_number
  long-on params colour is = ap (λ (o : Option Colour). on_background (unwrap_or o look.background) look) is

  indexed-in : (i : ℕ) → i ≤ 0xFF → rendered (38 ∷ 5 ∷ i ∷ rest) look ≡ rendered rest (in_foreground (Indexed i) look)
  unfolding rendered
  indexed-in i small = ap (λ (l : Look). rendered rest l) (long-in (5 ∷ i ∷ []) (Indexed i) (index-is 38 i small))

  indexed-on : (i : ℕ) → i ≤ 0xFF → rendered (48 ∷ 5 ∷ i ∷ rest) look ≡ rendered rest (on_background (Indexed i) look)
  unfolding rendered
  indexed-on i small = ap (λ (l : Look). rendered rest l) (long-on (5 ∷ i ∷ []) (Indexed i) (index-is 48 i small))

  mixed-in : (r g b : ℕ) → r ≤ 0xFF → g ≤ 0xFF → b ≤ 0xFF
      → rendered (38 ∷ 2 ∷ r ∷ g ∷ b ∷ rest) look ≡ rendered rest (in_foreground (Rgb r g b) look)
  unfolding rendered
  mixed-in r g b red green blue =
      ap (λ (l : Look). rendered rest l) (long-in (2 ∷ r ∷ g ∷ b ∷ []) (Rgb r g b) (mixed-is 38 r g b red green blue))

  mixed-on : (r g b : ℕ) → r ≤ 0xFF → g ≤ 0xFF → b ≤ 0xFF
      → rendered (48 ∷ 2 ∷ r ∷ g ∷ b ∷ rest) look ≡ rendered rest (on_background (Rgb r g b) look)
  unfolding rendered
  mixed-on r g b red green blue =
      ap (λ (l : Look). rendered rest l) (long-on (2 ∷ r ∷ g ∷ b ∷ []) (Rgb r g b) (mixed-is 48 r g b red green blue))

  -- a colour of the foreground, and of the background, on a look that has the default
  foreground-rendered : (c : Colour) → IsColour c → look.foreground ≡ Default
      → rendered (colour_values 30 c ++ rest) look ≡ rendered rest (in_foreground c look)
  foreground-rendered Default are none = ap (λ (c : Colour). rendered rest (in_foreground c look)) none
  foreground-rendered (Rgb r g b) are none = mixed-in r g b are.0 are.1 are.2
  foreground-rendered (Indexed i) small none = by (nat_lt i 8) (nat_lt i 16) refl refl
    where
      by : (few more : Bool) → nat_lt i 8 ≡ few → nat_lt i 16 ≡ more
          → rendered (cond few ((30 + i) ∷ []) (cond more ((30 + 60 + (i - 8)) ∷ []) ((30 + 8) ∷ 5 ∷ i ∷ [])) ++ rest) look
          ≡ rendered rest (in_foreground (Indexed i) look)
      by true more e f =
          short (30 + i) rest look (grind (arith, nat_tests))
          ∙ ap (λ (l : Look). rendered rest l) (few-in (30 + i) i refl (grind (arith, nat_tests)))
      by false true e f =
          short (90 + (i - 8)) rest look (grind (arith, nat_tests))
          ∙ ap (λ (l : Look). rendered rest l) (more-in (90 + (i - 8)) i refl (grind (arith, nat_tests)) (grind (arith, nat_tests)))
      by false false e f = indexed-in i small

  background-rendered : (c : Colour) → IsColour c → look.background ≡ Default
      → rendered (colour_values 40 c ++ rest) look ≡ rendered rest (on_background c look)
  background-rendered Default are none = ap (λ (c : Colour). rendered rest (on_background c look)) none
  background-rendered (Rgb r g b) are none = mixed-on r g b are.0 are.1 are.2
  background-rendered (Indexed i) small none = by (nat_lt i 8) (nat_lt i 16) refl refl
    where
      by : (few more : Bool) → nat_lt i 8 ≡ few → nat_lt i 16 ≡ more
          → rendered (cond few ((40 + i) ∷ []) (cond more ((40 + 60 + (i - 8)) ∷ []) ((40 + 8) ∷ 5 ∷ i ∷ [])) ++ rest) look
          ≡ rendered rest (on_background (Indexed i) look)
      by true more e f =
          short (40 + i) rest look (grind (arith, nat_tests))
          ∙ ap (λ (l : Look). rendered rest l) (few-on (40 + i) i refl (grind (arith, nat_tests)))
      by false true e f =
          short (100 + (i - 8)) rest look (grind (arith, nat_tests))
          ∙ ap (λ (l : Look). rendered rest l) (more-on (100 + (i - 8)) i refl (grind (arith, nat_tests)) (grind (arith, nat_tests)))
      by false false e f = indexed-on i small

nothing-rendered : (look : Look) → rendered [] look ≡ look
unfolding rendered
nothing-rendered look = refl

pub look-rendered : (look old : Look) → HasColours look
    → rendered (both_colours look) (rendered (attribute_values look.attributes) old) ≡ record look { protected = old.protected }
look-rendered look old are =
    let plain : Look = plainly old.protected look.attributes in
    let back : List ℕ = colour_values 40 look.background in
    ap (λ (l : Look). rendered (both_colours look) l) (attributes-rendered look.attributes old)
    ∙ foreground-rendered back plain look.foreground are.foreground refl
    ∙ ap (λ (vs : List ℕ). rendered vs (in_foreground look.foreground plain)) (sym (append-nil back))
    ∙ background-rendered [] (in_foreground look.foreground plain) look.background are.background refl
    ∙ nothing-rendered _
