-- The classes of bytes (ECMA-48 5.4, ECMA-35 13; which bytes are quiet is this profile). A byte is at most 0xFF.
use Rattle.std.specs.Prelude.{◌≡◌, ◌≤◌, ℕ, List, [], ◌∷◌, Bool, true, nat_lt, nat_le, ◌==◌, ◌||◌, ◌&&◌}
use Rattle.std.specs.Prelude.{not, if◌then◌else◌, ◌⊎◌}
use Rattle.vt_syntax.specs.declared.class.Class.{Class}
use Rattle.vt_syntax.specs.declared.class.Class.TheVariants.{Quiet, Cancel, Esc, Intermediate, Parameter, Final, High}

-- CAN and SUB, which cancel a sequence (EK-VT220-RM, chapter 4)
abbrev pub is_cancel : ℕ → Bool
is_cancel b = b == 0x18 || b == 0x1A

-- the other C0 controls but ESC, and DEL
abbrev pub is_quiet : ℕ → Bool
is_quiet b = nat_lt b 0x20 && not (is_cancel b || b == 0x1B) || b == 0x7F

abbrev pub is_intermediate : ℕ → Bool
is_intermediate b = nat_le 0x20 b && nat_lt b 0x30

abbrev pub is_parameter : ℕ → Bool
is_parameter b = nat_le 0x30 b && nat_lt b 0x40

abbrev pub is_final : ℕ → Bool
is_final b = nat_le 0x40 b && nat_lt b 0x7F

-- the class of a byte, for the code
unfoldable pub class_of : ℕ → Class
class_of b =
    if is_cancel b then Cancel else (
    if b == 0x1B then Esc else (
    if is_quiet b then Quiet else (
    if is_intermediate b then Intermediate else (
    if is_parameter b then Parameter else (
    if is_final b then Final else High)))))

-- the C1 controls that open a string: DCS, SOS, OSC, PM and APC (ECMA-48 5.6)
unfoldable pub opens_string : ℕ → Bool
opens_string b = b == 0x90 || b == 0x98 || b == 0x9D || b == 0x9E || b == 0x9F

-- the C1 controls that open a control sequence (CSI, ECMA-48 5.4) or a string
abbrev pub opens : ℕ → Bool
opens b = b == 0x9B || opens_string b

-- the bytes that open something: these, and ESC (ECMA-35 13)
abbrev pub is_opener : ℕ → Bool
is_opener b = b == 0x1B || opens b

-- the plain bytes, 20..7E: graphic bytes of the left half (ECMA-35 6.2)
abbrev pub is_plain : ℕ → Bool
is_plain b = nat_le 0x20 b && nat_lt b 0x7F

abbrev pub IsPlain : ℕ → Type 0
IsPlain b = (0x20 ≤ b) × (b ≤ 0x7E)

-- the bytes of the two graphic areas of the code table, with the space: 20..7E and A1..FE (ECMA-35 6.2)
abbrev pub is_in_areas : ℕ → Bool
is_in_areas b = (nat_le 0x20 b && nat_le b 0x7E) || (nat_le 0xA1 b && nat_le b 0xFE)

abbrev pub IsInAreas : ℕ → Type 0
IsInAreas b = ((0x20 ≤ b) × (b ≤ 0x7E)) ⊎ ((0xA1 ≤ b) × (b ≤ 0xFE))

-- the bytes of lines: BS to CR, all from 20 to 7F and all from A0 to FF. None of them opens anything or makes a report
-- (this profile)
abbrev pub is_of_lines : ℕ → Bool
is_of_lines b = (nat_le 0x08 b && nat_le b 0x0D) || ((nat_le 0x20 b && nat_le b 0x7F) || nat_le 0xA0 b)

abbrev pub IsOfLines : ℕ → Type 0
IsOfLines b = ((0x08 ≤ b) × (b ≤ 0x0D)) ⊎ (((0x20 ≤ b) × (b ≤ 0x7F)) ⊎ (0xA0 ≤ b))

-- each byte of the list passes a test
abbrev pub Each : (ℕ → Bool) → List ℕ → Type 0
Each p [] = Unit {0}
Each p (b ∷ bytes) = (p b ≡ true) × Each p bytes
