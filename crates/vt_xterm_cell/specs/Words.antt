-- A cell as two numbers of 64 bits. (this profile)
use Rattle.std.specs.Prelude.{ℕ, ◌+◌, ◌-◌, ◌*◌, ◌/◌, ◌%◌, ◌<◌, Bool, true, ◌==◌, ◌&&◌, nat_lt, nat_le, IsTrue, if◌then◌else◌}
use Rattle.vt_xterm_cell.specs.declared.look.Colour.{Colour}
use Rattle.vt_xterm_cell.specs.declared.look.Colour.TheVariants.{Default, Indexed, Rgb}
use Rattle.vt_xterm_cell.specs.declared.look.Attributes.{Attributes}
use Rattle.vt_xterm_cell.specs.declared.look.Look.{Look}
use Rattle.vt_xterm_cell.specs.Characters.{is_shown}

-- a character, its marks, its width and its look. A mark of number 0 is none. The second cell of a wide character has the
-- character 0, which no cell shows
pub record CellParts : Type 0 where
  pub character : ℕ
  pub mark : ℕ
  pub other_mark : ℕ
  pub wide : Bool
  pub look : Look

-- ---- a colour

-- how many there are: the default, 256, and 256 reds, greens and blues
abbrev pub COLOURS : ℕ
COLOURS = 0x1000101

abbrev pub colour_number : Colour → ℕ
colour_number Default = 0
colour_number (Indexed index) = index + 1
colour_number (Rgb red green blue) = red * 0x10000 + green * 0x100 + blue + 0x101

abbrev pub rgb_of : ℕ → Colour
rgb_of n = Rgb (n / 0x10000) (n / 0x100 % 0x100) (n % 0x100)

abbrev pub colour_of : ℕ → Colour
colour_of n = if n == 0 then Default else (if nat_lt n 0x101 then Indexed (n - 1) else rgb_of (n - 0x101))

-- ---- attributes and protection

abbrev pub flag : Bool → ℕ
flag set = if set then 1 else 0

abbrev pub attributes_number : Attributes → ℕ
attributes_number a =
    flag a.bold + 2 * flag a.faint + 4 * flag a.italic + 8 * flag a.underlined + 0x10 * flag a.doubly_underlined
    + 0x20 * flag a.blinking + 0x40 * flag a.reverse + 0x80 * flag a.invisible + 0x100 * flag a.crossed_out

abbrev pub attributes_of : ℕ → Attributes
attributes_of n = record {
  bold = n % 2 == 1;
  faint = n / 2 % 2 == 1;
  italic = n / 4 % 2 == 1;
  underlined = n / 8 % 2 == 1;
  doubly_underlined = n / 0x10 % 2 == 1;
  blinking = n / 0x20 % 2 == 1;
  reverse = n / 0x40 % 2 == 1;
  invisible = n / 0x80 % 2 == 1;
  crossed_out = n / 0x100 % 2 == 1;
}

-- ---- the two numbers

-- 26 bits for each colour, nine for the attributes, and one for the protection
abbrev pub look_by : ℕ → ℕ → ℕ → Look
look_by foreground background flags = record {
  foreground = colour_of foreground;
  background = colour_of background;
  attributes = attributes_of flags;
  protected = nat_le 0x200 flags;
}

abbrev pub look_of : ℕ → Look
look_of w = look_by (w % 0x4000000) (w / 0x4000000 % 0x4000000) (w / 0x4000000 / 0x4000000)

abbrev pub look_joined : ℕ → ℕ → ℕ → ℕ
look_joined foreground background flags = foreground + 0x4000000 * (background + 0x4000000 * flags)

abbrev pub word_of_look : Look → ℕ
word_of_look look =
    look_joined (colour_number look.foreground) (colour_number look.background)
    (attributes_number look.attributes + 0x200 * flag look.protected)

-- 21 bits for each character, and one for the width
abbrev pub parts_of : ℕ → ℕ → CellParts
parts_of text look = record {
  character = text % 0x200000;
  mark = text / 0x200000 % 0x200000;
  other_mark = text / 0x40000000000 % 0x200000;
  wide = nat_le 0x8000000000000000 text;
  look = look_of look;
}

abbrev pub text_word : CellParts → ℕ
text_word p = p.character + 0x200000 * p.mark + 0x40000000000 * p.other_mark + 0x8000000000000000 * flag p.wide

-- an index, and red, green and blue, are bytes
abbrev pub is_colour : Colour → Bool
is_colour Default = true
is_colour (Indexed index) = nat_lt index 0x100
is_colour (Rgb red green blue) = nat_lt red 0x100 && (nat_lt green 0x100 && nat_lt blue 0x100)

abbrev pub has_colours : Look → Bool
has_colours look = is_colour look.foreground && is_colour look.background

-- a character can be written again
abbrev pub is_writable : CellParts → Bool
is_writable p = is_shown p.character p.mark p.other_mark p.wide

-- a cell can be written again, in its look
abbrev pub is_sound_cell : CellParts → Bool
is_sound_cell p = is_writable p && has_colours p.look

-- what the numbers of a cell are
pub record IsText (text : ℕ) : Type 0 where
  pub writable : IsTrue (is_writable (parts_of text 0))
  pub small : text < 0x10000000000000000

pub record IsLook (look : ℕ) : Type 0 where
  pub foreground : look % 0x4000000 < COLOURS
  pub background : look / 0x4000000 % 0x4000000 < COLOURS
  pub flags : look / 0x4000000 / 0x4000000 < 0x400
