-- Runs of characters of which at most the first scrolls a line off, and the log's observer. Contracts of private functions and
-- of `Terminal::row_limit` cite this, and no other public clause does.
use Rattle.std.specs.Prelude.{◌≡◌, ℕ, ◌+◌, ◌*◌, ◌≤◌, ◌⊎◌, ◌++◌, List, length, false, flat_map, All}
use Rattle.vt_term.specs.State.{Display, last_column}
use Rattle.vt_term.specs.Happenings.{Happening, lines_in}
use Rattle.vt_term.specs.Text.{line_text, row_text_limit}

-- so many characters end in the cursor's row
pub record EndInRow (count : ℕ) (s : Display) : Type 0 where
  pub no_wrap : 1 ≤ count → s.cursor.wrap ≡ false
  pub in_row : count + s.cursor.col ≤ last_column s + 1

-- so many characters scroll at most one line off, and the first of them does: they end in the cursor's row, or there is one
abbrev pub Fits : ℕ → Display → Type 0
Fits count s = EndInRow count s ⊎ (count ≤ 1)

-- a line of at most so many bytes fits after so many, in a capacity and before an end
abbrev pub HasRoom : ℕ → ℕ → ℕ → ℕ → Type 0
HasRoom limit len capacity end = (len + limit ≤ capacity) × (len + limit ≤ end)

-- the text of a row is at most so long
abbrev pub IsShort : ℕ → Happening → Type 0
IsShort limit h = row_text_limit h.before.grid.size ≤ limit

-- the texts of the lines that are scrolled off, if they are at most so long, come after those before
pub record Logs (limit : ℕ) (hs : List Happening) (before after : List ℕ) : Type 0 where
  pub lines : All (IsShort limit) hs → after ≡ before ++ flat_map line_text (lines_in hs)
  pub bounded : length after ≤ length before + limit * length hs
