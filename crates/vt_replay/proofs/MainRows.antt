-- The row of the main page's cursor, and what a change of the size makes of it.
use Rattle.std.proofs.Common.{◌≡◌, ◌∙◌, ◌+◌, ◌*◌, ◌≤◌, ℕ, Bool, true, false, if◌then◌else◌, sym, ap, subst}
use Rattle.vt_screen.specs.declared.size.Size.{Size}
use Rattle.vt_term.specs.Sound.{IsSoundAt}
use Rattle.vt_term.specs.Pages.{IsSoundPageAt}
use Rattle.vt_xterm.specs.Play.{Whole}
use Rattle.vt_xterm.specs.Resizing.{main_row, whole_on}

-- it is in the screen
pub main_row_1 : {size : Size} (w : Whole) → IsSoundAt size w.state → IsSoundPageAt size w.pages.other → 1 ≤ main_row w
main_row_1 w sound other = by w.pages.alternate w.pages.other.saved.row w.state.display.cursor.row other.saved.row_1 sound.display.cursor.row_1
  where
    by : (alternate : Bool) (row line : ℕ) → 1 ≤ row → 1 ≤ line → 1 ≤ (if alternate then row else line)
    by true row line first second = first
    by false row line first second = second

pub main_row_last : {size : Size} (w : Whole) → IsSoundAt size w.state → IsSoundPageAt size w.pages.other → main_row w ≤ size.rows
main_row_last {size} w sound other =
    by w.pages.alternate w.pages.other.saved.row w.state.display.cursor.row other.saved.row_last sound.display.cursor.row_last
  where
    by : (alternate : Bool) (row line : ℕ) → row ≤ size.rows → line ≤ size.rows → (if alternate then row else line) ≤ size.rows
    by true row line first second = first
    by false row line first second = second

-- the row then
pub main_then : (w v : Whole) (size wanted : Size) (len new : ℕ) → size ≡ wanted → v ≡ whole_on wanted w
    → new + 766 * main_row (whole_on size w) ≤ len + 766 * main_row w → new + 766 * main_row v ≤ len + 766 * main_row w
main_then w v size wanted len new is made bounded =
    let row : main_row v ≡ main_row (whole_on size w) = ap main_row made ∙ ap (λ (z : Size). main_row (whole_on z w)) (sym is) in
    subst (λ (n : ℕ). new + 766 * n ≤ len + 766 * main_row w) (sym row) bounded
