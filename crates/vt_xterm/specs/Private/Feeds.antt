-- The result of feeding: the state, the pages, the pending part, and the reports appended.
use Rattle.std.specs.Prelude.{◌≡◌, ℕ, List, ◌++◌}
use Rattle.vt_screen.specs.declared.cell.Cell.{Cell}
use Rattle.vt_term.specs.State.{State}
use Rattle.vt_utf8.specs.Decoding.{pending_after}
use Rattle.vt_utf8.specs.Sinks.{Point}
use Rattle.vt_xterm.specs.Pages.{PagesState}
use Rattle.vt_xterm.specs.Play.{Whole, WholePlayed, FrontState, behind, whole_of, play_bytes, play_characters, play_xterm}

-- what is left is what a play leaves, and its reports are after what was before
pub record Leaves (played : WholePlayed) (w : Whole) (before after : List ℕ) : Type 0 where
  pub whole : w ≡ played.whole
  pub reports : after ≡ before ++ played.reports

-- bytes of the terminal
abbrev pub FeedsBytes : Whole → List ℕ → Whole → List ℕ → List ℕ → Type 0
FeedsBytes w bytes v before after = Leaves (play_bytes w bytes) v before after

-- bytes of UTF-8
pub record FeedsXterm (s : State) (front : FrontState) (bytes : List ℕ) (t : State) (new : FrontState)
    (before after : List ℕ) : Type 0 where
  pub leaves : Leaves (play_xterm (behind s front) front.pending bytes) (behind t new) before after
  pub left : new.pending ≡ pending_after front.pending bytes

-- the terminal and the page that isn't shown keep their sizes
pub record KeepSizes (s : State) (pages : PagesState) (t : State) (new : PagesState) : Type 0 where
  pub shown : t.display.grid.size ≡ s.display.grid.size
  pub other : new.other.grid.size ≡ pages.other.grid.size

abbrev pub whole_at : {L : Type 0} → Point PagesState L → Whole
whole_at x = whole_of x.state x.kept

-- characters
pub record TakesXterm {L : Type 0} (Keeps : L → List (List Cell) → L → Type 0) (x : Point PagesState L) (cs : List ℕ)
    (y : Point PagesState L) : Type 0 where
  pub leaves : Leaves (play_characters (whole_at x) cs) (whole_at y) x.reports y.reports
  pub keeps : Keeps x.log (play_characters (whole_at x) cs).lines y.log
  pub sizes : KeepSizes x.state x.kept y.state y.kept
