-- The result of feeding UTF-8: the state, the pending part, the reports appended, and the rows that it scrolls off.
use Rattle.std.specs.Prelude.{◌≡◌, ℕ, List, ◌++◌}
use Rattle.vt_screen.specs.declared.cell.Cell.{Cell}
use Rattle.vt_term.specs.State.{State}
use Rattle.vt_term.specs.Play.{play}
use Rattle.vt_utf8.specs.Decoding.{pending_after}
use Rattle.vt_term.specs.Scrolling.{scrolled_off}
use Rattle.vt_utf8.specs.Play.{translated_all, translated, play_utf8}
use Rattle.vt_utf8.specs.Sinks.{Point}

pub record FeedsUtf8 (s : State) (pending bytes : List ℕ) (t : State) (after before out : List ℕ) : Type 0 where
  pub state : t ≡ (play_utf8 s pending bytes).state
  pub left : after ≡ pending_after pending bytes
  pub reports : out ≡ before ++ (play_utf8 s pending bytes).reports

abbrev pub utf8_off : State → List ℕ → List ℕ → List (List Cell)
utf8_off s pending bytes = scrolled_off s (translated s pending bytes)

-- a VT220 takes characters as the bytes that they are translated to
pub record TakesUtf8 {K L : Type 0} (Keeps : L → List (List Cell) → L → Type 0) (x : Point K L) (cs : List ℕ) (y : Point K L) : Type 0 where
  pub state : y.state ≡ (play x.state (translated_all x.state cs)).state
  pub reports : y.reports ≡ x.reports ++ (play x.state (translated_all x.state cs)).reports
  pub keeps : Keeps x.log (scrolled_off x.state (translated_all x.state cs)) y.log
