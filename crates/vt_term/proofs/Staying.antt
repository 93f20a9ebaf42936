-- Playing leaves a VT220's size.
use Rattle.std.proofs.Common.{◌≡◌, ◌∙◌, ℕ, List}
use Rattle.vt_screen.specs.Sizes.{vt220_size}
use Rattle.vt_term.specs.State.{State}
use Rattle.vt_term.specs.Play.{play}
use Rattle.vt_term.proofs.SizeKept.{play_kept}

pub play_stays : (s : State) (bytes : List ℕ) → s.display.grid.size ≡ vt220_size
    → (play s bytes).state.display.grid.size ≡ vt220_size
play_stays s bytes is = play_kept s bytes ∙ is
