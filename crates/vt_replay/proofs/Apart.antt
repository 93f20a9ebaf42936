-- What is due of a host's bytes in dec.
use Rattle.std.proofs.Common.{ℕ, List, Option, Result}
use Rattle.vt_term.specs.State.{power_up}
use Rattle.vt_term.specs.Play.{play}
use Rattle.vt_cli.specs.declared.what.What.{What}
use Rattle.vt_cli.specs.declared.what.What.TheVariants.{Text, Reports, Repaint, Status, Show, Picture}
use Rattle.vt_device.specs.Runs.{Flags, Moves}
use Rattle.vt_device.specs.declared.fault.Fault.{Fault}
use Rattle.vt_replay.specs.declared.language.Language.TheVariants.{Dec}
use Rattle.vt_replay.specs.Due.{PlayedTable}
use Rattle.vt_replay.specs.Playing.{ReplayTable}

-- in dec the host's bytes are the terminal's
pub dec_replay : (left left_after held held_after : Option (List ℕ)) (what : What) (result : Result (Unit {0}) Fault) (piece : ℕ) (f : Flags)
    (limit : ℕ) → Moves left left_after held held_after (λ b w. ReplayTable Dec what result piece b w f limit)
    → Moves left left_after held held_after (λ b w. PlayedTable (play power_up) what result piece b w f limit)
dec_replay left left_after held held_after Text result piece f limit moves = moves
dec_replay left left_after held held_after Reports result piece f limit moves = moves
dec_replay left left_after held held_after Repaint result piece f limit moves = moves
dec_replay left left_after held held_after Status result piece f limit moves = moves
dec_replay left left_after held held_after Show result piece f limit moves = moves
dec_replay left left_after held held_after Picture result piece f limit moves = moves
