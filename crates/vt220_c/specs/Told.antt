-- The result of a player's bytes: the state of a terminal, and what is appended to two buffers: the reports, and the lines if there is
-- a log.
-- Contracts of private functions and of `Player` cite this, and no public clause does.
use Rattle.std.specs.Prelude.{◌≡◌, ◌+◌, ◌≤◌, ◌++◌, ℕ, List, [], Bool, true, false, length, take, drop, if◌then◌else◌}
use Rattle.vt_term.specs.State.{State}
use Rattle.vt_term.specs.Sound.{IsSoundSized}
use Rattle.vt220_c.specs.Written.{written_over}

-- so many bytes were written over a slice, starting at a place
pub record WritesAt (bytes before : List ℕ) (at : ℕ) (after : List ℕ) (written : ℕ) : Type 0 where
  pub count : written ≡ length bytes
  pub over : after ≡ take at before ++ written_over bytes (drop at before)
  pub fits : at + written ≤ length before

-- what bytes leave: the state, what is kept for those that follow, the reports, the texts of the lines that scroll off, and
-- how often the bell rings
pub record Told (P : Type 0) : Type 0 where
  pub state : State
  pub kept : P
  pub reports : List ℕ
  pub lines : List ℕ
  pub rung : ℕ

-- what bytes and those that follow leave together
abbrev pub both : {P : Type 0} → Told P → Told P → Told P
both before after = record {
  state = after.state;
  kept = after.kept;
  reports = before.reports ++ after.reports;
  lines = before.lines ++ after.lines;
  rung = before.rung + after.rung;
}

-- no bytes change nothing, and bytes may be cut anywhere
pub record AreTold {P : Type 0} (told : State → P → List ℕ → Told P) : Type 0 where
  pub nothing : (s : State) (p : P) → IsSoundSized s
      → told s p [] ≡ record { state = s; kept = p; reports = []; lines = []; rung = 0 }
  pub two : (s : State) (p : P) (a b : List ℕ) → IsSoundSized s
      → told s p (a ++ b) ≡ both (told s p a) (told (told s p a).state (told s p a).kept b)

-- the lines, or none without a log
abbrev pub lines_if : Bool → List ℕ → List ℕ
lines_if logs lines = if logs then lines else []

-- the bells, if they are counted
pub record Rings (counts : Bool) (bells rung : ℕ) : Type 0 where
  pub none : counts ≡ false → rung ≡ 0
  pub all : counts ≡ true → rung ≡ bells

-- bytes were played: the state, what is kept, the reports and the lines after what is there, and the bells
pub record Plays {P : Type 0} (logs counts : Bool) (told : Told P) (t : State) (q : P) (out : List ℕ) (at : ℕ) (out_after : List ℕ) (lines : List ℕ) (lines_at : ℕ) (lines_after : List ℕ) (written lines_written rung : ℕ) : Type 0 where
  pub state : t ≡ told.state
  pub kept : q ≡ told.kept
  pub sent : WritesAt told.reports out at out_after written
  pub off : WritesAt (lines_if logs told.lines) lines lines_at lines_after lines_written
  pub rings : Rings counts told.rung rung
