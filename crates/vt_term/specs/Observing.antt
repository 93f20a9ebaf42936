-- The result of feeding bytes, and the law of an observer. Contracts of private functions, of `Observer` and of `feed_as` cite this,
-- and no other public clause does.
use Rattle.std.specs.Prelude.{◌≡◌, ℕ, ◌+◌, ◌≤◌, ◌++◌, List, [], length}
use Rattle.vt_syntax.specs.Held.{events_from, held_from}
use Rattle.vt_term.specs.State.{Display, State}
use Rattle.vt_term.specs.Machines.{Machine, screens_after, reports_after}
use Rattle.vt_term.specs.Happenings.{Happening, happenings_on}

-- bytes played on a terminal in a state, with what a profile keeps besides, leave these screens, this held part and the
-- report bytes `after`
pub record Feeds {S K : Type 0} (m : Machine S) (screens : Display → K → S) (s : State) (k : K) (bytes : List ℕ) (t : State) (l : K)
    (before after : List ℕ) : Type 0 where
  pub screens_are : screens t.display l ≡ screens_after m (events_from s.held bytes) (screens s.display k)
  pub held : t.held ≡ held_from s.held bytes
  pub reports : after ≡ before ++ reports_after m (events_from s.held bytes) (screens s.display k)

-- the happenings of bytes on such a terminal
abbrev pub happenings_of : {S K : Type 0} → Machine S → (Display → K → S) → State → K → List ℕ → List Happening
happenings_of m screens s k bytes = happenings_on m (screens s.display k) s.held bytes

-- being told of no happenings changes nothing, and happenings may be told in parts. An observer that may be told of
-- some may be told of fewer, and after a part of them of the remaining ones
pub record AreJoined {O : Type 0} (Saw : O → List Happening → O → Type 0) (Takes : O → ℕ → Type 0) : Type 0 where
  pub nothing : (o : O) → Saw o [] o
  pub more : (o p q : O) (xs ys : List Happening) → Saw o xs p → Saw p ys q → Saw o (xs ++ ys) q
  pub fewer : (o : O) (m n : ℕ) → m ≤ n → Takes o n → Takes o m
  pub left : (o p : O) (hs : List Happening) (n : ℕ) → Saw o hs p → Takes o (length hs + n) → Takes p n
