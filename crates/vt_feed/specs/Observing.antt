-- What an observer is told, and the law of observers. (this profile)
use Rattle.std.specs.Prelude.{ℕ, List, [], ◌∷◌, ◌++◌}
use Rattle.vt_feed.specs.Actions.{Action, printed, Language, MachineOf, state_after}

-- a byte is read, or an action is carried out, in this state
pub data Happening (S : Type 0) : Type 0 where
  Byte : Happening S
  Does : Action → S → Happening S

abbrev pub does : {S : Type 0} → MachineOf S → List Action → S → List (Happening S)
does m [] s = []
does m (action ∷ rest) s = Does action s ∷ does m rest (m.effect action s)

-- what happens at bytes: each is read, and then what it asks for is carried out
abbrev pub happenings : {R S : Type 0} → Language R → MachineOf S → R → S → List ℕ → List (Happening S)
happenings l m r s [] = []
happenings l m r s (b ∷ bytes) =
    Byte ∷ does m (l.asks r b) s ++ happenings l m (l.next r b) (state_after m (l.asks r b) s) bytes

-- bytes of which none asks for anything
abbrev pub silent : {S : Type 0} → List ℕ → List (Happening S)
silent [] = []
silent (b ∷ bytes) = Byte ∷ silent bytes

-- graphic bytes between sequences
abbrev pub prints : {S : Type 0} → MachineOf S → S → List ℕ → List (Happening S)
prints m s [] = []
prints m s (b ∷ bytes) = Byte ∷ Does (printed b) s ∷ prints m (m.effect (printed b) s) bytes

-- being told of nothing changes nothing, and an observer may be told in parts
pub record AreJoined {O S : Type 0} (Saw : O → List (Happening S) → O → Type 0) : Type 0 where
  pub nothing : (o : O) → Saw o [] o
  pub more : (o p q : O) (xs ys : List (Happening S)) → Saw o xs p → Saw p ys q → Saw o (xs ++ ys) q
