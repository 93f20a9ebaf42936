-- What a host asks for, and what it leaves: a language reads bytes to actions, and a machine carries actions out. (this profile)
use Rattle.std.specs.Prelude.{◌≡◌, ℕ, List, [], ◌∷◌, ◌++◌}
use Rattle.vt_syntax.specs.declared.event.Event.{Event}
use Rattle.vt_syntax.specs.declared.event.Event.TheVariants.{Print}

-- the function of an event, or a character beyond ASCII
pub data Action : Type 0 where
  Function : Event → Action
  Character : ℕ → Action

-- graphic bytes
abbrev pub printed : ℕ → Action
printed b = Function (Print b)

-- a language: what a byte asks for after what was read of an unfinished sequence or character, and what is read then
pub record Language (R : Type 0) : Type 0 where
  pub asks : R → ℕ → List Action
  pub next : R → ℕ → R

-- what bytes ask for, and what is read after them
abbrev pub actions : {R : Type 0} → Language R → R → List ℕ → List Action
actions l r [] = []
actions l r (b ∷ bytes) = l.asks r b ++ actions l (l.next r b) bytes

abbrev pub read_after : {R : Type 0} → Language R → R → List ℕ → R
read_after l r [] = r
read_after l r (b ∷ bytes) = read_after l (l.next r b) bytes

-- a machine: what an action leaves, and its report in the state before it
pub record MachineOf (S : Type 0) : Type 0 where
  pub effect : Action → S → S
  pub report : Action → S → List ℕ

-- the state after actions, and their reports
abbrev pub state_after : {S : Type 0} → MachineOf S → List Action → S → S
state_after m [] s = s
state_after m (action ∷ rest) s = state_after m rest (m.effect action s)

abbrev pub reports : {S : Type 0} → MachineOf S → List Action → S → List ℕ
reports m [] s = []
reports m (action ∷ rest) s = m.report action s ++ reports m rest (m.effect action s)

-- bytes played on a machine leave this state and this read part, and append their reports
pub record Plays {R S : Type 0} (l : Language R) (m : MachineOf S) (r : R) (s : S) (bytes : List ℕ) (r_after : R) (s_after : S)
    (before after : List ℕ) : Type 0 where
  pub state : s_after ≡ state_after m (actions l r bytes) s
  pub read : r_after ≡ read_after l r bytes
  pub reports_are : after ≡ before ++ reports m (actions l r bytes) s
