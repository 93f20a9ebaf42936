-- What holds of the values in two or three handles.
use Rattle.std.proofs.Common.{◌≡◌, refl}
use Rattle.std.specs.Prelude.{IfSome}
use Rattle.std.specs.declared.option.Option.{Option}
use Rattle.std.specs.declared.option.Option.TheVariants.{None, Some}

pub if-both : {A B : Type 0} (P : A → B → Type 0) (o : Option A) (q : Option B)
    → ((a : A) (b : B) → o ≡ Some a → q ≡ Some b → P a b) → IfSome o (λ a. IfSome q (λ b. P a b))
if-both P None q holds = tt
if-both P (Some a) None holds = tt
if-both P (Some a) (Some b) holds = holds a b refl refl

pub if-all : {A B C : Type 0} (P : A → B → C → Type 0) (o : Option A) (q : Option B) (r : Option C)
    → ((a : A) (b : B) (c : C) → o ≡ Some a → q ≡ Some b → r ≡ Some c → P a b c)
    → IfSome o (λ a. IfSome q (λ b. IfSome r (λ c. P a b c)))
if-all P None q r holds = tt
if-all P (Some a) None r holds = tt
if-all P (Some a) (Some b) None holds = tt
if-all P (Some a) (Some b) (Some c) holds = holds a b c refl refl refl

pub agree : {A B : Type 0} (P : A → B → Type 0) (s a : A) (t b : B) → P s t → s ≡ a → t ≡ b → P a b
agree P s a t b holds is is' = rw (← is, ← is') holds

pub agree-all : {A B C : Type 0} (P : A → B → C → Type 0) (s a : A) (t b : B) (u c : C) → P s t u → s ≡ a → t ≡ b → u ≡ c → P a b c
agree-all P s a t b u c holds is is' is'' = rw (← is, ← is', ← is'') holds
