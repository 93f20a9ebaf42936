-- What holds of terminals of their size, of the states that they have: those of a VT220.
use Rattle.std.proofs.Common.{◌≡◌, ◌≤◌, ap, subst, arith}
use Rattle.vt_screen.specs.declared.size.Size.{Size}
use Rattle.vt_screen.specs.Sizes.{vt220_size}
use Rattle.vt_term.specs.State.{State}

pub of_vt220 : (holds : Size → State → Type 0) (a x : State) → a ≡ x → a.display.grid.size ≡ vt220_size
    → holds a.display.grid.size a → holds vt220_size x
of_vt220 holds a x e is h =
    subst (λ (s : State). holds vt220_size s) e (subst (λ (z : Size). holds z a) is h)

pub of_two : (holds : Size → State → State → Type 0) (a b x y : State) → a ≡ x → b ≡ y → b.display.grid.size ≡ vt220_size
    → holds b.display.grid.size a b → holds vt220_size x y
of_two holds a b x y e f is h =
    of_vt220 (λ (z : Size) (s : State). holds z x s) b y f is
    (subst (λ (s : State). holds b.display.grid.size s b) e h)

pub few-rows : (size : Size) → size ≡ vt220_size → size.rows ≤ 24
few-rows size is = let rows = ap (λ (z : Size). z.rows) is in omega (arith, rows)

pub few-columns : (size : Size) → size ≡ vt220_size → size.wide ≤ 132
few-columns size is = let wide = ap (λ (z : Size). z.wide) is in omega (arith, wide)
