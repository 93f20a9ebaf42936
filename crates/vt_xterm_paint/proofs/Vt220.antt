-- What holds of a VT220's size.
use Rattle.std.proofs.Common.{◌≡◌, ◌*◌, ◌≤◌, arith, subst}
use Rattle.std.proofs.lemmas.Nat.{mul-le}
use Rattle.vt_screen.specs.declared.size.Size.{Size}
use Rattle.vt_screen.specs.Sizes.{vt220_size, IsSize}
use Rattle.vt_term.specs.State.{State}
use Rattle.vt_paint.specs.Limits.{cell_limit, row_limit, paint_limit}
use Rattle.vt_paint.proofs.RowLimits.{three_digits, vt220_limited}
use Rattle.vt_xterm.specs.Sides.{FitsSides}
use Rattle.vt_xterm.specs.Play.{FrontState, behind}
use Rattle.vt_xterm_paint.specs.Repaint.{xterm_paint_limit, IsRebuiltAt, IsRebuilt}

-- the limit of any size
pub limit-small : (size : Size) → IsSize size → paint_limit size ≤ 2000000
unfolding row_limit
limit-small size sized =
    let row : row_limit size ≤ 30 * 255 =
    mul-le (cell_limit size.rows) size.wide 30 255 (omega (arith, three_digits size.rows)) sized.columns in
    let rows : size.rows * row_limit size ≤ 255 * 7650 =
    mul-le size.rows (row_limit size) 255 7650 sized.rows.1 (omega (arith, row)) in
    omega (arith, rows, sized.columns)

-- that of this one
pub xterm-limited : (size : Size) → size ≡ vt220_size → xterm_paint_limit size ≡ 187076
xterm-limited size is = omega (arith, vt220_limited size is)

-- a session that is named otherwise
pub rebuilt-at : (size : Size) (s t : State) (f g : FrontState) → s ≡ t → f ≡ g → size ≡ vt220_size
    → (FitsSides s.display f.pages.sides → IsRebuiltAt size (behind s f))
    → FitsSides t.display g.pages.sides → IsRebuilt (behind t g)
rebuilt-at size s t f g state front is rebuilt =
    subst (λ (x : State). FitsSides x.display g.pages.sides → IsRebuilt (behind x g)) state
    (subst (λ (x : FrontState). FitsSides s.display x.pages.sides → IsRebuilt (behind s x)) front
    (subst (λ (z : Size). FitsSides s.display f.pages.sides → IsRebuiltAt z (behind s f)) is rebuilt))
