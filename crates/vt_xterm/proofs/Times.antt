-- A function that is carried out so many times, and the stop before a column.
use Rattle.std.proofs.Common.{◌≡◌, ℕ, zero, suc, ◌+◌, ◌-◌, ◌<◌, Bool, List, Some, refl, sym, subst, ap, ◌∙◌, arith}
use Rattle.std.specs.Prelude.{nat_lt, ◌&&◌, if◌then◌else◌}
use Rattle.vt_term.specs.State.{Display, State, has_stop_at}
use Rattle.vt_xterm.specs.declared.sides.Sides.{Sides}
use Rattle.vt_xterm.specs.Repeating.{times}
use Rattle.vt_xterm.specs.Tabs.{stop_before}
use Rattle.vt_xterm.specs.Sides.{AreSides, write_glyph, sides_after}
use Rattle.vt_xterm.specs.Pages.{PagesState, Screens, screens, shown_by}
use Rattle.vt_xterm.specs.Bounded.{writing_times}
use Rattle.vt_xterm.proofs.Bounds.{other-wrap, write_glyph-part, width-part}

pub times-more : (k : ℕ) (f : Display → Display) (s t u : State) → t ≡ record s { display = times k f s.display }
    → u ≡ record t { display = f t.display } → u ≡ record s { display = times (k + 1) f s.display }
times-more k f s t u first second =
    let e : k + 1 ≡ suc k = omega arith in
    rw e (second ∙ ap (λ (x : State). record x { display = f x.display }) first)

pub stop-step : (stops : List Bool) (c : ℕ) → 1 < c → stop_before stops c
    ≡ (if nat_lt 1 (c - 1) && has_stop_at stops (c - 1) then c - 1 else stop_before stops (c - 1))
stop-step stops zero more = absurd (omega (arith, more))
stop-step stops (suc c) more = let e : suc c - 1 ≡ c = omega arith in rw e refl

-- ---- a glyph between left and right margins, as often as is left

pub writing-step : (n k glyph : ℕ) (m r : Sides) (a b : State) (p q : PagesState) → k < n
    → b ≡ record a { display = write_glyph glyph m a.display } → r ≡ sides_after m a.display
    → q ≡ record p { sides = Some r }
    → writing_times (n - (k + 1)) glyph r (screens b q) ≡ writing_times (n - k) glyph m (screens a p)
writing-step n k glyph m r a b p q less first second third =
    let left : n - k ≡ suc (n - (k + 1)) = omega (arith, less) in
    let rest : ℕ = n - (k + 1) in
    let next : State = record a { display = write_glyph glyph m a.display } in
    ap (λ (x : PagesState). writing_times rest glyph r (screens b x)) third
    ∙ ap (λ (x : State). writing_times rest glyph r (screens x (record p { sides = Some r }))) first
    ∙ ap (λ (x : Sides). writing_times rest glyph x (screens next (record p { sides = Some x }))) second
    ∙ ap (λ (j : ℕ). writing_times j glyph m (screens a p)) (sym left)

pub step-fits : (glyph : ℕ) (m r : Sides) (a b : State) → b ≡ record a { display = write_glyph glyph m a.display }
    → r ≡ sides_after m a.display → AreSides a.display.grid.width m → AreSides b.display.grid.width r
step-fits glyph m r a b first second fits =
    let same = write_glyph-part (λ g. g.width) width-part glyph m a.display in
    rw (first, second) (other-wrap _ m (sides_after m a.display).wrap (subst (λ w. AreSides w m) (sym same) fits))

-- none is left
pub writing-end : (glyph k : ℕ) (m r : Sides) (a b : State) (p q : PagesState) (n : ℕ) → n - k ≡ 0
    → writing_times (n - k) glyph r (screens b q) ≡ writing_times n glyph m (screens a p) → b.held ≡ a.held
    → (b ≡ shown_by (writing_times n glyph m (screens a p)) a.held) × (q ≡ (writing_times n glyph m (screens a p)).pages)
writing-end glyph k m r a b p q n none is held =
    let all : screens b q ≡ writing_times n glyph m (screens a p) =
    ap (λ (j : ℕ). writing_times j glyph r (screens b q)) (sym none) ∙ is in (
      ap (λ (s : Screens). shown_by s b.held) all ∙ ap (shown_by (writing_times n glyph m (screens a p))) held,
      ap (λ (s : Screens). s.pages) all,
    )
