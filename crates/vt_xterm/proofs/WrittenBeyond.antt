-- A character beyond ASCII between left and right margins, by the steps in which it is written.
use Rattle.std.proofs.Common.{◌≡◌, ℕ, Bool, true, false, Option, Some, None, refl, sym, ap, ◌∙◌}
use Rattle.std.specs.Prelude.{not, nat_lt, nat_le, ◌==◌, ◌&&◌, unwrap_or, if◌then◌else◌}
use Rattle.vt_glyph.specs.Tables.{space}
use Rattle.vt_term.specs.State.{State}
use Rattle.vt_utf8.specs.Cells.{cells}
use Rattle.vt_utf8.specs.Similar.{shown}
use Rattle.vt_utf8.specs.Showing.{shown_as}
use Rattle.vt_utf8.specs.Translation.{unshifted}
use Rattle.vt_xterm.specs.declared.sides.Sides.{Sides}
use Rattle.vt_xterm.specs.Sides.{sides_after, next_line, write_glyph}
use Rattle.vt_xterm.specs.Pages.{PagesState, Screens, screens, shown_by, on_display}
use Rattle.vt_xterm.specs.Bounded.{writing, writing_both, writing_wide, writing_beyond, is_at_end}

-- a glyph, and a space
pub both-shown : (glyph blank : ℕ) (m r : Sides) (a b d e : State) (p : PagesState) → b ≡ record a { display = unshifted a.display }
    → d ≡ record b { display = write_glyph glyph m b.display } → r ≡ sides_after m b.display → blank ≡ space
    → e ≡ record d { display = write_glyph blank r d.display }
    → e ≡ shown_by (writing_both glyph m (on_display unshifted (screens a p))) a.held
both-shown glyph blank m r a b d e p first second sides is third =
    third
    ∙ ap (λ (x : ℕ). record d { display = write_glyph x r d.display }) is
    ∙ ap (λ (x : Sides). record d { display = write_glyph space x d.display }) sides
    ∙ ap (λ (x : State). record x { display = write_glyph space (sides_after m b.display) x.display }) second
    ∙ ap (λ (x : State). record x { display = write_glyph space (sides_after m x.display) (write_glyph glyph m x.display) }) first

-- one of two cells from the last column that the cursor reaches
abbrev from_next : ℕ → Sides → Screens → Screens
from_next glyph m s = writing_both glyph m (on_display (λ d. unshifted (next_line m d)) s)

wide-at-end : (glyph : ℕ) (m : Sides) (s : Screens) → is_at_end m s.display ≡ true → s.display.modes.decawm ≡ true
    → writing_wide glyph m s ≡ from_next glyph m s
wide-at-end glyph m s at wraps =
    ap (λ (b : Bool). if not b then writing_both glyph m (on_display unshifted s)
    else (if s.display.modes.decawm then from_next glyph m s else s)) at
    ∙ ap (λ (b : Bool). if b then from_next glyph m s else s) wraps

pub wide-shown : (glyph : ℕ) (m : Sides) (a b e : State) (p : PagesState) → is_at_end m a.display ≡ true
    → a.display.modes.decawm ≡ true → b ≡ record a { display = next_line m a.display }
    → e ≡ shown_by (writing_both glyph m (on_display unshifted (screens b p))) b.held
    → e ≡ shown_by (writing_wide glyph m (screens a p)) a.held
wide-shown glyph m a b e p at wraps moved told =
    told ∙ ap (λ (x : State). shown_by (writing_both glyph m (on_display unshifted (screens x p))) x.held) moved
    ∙ ap (λ (s : Screens). shown_by s a.held) (sym (wide-at-end glyph m (screens a p) at wraps))

pub wide-pages : (glyph : ℕ) (m : Sides) (a b : State) (p q : PagesState) → is_at_end m a.display ≡ true
    → a.display.modes.decawm ≡ true → b ≡ record a { display = next_line m a.display }
    → q ≡ (writing_both glyph m (on_display unshifted (screens b p))).pages → q ≡ (writing_wide glyph m (screens a p)).pages
wide-pages glyph m a b p q at wraps moved told =
    told ∙ ap (λ (x : State). (writing_both glyph m (on_display unshifted (screens x p))).pages) moved
    ∙ ap (λ (s : Screens). s.pages) (sym (wide-at-end glyph m (screens a p) at wraps))

-- a character that has a glyph, but not in one cell
glyph-of : (c glyph : ℕ) → nat_lt c 0x80 ≡ false → shown_as c ≡ Some glyph → ((cells c == 0) ≡ false) × (shown c ≡ glyph)
glyph-of c glyph beyond is =
    go (cells c == 0) refl (sym (ap (λ (b : Bool). if b then (if nat_le 0x20 c && nat_le c 0x7E then Some c else None)
    else (if cells c == 0 then None else Some (shown c))) beyond) ∙ is)
  where
    go : (b : Bool) → (cells c == 0) ≡ b → (if b then None else Some (shown c)) ≡ Some glyph
        → ((cells c == 0) ≡ false) × (shown c ≡ glyph)
    go true none h = absurd cc
    go false some h = (some, ap (λ (o : Option ℕ). unwrap_or o 0) h)

pub wide-beyond : (c glyph : ℕ) (m : Sides) (s : Screens) → nat_lt c 0x80 ≡ false → shown_as c ≡ Some glyph
    → (cells c == 1) ≡ false → writing_beyond c m s ≡ writing_wide glyph m s
wide-beyond c glyph m s beyond is other =
    let of = glyph-of c glyph beyond is in
    ap (λ (b : Bool). if b then s else (
    if cells c == 1 then writing (shown c) m (on_display unshifted s) else writing_wide (shown c) m s)) of.0
    ∙ ap (λ (b : Bool). if b then writing (shown c) m (on_display unshifted s) else writing_wide (shown c) m s) other
    ∙ ap (λ (g : ℕ). writing_wide g m s) of.1
