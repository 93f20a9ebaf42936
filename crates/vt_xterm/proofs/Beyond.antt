-- A character beyond ASCII between left and right margins keeps the sizes, the width, and the pages but for the margins.
use Rattle.std.proofs.Common.{◌≡◌, ℕ, Bool, true, false, refl, ap, ◌∙◌}
use Rattle.std.specs.Prelude.{not, ◌==◌, if◌then◌else◌}
use Rattle.vt_syntax.specs.declared.held.Held.{Held}
use Rattle.vt_syntax.specs.Held.{IsHeldPart}
use Rattle.vt_syntax.specs.declared.held.Held.TheVariants as held
use Rattle.vt_syntax.specs.declared.held.Held.TheVariants.{Nothing, Text, Spoilt}
use Rattle.vt_glyph.specs.Tables.{space}
use Rattle.vt_screen.specs.Grid.{Grid}
use Rattle.vt_term.specs.State.{State}
use Rattle.vt_term.proofs.Bytes.{nothing-held}
use Rattle.vt_utf8.specs.Cells.{cells}
use Rattle.vt_utf8.specs.Similar.{shown}
use Rattle.vt_utf8.specs.Translation.{unshifted}
use Rattle.vt_xterm.specs.declared.sides.Sides.{Sides}
use Rattle.vt_xterm.specs.Sides.{sides_after, next_line}
use Rattle.vt_xterm.specs.Pages.{PagesState, Screens, on_display, shown_by}
use Rattle.vt_xterm.specs.Bounded.{writing, writing_both, writing_wide, writing_in_cells, writing_beyond, is_at_end, beyond_in, held_beyond}
use Rattle.vt_xterm.specs.Play.{Whole, screens_of, screens_beyond}
use Rattle.vt_xterm.specs.Private.Feeds.{KeepSizes}
use Rattle.vt_xterm.proofs.Bounds.{IsPart, write_glyph-part, next_line-part, size-part}

-- the display keeps this part of its grid, and the pages stay but for the margins
abbrev pub AreLike : {A : Type 0} → (Grid → A) → Screens → Screens → Type 0
AreLike part s t = (part t.display.grid ≡ part s.display.grid) × (t.pages ≡ record s.pages { sides = t.pages.sides })

module _ {A : Type 0} (part : Grid → A) (is : IsPart part) where
  one-like : (b : Bool) (s t u : Screens) → AreLike part s t → AreLike part s u → AreLike part s (if b then t else u)
  one-like true s t u first second = first
  one-like false s t u first second = second

  writing-like : (glyph : ℕ) (m : Sides) (s : Screens) → AreLike part s (writing glyph m s)
  writing-like glyph m s = (write_glyph-part part is glyph m s.display, refl)

  both-like : (glyph : ℕ) (m : Sides) (s : Screens) → AreLike part s (writing_both glyph m s)
  both-like glyph m s = (
    (writing-like space (sides_after m s.display) (writing glyph m s)).0 ∙ (writing-like glyph m s).0,
    refl,
  )

  wide-like : (glyph : ℕ) (m : Sides) (s : Screens) → AreLike part s (writing_wide glyph m s)
  wide-like glyph m s =
      let next = on_display (λ d. unshifted (next_line m d)) s in
      one-like (not (is_at_end m s.display)) s (writing_both glyph m (on_display unshifted s))
      (if s.display.modes.decawm then writing_both glyph m next else s) (both-like glyph m (on_display unshifted s))
      (one-like s.display.modes.decawm s (writing_both glyph m next) s
      ((both-like glyph m next).0 ∙ next_line-part part is m s.display, refl) (refl, refl))

  in-cells-like : (n glyph : ℕ) (m : Sides) (s : Screens) → AreLike part s (writing_in_cells n glyph m s)
  in-cells-like n glyph m s =
      one-like (n == 0) s s (if n == 1 then writing glyph m (on_display unshifted s) else writing_wide glyph m s) (refl, refl)
      (one-like (n == 1) s (writing glyph m (on_display unshifted s)) (writing_wide glyph m s)
      (writing-like glyph m (on_display unshifted s)) (wide-like glyph m s))

  in-held-like : (h : Held) (f : Screens → Screens) (s : Screens) → AreLike part s (f s) → AreLike part s (beyond_in h f s)
  in-held-like Nothing f s like = like
  in-held-like (Text osc) f s like = (refl, refl)
  in-held-like (held.Escape inters) f s like = like
  in-held-like (held.Control marker params full phase) f s like = like
  in-held-like Spoilt f s like = like

  pub beyond-like : (m : Sides) (c : ℕ) (w : Whole) → AreLike part (screens_of w) (screens_beyond m c w)
  beyond-like m c w =
      in-held-like w.state.held (writing_beyond c m) (screens_of w) (in-cells-like (cells c) (shown c) m (screens_of w))

pub beyond-size : (m : Sides) (c : ℕ) (w : Whole) → (screens_beyond m c w).display.grid.size ≡ w.state.display.grid.size
beyond-size m c w = (beyond-like (λ g. g.size) size-part m c w).0

pub beyond-held : (h : Held) → IsHeldPart h → IsHeldPart (held_beyond h)
beyond-held Nothing is = is
beyond-held (Text osc) is = is
beyond-held (held.Escape inters) is = nothing-held
beyond-held (held.Control marker params full phase) is = nothing-held
beyond-held Spoilt is = nothing-held

pub beyond-sizes : (m : Sides) (c : ℕ) (w : Whole) (t : State) (q : PagesState)
    → t ≡ shown_by (screens_beyond m c w) (held_beyond w.state.held) → q ≡ (screens_beyond m c w).pages
    → KeepSizes w.state w.pages t q
beyond-sizes m c w t q left kept =
    let like = beyond-like (λ g. g.size) size-part m c w in record {
      shown = ap (λ (x : State). x.display.grid.size) left ∙ like.0;
      other = ap (λ (p : PagesState). p.other.grid.size) kept ∙ ap (λ (p : PagesState). p.other.grid.size) like.1;
    }
