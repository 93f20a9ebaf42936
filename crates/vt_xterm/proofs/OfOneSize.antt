-- The display and the page that isn't shown stay sound and of one size.
use Rattle.std.proofs.Common.{◌≡◌, ◌∙◌, ℕ, List, ap, refl, subst, sym}
use Rattle.vt_glyph.specs.Laws.{GlyphLaws, SetsLaws}
use Rattle.vt_screen.specs.Laws.{RowLaws, TestLaws}
use Rattle.vt_screen.specs.declared.size.Size.{Size}
use Rattle.vt_term.specs.State.{State}
use Rattle.vt_syntax.specs.declared.held.Held.{Held}
use Rattle.vt_term.specs.Sound.{IsSoundSized}
use Rattle.vt_term.specs.Pages.{IsSoundSizedPage, IsSoundPageAt}
use Rattle.vt_term.specs.Play.{play}
use Rattle.vt_term.specs.Machines.{KeepsSize}
use Rattle.vt_term.proofs.SizeKept.{own-display, play_kept}
use Rattle.vt_xterm.specs.Pages.{Screens, PagesState}
use Rattle.vt_xterm.specs.Front.{screen_effect, xterm_effect}
use Rattle.vt_xterm.specs.Play.{xterm}
use Rattle.vt_xterm.specs.Private.Feeds.{KeepSizes}
use Rattle.vt_xterm.specs.Private.Profiles.{AreOfOneSize, screens_on, unbounded}
use Rattle.vt_xterm.proofs.SoundScreens.{AreSound, screen-event-keeps, event-keeps}

pub one-of-size : (size : Size) (s : Screens) → AreSound size s → AreOfOneSize s
one-of-size size s i =
    (own-display size s.display i.0, subst (λ z. IsSoundPageAt z s.pages.other) (sym i.0.of_size) i.1)

pub xterm-keeps : GlyphLaws → SetsLaws → RowLaws → TestLaws → KeepsSize xterm AreOfOneSize
xterm-keeps glyphs sets rows tests = record {
  one_size = λ event s one.
      one-of-size s.display.grid.size (xterm_effect event s) (event-keeps glyphs sets rows tests event s.display.grid.size s one);
  size = λ event s one. (event-keeps glyphs sets rows tests event s.display.grid.size s one).0.of_size;
}

pub unbounded-keeps : GlyphLaws → SetsLaws → RowLaws → TestLaws → KeepsSize unbounded AreOfOneSize
unbounded-keeps glyphs sets rows tests = record {
  one_size = λ event s one. one-of-size s.display.grid.size (screen_effect event s)
      (screen-event-keeps glyphs sets rows tests event s.display.grid.size s one);
  size = λ event s one. (screen-event-keeps glyphs sets rows tests event s.display.grid.size s one).0.of_size;
}

-- ---- what is played keeps both sizes

pub keep-nothing : (s : State) (p : PagesState) → KeepSizes s p s p
keep-nothing s p = record { shown = refl; other = refl }

pub keep-both : (s t u : State) (p q r : PagesState) → KeepSizes s p t q → KeepSizes t q u r → KeepSizes s p u r
keep-both s t u p q r first second = record { shown = second.shown ∙ first.shown; other = second.other ∙ first.other }

pub keep-shown : (s t : State) (p : PagesState) → t.display.grid.size ≡ s.display.grid.size → KeepSizes s p t p
keep-shown s t p is = record { shown = is; other = refl }

-- they are still one
pub still-one : (s t : State) (p q : PagesState) → KeepSizes s p t q → p.other.grid.size ≡ s.display.grid.size
    → q.other.grid.size ≡ t.display.grid.size
still-one s t p q kept one = kept.other ∙ one ∙ sym kept.shown

pub played-size : (s t : State) (bytes : List ℕ) → t ≡ (play s bytes).state → t.display.grid.size ≡ s.display.grid.size
played-size s t bytes is = ap (λ (u : State). u.display.grid.size) is ∙ play_kept s bytes

-- bytes that are read, and no event
pub read-size : (s t : State) (h : Held) → t ≡ record s { held = h } → t.display.grid.size ≡ s.display.grid.size
read-size s t h is = ap (λ (u : State). u.display.grid.size) is

pub sound-one : (s : State) (p : PagesState) → IsSoundSized s → IsSoundSizedPage p.other
    → p.other.grid.size ≡ s.display.grid.size → AreOfOneSize (screens_on s.display p)
sound-one s p i page one = (i.display, subst (λ z. IsSoundPageAt z p.other) one page)
