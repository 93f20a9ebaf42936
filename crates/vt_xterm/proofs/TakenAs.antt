-- An xterm as a sink of characters.
use Rattle.std.proofs.Common.{◌≡◌, ℕ, ◌<◌, List, ◌++◌, All, refl, sym, ap, ◌∙◌, subst}
use Rattle.vt_syntax.specs.Laws.{SplitLaw}
use Rattle.vt_syntax.specs.Held.{IsHeldPart}
use Rattle.vt_term.specs.State.{State}
use Rattle.vt_utf8.specs.Logs.{AreKept}
use Rattle.vt_utf8.specs.Sinks.{point, AreInTurn, Feeds}
use Rattle.vt_utf8.proofs.Logged.{Rows, keeps-nothing}
use Rattle.vt_xterm.specs.Pages.{PagesState}
use Rattle.vt_xterm.specs.Play.{Whole, WholePlayed, FrontState, behind, both, nothing_played, play_bytes, play_characters, play_xterm, whole_of}
use Rattle.vt_xterm.specs.Private.Feeds.{Leaves, FeedsBytes, FeedsXterm, KeepSizes, TakesXterm, whole_at}
use Rattle.vt_xterm.proofs.Cuts.{characters-ascii, characters-two}
use Rattle.vt_xterm.proofs.Fed.{leaves-nothing, leaves-both}
use Rattle.vt_xterm.proofs.Logged.{keeps-characters}
use Rattle.vt_xterm.proofs.OfOneSize.{keep-nothing, keep-both, keep-shown, still-one}

module _ {L : Type 0} (Keeps : L → Rows → L → Type 0) where
  -- ASCII is taken as its bytes
  pub takes-bytes : SplitLaw → (s t : State) (p q : PagesState) (bytes before after : List ℕ) (o u : L) → IsHeldPart s.held
      → All (λ b. b < 0x80) bytes → FeedsBytes (whole_of s p) bytes (whole_of t q) before after
      → Keeps o (play_bytes (whole_of s p) bytes).lines u → KeepSizes s p t q
      → TakesXterm Keeps (point s p o before) bytes (point t q u after)
  takes-bytes split s t p q bytes before after o u held all fed keeps sizes =
      let is : play_characters (whole_of s p) bytes ≡ play_bytes (whole_of s p) bytes =
      characters-ascii split (whole_of s p) bytes held all in record {
        leaves = subst (λ (x : WholePlayed). Leaves x (whole_of t q) before after) (sym is) fed;
        keeps = subst (λ (x : WholePlayed). Keeps o x.lines u) (sym is) keeps;
        sizes = sizes;
      }

  -- by the parts of a front
  pub feeds-xterm : (s t : State) (inside front new : FrontState) (bytes before after : List ℕ) (o u : L) → inside ≡ front
      → Feeds (TakesXterm Keeps) (point s inside.pages o before) inside.pending bytes (point t new.pages u after) new.pending
      → FeedsXterm s front bytes t new before after
  unfolding play_xterm
  feeds-xterm s t inside front new bytes before after o u is fed =
      subst (λ (f : FrontState). FeedsXterm s f bytes t new before after) is
      (record { leaves = fed.takes.leaves; left = fed.left })

  pub keeps-xterm : (s t : State) (inside front new : FrontState) (bytes before after : List ℕ) (o u : L) → inside ≡ front
      → Feeds (TakesXterm Keeps) (point s inside.pages o before) inside.pending bytes (point t new.pages u after) new.pending
      → Keeps o (play_xterm (behind s front) front.pending bytes).lines u
  unfolding play_xterm
  keeps-xterm s t inside front new bytes before after o u is fed =
      subst (λ (f : FrontState). Keeps o (play_xterm (behind s f) f.pending bytes).lines u) is fed.takes.keeps

  pub sizes-xterm : (s t : State) (inside front new : FrontState) (bytes before after : List ℕ) (o u : L) → inside ≡ front
      → Feeds (TakesXterm Keeps) (point s inside.pages o before) inside.pending bytes (point t new.pages u after) new.pending
      → KeepSizes s front.pages t new.pages
  sizes-xterm s t inside front new bytes before after o u is fed =
      subst (λ (f : FrontState). KeepSizes s f.pages t new.pages) is fed.takes.sizes

  module _ (HasRoom IsFull : L → ℕ → Type 0) (kept : AreKept Keeps HasRoom IsFull) where
    -- no report and no line
    pub takes-quietly : (s t : State) (p : PagesState) (cs out : List ℕ) (o : L)
        → play_characters (whole_of s p) cs ≡ nothing_played (whole_of t p) → t.display.grid.size ≡ s.display.grid.size
        → TakesXterm Keeps (point s p o out) cs (point t p o out)
    takes-quietly s t p cs out o is size = record {
      leaves = leaves-nothing (play_characters (whole_of s p) cs) (whole_of t p) out is;
      keeps = keeps-nothing Keeps HasRoom IsFull kept o (play_characters (whole_of s p) cs).lines
          (ap (λ (x : WholePlayed). x.lines) is);
      sizes = keep-shown s t p size;
    }

    pub in-turn : AreInTurn (TakesXterm Keeps) (λ s p. p.other.grid.size ≡ s.display.grid.size)
    in-turn = record {
      nothing = λ x sound. record {
        leaves = leaves-nothing (nothing_played (whole_at x)) (whole_at x) x.reports refl;
        keeps = kept.nothing x.log;
        sizes = keep-nothing x.state x.kept;
      };
      more = λ x y z a b sound first second.
          let p = play_characters (whole_at x) a in
          let q = play_characters (whole_at y) b in record {
            leaves = leaves-both p q (play_characters (whole_at x) (a ++ b)) (whole_at y) (whole_at z) x.reports y.reports z.reports
                first.leaves second.leaves
                (characters-two (whole_at x) a b ∙ ap (λ (w : Whole). both p (play_characters w b)) (sym first.leaves.whole));
            keeps = keeps-characters Keeps HasRoom IsFull kept (whole_at x) (whole_at y) a b x.log y.log z.log first.leaves.whole
                first.keeps second.keeps;
            sizes = keep-both x.state y.state z.state x.kept y.kept z.kept first.sizes second.sizes;
          };
      size = λ x y cs takes. takes.sizes.shown;
      one_size = λ x y cs takes one. still-one x.state y.state x.kept y.kept takes.sizes one;
    }
