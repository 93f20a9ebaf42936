-- A player's bytes may be cut anywhere: the pieces leave what all of them do.
use Rattle.std.proofs.Common.{◌≡◌, ◌∙◌, ap, refl, List, ℕ, [], ◌∷◌, ◌++◌, ◌+◌, arith}
use Rattle.vt_syntax.specs.Laws.{SplitLaw}
use Rattle.vt_term.specs.State.{State}
use Rattle.vt_screen.specs.declared.size.Size.{Size}
use Rattle.vt_term.specs.Sound.{IsSoundAt, IsSoundSized}
use Rattle.vt_term.specs.Play.{play}
use Rattle.vt_term.specs.Play as term
use Rattle.vt_term.specs.Scrolling.{log}
use Rattle.vt_utf8.specs.Decoding.{pending_after}
use Rattle.vt_utf8.specs.Play.{translated, play_utf8}
use Rattle.vt_xterm.specs.Play.{Whole, WholePlayed, FrontState, both, behind, play_xterm, xterm_log}
use Rattle.vt220_c.specs.Bells.{bells}
use Rattle.vt220_c.specs.BellCuts.{bells-append, bells-nil}
use Rattle.vt220_c.specs.Told.{AreTold}
use Rattle.vt220_c.specs.Utf8.{utf8_told}
use Rattle.vt220_c.specs.Xterm.{xterm_played, xterm_front, xterm_bells, xterm_told}

translated-nothing : (s : State) (pending : List ℕ) → translated s pending [] ≡ []
unfolding translated
translated-nothing s pending = refl

-- ---- UTF-8

module _ (split : SplitLaw)
    (none : (size : Size) (s : State) (pending : List ℕ) → IsSoundAt size s → play_utf8 s pending [] ≡ record { state = s; reports = [] })
    (two : (size : Size) (s : State) (pending a b : List ℕ) → IsSoundAt size s → play_utf8 s pending (a ++ b)
    ≡ term.both (play_utf8 s pending a) (play_utf8 (play_utf8 s pending a).state (pending_after pending a) b))
    (append : (pending a b : List ℕ) → pending_after pending (a ++ b) ≡ pending_after (pending_after pending a) b)
    (parts : (size : Size) (s : State) (pending a b : List ℕ) → IsSoundAt size s → translated s pending (a ++ b)
    ≡ translated s pending a ++ translated (play_utf8 s pending a).state (pending_after pending a) b)
    (no-lines : (size : Size) (s : State) → IsSoundAt size s → log s [] ≡ [])
    (log-two : (s : State) (a b : List ℕ) → log s (a ++ b) ≡ log s a ++ log (play s a).state b) where
  lines-two : (s : State) (pending a b : List ℕ) → IsSoundSized s → log s (translated s pending (a ++ b))
      ≡ log s (translated s pending a)
      ++ log (play_utf8 s pending a).state (translated (play_utf8 s pending a).state (pending_after pending a) b)
  unfolding play_utf8
  lines-two s pending a b sound =
      let t = (play s (translated s pending a)).state in
      ap (λ (xs : List ℕ). log s xs) (parts s.display.grid.size s pending a b sound)
      ∙ log-two s (translated s pending a) (translated t (pending_after pending a) b)

  rung-two : (s : State) (pending a b : List ℕ) → IsSoundSized s → bells s.held (translated s pending (a ++ b))
      ≡ bells s.held (translated s pending a) + bells (play_utf8 s pending a).state.held
      (translated (play_utf8 s pending a).state (pending_after pending a) b)
  unfolding play_utf8 play
  rung-two s pending a b sound =
      let t = (play s (translated s pending a)).state in
      ap (λ (xs : List ℕ). bells s.held xs) (parts s.display.grid.size s pending a b sound)
      ∙ bells-append split s.held (translated s pending a) (translated t (pending_after pending a) b)

  pub utf8-are-told : AreTold utf8_told
  utf8-are-told = record {
    nothing = λ s pending sound. rw (
      none s.display.grid.size s pending sound,
      translated-nothing s pending,
      no-lines s.display.grid.size s sound,
      bells-nil split s.held sound.held,
    ) refl;
    two = λ s pending a b sound. rw (
      lines-two s pending a b sound,
      rung-two s pending a b sound,
      two s.display.grid.size s pending a b sound,
      append pending a b,
    ) refl;
  }

-- ---- under TERM=xterm

module _ (two : (w : Whole) (pending a b : List ℕ) → play_xterm w pending (a ++ b)
    ≡ both (play_xterm w pending a) (play_xterm (play_xterm w pending a).whole (pending_after pending a) b))
    (append : (pending a b : List ℕ) → pending_after pending (a ++ b) ≡ pending_after (pending_after pending a) b)
    (log-two : (w : Whole) (pending a b : List ℕ) → xterm_log w pending (a ++ b)
    ≡ xterm_log w pending a ++ xterm_log (play_xterm w pending a).whole (pending_after pending a) b) where
  played-two : (s : State) (front : FrontState) (a b : List ℕ) → xterm_played s front (a ++ b)
      ≡ both (xterm_played s front a) (xterm_played (xterm_played s front a).whole.state (xterm_front s front a) b)
  played-two s front a b = two (behind s front) front.pending a b

  state-two : (s : State) (front : FrontState) (a b : List ℕ) → (xterm_played s front (a ++ b)).whole.state
      ≡ (xterm_played (xterm_played s front a).whole.state (xterm_front s front a) b).whole.state
  state-two s front a b = ap (λ (p : WholePlayed). p.whole.state) (played-two s front a b)

  front-two : (s : State) (front : FrontState) (a b : List ℕ) → xterm_front s front (a ++ b)
      ≡ xterm_front (xterm_played s front a).whole.state (xterm_front s front a) b
  front-two s front a b =
      let pages : (xterm_played s front (a ++ b)).whole.pages
      ≡ (xterm_played (xterm_played s front a).whole.state (xterm_front s front a) b).whole.pages =
      ap (λ (p : WholePlayed). p.whole.pages) (played-two s front a b) in
      rw (pages, append front.pending a b) refl

  bells-two : (s : State) (front : FrontState) (a b : List ℕ) → xterm_bells s front (a ++ b)
      ≡ xterm_bells s front a + xterm_bells (xterm_played s front a).whole.state (xterm_front s front a) b
  unfolding play_xterm
  bells-two s front [] b = omega arith
  bells-two s front (x ∷ a) b =
      let t = (xterm_played s front (x ∷ [])).whole.state in
      let next = xterm_front s front (x ∷ []) in
      let rest : xterm_bells t next (a ++ b)
      ≡ xterm_bells t next a + xterm_bells (xterm_played t next a).whole.state (xterm_front t next a) b =
      bells-two t next a b in
      rw (state-two s front (x ∷ []) a, front-two s front (x ∷ []) a) (omega (arith, rest))

  nothing-told : (s : State) (front : FrontState)
      → xterm_told s front [] ≡ record { state = s; kept = front; reports = []; lines = []; rung = 0 }
  unfolding play_xterm
  nothing-told s front = refl

  pub xterm-are-told : AreTold xterm_told
  xterm-are-told = record {
    nothing = λ s front sound. nothing-told s front;
    two = λ s front a b sound. rw (
      log-two (behind s front) front.pending a b,
      bells-two s front a b,
      played-two s front a b,
      append front.pending a b,
    ) refl;
  }
