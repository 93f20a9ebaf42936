-- The sound states are those that bytes reach, and equal repaints are of equal states.
use Rattle.std.proofs.Common.{◌≡◌, ◌↔◌, ℕ, ◌≤◌, List, ◌++◌, None, refl, sym, ap, subst, ◌∙◌, arith}
use Rattle.std.proofs.lemmas.List.Elements.{All-append}
use Rattle.std.specs.Str.{IsAscii}
use Rattle.vt_syntax.specs.declared.held.Held.TheVariants.{Nothing}
use Rattle.vt_syntax.specs.Held.{IsHeldPart, spell}
use Rattle.vt_syntax.specs.Laws.{SplitLaw}
use Rattle.vt_syntax.proofs.Cutting.{held_bytes}
use Rattle.vt_syntax.proofs.Spelled.{ascii_bytes}
use Rattle.vt_screen.specs.declared.size.Size.{Size}
use Rattle.vt_screen.specs.Sizes.{IsSize, vt220_size}
use Rattle.vt_term.specs.State.{State, state_of}
use Rattle.vt_term.specs.Sound.{IsSoundAt}
use Rattle.vt_term.specs.Play.{Played, play, both}
use Rattle.vt_paint.specs.Repaint.{paint, IsReachedAt, IsRebuiltAt}
use Rattle.vt_paint.proofs.Whole.{rebuilds_all}

-- a state without what it holds, and then the spelling of that
abbrev between : State → State
between s = record s { held = Nothing }

held_again : SplitLaw → (s : State) → IsHeldPart s.held → (play (between s) (spell s.held)).state ≡ s
unfolding play
held_again split s h = rw (split.spelled_events s.held h, split.spelled_held s.held h) refl

module _ (size : Size) (split : SplitLaw)
    (two : (s : State) (a b : List ℕ) → play s (a ++ b) ≡ both (play s a) (play (play s a).state b))
    (ascii : (s : State) → IsSoundAt size s → IsAscii (paint s)) (start : IsSoundAt size (state_of size))
    (kept : (s : State) (bytes : List ℕ) → IsSoundAt size s → IsSoundAt size (play s bytes).state) where
  reach : (s : State) → IsSoundAt size s → IsReachedAt size s
  reach s i =
      let d = between s in
      let sound : IsSoundAt size d =
      record { display = i.display; held = record { rest = None; is_rest = tt; of_rest = refl } } in
      let made : (play (state_of size) (paint d)).state ≡ d =
      ap (λ (p : Played). p.state) (rebuilds_all size d sound refl (state_of size) start) in (
        paint d ++ spell s.held,
        All-append (λ b. b ≤ 0xFF) (paint d) (spell s.held) (ascii_bytes (paint d) (ascii d sound)) (held_bytes s.held i.held),
        ap (λ (p : Played). p.state) (two (state_of size) (paint d) (spell s.held))
            ∙ ap (λ (x : State). (play x (spell s.held)).state) made
            ∙ held_again split s i.held,
      )

  pub reached : (s : State) → IsSoundAt size s ↔ IsReachedAt size s
  reached s = (reach s, λ w. subst (λ (x : State). IsSoundAt size x) w.2 (kept (state_of size) w.0 start))

-- repaints rebuild, and the state at power-up is sound
module _ (size : Size) (rebuilds : (s : State) → IsSoundAt size s → s.held ≡ Nothing → IsRebuiltAt size s)
    (start : IsSoundAt size (state_of size)) where
  same_paint : (s u : State) → IsSoundAt size s → IsSoundAt size u → s.held ≡ Nothing → u.held ≡ Nothing
      → paint s ≡ paint u → s ≡ u
  same_paint s u i j h k e =
      sym (ap (λ (p : Played). p.state) (rebuilds s i h (state_of size) start))
      ∙ ap (λ (bytes : List ℕ). (play (state_of size) bytes).state) e
      ∙ ap (λ (p : Played). p.state) (rebuilds u j k (state_of size) start)

  pub same : (s u : State) → IsSoundAt size s → IsSoundAt size u → s.held ≡ Nothing → u.held ≡ Nothing
      → (s ≡ u) ↔ (paint s ≡ paint u)
  same s u i j h k = (λ e. ap (λ x. paint x) e, same_paint s u i j h k)

  pub again : (s t : State) → IsSoundAt size s → IsSoundAt size t → s.held ≡ Nothing
      → paint (play t (paint s)).state ≡ paint s
  again s t i j h = ap (λ (p : Played). paint p.state) (rebuilds s i h t j)

-- a size of a sound state is one
pub sized : (size : Size) (s : State) → IsSoundAt size s → IsSize size
sized size s i = subst (λ (z : Size). IsSize z) i.display.of_size i.display.grid.shape.size

pub vt220-sized : IsSize vt220_size
vt220-sized = record { rows = (omega arith, omega arith); narrow = omega arith; wide = omega arith; columns = omega arith }
