-- Updates in turn.
use Rattle.std.proofs.Common.{◌≡◌, ℕ, List, [], ◌∷◌, ◌++◌, ap, subst, sym, ◌∙◌}
use Rattle.std.specs.Prelude.{◌↔◌}
use Rattle.vt_screen.specs.declared.size.Size.{Size}
use Rattle.vt_term.specs.State.{State}
use Rattle.vt_term.specs.Sound.{IsSoundAt}
use Rattle.vt_term.specs.Play.{Played, play, both, play_all, joined}
use Rattle.vt_update.specs.Leads.{silently, Leads, LeadsAlong, last_state}

-- of the states of one size: playing no bytes changes nothing, pieces may be joined, and play keeps soundness
module _ {size : Size} (none : (s : State) → IsSoundAt size s → play s [] ≡ silently s)
    (two : (s : State) (a b : List ℕ) → play s (a ++ b) ≡ both (play s a) (play (play s a).state b))
    (all : (s : State) (pieces : List (List ℕ)) → IsSoundAt size s → play_all s pieces ≡ play s (joined pieces))
    (kept : (s : State) (bytes : List ℕ) → IsSoundAt size s → IsSoundAt size (play s bytes).state) where
  pub leads_played : (s t : State) (bytes : List ℕ) → IsSoundAt size s → play s bytes ≡ silently t → Leads s bytes t
  leads_played s t bytes sound h = record {
    whole = h;
    cut = λ pieces e. all s pieces sound ∙ ap (λ bytes. play s bytes) e ∙ h;
  }

  -- one after the other
  joined_silently : (s t u : State) (a b : List ℕ) → play s a ≡ silently t → play t b ≡ silently u
      → play s (a ++ b) ≡ silently u
  joined_silently s t u a b first second =
      two s a b ∙ ap (λ (p : Played). both p (play p.state b)) first ∙ ap (λ (p : Played). both (silently t) p) second

  sound_after : (s t : State) (bytes : List ℕ) → IsSoundAt size s → play s bytes ≡ silently t → IsSoundAt size t
  sound_after s t bytes sound h = subst (λ (p : Played). IsSoundAt size p.state) h (kept s bytes sound)

  played_in_turn : (s : State) (updates : List (List ℕ)) (states : List State) → IsSoundAt size s → LeadsAlong s updates states
      → play s (joined updates) ≡ silently (last_state s states)
  played_in_turn s [] [] sound h = none s sound
  played_in_turn s [] (to ∷ states) sound h = absurd h
  played_in_turn s (sent ∷ others) [] sound h = absurd h
  played_in_turn s (sent ∷ others) (to ∷ states) sound (leads, along) =
      joined_silently s to (last_state to states) sent (joined others) leads.whole
      (played_in_turn to others states (sound_after s to sent sound leads.whole) along)

  pub in_turn : (s : State) (updates : List (List ℕ)) (states : List State) → IsSoundAt size s → LeadsAlong s updates states
      → Leads s (joined updates) (last_state s states)
  in_turn s updates states sound h =
      leads_played s (last_state s states) (joined updates) sound (played_in_turn s updates states sound h)

  pub nothing : (s t : State) → IsSoundAt size s → Leads s [] t ↔ (s ≡ t)
  nothing s t sound = (
    λ leads. ap (λ (p : Played). p.state) (sym (none s sound) ∙ leads.whole),
    λ e. leads_played s t [] sound (none s sound ∙ ap (λ (u : State). silently u) e),
  )

  -- first the repaint of a state, and then an update
  pub joins_late : (client s t : State) (paint sent : List ℕ) → IsSoundAt size client → play client paint ≡ silently s
      → Leads s sent t → Leads client (paint ++ sent) t
  joins_late client s t paint sent sound repainted leads =
      leads_played client t (paint ++ sent) sound (joined_silently client s t paint sent repainted leads.whole)
