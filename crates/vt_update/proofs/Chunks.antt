-- Playing bytes chunk by chunk.
use Rattle.std.proofs.Common.{◌≡◌, ℕ, ◌+◌, List, [], ◌++◌, length, take, drop, sym, ap, subst, ◌∙◌, append-nil}
use Rattle.std.specs.Prelude.{◌↔◌}
use Rattle.std.proofs.lemmas.List.{drop-drop}
use Rattle.std.proofs.Math.Seq.{take-add, take-append_seam, drop-append_seam}
use Rattle.vt_term.specs.State.{State}
use Rattle.vt_term.specs.Play.{Played, play, both}
use Rattle.vt_update.specs.Leads.{silently, Leads, Updates}

-- playing pieces in turn is playing them joined
module _ (two : (s : State) (a b : List ℕ) → play s (a ++ b) ≡ both (play s a) (play (play s a).state b)) where
  -- the first bytes starting at a place, and a chunk more
  play_more : (s t : State) (bytes : List ℕ) (start at count : ℕ) → t ≡ (play s (take at (drop start bytes))).state
      → play s (take (at + count) (drop start bytes))
      ≡ both (play s (take at (drop start bytes))) (play t (take count (drop (start + at) bytes)))
  play_more s t bytes start at count h =
      let before = take at (drop start bytes) in
      ap (λ xs. play s xs) (take-add at count (drop start bytes))
      ∙ two s before (take count (drop at (drop start bytes)))
      ∙ ap (λ (u : State). both (play s before) (play u (take count (drop at (drop start bytes))))) (sym h)
      ∙ ap (λ xs. both (play s before) (play t (take count xs))) (drop-drop at start bytes)

  pub state_more : (s t u : State) (bytes : List ℕ) (start at count : ℕ)
      → t ≡ (play s (take at (drop start bytes))).state
      → u ≡ (play t (take count (drop (start + at) bytes))).state
      → u ≡ (play s (take (at + count) (drop start bytes))).state
  state_more s t u bytes start at count h step =
      step ∙ sym (ap (λ (p : Played). p.state) (play_more s t bytes start at count h))

  pub silent_more : (s t : State) (bytes : List ℕ) (start at count : ℕ)
      → t ≡ (play s (take at (drop start bytes))).state
      → (play s (take at (drop start bytes))).reports ≡ [] → (play t (take count (drop (start + at) bytes))).reports
      ≡ []
      → (play s (take (at + count) (drop start bytes))).reports ≡ []
  silent_more s t bytes start at count h first second =
      ap (λ (p : Played). p.reports) (play_more s t bytes start at count h)
      ∙ ap (λ xs. xs ++ (play t (take count (drop (start + at) bytes))).reports) first
      ∙ second

-- a play in silence, from what is told of its two parts
pub played_silently : (s t u : State) (sent : List ℕ) → u ≡ (play s sent).state → (play s sent).reports ≡ [] → u ≡ t
    → play s sent ≡ silently t
played_silently s t u sent state silent same =
    ap (λ (reports : List ℕ). record { state = (play s sent).state; reports = reports }) silent
    ∙ ap (λ (v : State). silently v) (sym state ∙ same)

-- what was appended is taken back
pub taken_back : (old more now : List ℕ) (n : ℕ) → now ≡ take n (old ++ more) → n ≡ length old → now ≡ old
taken_back old more now n h e = h ∙ ap (λ n. take n (old ++ more)) e ∙ take-append_seam old more

-- between two states that differ, something is sent
pub nothing_sent : (s t : State) (before after : List ℕ) → Leads s [] t ↔ (s ≡ t) → Updates s t before after
    → ((s ≡ t) → ⊥) → (after ≡ before) ↔ (s ≡ t)
nothing_sent s t before after law w differ = (
  λ e. law.0 (subst (λ (sent : List ℕ). Leads s sent t) (sent-none e) w.leads),
  λ e. absurd (differ e),
)
  where
    sent-none : after ≡ before → w.sent ≡ []
    sent-none e =
        sym (drop-append_seam before w.sent)
        ∙ ap (λ (xs : List ℕ). drop (length before) xs) (sym w.appended ∙ e ∙ sym (append-nil before))
        ∙ drop-append_seam before []
