-- The table of events, at one of them.
use Rattle.std.proofs.Common.{◌≡◌, ◌+◌, ◌++◌, ◌∷◌, ◌∙◌, [], ℕ, List, Bool, sym, ap, cond, append-nil, append_assoc, nat_le}
use Rattle.vt_recording.specs.Timeline.{Event}
use Rattle.vt_replay.specs.EventTable.{event_line, place_after, table}

module _ (timed full : Bool) (first i place : ℕ) (here : List Event) (out whole : List ℕ)
    (ahead : out ++ table timed full first i place here ≡ whole) where
  pub one_more : (e : Event) (rest : List Event) (then : ℕ) (more : List ℕ) → here ≡ e ∷ rest → then ≡ place_after place e
      → more ≡ out ++ cond (nat_le first i) (event_line timed full place e) []
      → more ++ table timed full first (i + 1) then rest ≡ whole
  unfolding table
  one_more e rest then more is_next is written =
      rw (written, is)
      (append_assoc out (cond (nat_le first i) (event_line timed full place e) []) (table timed full first (i + 1) (place_after place e) rest)
      ∙ ap (λ (l : List Event). out ++ table timed full first i place l) (sym is_next) ∙ ahead)

  pub none_left : here ≡ [] → out ≡ whole
  unfolding table
  none_left none = sym (append-nil out) ∙ ap (λ (l : List Event). out ++ table timed full first i place l) (sym none) ∙ ahead
