-- The changes among events, at one of them.
use Rattle.std.proofs.Common.{◌≡◌, ◌++◌, ◌∷◌, ◌∙◌, [], List, Bool, sym, ap, append-nil, append_assoc}
use Rattle.vt_recording.specs.declared.changes.Change.{Change}
use Rattle.vt_recording.specs.declared.reached.Passed.{Passed}
use Rattle.vt_recording.specs.Changes.{change_of, changes_in}
use Rattle.vt_recording.specs.Reached.{with_event}
use Rattle.vt_recording.specs.Timeline.{Event}

module _ (characters : Bool) (so_far : Passed) (here : List Event) (out whole : List Change)
    (ahead : out ++ changes_in characters so_far here ≡ whole) where
  pub one_more : (e : Event) (rest : List Event) (next : Passed) (more : List Change) → here ≡ e ∷ rest
      → next ≡ with_event characters so_far e → more ≡ out ++ change_of so_far e.kind e.text
      → more ++ changes_in characters next rest ≡ whole
  unfolding changes_in
  one_more e rest next more is_next is written =
      rw (written, is)
      (append_assoc out (change_of so_far e.kind e.text) (changes_in characters (with_event characters so_far e) rest)
      ∙ ap (λ (l : List Event). out ++ changes_in characters so_far l) (sym is_next) ∙ ahead)

  pub none_left : here ≡ [] → out ≡ whole
  unfolding changes_in
  none_left none = sym (append-nil out) ∙ ap (λ (l : List Event). out ++ changes_in characters so_far l) (sym none) ∙ ahead
