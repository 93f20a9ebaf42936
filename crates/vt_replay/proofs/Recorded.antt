-- The changes of the size that a recording has, one after another.
use Rattle.std.proofs.Common.{◌≡◌, ◌∙◌, ◌+◌, ◌-◌, ◌^◌, ◌≤◌, ◌++◌, ◌∷◌, [], ℕ, List, length, drop, min, Option, Some, None, sym, ap, append-nil, append_assoc}
use Rattle.std.proofs.lemmas.List.{drop_all}
use Rattle.vt_screen.specs.declared.size.Size.{Size}
use Rattle.vt_cli.specs.Source.{size_of}
use Rattle.vt_recording.specs.declared.changes.Change.{Change}
use Rattle.vt_replay.specs.declared.resized.Resize.{Resize}
use Rattle.vt_replay.specs.Resizes.{resize_then, resizes_of}

abbrev resize : ℕ → Size → Resize
resize after size = record { after = after; size = size }

module _ (before at : ℕ) where
  at_change : (c : Change) (changes : List Change) (size : Option Size) → size ≡ size_of c.window.columns c.window.rows
      → resizes_of before at (c ∷ changes)
      ≡ resize_then size (min (before + (c.place - at)) (2 ^ 64 - 1)) (resizes_of before at changes) (resizes_of 0 c.place changes)
  unfolding resizes_of
  at_change c changes size is =
      ap (λ (s : Option Size). resize_then s (min (before + (c.place - at)) (2 ^ 64 - 1)) (resizes_of before at changes) (resizes_of 0 c.place changes))
      (sym is)

  -- a size that no screen has is passed over
  pub passed_over : (c : Change) (out : List Resize) → None ≡ size_of c.window.columns c.window.rows → (changes : List Change)
      → out ++ resizes_of before at changes ≡ out ++ resizes_of before at (c ∷ changes)
  passed_over c out is changes = ap (λ (l : List Resize). out ++ l) (sym (at_change c changes None is))

  -- and any other one is used
  pub used : (after : ℕ) (size : Size) (c : Change) (out more : List Resize) → Some size ≡ size_of c.window.columns c.window.rows
      → after ≡ min (before + (c.place - at)) (2 ^ 64 - 1) → more ≡ out ++ resize after size ∷ [] → (changes : List Change)
      → more ++ resizes_of 0 c.place changes ≡ out ++ resizes_of before at (c ∷ changes)
  used after size c out more is waits written changes =
      let rest = resizes_of 0 c.place changes in
      ap (λ (l : List Resize). l ++ rest) written
      ∙ append_assoc out (resize after size ∷ []) rest
      ∙ ap (λ (n : ℕ). out ++ (resize n size ∷ rest)) waits
      ∙ ap (λ (l : List Resize). out ++ l) (sym (at_change c changes (Some size) is))

  -- no change is left
  pub none_left : (i : ℕ) (changes : List Change) (out whole : List Resize) → length changes ≤ i
      → out ++ resizes_of before at (drop i changes) ≡ whole → out ≡ whole
  unfolding resizes_of
  none_left i changes out whole end ahead =
      sym (append-nil out) ∙ ap (λ (cs : List Change). out ++ resizes_of before at cs) (sym (drop_all i changes end)) ∙ ahead
