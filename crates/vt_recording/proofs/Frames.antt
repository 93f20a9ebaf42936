-- The frames of a recording by asciinema of version 1, one after another.
use Rattle.std.proofs.Common.{◌≡◌, ◌+◌, ◌≤◌, ◌<◌, ◌++◌, ◌∷◌, ◌∙◌, ℕ, suc, List, length, drop, false, Option, Some, None, refl, sym, ap, subst, arith, append-nil, slice_index_or}
use Rattle.std.proofs.lemmas.List.{drop_all}
use Rattle.std.proofs.Math.Seq.{drop-cons}
use Rattle.json.specs.Value.{value_view, items_view}
use Rattle.json.specs.declared.value.Value.{Value}
use Rattle.vt_recording.specs.declared.timeline.Event as declared
use Rattle.vt_recording.specs.Asciicast.{time_behind, frame_of}
use Rattle.vt_recording.specs.Timeline as timeline
use Rattle.vt_recording.specs.Timeline.{Event, Timeline, in_recording, told_in, frame_events}
use Rattle.vt_recording.specs.Gathered.{AreGathered}
use Rattle.vt_recording.proofs.Fronts.{IsGathered, gathered_more, gathered_all, nothing_told}

-- an item and those after it
pub item_at : {A : Type 0} (xs : List A) (i : ℕ) (x : A) → i < length xs → x ≡ slice_index_or xs i x → drop i xs ≡ x ∷ drop (i + 1) xs
item_at xs i x l is =
    let next : suc i ≡ i + 1 = omega arith in
    drop-cons xs i x l ∙ ap (λ y. y ∷ drop (suc i) xs) (sym is) ∙ ap (λ n. x ∷ drop n xs) next

module _ {A : Type 0} (frames : List (Value A)) (clock i : ℕ) where
  pub told : (frame : Value A) (time : Option ℕ) → drop i frames ≡ frame ∷ drop (i + 1) frames
      → time ≡ time_behind false (frame_of (value_view frame)) 1 clock
      → frame_events clock (items_view (drop i frames))
      ≡ timeline.and_then time (told_in false (frame_of (value_view frame)) 1 clock) 0
      (λ now. frame_events now (items_view (drop (i + 1) frames)))
  unfolding frame_events
  told frame time e t = rw (t, e) refl

module _ {A : Type 0} (frames : List (Value A)) (clock i : ℕ) (whole : Timeline) (marks : List declared.Event) (bytes : List ℕ)
    (g : IsGathered whole (frame_events clock (items_view (drop i frames))) marks bytes) where
  pub frame_gathered : (frame : Value A) (now : ℕ) (more_marks : List declared.Event) (more : List ℕ)
      → drop i frames ≡ frame ∷ drop (i + 1) frames
      → Some now ≡ time_behind false (frame_of (value_view frame)) 1 clock
      → ((front : List Event) → AreGathered front marks bytes
      → AreGathered (front ++ told_in false (frame_of (value_view frame)) 1 clock) more_marks more)
      → IsGathered whole (frame_events now (items_view (drop (i + 1) frames))) more_marks more
  frame_gathered frame now more_marks more e t w =
      let rest = frame_events now (items_view (drop (i + 1) frames)) in
      let events = told_in false (frame_of (value_view frame)) 1 clock in
      gathered_more whole rest events marks more_marks bytes more
      (subst (λ (r : Timeline). IsGathered whole r marks bytes) (told frames clock i frame (Some now) e t) g) w

  pub gathering_breaks : (frame : Value A) (more_marks : List declared.Event) (more : List ℕ) → drop i frames ≡ frame ∷ drop (i + 1) frames
      → None ≡ time_behind false (frame_of (value_view frame)) 1 clock
      → ((front : List Event) → AreGathered front marks bytes
      → AreGathered (front ++ told_in false (frame_of (value_view frame)) 1 clock) more_marks more)
      → (in_recording (Some 0) ≡ whole.broken) × AreGathered whole.events more_marks more
  gathering_breaks frame more_marks more e t w =
      let none = nothing_told false (frame_of (value_view frame)) 1 clock t in
      let here : IsGathered whole (timeline.ends_at (in_recording (Some 0))) marks bytes =
      subst (λ (r : Timeline). IsGathered whole r marks bytes) (told frames clock i frame None e t) g in
      let same : (front : List Event) → AreGathered front marks bytes → AreGathered front more_marks more =
      λ (front : List Event) (are : AreGathered front marks bytes). rw (none, append-nil) at (w front are) in
      gathered_all whole (in_recording (Some 0)) more_marks more
      (record { front = here.front; ahead = here.ahead; are = same here.front here.are })

  pub gathering_ends : length frames ≤ i → (None ≡ whole.broken) × AreGathered whole.events marks bytes
  unfolding frame_events
  gathering_ends h =
      gathered_all whole None marks bytes
      (subst (λ (l : List (Value A)). IsGathered whole (frame_events clock (items_view l)) marks bytes) (drop_all i frames h) g)
