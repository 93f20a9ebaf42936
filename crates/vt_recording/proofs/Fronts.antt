-- The first line of a text, and the events of the lines before a place.
use Rattle.std.proofs.Common.{map, ◌≡◌, ◌+◌, ◌≤◌, ◌++◌, ◌∷◌, ◌∙◌, [], ℕ, List, length, drop, Bool, true, false, Option, Some, None, refl, sym, ap, subst, arith, append-nil, append_assoc, nat_lt}
use Rattle.std.proofs.lemmas.List.{length-take-le, drop_all, drop-drop}
use Rattle.std.specs.List.{flat_map}
use Rattle.std.proofs.Math.Seq.{take-append_seam, drop-append_seam}
use Rattle.std.proofs.lemmas.Bool.Decides.{nat_tests}
use Rattle.json.specs.Json.{Items}
use Rattle.vt_device.specs.declared.fault.Break.{Break}
use Rattle.vt_recording.specs.declared.timeline.Event as declared
use Rattle.vt_recording.specs.Lines.{lines_of, front_by, front_line}
use Rattle.vt_recording.specs.Timeline.{Event, Timeline, in_recording, after, ends_at, and_then, told_in, cast_events, cast_by, cast_from, asciicast, unless, told_by, timed_events}
use Rattle.vt_recording.specs.Timing.{Spot, break_in, spot_after, is_empty, step_in}
use Rattle.vt_recording.specs.declared.timeline.Timeline as read
use Rattle.vt_recording.specs.Gathered.{AreGathered, IsRead, mark_of, events_of, timeline_view}
use Rattle.vt_recording.specs.Asciicast.{is_silent, event_in, time_behind, frames_in, json_text, start_of, version_in}
use Rattle.vt_recording.specs.Asciicast as cast
use Rattle.vt_recording.proofs.FirstLines.{feed_at, cut_at, place, lines_cut, text_at}

-- ---- what is read of lines, at the first one: an empty line that ends the text changes nothing

module _ (A : Type 0) (read : List (List ℕ) → A)
    (empty : (line : List ℕ) → read (line ∷ []) ≡ read (line ∷ lines_of [])) where
  by_place : (xs : List ℕ) (n : ℕ) (is : Bool) → nat_lt n (length xs) ≡ is
      → read (cut_at (place n (length xs)) xs)
      ≡ read (front_by (place n (length xs)) xs
      ∷ lines_of (drop (length (front_by (place n (length xs)) xs) + 1) xs))
  by_place xs n false is =
      let all : drop (length xs + 1) xs ≡ [] = drop_all (length xs + 1) xs (omega arith) in
      rw is (empty xs ∙ ap (λ (l : List ℕ). read (xs ∷ lines_of l)) (sym all))
  by_place xs n true is =
      let small : n ≤ length xs = grind (arith, nat_tests, is) in
      rw (is, length-take-le n xs small) refl

  pub lines_first : (xs : List ℕ)
      → read (lines_of xs) ≡ read (front_line xs ∷ lines_of (drop (length (front_line xs) + 1) xs))
  lines_first xs = ap read (lines_cut xs) ∙ by_place xs (feed_at xs) _ refl

-- ---- the events before a place

-- these are the events before the rest
pub record IsGathered (whole rest : Timeline) (marks : List declared.Event) (text : List ℕ) : Type 0 where
  pub front : List Event
  pub ahead : whole ≡ after front rest
  pub are : AreGathered front marks text

pub gathered_none : (whole : Timeline) (marks : List declared.Event) (text : List ℕ) → AreGathered [] marks text
    → IsGathered whole whole marks text
gathered_none whole marks text are = record { front = []; ahead = refl; are = are }

after_both : (p q : List Event) (rest : Timeline) → after p (after q rest) ≡ after (p ++ q) rest
after_both p q rest =
    ap (λ (l : List Event). record { events = l; broken = rest.broken }) (sym (append_assoc p q rest.events))

pub gathered_more : (whole rest : Timeline) (events : List Event) (marks more_marks : List declared.Event) (text more_text : List ℕ)
    → IsGathered whole (after events rest) marks text
    → ((front : List Event) → AreGathered front marks text → AreGathered (front ++ events) more_marks more_text)
    → IsGathered whole rest more_marks more_text
gathered_more whole rest events marks more_marks text more_text g more = record {
  front = g.front ++ events;
  ahead = g.ahead ∙ after_both g.front events rest;
  are = more g.front g.are;
}

pub gathered_all : (whole : Timeline) (broken : Option Break) (marks : List declared.Event) (text : List ℕ)
    → IsGathered whole (ends_at broken) marks text
    → (broken ≡ whole.broken) × AreGathered whole.events marks text
gathered_all whole broken marks text g =
    let events : whole.events ≡ g.front = ap (λ (w : Timeline). w.events) g.ahead ∙ append-nil g.front in
    (sym (ap (λ (w : Timeline). w.broken) g.ahead), rw events g.are)

-- a timeline that was read
pub is_read : (Is : Timeline → Type 0) (whole : Timeline) (t : read.Timeline) → Is whole → whole.broken ≡ t.broken
    → AreGathered whole.events t.events.items t.text.items → IsRead Is t
is_read Is whole t is broken are = record {
  events = whole.events;
  is = subst (λ (b : Option Break). Is (record { events = whole.events; broken = b })) broken is;
  are = are;
}

viewed_events : (events : List Event) → events_of (map (λ e. mark_of e) events) (flat_map (λ e. e.text) events) ≡ events
unfolding events_of
viewed_events [] = refl
viewed_events (e ∷ events) =
    let more = flat_map (λ (x : Event). x.text) events in
    rw (take-append_seam e.text more, drop-append_seam e.text more, viewed_events events) refl

pub viewed : (Is : Timeline → Type 0) (t : read.Timeline) → IsRead Is t → Is (timeline_view t)
viewed Is t r =
    let same : events_of t.events.items t.text.items ≡ r.events =
    rw (r.are.marks_are, r.are.text_is) (viewed_events r.events) in
    subst (λ (l : List Event). Is (record { events = l; broken = t.broken })) (sym same) r.is

-- ---- the lines of a recording by asciinema

cast_first : (version clock at : ℕ) (xs : List ℕ)
    → cast_events version clock at (lines_of xs)
    ≡ cast_events version clock at (front_line xs ∷ lines_of (drop (length (front_line xs) + 1) xs))
unfolding cast_events lines_of
cast_first version clock at xs = lines_first Timeline (cast_events version clock at) (λ line. refl) xs

-- what comes after a line of n bytes that begins at this byte
abbrev pub cast_behind : (version at n : ℕ) → List ℕ → ℕ → Timeline
cast_behind version at n xs now = cast_events version now (at + (n + 1)) (lines_of (drop (n + 1) xs))

pub cast_step : (version clock at : ℕ) (xs line : List ℕ) (time : Option ℕ) → line ≡ front_line xs
    → time ≡ time_behind (is_silent version line) (event_in line) version clock
    → cast_events version clock at (lines_of xs)
    ≡ and_then time (told_in (is_silent version line) (event_in line) version clock) at
    (cast_behind version at (length line) xs)
unfolding cast_events
cast_step version clock at xs line time e t = rw (t, e) (cast_first version clock at xs)

-- a line that breaks the format has no event
pub nothing_told : (silent : Bool) (event : Option cast.Event) (version clock : ℕ)
    → None ≡ time_behind silent event version clock → told_in silent event version clock ≡ []
nothing_told true event version clock t = refl
nothing_told false None version clock t = refl
nothing_told false (Some e) version clock t = grind (arith, t)

module _ (version : ℕ) (text : List ℕ) (clock at : ℕ) (whole : Timeline) (marks : List declared.Event) (bytes : List ℕ)
    (g : IsGathered whole (cast_events version clock at (lines_of (drop at text))) marks bytes) where
  pub cast_more : (line : List ℕ) (now : ℕ) (more_marks : List declared.Event) (more : List ℕ) → line ≡ front_line (drop at text)
      → Some now ≡ time_behind (is_silent version line) (event_in line) version clock
      → ((front : List Event) → AreGathered front marks bytes
      → AreGathered (front ++ told_in (is_silent version line) (event_in line) version clock) more_marks more)
      → IsGathered whole (cast_events version now (at + (length line + 1)) (lines_of (drop (at + (length line + 1)) text))) more_marks more
  cast_more line now more_marks more e t w =
      let here : IsGathered whole (after (told_in (is_silent version line) (event_in line) version clock)
      (cast_behind version at (length line) (drop at text) now)) marks bytes =
      subst (λ (r : Timeline). IsGathered whole r marks bytes) (cast_step version clock at (drop at text) line (Some now) e t) g in
      rw (drop-drop (length line + 1) at text) at
      (gathered_more whole (cast_behind version at (length line) (drop at text) now)
      (told_in (is_silent version line) (event_in line) version clock) marks more_marks bytes more here w)

  pub cast_break : (line : List ℕ) (more_marks : List declared.Event) (more : List ℕ) → line ≡ front_line (drop at text)
      → None ≡ time_behind (is_silent version line) (event_in line) version clock
      → ((front : List Event) → AreGathered front marks bytes
      → AreGathered (front ++ told_in (is_silent version line) (event_in line) version clock) more_marks more)
      → (in_recording (Some at) ≡ whole.broken) × AreGathered whole.events more_marks more
  cast_break line more_marks more e t w =
      let none = nothing_told (is_silent version line) (event_in line) version clock t in
      let here : IsGathered whole (ends_at (in_recording (Some at))) marks bytes =
      subst (λ (r : Timeline). IsGathered whole r marks bytes) (cast_step version clock at (drop at text) line None e t) g in
      let same : (front : List Event) → AreGathered front marks bytes → AreGathered front more_marks more =
      λ (front : List Event) (are : AreGathered front marks bytes). rw (none, append-nil) at (w front are) in
      gathered_all whole (in_recording (Some at)) more_marks more
      (record { front = here.front; ahead = here.ahead; are = same here.front here.are })

  pub cast_end : length text ≤ at → (None ≡ whole.broken) × AreGathered whole.events marks bytes
  unfolding cast_events lines_of
  cast_end h =
      gathered_all whole None marks bytes
      (subst (λ (l : List ℕ). IsGathered whole (cast_events version clock at (lines_of l)) marks bytes) (drop_all at text h) g)

-- ---- the header of a recording by asciinema

by_version : (version : Option ℕ) (frames : Option Items) (at : ℕ) → cast_by version frames at [] ≡ cast_by version frames at (lines_of [])
unfolding cast_events lines_of
by_version None frames at = refl
by_version (Some version) frames at = refl

module _ (bytes header : List ℕ) (from : ℕ) (is : header ≡ front_line (json_text bytes))
    (follows : from ≡ start_of bytes + (length header + 1)) where
  behind_header : drop (length header + 1) (json_text bytes) ≡ drop from bytes
  behind_header =
      ap (drop (length header + 1)) (sym (text_at bytes)) ∙ drop-drop (length header + 1) (start_of bytes) bytes
      ∙ ap (λ n. drop n bytes) (sym follows)

  pub by_header : (version : Option ℕ) → version ≡ version_in header
      → asciicast bytes ≡ cast_by version (frames_in (json_text bytes)) from (lines_of (drop from bytes))
  by_header version v =
      rw (v, ← behind_header, follows, is)
      (lines_first Timeline (cast_from (frames_in (json_text bytes)) (start_of bytes))
      (λ line. by_version (version_in line) (frames_in (json_text bytes)) (start_of bytes + (length line + 1))) (json_text bytes))

-- ---- the lines of a timing file

module _ (apart : Bool) (session : List ℕ) (stop : ℕ) where
  timed_first : (spot : Spot) (at : ℕ) (xs : List ℕ)
      → timed_events apart session stop spot at (lines_of xs)
      ≡ timed_events apart session stop spot at (front_line xs ∷ lines_of (drop (length (front_line xs) + 1) xs))
  unfolding timed_events lines_of
  timed_first spot at xs = lines_first Timeline (timed_events apart session stop spot at) (λ line. refl) xs

  -- what comes after a line
  abbrev timed_behind : (spot : Spot) (at : ℕ) → (line xs : List ℕ) → Timeline
  timed_behind spot at line xs =
      timed_events apart session stop (spot_after (is_empty line) (step_in apart line) spot) (at + (length line + 1))
      (lines_of (drop (length line + 1) xs))

  timed_step : (spot : Spot) (at : ℕ) (xs line : List ℕ) (broken : Option Break) → line ≡ front_line xs
      → broken ≡ break_in (is_empty line) (step_in apart line) session spot.place stop at
      → timed_events apart session stop spot at (lines_of xs)
      ≡ unless broken (told_by (is_empty line) (step_in apart line) line session spot) (timed_behind spot at line xs)
  unfolding timed_events
  timed_step spot at xs line broken e b = rw (b, e) (timed_first spot at xs)

  module _ (text : List ℕ) (spot : Spot) (at : ℕ) (whole : Timeline) (marks : List declared.Event) (bytes : List ℕ)
      (g : IsGathered whole (timed_events apart session stop spot at (lines_of (drop at text))) marks bytes) where
    pub timed_more : (line : List ℕ) (next : Spot) (more_marks : List declared.Event) (more : List ℕ) → line ≡ front_line (drop at text)
        → None ≡ break_in (is_empty line) (step_in apart line) session spot.place stop at
        → next ≡ spot_after (is_empty line) (step_in apart line) spot
        → ((front : List Event) → AreGathered front marks bytes
        → AreGathered (front ++ told_by (is_empty line) (step_in apart line) line session spot) more_marks more)
        → IsGathered whole (timed_events apart session stop next (at + (length line + 1)) (lines_of (drop (at + (length line + 1)) text))) more_marks more
    timed_more line next more_marks more e b n w =
        let here : IsGathered whole (after (told_by (is_empty line) (step_in apart line) line session spot)
        (timed_behind spot at line (drop at text))) marks bytes =
        subst (λ (r : Timeline). IsGathered whole r marks bytes) (timed_step spot at (drop at text) line None e b) g in
        rw n (rw (drop-drop (length line + 1) at text) at
        (gathered_more whole (timed_behind spot at line (drop at text))
        (told_by (is_empty line) (step_in apart line) line session spot) marks more_marks bytes more here w))

    pub timed_break : (line : List ℕ) (b : Break) → line ≡ front_line (drop at text)
        → Some b ≡ break_in (is_empty line) (step_in apart line) session spot.place stop at
        → (Some b ≡ whole.broken) × AreGathered whole.events marks bytes
    timed_break line b e is =
        gathered_all whole (Some b) marks bytes
        (subst (λ (r : Timeline). IsGathered whole r marks bytes) (timed_step spot at (drop at text) line (Some b) e is) g)

    pub timed_end : length text ≤ at → (None ≡ whole.broken) × AreGathered whole.events marks bytes
    unfolding timed_events lines_of
    timed_end h =
        gathered_all whole None marks bytes
        (subst (λ (l : List ℕ). IsGathered whole (timed_events apart session stop spot at (lines_of l)) marks bytes) (drop_all at text h) g)
