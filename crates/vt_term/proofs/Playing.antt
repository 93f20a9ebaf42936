-- The result of feeding the front of a chunk, for any machine.
use Rattle.std.proofs.Common.{◌≡◌, ℕ, suc, ◌+◌, ◌-◌, ◌≤◌, arith, List, [], ◌∷◌, ◌++◌, take, drop, length, map, refl, sym, ap, ◌∙◌}
use Rattle.std.proofs.Common.{subst, append_assoc, append-nil, length-take, All}
use Rattle.std.proofs.Math.Seq.{take-add}
use Rattle.std.proofs.lemmas.List.{take-append-drop}
use Rattle.std.proofs.lemmas.List.Elements.{All-take}
use Rattle.std.proofs.lemmas.List.Sums.{fold-append}
use Rattle.vt_syntax.specs.declared.event.Event.{Event}
use Rattle.vt_syntax.specs.declared.event.Event.TheVariants.{Print}
use Rattle.vt_syntax.specs.declared.held.Held.{Held}
use Rattle.vt_syntax.specs.declared.held.Held.TheVariants.{Nothing}
use Rattle.vt_syntax.specs.Front.{IsFront}
use Rattle.vt_syntax.specs.Held.{events_from, held_from, spell, IsHeldPart}
use Rattle.vt_syntax.specs.Laws.{SplitLaw, SpellingLaw}
use Rattle.vt_glyph.specs.Invocation.{HasGlyph}
use Rattle.vt_term.specs.State.{Display, State}
use Rattle.vt_term.specs.Sound.{IsSoundSized}
use Rattle.vt_term.specs.Functions.{effect}
use Rattle.vt_term.specs.Machines.{Machine, PrintsAlike, screens_after, reports_after, vt220}
use Rattle.vt_term.specs.Scrolling.{lines_off, scrolled_off}
use Rattle.vt_term.specs.Play.{play, after_events}
use Rattle.vt_term.specs.Happenings.{Happening, happening, happenings, happenings_on}
use Rattle.vt_term.specs.Observing.{Feeds, AreJoined, happenings_of}
use Rattle.vt_term.proofs.Bytes.{taken, behind, taken-more, but-last, graphic-events, graphic-held}

-- ---- an event that is whole at the front of a chunk, between sequences

pub front-events : (s : State) (piece : List ℕ) (n : ℕ) (event : Event) → s.held ≡ Nothing → IsFront piece n event
    → events_from s.held (take n piece) ≡ event ∷ []
front-events s piece n event between front =
    ap (λ (h : Held). events_from h (take n piece)) between ∙ front.events

pub front-last : (s : State) (piece : List ℕ) (n : ℕ) (event : Event) → s.held ≡ Nothing → IsFront piece n event
    → events_from s.held (take (length (take n piece) - 1) (take n piece)) ≡ []
front-last s piece n event between front =
    ap (λ (h : Held). events_from h (take (length (take n piece) - 1) (take n piece))) between
    ∙ ap (λ (l : List ℕ). events_from Nothing l) (but-last n piece front.some front.within) ∙ front.last

-- ---- events in turn

module _ {S : Type 0} (m : Machine S) where
  pub screens-append : (xs ys : List Event) (s : S)
      → screens_after m (xs ++ ys) s ≡ screens_after m ys (screens_after m xs s)
  screens-append xs ys s = fold-append (λ t event. m.effect event t) s xs ys

  pub reports-append : (xs ys : List Event) (s : S)
      → reports_after m (xs ++ ys) s ≡ reports_after m xs s ++ reports_after m ys (screens_after m xs s)
  reports-append [] ys s = refl
  reports-append (x ∷ xs) ys s =
      ap (λ (t : List ℕ). m.report x s ++ t) (reports-append xs ys (m.effect x s))
      ∙ sym (append_assoc (m.report x s) (reports_after m xs (m.effect x s)) (reports_after m ys (screens_after m xs (m.effect x s))))

  pub length-on : (s : S) (held : Held) (bytes : List ℕ) → length (happenings_on m s held bytes) ≡ length bytes
  length-on s held [] = refl
  length-on s held (b ∷ bytes) = ap suc
      (length-on (screens_after m (events_from held (b ∷ [])) s) (held_from held (b ∷ [])) bytes)

module _ {S K : Type 0} (m : Machine S) (screens : Display → K → S) where
  -- bytes that are these events
  pub feeds-events : (s t : State) (k l : K) (bytes : List ℕ) (events : List Event) (before after : List ℕ)
      → events_from s.held bytes ≡ events → t.held ≡ held_from s.held bytes
      → screens t.display l ≡ screens_after m events (screens s.display k)
      → after ≡ before ++ reports_after m events (screens s.display k)
      → Feeds m screens s k bytes t l before after
  feeds-events s t k l bytes events before after are left is told = record {
    screens_are = rw are is;
    held = left;
    reports = rw are told;
  }

  -- bytes that are one event
  pub feeds-event : (s t : State) (k l : K) (bytes : List ℕ) (event : Event) (before after : List ℕ)
      → events_from s.held bytes ≡ event ∷ [] → t.held ≡ held_from s.held bytes
      → screens t.display l ≡ m.effect event (screens s.display k)
      → after ≡ before ++ m.report event (screens s.display k)
      → Feeds m screens s k bytes t l before after
  feeds-event s t k l bytes event before after are left is told =
      feeds-events s t k l bytes (event ∷ []) before after are left is
      (told ∙ ap (λ (t : List ℕ). before ++ t) (sym (append-nil (m.report event (screens s.display k)))))

  pub feeds-front : (s t : State) (k l : K) (piece : List ℕ) (n : ℕ) (event : Event) (before after : List ℕ)
      → IsFront piece n event → s.held ≡ Nothing → t.held ≡ s.held
      → screens t.display l ≡ m.effect event (screens s.display k)
      → after ≡ before ++ m.report event (screens s.display k)
      → Feeds m screens s k (take n piece) t l before after
  feeds-front s t k l piece n event before after front between same =
      feeds-event s t k l (take n piece) event before after (front-events s piece n event between front)
      (same ∙ between ∙ sym (ap (λ (h : Held). held_from h (take n piece)) between ∙ front.held))

  module _ (alike : PrintsAlike m screens) where
    -- graphic bytes report nothing
    prints-report : (codes : List ℕ) (s : S) → reports_after m (map Print codes) s ≡ []
    prints-report [] s = refl
    prints-report (code ∷ codes) s = rw (alike.report code s) (prints-report codes (m.effect (Print code) s))

    prints-after : (codes : List ℕ) (d : Display) (k : K)
        → screens_after m (map Print codes) (screens d k) ≡ screens (after_events (map Print codes) d) k
    prints-after [] d k = refl
    prints-after (code ∷ codes) d k =
        ap (λ (s : S). screens_after m (map Print codes) s) (alike.effect code d k)
        ∙ prints-after codes (effect (Print code) d) k

    -- bytes that are printed
    pub feeds-prints : SpellingLaw → (s t : State) (k : K) (bytes out : List ℕ) → All HasGlyph bytes → s.held ≡ Nothing
        → t.held ≡ s.held → t.display ≡ after_events (map Print bytes) s.display
        → Feeds m screens s k bytes t k out out
    feeds-prints spelling s t k bytes out have between same is =
        feeds-events s t k k bytes (map Print bytes) out out
        (ap (λ (h : Held). events_from h bytes) between ∙ graphic-events spelling bytes have)
        (same ∙ between ∙ sym (ap (λ (h : Held). held_from h bytes) between ∙ graphic-held spelling bytes have))
        (ap (λ (d : Display). screens d k) is ∙ sym (prints-after bytes s.display k))
        (sym (ap (λ (t : List ℕ). out ++ t) (prints-report bytes (screens s.display k)) ∙ append-nil out))

module _ {S K : Type 0} (m : Machine S) (screens : Display → K → S) (split : SplitLaw) where
  -- no bytes
  pub feeds-nothing : (s : State) (k : K) (out : List ℕ) → IsSoundSized s → Feeds m screens s k [] s k out out
  feeds-nothing s k out sound =
      feeds-events m screens s s k k [] [] out out (split.events_nil s.held sound.held)
      (sym (split.held_nil s.held sound.held)) refl (sym (append-nil out))

  -- one chunk, and the next
  pub feeds-both : (s t u : State) (k l j : K) (a b before out after : List ℕ)
      → Feeds m screens s k a t l before out → Feeds m screens t l b u j out after
      → Feeds m screens s k (a ++ b) u j before after
  feeds-both s t u k l j a b before out after first second =
      let xs = events_from s.held a in
      let ys = events_from (held_from s.held a) b in
      feeds-events m screens s u k j (a ++ b) (xs ++ ys) before after (split.events_append s.held a b)
      (second.held ∙ ap (λ (h : Held). held_from h b) first.held ∙ sym (split.held_append s.held a b))
      (second.screens_are ∙ ap (λ (h : Held). screens_after m (events_from h b) (screens t.display l)) first.held
      ∙ ap (λ (x : S). screens_after m ys x) first.screens_are ∙ sym (screens-append m xs ys (screens s.display k)))
      (second.reports
      ∙ ap (λ (o : List ℕ). o ++ reports_after m (events_from t.held b) (screens t.display l)) first.reports
      ∙ append_assoc before (reports_after m xs (screens s.display k)) (reports_after m (events_from t.held b) (screens t.display l))
      ∙ ap (λ (o : List ℕ). before ++ (reports_after m xs (screens s.display k) ++ o))
      (ap (λ (h : Held). reports_after m (events_from h b) (screens t.display l)) first.held
      ∙ ap (λ (x : S). reports_after m ys x) first.screens_are)
      ∙ ap (λ (o : List ℕ). before ++ o) (sym (reports-append m xs ys (screens s.display k))))

  -- one part of a piece, and the next
  pub feeds-more : (s t u : State) (k l j : K) (piece : List ℕ) (at n : ℕ) (before out after : List ℕ)
      → Feeds m screens s k (take at piece) t l before out → Feeds m screens t l (take n (drop at piece)) u j out after
      → Feeds m screens s k (take (at + n) piece) u j before after
  feeds-more s t u k l j piece at n before out after first second =
      rw (take-add at n piece)
      (feeds-both s t u k l j (take at piece) (take n (drop at piece)) before out after first second)

  -- the same by what is left of the piece
  pub feeds-rest : (s t u : State) (k l j : K) (piece rest : List ℕ) (n : ℕ) (before out after : List ℕ)
      → length rest ≤ length piece → n ≤ length rest → rest ≡ drop (taken piece rest) piece
      → Feeds m screens s k (take (taken piece rest) piece) t l before out → Feeds m screens t l (take n rest) u j out after
      → Feeds m screens s k (take (taken piece (behind n rest)) piece) u j before after
  feeds-rest s t u k l j piece rest n before out after within fits is first second =
      subst (λ (at : ℕ). Feeds m screens s k (take at piece) u j before after) (sym (taken-more piece rest n within fits))
      (feeds-more s t u k l j piece (taken piece rest) n before out after first
      (subst (λ (xs : List ℕ). Feeds m screens t l (take n xs) u j out after) is second))

-- ---- what happens at bytes, in parts

module _ {S : Type 0} (m : Machine S) (split : SplitLaw) where
  pub happenings-both : (s : S) (held : Held) (a b : List ℕ) → IsHeldPart held
      → happenings_on m s held (a ++ b)
      ≡ happenings_on m s held a ++ happenings_on m (screens_after m (events_from held a) s) (held_from held a) b
  happenings-both s held [] b part = rw (split.events_nil held part, split.held_nil held part) refl
  happenings-both s held (x ∷ a) b part =
      let first = events_from held (x ∷ []) in
      let left = held_from held (x ∷ []) in
      let next : S = screens_after m first s in
      let rest = happenings-both next left a b (split.held_part (spell held ++ x ∷ [])) in
      let events : events_from held (x ∷ a) ≡ first ++ events_from left a = split.events_append held (x ∷ []) a in
      let helds : held_from held (x ∷ a) ≡ held_from left a = split.held_append held (x ∷ []) a in
      rw (events, helds, screens-append m first (events_from left a) s, rest) refl

-- a VT220 on its display
pub happenings-vt220 : (s : State) (bytes : List ℕ) → happenings_on vt220 s.display s.held bytes ≡ happenings s bytes
unfolding play scrolled_off
happenings-vt220 s [] = refl
happenings-vt220 s (b ∷ bytes) =
    ap (λ (hs : List Happening). happening s b ∷ hs) (happenings-vt220 (play s (b ∷ [])).state bytes)

pub feeds-vt220 : {K : Type 0} (s t : State) (k l : K) (bytes before after : List ℕ)
    → Feeds vt220 (λ d k. d) s k bytes t l before after
    → (t ≡ (play s bytes).state) × (after ≡ before ++ (play s bytes).reports)
unfolding play
feeds-vt220 s t k l bytes before after fed = (
  ap (λ (d : Display). record { display = d; held = t.held }) fed.screens_are
      ∙ ap (λ (h : Held). record { display = after_events (events_from s.held bytes) s.display; held = h }) fed.held,
  fed.reports,
)

-- lists that are empty if they are joined
none-first : {A : Type 0} (xs ys : List A) → xs ++ ys ≡ [] → xs ≡ []
none-first [] ys is = refl
none-first (x ∷ xs) ys is = absurd (omega (arith, ap length is))

none-second : {A : Type 0} (xs ys : List A) → xs ++ ys ≡ [] → ys ≡ []
none-second [] ys is = is
none-second (x ∷ xs) ys is = absurd (omega (arith, ap length is))

-- bytes without an event
pub silent-front : SplitLaw → (held : Held) (n : ℕ) (bytes : List ℕ) → events_from held bytes ≡ []
    → events_from held (take n bytes) ≡ []
silent-front split held n bytes none =
    none-first (events_from held (take n bytes)) (events_from (held_from held (take n bytes)) (drop n bytes))
    (sym (split.events_append held (take n bytes) (drop n bytes))
    ∙ ap (λ (xs : List ℕ). events_from held xs) (take-append-drop n bytes) ∙ none)

-- a byte without an event
abbrev silent-happening : Held → ℕ → Display → Happening
silent-happening held b d = record { held = held; byte = b; before = d; events = []; lines = [] }

-- one byte after another, of which only the last may have events: what happens depends on the display alone
module _ {S T : Type 0} (m : Machine S) (n : Machine T) (split : SplitLaw) where
  alike : (x : S) (y : T) (held : Held) (bytes : List ℕ) → m.display x ≡ n.display y
      → events_from held (take (length bytes - 1) bytes) ≡ []
      → happenings_on m x held bytes ≡ happenings_on n y held bytes
  alike x y held [] same silent = refl
  alike x y held (b ∷ []) same silent = ap (λ (d : Display). record {
    held = held;
    byte = b;
    before = d;
    events = events_from held (b ∷ []);
    lines = lines_off (events_from held (b ∷ [])) d;
  } ∷ []) same
  alike x y held (b ∷ c ∷ rest) same silent =
      let left = held_from held (b ∷ []) in
      let front : List ℕ = take (length rest) (c ∷ rest) in
      let more : length (b ∷ c ∷ rest) - 1 ≡ suc (length rest) = omega arith in
      let fewer : length (c ∷ rest) - 1 ≡ length rest = omega arith in
      let both : events_from held (b ∷ []) ++ events_from left front ≡ [] =
      sym (split.events_append held (b ∷ []) front) ∙ rw more at silent in
      let first : events_from held (b ∷ []) ≡ [] = none-first (events_from held (b ∷ [])) (events_from left front) both in
      let second : events_from left front ≡ [] = none-second (events_from held (b ∷ [])) (events_from left front) both in
      let rest-alike = alike x y left (c ∷ rest) same (rw fewer second) in
      rw first (ap (λ (d : Display). silent-happening held b d ∷ happenings_on m x left (c ∷ rest)) same
      ∙ ap (λ (hs : List Happening). silent-happening held b (n.display y) ∷ hs) rest-alike)

-- bytes of which only the last may have events are observed as on a VT220
pub happenings-front : {S K : Type 0} (m : Machine S) (screens : Display → K → S) → PrintsAlike m screens → SplitLaw
    → (s : State) (k : K) (bytes : List ℕ) → events_from s.held (take (length bytes - 1) bytes) ≡ []
    → happenings s bytes ≡ happenings_of m screens s k bytes
happenings-front m screens prints split s k bytes silent =
    sym (happenings-vt220 s bytes)
    ∙ alike vt220 m split s.display (screens s.display k) s.held bytes (sym (prints.display s.display k)) silent

-- so are graphic bytes
module _ {S K : Type 0} (m : Machine S) (screens : Display → K → S) (prints : PrintsAlike m screens) (spelling : SpellingLaw) where
  printed : (d : Display) (k : K) (bytes : List ℕ) → All HasGlyph bytes
      → happenings_on vt220 d Nothing bytes ≡ happenings_on m (screens d k) Nothing bytes
  printed d k [] have = refl
  printed d k (b ∷ bytes) have =
      let one : All HasGlyph (b ∷ []) = All-take HasGlyph 1 (b ∷ bytes) have in
      rw (
        graphic-events spelling (b ∷ []) one,
        graphic-held spelling (b ∷ []) one,
        prints.display d k,
        prints.effect b d k,
        printed (effect (Print b) d) k bytes (λ i x h. have (suc i) x (omega (arith, h))),
      ) refl

  pub happenings-printed : (s : State) (k : K) (bytes : List ℕ) → All HasGlyph bytes → s.held ≡ Nothing
      → happenings s bytes ≡ happenings_of m screens s k bytes
  happenings-printed s k bytes have between =
      sym (happenings-vt220 s bytes)
      ∙ ap (λ (h : Held). happenings_on vt220 s.display h bytes) between
      ∙ printed s.display k bytes have
      ∙ ap (λ (h : Held). happenings_on m (screens s.display k) h bytes) (sym between)

-- ---- what an observer saw

module _ {O : Type 0} (Saw : O → List Happening → O → Type 0) (Takes : O → ℕ → Type 0) (joined : AreJoined Saw Takes) where
  -- it may be told of a front of what it may be told of
  pub takes-front : (o : O) (piece : List ℕ) (n : ℕ) → Takes o (length piece) → Takes o (length (take n piece))
  takes-front o piece n = joined.fewer o (length (take n piece)) (length piece) (omega (arith, length-take n piece))

  module _ {S K : Type 0} (m : Machine S) (screens : Display → K → S) where
    -- after the front of a piece, it may be told of what is left
    pub takes-rest : (o p : O) (s : State) (k : K) (piece : List ℕ) (at n : ℕ) → at + n ≡ length piece
        → Saw o (happenings_of m screens s k (take at piece)) p → Takes o (length piece) → Takes p n
    takes-rest o p s k piece at n is saw takes =
        let same : length piece ≡ length (happenings_of m screens s k (take at piece)) + n =
        omega (arith, length-on m (screens s.display k) s.held (take at piece), length-take at piece, is) in
        joined.left o p (happenings_of m screens s k (take at piece)) n saw (rw same at takes)

    module _ (split : SplitLaw) where
      -- one part of a piece, and the next
      pub saw-more : (o p q : O) (s t : State) (k l : K) (piece before out : List ℕ) (at n : ℕ)
          → IsSoundSized s → Feeds m screens s k (take at piece) t l before out
          → Saw o (happenings_of m screens s k (take at piece)) p
          → Saw p (happenings_of m screens t l (take n (drop at piece))) q
          → Saw o (happenings_of m screens s k (take (at + n) piece)) q
      saw-more o p q s t k l piece before out at n sound fed first second =
          let a = take at piece in
          let b = take n (drop at piece) in
          rw (take-add at n piece, happenings-both m split (screens s.display k) s.held a b sound.held)
          (joined.more o p q (happenings_of m screens s k a)
          (happenings_on m (screens_after m (events_from s.held a) (screens s.display k)) (held_from s.held a) b) first
          (rw (← fed.screens_are, ← fed.held) second))

      -- the same by what is left of the piece
      pub saw-rest : (o p q : O) (s t : State) (k l : K) (piece rest before out : List ℕ) (n : ℕ)
          → IsSoundSized s → length rest ≤ length piece → n ≤ length rest → rest ≡ drop (taken piece rest) piece
          → Feeds m screens s k (take (taken piece rest) piece) t l before out
          → Saw o (happenings_of m screens s k (take (taken piece rest) piece)) p
          → Saw p (happenings_of m screens t l (take n rest)) q
          → Saw o (happenings_of m screens s k (take (taken piece (behind n rest)) piece)) q
      saw-rest o p q s t k l piece rest before out n sound within fits is fed first second =
          subst (λ (at : ℕ). Saw o (happenings_of m screens s k (take at piece)) q) (sym (taken-more piece rest n within fits))
          (saw-more o p q s t k l piece before out (taken piece rest) n sound fed first
          (subst (λ (xs : List ℕ). Saw p (happenings_of m screens t l (take n xs)) q) is second))
