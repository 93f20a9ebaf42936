-- Events at the front of a chunk, each byte read by itself.
use Rattle.std.proofs.Common.{◌≡◌, ℕ, ◌+◌, ◌-◌, ◌≤◌, List, [], ◌∷◌, ◌++◌, take, drop, length, map, refl, sym, ap, ◌∙◌, arith, All, inl, inr}
use Rattle.std.proofs.Common.{append-nil, length-take, length-drop}
use Rattle.std.proofs.lemmas.List.Elements.{All-nil, All-cons, All-head, All-tail}
use Rattle.std.specs.Prelude.{slice_index, ◌⊎◌}
use Rattle.vt_syntax.proofs.Fronts.{front_single, front_graphic}
use Rattle.std.proofs.Math.Seq.{take-add}
use Rattle.vt_syntax.specs.declared.event.Event.{Event}
use Rattle.vt_syntax.specs.declared.event.Event.TheVariants.{Print, Control}
use Rattle.vt_syntax.specs.declared.held.Held.{Held}
use Rattle.vt_syntax.specs.declared.held.Held.TheVariants.{Nothing}
use Rattle.vt_syntax.specs.Front.{IsFront}
use Rattle.vt_syntax.specs.Held.{events_from, held_from}
use Rattle.vt_syntax.specs.Class.{IsPlain, opens_string}
use Rattle.vt_syntax.specs.Laws.{SplitLaw, SpellingLaw}
use Rattle.vt_syntax.specs.Spelling.{IsEvent, IsGraphic}
use Rattle.vt_glyph.specs.Invocation.{HasGlyph}
use Rattle.vt_feed.specs.Actions.{Action, Function, MachineOf, Plays, printed, actions, read_after, state_after, reports}
use Rattle.vt_feed.specs.Languages.{eight_bit}
use Rattle.vt_feed.specs.Observing.{Happening, Byte, Does, happenings, silent, prints, AreJoined}
use Rattle.std.proofs.lemmas.List.{map-append}

-- lists that are empty if they are joined
pub none-first : {A : Type 0} (xs ys : List A) → xs ++ ys ≡ [] → xs ≡ []
none-first [] ys is = refl
none-first (x ∷ xs) ys is = absurd (omega (arith, ap length is))

pub none-second : {A : Type 0} (xs ys : List A) → xs ++ ys ≡ [] → ys ≡ []
none-second [] ys is = is
none-second (x ∷ xs) ys is = absurd (omega (arith, ap length is))

module _ (split : SplitLaw) where
  pub asked-events : (held : Held) (b : ℕ) (bytes : List ℕ)
      → actions eight_bit held (b ∷ bytes) ≡ map Function (events_from held (b ∷ bytes))
  asked-events held b [] = append-nil (map Function (events_from held (b ∷ [])))
  asked-events held b (c ∷ bytes) =
      let left : Held = held_from held (b ∷ []) in
      ap (λ (t : List Action). map Function (events_from held (b ∷ [])) ++ t) (asked-events left c bytes)
      ∙ sym (ap (λ (es : List Event). map Function es) (split.events_append held (b ∷ []) (c ∷ bytes))
      ∙ map-append Function (events_from held (b ∷ [])) (events_from left (c ∷ bytes)))

  pub read-held : (held : Held) (b : ℕ) (bytes : List ℕ) → read_after eight_bit held (b ∷ bytes) ≡ held_from held (b ∷ bytes)
  read-held held b [] = refl
  read-held held b (c ∷ bytes) =
      read-held (held_from held (b ∷ [])) c bytes ∙ sym (split.held_append held (b ∷ []) (c ∷ bytes))

  pub events-of : (held : Held) (bytes : List ℕ) → 1 ≤ length bytes → actions eight_bit held bytes ≡ map Function (events_from held bytes)
  events-of held [] some = absurd (omega (arith, some))
  events-of held (b ∷ bytes) some = asked-events held b bytes

  pub held-of : (held : Held) (bytes : List ℕ) → 1 ≤ length bytes → read_after eight_bit held bytes ≡ held_from held bytes
  held-of held [] some = absurd (omega (arith, some))
  held-of held (b ∷ bytes) some = read-held held b bytes

  module _ {S : Type 0} (m : MachineOf S) where
    -- bytes without an event
    pub are-silent : (held : Held) (s : S) (bytes : List ℕ) → events_from held bytes ≡ []
        → happenings eight_bit m held s bytes ≡ silent bytes
    are-silent held s [] none = refl
    are-silent held s (b ∷ []) none = rw none refl
    are-silent held s (b ∷ c ∷ bytes) none =
        let left : Held = held_from held (b ∷ []) in
        let both : events_from held (b ∷ []) ++ events_from left (c ∷ bytes) ≡ [] =
        sym (split.events_append held (b ∷ []) (c ∷ bytes)) ∙ none in
        rw (none-first (events_from held (b ∷ [])) (events_from left (c ∷ bytes)) both)
        (ap (λ (hs : List (Happening S)). Byte ∷ hs)
        (are-silent left s (c ∷ bytes) (none-second (events_from held (b ∷ [])) (events_from left (c ∷ bytes)) both)))

    pub silent-told : {O : Type 0} (Saw : O → List (Happening S) → O → Type 0) (o p : O) (held : Held) (s : S) (bytes : List ℕ)
        → events_from held bytes ≡ [] → Saw o (silent bytes) p → Saw o (happenings eight_bit m held s bytes) p
    silent-told Saw o p held s bytes none saw = rw (are-silent held s bytes none) saw

    -- bytes of which the last one completes the one event
    pub one-event : (held : Held) (s : S) (bytes : List ℕ) (b : ℕ) (event : Event) → events_from held bytes ≡ []
        → events_from held (bytes ++ b ∷ []) ≡ event ∷ []
        → happenings eight_bit m held s (bytes ++ b ∷ []) ≡ silent (bytes ++ b ∷ []) ++ Does (Function event) s ∷ []
    one-event held s [] b event none one = rw one refl
    one-event held s (c ∷ bytes) b event none one =
        let left : Held = held_from held (c ∷ []) in
        let first : events_from held (c ∷ []) ≡ [] = go bytes none in
        rw first (ap (λ (hs : List (Happening S)). Byte ∷ hs) (one-event left s bytes b event (after bytes none first) (last first)))
      where
        go : (rest : List ℕ) → events_from held (c ∷ rest) ≡ [] → events_from held (c ∷ []) ≡ []
        go [] is = is
        go (d ∷ rest) is = none-first (events_from held (c ∷ [])) (events_from (held_from held (c ∷ [])) (d ∷ rest))
            (sym (split.events_append held (c ∷ []) (d ∷ rest)) ∙ is)

        after : (rest : List ℕ) → events_from held (c ∷ rest) ≡ [] → events_from held (c ∷ []) ≡ []
            → events_from (held_from held (c ∷ [])) rest ≡ []
        after rest is first = none-second (events_from held (c ∷ [])) (events_from (held_from held (c ∷ [])) rest)
            (sym (split.events_append held (c ∷ []) rest) ∙ is)

        last : events_from held (c ∷ []) ≡ [] → events_from (held_from held (c ∷ [])) (bytes ++ b ∷ []) ≡ event ∷ []
        last first = ap (λ (es : List Event). es ++ events_from (held_from held (c ∷ [])) (bytes ++ b ∷ [])) (sym first)
            ∙ sym (split.events_append held (c ∷ []) (bytes ++ b ∷ [])) ∙ one

    -- the last byte of a front
    with-last : (held : Held) (s : S) (bytes last : List ℕ) (event : Event) → length last ≡ 1 → events_from held bytes ≡ []
        → events_from held (bytes ++ last) ≡ event ∷ []
        → happenings eight_bit m held s (bytes ++ last) ≡ silent (bytes ++ last) ++ Does (Function event) s ∷ []
    with-last held s bytes [] event is none one = absurd (omega (arith, is))
    with-last held s bytes (b ∷ []) event is none one = one-event held s bytes b event none one
    with-last held s bytes (b ∷ c ∷ more) event is none one = absurd (omega (arith, is))

    -- an event that the first n bytes of a piece are
    pub front-does : (held : Held) (s : S) (piece : List ℕ) (n : ℕ) (event : Event) → 1 ≤ n → n ≤ length piece
        → events_from held (take (n - 1) piece) ≡ [] → events_from held (take n piece) ≡ event ∷ []
        → happenings eight_bit m held s (take n piece) ≡ silent (take n piece) ++ Does (Function event) s ∷ []
    front-does held s piece n event some within none one =
        let last : List ℕ = take 1 (drop (n - 1) piece) in
        let whole : n ≡ (n - 1) + 1 = omega (arith, some) in
        let parts : take n piece ≡ take (n - 1) piece ++ last = ap (λ (k : ℕ). take k piece) whole ∙ take-add (n - 1) 1 piece in
        let alone : length last ≡ 1 =
        length-take 1 (drop (n - 1) piece) ∙ omega (arith, some, within, length-drop (n - 1) piece) in
        rw parts (with-last held s (take (n - 1) piece) last event alone none (rw (← parts) one))

    pub front-plays : (held : Held) (s t : S) (h : Held) (piece : List ℕ) (n : ℕ) (event : Event) (before after : List ℕ) → 1 ≤ n
        → n ≤ length piece → events_from held (take n piece) ≡ event ∷ [] → h ≡ held_from held (take n piece)
        → t ≡ m.effect (Function event) s → after ≡ before ++ m.report (Function event) s
        → Plays eight_bit m held s (take n piece) h t before after
    front-plays held s t h piece n event before after some within one left state told =
        let long : 1 ≤ length (take n piece) = omega (arith, some, within, length-take n piece) in
        let asked : actions eight_bit held (take n piece) ≡ Function event ∷ [] =
        events-of held (take n piece) long ∙ ap (λ (es : List Event). map Function es) one in
        record {
          state = rw asked state;
          read = left ∙ sym (held-of held (take n piece) long);
          reports_are = rw asked (told ∙ ap (λ (o : List ℕ). before ++ o) (sym (append-nil (m.report (Function event) s))));
        }

    -- the same of what the fronts read, between sequences
    pub first-plays : (held : Held) (s t : S) (piece : List ℕ) (n : ℕ) (event : Event) (before after : List ℕ) → held ≡ Nothing
        → IsFront piece n event → t ≡ m.effect (Function event) s → after ≡ before ++ m.report (Function event) s
        → Plays eight_bit m held s (take n piece) held t before after
    first-plays held s t piece n event before after between front state told =
        front-plays held s t held piece n event before after front.some front.within
        (ap (λ (h : Held). events_from h (take n piece)) between ∙ front.events)
        (between ∙ sym (ap (λ (h : Held). held_from h (take n piece)) between ∙ front.held)) state told

    module _ {O : Type 0} (Saw : O → List (Happening S) → O → Type 0) (joined : AreJoined Saw) where
      pub does-told : (o p q : O) (held : Held) (s : S) (piece : List ℕ) (n : ℕ) (event : Event) → 1 ≤ n → n ≤ length piece
          → events_from held (take (n - 1) piece) ≡ [] → events_from held (take n piece) ≡ event ∷ []
          → Saw o (silent (take n piece)) p → Saw p (Does (Function event) s ∷ []) q
          → Saw o (happenings eight_bit m held s (take n piece)) q
      does-told o p q held s piece n event some within none one first second =
          rw (front-does held s piece n event some within none one)
          (joined.more o p q (silent (take n piece)) (Does (Function event) s ∷ []) first second)

      pub first-does : (o p q : O) (held : Held) (s : S) (piece : List ℕ) (n : ℕ) (event : Event) → held ≡ Nothing
          → IsFront piece n event → Saw o (silent (take n piece)) p → Saw p (Does (Function event) s ∷ []) q
          → Saw o (happenings eight_bit m held s (take n piece)) q
      first-does o p q held s piece n event between front =
          does-told o p q held s piece n event front.some front.within
          (ap (λ (h : Held). events_from h (take (n - 1) piece)) between ∙ front.last)
          (ap (λ (h : Held). events_from h (take n piece)) between ∙ front.events)

    -- bytes without an event
    pub silent-plays : (held : Held) (s : S) (h : Held) (bytes out : List ℕ) → 1 ≤ length bytes → events_from held bytes ≡ []
        → h ≡ held_from held bytes → Plays eight_bit m held s bytes h s out out
    silent-plays held s h bytes out some none left =
        let asked : actions eight_bit held bytes ≡ [] =
        events-of held bytes some ∙ ap (λ (es : List Event). map Function es) none in
        record {
          state = rw asked refl;
          read = left ∙ sym (held-of held bytes some);
          reports_are = rw asked (sym (append-nil out));
        }

-- graphic bytes between sequences are printed
graphic : (b : ℕ) → HasGlyph b → IsGraphic b
graphic b (inl h) = inl h
graphic b (inr h) = inr (omega arith)

pub plain-have : (bytes : List ℕ) → All IsPlain bytes → All HasGlyph bytes
plain-have bytes plain = λ i x h. inl (plain i x h)

module _ (spelling : SpellingLaw) where
  is-event : (b : ℕ) → HasGlyph b → All IsEvent (Print b ∷ [])
  is-event b has = All-cons IsEvent (Print b) [] (graphic b has) (All-nil IsEvent)

  print-event : (b : ℕ) → HasGlyph b → events_from Nothing (b ∷ []) ≡ Print b ∷ []
  print-event b has = spelling.all_events (Print b ∷ []) (is-event b has)

  print-held : (b : ℕ) → HasGlyph b → held_from Nothing (b ∷ []) ≡ Nothing
  print-held b has = spelling.all_held (Print b ∷ []) (is-event b has)

  module _ {S : Type 0} (m : MachineOf S) where
    prints-told : (s : S) (bytes : List ℕ) → All HasGlyph bytes → happenings eight_bit m Nothing s bytes ≡ prints m s bytes
    prints-told s [] have = refl
    prints-told s (b ∷ bytes) have =
        rw (print-event b (All-head HasGlyph b bytes have), print-held b (All-head HasGlyph b bytes have))
        (ap (λ (hs : List (Happening S)). Byte ∷ Does (printed b) s ∷ hs)
        (prints-told (m.effect (printed b) s) bytes (All-tail HasGlyph b bytes have)))

    prints-asked : (bytes : List ℕ) → All HasGlyph bytes → actions eight_bit Nothing bytes ≡ map printed bytes
    prints-asked [] have = refl
    prints-asked (b ∷ bytes) have =
        rw (print-event b (All-head HasGlyph b bytes have), print-held b (All-head HasGlyph b bytes have))
        (ap (λ (t : List Action). printed b ∷ t) (prints-asked bytes (All-tail HasGlyph b bytes have)))

    prints-held : (bytes : List ℕ) → All HasGlyph bytes → read_after eight_bit Nothing bytes ≡ Nothing
    prints-held [] have = refl
    prints-held (b ∷ bytes) have =
        rw (print-held b (All-head HasGlyph b bytes have)) (prints-held bytes (All-tail HasGlyph b bytes have))

    prints-report : ((b : ℕ) (s : S) → m.report (printed b) s ≡ []) → (s : S) (bytes : List ℕ) → reports m (map printed bytes) s ≡ []
    prints-report none s [] = refl
    prints-report none s (b ∷ bytes) = rw (none b s) (prints-report none (m.effect (printed b) s) bytes)

    pub prints-play : ((b : ℕ) (s : S) → m.report (printed b) s ≡ []) → (held : Held) (s t : S) (bytes out : List ℕ)
        → All HasGlyph bytes → held ≡ Nothing → t ≡ state_after m (map printed bytes) s
        → Plays eight_bit m held s bytes held t out out
    prints-play none held s t bytes out have between is =
        let asked : actions eight_bit held bytes ≡ map printed bytes =
        ap (λ (h : Held). actions eight_bit h bytes) between ∙ prints-asked bytes have in
        record {
          state = rw asked is;
          read = between ∙ sym (ap (λ (h : Held). read_after eight_bit h bytes) between ∙ prints-held bytes have);
          reports_are = rw (asked, prints-report none s bytes) (sym (append-nil out));
        }

    pub prints-saw : {O : Type 0} (Saw : O → List (Happening S) → O → Type 0) (o p : O) (held : Held) (s : S) (bytes : List ℕ)
        → All HasGlyph bytes → held ≡ Nothing → Saw o (prints m s bytes) p → Saw o (happenings eight_bit m held s bytes) p
    prints-saw Saw o p held s bytes have between saw = rw (between, prints-told s bytes have) saw

-- ---- an event of one byte at the front of a piece, between sequences

module _ (piece : List ℕ) (some : 1 ≤ length piece) where
  pub return-front : slice_index piece 0 ≡ 0x0D → IsFront piece 1 (Control 0x0D)
  unfolding opens_string
  return-front is = rw is at (front_single piece some (rw is refl))

  pub empty-front : ((slice_index piece 0 ≡ 0xA0) ⊎ (0xFF ≤ slice_index piece 0)) → IsFront piece 1 (Print (slice_index piece 0))
  empty-front is = front_graphic piece some (inr (omega (arith, is)))

pub some-taken : (piece : List ℕ) (n : ℕ) → 1 ≤ n → n ≤ length piece → 1 ≤ length (take n piece)
some-taken piece n some within = omega (arith, some, within, length-take n piece)
