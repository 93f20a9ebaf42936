-- Spelled actions are read as just these actions.
use Rattle.std.proofs.Common.{◌≡◌, ℕ, ◌+◌, ◌-◌, ◌≤◌, ◌<◌, ◌⊎◌, inl, inr, Bool, true, false, cond, List, [], ◌∷◌, ◌++◌, length, take, map, All}
use Rattle.std.proofs.Common.{Option, Some, None, IfSome, refl, sym, ap, ap₂, subst, ◌∙◌, arith, append_assoc, append-nil, encode_utf8}
use Rattle.std.proofs.Common.{decimal, option_to_list}
use Rattle.std.specs.Prelude.{nat_lt}
use Rattle.std.specs.Char.{IsScalar}
use Rattle.std.specs.List.{join_with_byte}
use Rattle.std.specs.Str.{IsAscii}
use Rattle.std.proofs.Math.Seq.{take-length}
use Rattle.std.proofs.lemmas.Bool.Decides.{nat_tests}
use Rattle.std.proofs.lemmas.Fmt.{IsAscii-decimal}
use Rattle.std.proofs.lemmas.List.{get_or_default}
use Rattle.std.proofs.lemmas.List.Elements.{All-nil, All-cons, All-head, All-tail}
use Rattle.std.proofs.lemmas.Str.{IsAscii-append}
use Rattle.std.proofs.lemmas.Str.Ascii.{IsAscii-nil, IsAscii-cons}
use Rattle.bstr.specs.Utf8.{Decoded, decoded, good, replacement}
use Rattle.bstr.proofs.lemmas.EncodeLemmas.{decoded-encode}
use Rattle.vt_syntax.specs.declared.event.Event.{Event}
use Rattle.vt_syntax.specs.declared.event.Event.TheVariants as event
use Rattle.vt_syntax.specs.declared.held.Held.{Held}
use Rattle.vt_syntax.specs.declared.held.Held.TheVariants.{Nothing, Text}
use Rattle.vt_syntax.specs.Held.{IsHeldPart, held_after, events_from, held_from, spell_values}
use Rattle.vt_syntax.specs.Reading.{events_of}
use Rattle.vt_syntax.specs.Laws.{SplitLaw, SpellingLaw}
use Rattle.vt_syntax.specs.Spelling.{IsMarker, IsIntermediate, IsEscapeFinal, IsC0, IsC1, IsEvent, spell_event}
use Rattle.vt_utf8.specs.Decoding.{read, given_up, characters, pending_after}
use Rattle.vt_utf8.proofs.Cuts.{read-ascii}
use Rattle.vt_utf8.proofs.Whole.{decoded-whole}
use Rattle.vt_feed.specs.Actions.{Action, Function, Character, actions, read_after}
use Rattle.vt_feed.specs.Languages.{Reading, reading, utf8, asked, held_by, all_asked, held_by_all, beyond, held_beyond}
use Rattle.vt_feed.specs.Spelled.{spell_action, spell, IsSevenBit, IsSpelled, IsReading, given_up_at_escape}
use Rattle.vt_feed.proofs.Playing.{actions-append, read-append}
use Rattle.vt_feed.proofs.Fronts.{events-of, held-of}
use Rattle.vt_feed.proofs.Texts.{ascii-asked, ascii-read, all-asked-append, held-append, bytes-asked, bytes-read}
use Rattle.vt_feed.proofs.Pending.{read-escape, leaves-pending}

-- ---- the 7-bit form of an event is ASCII

one-ascii : (b : ℕ) → b < 128 → IsAscii (b ∷ [])
one-ascii b small = IsAscii-cons b [] small IsAscii-nil

marker-ascii : (marker : Option ℕ) → IfSome marker IsMarker → IsAscii (option_to_list marker)
marker-ascii None is = IsAscii-nil
marker-ascii (Some m) is = one-ascii m (omega (arith, is))

ending-ascii : (inter : Option ℕ) (last : ℕ) → IfSome inter IsIntermediate → last ≤ 0x7E → IsAscii (option_to_list inter ++ last ∷ [])
ending-ascii None last is high = one-ascii last (omega (arith, high))
ending-ascii (Some i) last is high = IsAscii-cons i (last ∷ []) (omega (arith, is)) (one-ascii last (omega (arith, high)))

joined-ascii : (values : List ℕ) → All (λ v. v ≤ 9999) values → IsAscii (join_with_byte 0x3B (map decimal values))
joined-ascii [] small = IsAscii-nil
joined-ascii (v ∷ []) small = let is = All-head (λ v. v ≤ 9999) v [] small in IsAscii-decimal v (omega (arith, is))
joined-ascii (v ∷ w ∷ vs) small =
    let is = All-head (λ v. v ≤ 9999) v (w ∷ vs) small in
    IsAscii-append (decimal v) (0x3B ∷ join_with_byte 0x3B (map decimal (w ∷ vs))) (IsAscii-decimal v (omega (arith, is)))
    (IsAscii-cons 0x3B _ (omega arith) (joined-ascii (w ∷ vs) (All-tail (λ v. v ≤ 9999) v (w ∷ vs) small)))

control-ascii : (b : ℕ) → IsC0 b ⊎ IsC1 b → IsAscii (cond (nat_lt b 0x80) (b ∷ []) (0x1B ∷ (b - 0x40) ∷ []))
control-ascii b (inl is) =
    let low : nat_lt b 0x80 ≡ true = grind (arith, nat_tests) in rw low (one-ascii b (omega (arith, is)))
control-ascii b (inr is) =
    let high : nat_lt b 0x80 ≡ false = grind (arith, nat_tests) in
    rw high (IsAscii-cons 0x1B ((b - 0x40) ∷ []) (omega arith) (one-ascii (b - 0x40) (omega (arith, is))))

final-high : (inter : Option ℕ) (last : ℕ) → IsEscapeFinal inter last → last ≤ 0x7E
final-high None last (inl is) = omega (arith, is)
final-high None last (inr is) = is.1
final-high (Some i) last is = is.1

event-ascii : (e : Event) → IsEvent e → IsSevenBit e → IsAscii (spell_event e)
event-ascii (event.Print b) is left = one-ascii b left
event-ascii (event.Control b) is left = control-ascii b is
event-ascii (event.Escape inter last) is left =
    IsAscii-cons 0x1B _ (omega arith) (ending-ascii inter last is.0 (final-high inter last is.1))
event-ascii (event.Sequence marker params inter last) is left =
    let values : List ℕ = spell_values marker params.items false in
    let ending : List ℕ = option_to_list inter ++ last ∷ [] in
    IsAscii-cons 0x1B (0x5B ∷ (values ++ ending)) (omega arith) (IsAscii-cons 0x5B (values ++ ending) (omega arith)
    (IsAscii-append values ending
    (IsAscii-append (option_to_list marker ++ join_with_byte 0x3B (map decimal params.items)) []
    (IsAscii-append (option_to_list marker) (join_with_byte 0x3B (map decimal params.items)) (marker-ascii marker is.is_marker)
    (joined-ascii params.items is.are_values.small)) IsAscii-nil)
    (ending-ascii inter last is.is_intermediate is.high)))

all-ascii : (bytes : List ℕ) → IsAscii bytes → All (λ b. b < 0x80) bytes
all-ascii bytes h k d l = let e = get_or_default bytes k d 0 l in let small = h k in omega (arith, e, small)

some-bytes : (e : Event) → 1 ≤ length (spell_event e)
some-bytes (event.Print b) = omega arith
some-bytes (event.Control b) = by (nat_lt b 0x80)
  where
    by : (low : Bool) → 1 ≤ length (cond low (b ∷ []) (0x1B ∷ (b - 0x40) ∷ []))
    by true = omega arith
    by false = omega arith
some-bytes (event.Escape inter last) = omega arith
some-bytes (event.Sequence marker params inter last) = omega arith

-- ---- a character's bytes are read as it

record IsRead (bytes : List ℕ) (c : ℕ) : Type 0 where
  pub characters : characters [] bytes ≡ c ∷ []
  pub pending : pending_after [] bytes ≡ []

character-read : (c : ℕ) → IsScalar c → 0x80 ≤ c → IsRead (encode_utf8 c) c
character-read c is above =
    let bytes : List ℕ = encode_utf8 c in
    let found : decoded bytes ≡ good c (length bytes) =
    ap (λ (t : List ℕ). decoded t) (sym (append-nil bytes)) ∙ decoded-encode c [] is in
    let whole = decoded-whole bytes c (length bytes) (ap (λ (d : Decoded). d.char) found)
    (sym (ap (λ (d : Decoded). d.size) found)) above in
    let all : take (length bytes) bytes ≡ bytes = take-length bytes in
    record { characters = rw all at whole.characters; pending = rw all at whole.pending }

-- ---- what bytes ask for between sequences and characters, after which nothing is held or pending

abbrev between : Reading
between = reading Nothing []

pub record Asks (bytes : List ℕ) (xs : List Action) : Type 0 where
  pub asked : actions utf8 between bytes ≡ xs
  pub left : read_after utf8 between bytes ≡ between

both : (a b : List ℕ) (xs ys : List Action) → Asks a xs → Asks b ys → Asks (a ++ b) (xs ++ ys)
both a b xs ys first second = record {
  asked = actions-append utf8 between a b ∙ ap₂ (λ (s t : List Action). s ++ t) first.asked
      (ap (λ (r : Reading). actions utf8 r b) first.left ∙ second.asked);
  left = read-append utf8 between a b ∙ ap (λ (r : Reading). read_after utf8 r b) first.left ∙ second.left;
}

character-asks : (c : ℕ) → IsScalar c → 0x80 ≤ c → Asks (encode_utf8 c) (Character c ∷ [])
character-asks c is above =
    let read = character-read c is above in
    let higher : nat_lt c 0x80 ≡ false = grind (arith, nat_tests) in
    record {
      asked = bytes-asked Nothing [] (encode_utf8 c) ∙ ap (λ (cs : List ℕ). all_asked Nothing cs) read.characters ∙ rw higher refl;
      left = bytes-read Nothing [] (encode_utf8 c)
          ∙ ap₂ (λ (cs p : List ℕ). reading (held_by_all Nothing cs) p) read.characters read.pending ∙ rw higher refl;
    }

module _ (split : SplitLaw) (spelling : SpellingLaw) where
  event-asks : (e : Event) → IsEvent e → IsSevenBit e → Asks (spell_event e) (Function e ∷ [])
  event-asks e is left =
      let bytes : List ℕ = spell_event e in
      let ascii = all-ascii bytes (event-ascii e is left) in
      let alone = All-cons IsEvent e [] is (All-nil IsEvent) in
      let whole : bytes ++ [] ≡ bytes = append-nil bytes in
      let events : events_of bytes ≡ e ∷ [] =
      ap (λ (t : List ℕ). events_of t) (sym whole) ∙ spelling.all_events (e ∷ []) alone in
      let held : held_after bytes ≡ Nothing =
      ap (λ (t : List ℕ). held_after t) (sym whole) ∙ spelling.all_held (e ∷ []) alone in
      record {
        asked = ascii-asked Nothing bytes ascii ∙ events-of split Nothing bytes (some-bytes e)
            ∙ ap (λ (es : List Event). map Function es) events;
        left = ascii-read Nothing bytes ascii ∙ ap (λ (h : Held). reading h []) (held-of split Nothing bytes (some-bytes e) ∙ held);
      }

  action-asks : (x : Action) → IsSpelled x → Asks (spell_action x) (x ∷ [])
  action-asks (Function e) is = event-asks e is.0 is.1
  action-asks (Character c) is = character-asks c is.0 is.1

  pub all-ask : (xs : List Action) → All IsSpelled xs → Asks (spell xs) xs
  all-ask [] are = record { asked = refl; left = refl }
  all-ask (x ∷ xs) are =
      both (spell_action x) (spell xs) (x ∷ []) xs (action-asks x (All-head IsSpelled x xs are)) (all-ask xs (All-tail IsSpelled x xs are))

  -- ---- the same after any reading, if ESC comes first

  nothing-held : IsHeldPart Nothing
  nothing-held = subst IsHeldPart (spelling.all_held [] (All-nil IsEvent)) (split.held_part [])

  beyond-held : (h : Held) → IsHeldPart h → IsHeldPart (held_beyond h)
  beyond-held (Text osc) is = is
  beyond-held h is = nothing-held

  given-up-held : (h : Held) (p : List ℕ) → IsHeldPart h → IsHeldPart (held_by_all h (given_up p))
  given-up-held h [] is = is
  given-up-held h (b ∷ p) is = beyond-held h is

  -- ESC, and what follows
  abbrev first : List Event → Held → List ℕ → List Action
  first events h more = (map Function events ++ []) ++ actions utf8 (reading h []) more

  escape-first : (h : Held) (more : List ℕ) → IsHeldPart h
      → first (events_from h (0x1B ∷ [])) (held_from h (0x1B ∷ [])) more ≡ actions utf8 between (0x1B ∷ more)
  escape-first h more is =
      ap₂ (λ (es : List Event) (k : Held). first es k more) (spelling.escape h [] is) (spelling.escape_held h [] is)
      ∙ sym (rw (read-ascii 0x1B (omega arith)) refl)

  escape-left-first : (h : Held) (more : List ℕ) → IsHeldPart h
      → read_after utf8 (reading (held_from h (0x1B ∷ [])) []) more ≡ read_after utf8 between (0x1B ∷ more)
  escape-left-first h more is =
      ap (λ (k : Held). read_after utf8 (reading k []) more) (spelling.escape_held h [] is)
      ∙ sym (rw (read-ascii 0x1B (omega arith)) refl)

  module _ (r : Reading) (is : IsReading r) (more : List ℕ) where
    abbrev after : Held
    after = held_by_all r.held (given_up r.pending)

    after-held : IsHeldPart after
    after-held = given-up-held r.held r.pending is.held

    escape-asked : actions utf8 r (0x1B ∷ more) ≡ given_up_at_escape r ++ actions utf8 between (0x1B ∷ more)
    escape-asked =
        rw (
          read-escape r.pending is.pending,
          all-asked-append r.held (given_up r.pending) (0x1B ∷ []),
          held-append r.held (given_up r.pending) (0x1B ∷ []),
        )
        (append_assoc (given_up_at_escape r) (map Function (events_from after (0x1B ∷ [])) ++ [])
        (actions utf8 (reading (held_from after (0x1B ∷ [])) []) more)
        ∙ ap (λ (t : List Action). given_up_at_escape r ++ t) (escape-first after more after-held))

    escape-left : read_after utf8 r (0x1B ∷ more) ≡ read_after utf8 between (0x1B ∷ more)
    escape-left =
        rw (read-escape r.pending is.pending, held-append r.held (given_up r.pending) (0x1B ∷ []))
        (escape-left-first after more after-held)

  module _ (r : Reading) (xs : List Action) (more : List ℕ) (is : IsReading r) (are : All IsSpelled xs) (starts : spell xs ≡ 0x1B ∷ more) where
    pub after-escape-asked : actions utf8 r (spell xs) ≡ given_up_at_escape r ++ xs
    after-escape-asked =
        ap (λ (t : List ℕ). actions utf8 r t) starts ∙ escape-asked r is more
        ∙ ap (λ (t : List ℕ). given_up_at_escape r ++ actions utf8 between t) (sym starts)
        ∙ ap (λ (t : List Action). given_up_at_escape r ++ t) (all-ask xs are).asked

    pub after-escape-left : read_after utf8 r (spell xs) ≡ between
    after-escape-left =
        ap (λ (t : List ℕ). read_after utf8 r t) starts ∙ escape-left r is more
        ∙ ap (λ (t : List ℕ). read_after utf8 between t) (sym starts) ∙ (all-ask xs are).left

  -- ---- what bytes leave read

  held-kept : (h : Held) (cs : List ℕ) → IsHeldPart h → IsHeldPart (held_by_all h cs)
  held-kept h [] is = is
  held-kept h (c ∷ cs) is = held-kept (held_by h c) cs (by (nat_lt c 0x80))
    where
      by : (low : Bool) → IsHeldPart (cond low (held_from h (c ∷ [])) (held_beyond h))
      by true = split.held_part _
      by false = beyond-held h is

  pub reading-kept : (r : Reading) (bytes : List ℕ) → IsReading r → IsReading (read_after utf8 r bytes)
  reading-kept r [] is = is
  reading-kept r (b ∷ bytes) is = reading-kept (utf8.next r b) bytes (record {
    held = held-kept r.held (read r.pending b).characters is.held;
    pending = leaves-pending r.pending b;
  })

  pub between-reading : IsReading between
  between-reading = record { held = nothing-held; pending = refl }

pub gives-up : (r : Reading) → (given_up_at_escape r ≡ []) ⊎ (given_up_at_escape r ≡ Character replacement ∷ [])
gives-up r = by r.held r.pending
  where
    beyond-one : (h : Held) → (beyond h replacement ++ [] ≡ []) ⊎ (beyond h replacement ++ [] ≡ Character replacement ∷ [])
    beyond-one (Text osc) = inl refl
    beyond-one h = inr refl

    by : (h : Held) (p : List ℕ) → (all_asked h (given_up p) ≡ []) ⊎ (all_asked h (given_up p) ≡ Character replacement ∷ [])
    by h [] = inl refl
    by h (b ∷ p) = beyond-one h
