-- The spelling of what is held, and of events, one step after another.
use Rattle.std.proofs.Common.{◌≡◌, ℕ, ◌+◌, ◌*◌, ◌/◌, ◌%◌, ◌<◌, ◌≤◌, Bool, true, false, cond, List, [], ◌∷◌, ◌++◌}
use Rattle.std.proofs.Common.{length, map, Option, Some, None, refl, ◌∙◌, append_assoc, arith, length-append, All}
use Rattle.std.proofs.Common.{IfSome, decimal, option_to_list}
use Rattle.std.specs.List.{join_with_byte}
use Rattle.std.specs.Str.{IsAscii}
use Rattle.std.proofs.lemmas.Bool.Decides.{nat_tests}
use Rattle.std.proofs.lemmas.Fmt.{decimal_by_steps, IsAscii-decimal}
use Rattle.std.proofs.lemmas.List.{get_or_default}
use Rattle.std.proofs.lemmas.List.Elements.{All-nil, All-cons, All-head, All-tail}
use Rattle.std.proofs.lemmas.Str.{IsAscii-append}
use Rattle.std.proofs.lemmas.Str.Ascii.{IsAscii-nil, IsAscii-cons}
use Rattle.vt_syntax.specs.declared.event.Event.{Event}
use Rattle.vt_syntax.specs.declared.event.Event.TheVariants as event
use Rattle.vt_syntax.specs.declared.held.Held.{Held}
use Rattle.vt_syntax.specs.declared.held.Held.TheVariants.{Nothing, Escape, Control, Spoilt, Text}
use Rattle.vt_syntax.specs.declared.held.Inters.TheVariants.{Zero, One, Many}
use Rattle.vt_syntax.specs.declared.held.Phase.{Phase}
use Rattle.vt_syntax.specs.declared.held.Phase.TheVariants.{Start, Values, Inter}
use Rattle.vt_syntax.specs.Class.{class_of, opens_string, IsPlain}
use Rattle.vt_syntax.specs.Items.{ends_string}
use Rattle.vt_syntax.specs.Held.{spell_values, spell}
use Rattle.vt_syntax.specs.Spelling.{IsMarker, IsIntermediate, AreValues, IsEvent, spell_event, spell_events}
use Rattle.vt_syntax.specs.Steps.{step_to, opened_by, step_of, IsEarly, steps}
use Rattle.vt_syntax.specs.Whole.{marker_phase, begun}
use Rattle.vt_syntax.proofs.Steps.{steps_append, steps_one, digit_step, separator_step}
use Rattle.vt_syntax.proofs.Ranges.{InRange}

-- ---- the values of a control sequence

marker_steps : (marker : Option ℕ) → IfSome marker IsMarker
    → steps (opened_by 0x9B) (option_to_list marker) ≡ step_to (begun marker) []
unfolding steps step_of class_of
marker_steps marker h = grind (arith, nat_tests)

pub early_marker : (marker : Option ℕ) → IsEarly (marker_phase marker)
early_marker None = tt
early_marker (Some m) = tt

module _ (marker : Option ℕ) where
  -- it holds these values, and may take more
  abbrev with_values : List ℕ → Phase → Held
  with_values values phase = Control marker (record { items = values }) false phase

  one_digit : (xs : List ℕ) (phase : Phase) (v d w : ℕ) → IsEarly phase → d < 10 → w ≡ v * 10 + d → w ≤ 9999
      → steps (with_values (xs ++ v ∷ []) phase) ((48 + d) ∷ []) ≡ step_to (with_values (xs ++ w ∷ []) Values) []
  one_digit xs phase v d w early digit is small =
      steps_one (with_values (xs ++ v ∷ []) phase) (48 + d)
      ∙ digit_step marker xs v w phase (48 + d) early (omega arith) (omega arith) (omega arith) small

  decimal_steps : (xs : List ℕ) (phase : Phase) (v : ℕ) → IsEarly phase → v ≤ 9999
      → steps (with_values (xs ++ 0 ∷ []) phase) (decimal v) ≡ step_to (with_values (xs ++ v ∷ []) Values) []
  decimal_steps xs phase v early small =
      decimal_by_steps (λ n ds. n ≤ 9999 → steps (with_values (xs ++ 0 ∷ []) phase) ds
      ≡ step_to (with_values (xs ++ n ∷ []) Values) [])
      (λ n low fits. one_digit xs phase 0 n n early low (omega arith) fits)
      (λ n ds big so_far fits.
      rw (steps_append, so_far (omega arith))
      (one_digit xs Values (n / 10) (n % 10) n tt (omega arith) (omega arith) fits))
      v (omega arith) small

  joined_steps : (xs : List ℕ) (phase : Phase) (v : ℕ) (vs : List ℕ) → IsEarly phase → All (λ n. n ≤ 9999) (v ∷ vs)
      → length xs + length (v ∷ vs) ≤ 16
      → steps (with_values (xs ++ 0 ∷ []) phase) (join_with_byte 0x3B (map decimal (v ∷ vs)))
      ≡ step_to (with_values (xs ++ v ∷ vs) Values) []
  unfolding steps
  joined_steps xs phase v [] early small few = decimal_steps xs phase v early (All-head (λ n. n ≤ 9999) v [] small)
  joined_steps xs phase v (w ∷ vs) early small few =
      rw (
        steps_append,
        decimal_steps xs phase v early (All-head (λ n. n ≤ 9999) v (w ∷ vs) small),
        separator_step marker xs v Values tt (omega arith),
      )
      (joined_steps (xs ++ v ∷ []) Values w vs tt (All-tail (λ n. n ≤ 9999) v (w ∷ vs) small)
      (simp length-append (omega arith))
      ∙ rw append_assoc refl)

  -- a `;` after 16 values
  full_steps : (values : List ℕ) (full : Bool) → (full ≡ true → length values ≡ 16)
      → steps (with_values values Values) (cond full (0x3B ∷ []) [])
      ≡ step_to (Control marker (record { items = values }) full Values) []
  unfolding steps step_of class_of
  full_steps values full all = grind (arith, nat_tests)

  values_steps : (values : List ℕ) (full : Bool) → IfSome marker IsMarker → AreValues values
      → (full ≡ true → length values ≡ 16)
      → steps (opened_by 0x9B) (spell_values marker values full)
      ≡ step_to (Control marker (record { items = values }) full Values) []
  values_steps [] full m h all = absurd (omega (arith, h.some))
  values_steps (v ∷ vs) full m h all =
      rw (
        steps_append,
        steps_append,
        marker_steps marker m,
        joined_steps [] (marker_phase marker) v vs (early_marker marker) h.small (omega (arith, h.few)),
      ) (full_steps (v ∷ vs) full all)

-- ---- what is held

pub spelled_steps : (held : Held) → InRange held → steps Nothing (spell held) ≡ step_to held []
unfolding steps step_of class_of opens_string
spelled_steps (Control marker params full Values) h =
    values_steps marker params.items full h.is_marker h.are_values h.all_there
spelled_steps (Control marker params full (Inter i)) h =
    let values = values_steps marker params.items full h.is_marker h.are_values h.all_there in
    steps_append (opened_by 0x9B) (spell_values marker params.items full) (i ∷ [])
    ∙ rw values (grind (arith, nat_tests))
spelled_steps held h = grind (arith, nat_tests)

-- the spelling of a held part consists of bytes: a control that opens something, and ASCII
abbrev IsByte : ℕ → Type 0
IsByte b = b ≤ 0xFF

pub ascii_bytes : (bytes : List ℕ) → IsAscii bytes → All (λ b. b ≤ 0xFF) bytes
ascii_bytes bytes h k d l = let e = get_or_default bytes k d 0 l in let small = h k in omega (arith, e, small)

first_and : (b : ℕ) (bytes : List ℕ) → b ≤ 0xFF → IsAscii bytes → All (λ b. b ≤ 0xFF) (b ∷ bytes)
first_and b bytes small h = All-cons IsByte b bytes small (ascii_bytes bytes h)

one_ascii : (b : ℕ) → b < 128 → IsAscii (b ∷ [])
one_ascii b small = IsAscii-cons b [] small IsAscii-nil

marker_ascii : (marker : Option ℕ) → IfSome marker IsMarker → IsAscii (option_to_list marker)
marker_ascii None h = IsAscii-nil
marker_ascii (Some m) h = one_ascii m (omega (arith, h))

joined_ascii : (values : List ℕ) → All (λ v. v ≤ 9999) values → IsAscii (join_with_byte 0x3B (map decimal values))
joined_ascii [] h = IsAscii-nil
joined_ascii (v ∷ []) h =
    let small = All-head (λ v. v ≤ 9999) v [] h in IsAscii-decimal v (omega (arith, small))
joined_ascii (v ∷ w ∷ vs) h =
    let small = All-head (λ v. v ≤ 9999) v (w ∷ vs) h in
    IsAscii-append (decimal v) (0x3B ∷ join_with_byte 0x3B (map decimal (w ∷ vs))) (IsAscii-decimal v (omega (arith, small)))
    (IsAscii-cons 0x3B _ (omega arith) (joined_ascii (w ∷ vs) (All-tail (λ v. v ≤ 9999) v (w ∷ vs) h)))

full_ascii : (full : Bool) → IsAscii (cond full (0x3B ∷ []) [])
full_ascii true = one_ascii 0x3B (omega arith)
full_ascii false = IsAscii-nil

values_ascii : (marker : Option ℕ) (values : List ℕ) (full : Bool) → IfSome marker IsMarker → AreValues values
    → IsAscii (spell_values marker values full)
values_ascii marker values full m are =
    IsAscii-append (option_to_list marker ++ join_with_byte 0x3B (map decimal values)) (cond full (0x3B ∷ []) [])
    (IsAscii-append (option_to_list marker) (join_with_byte 0x3B (map decimal values)) (marker_ascii marker m)
    (joined_ascii values are.small)) (full_ascii full)

pub spelled_bytes : (held : Held) → InRange held → All (λ b. b ≤ 0xFF) (spell held)
spelled_bytes Nothing h = All-nil IsByte
spelled_bytes (Escape Zero) h = first_and 0x1B [] (omega arith) IsAscii-nil
spelled_bytes (Escape (One i)) h = first_and 0x1B (i ∷ []) (omega arith) (one_ascii i (omega (arith, h)))
spelled_bytes (Escape Many) h =
    first_and 0x1B (0x20 ∷ 0x20 ∷ []) (omega arith) (IsAscii-cons 0x20 (0x20 ∷ []) (omega arith) (one_ascii 0x20 (omega arith)))
spelled_bytes (Control marker params full Start) h = first_and 0x9B [] (omega arith) IsAscii-nil
spelled_bytes (Control marker params full Values) h =
    first_and 0x9B _ (omega arith) (values_ascii marker params.items full h.is_marker h.are_values)
spelled_bytes (Control marker params full (Inter i)) h =
    let inter = h.in_phase in
    first_and 0x9B _ (omega arith)
    (IsAscii-append (spell_values marker params.items full) (i ∷ [])
    (values_ascii marker params.items full h.is_marker h.are_values) (one_ascii i (omega (arith, inter))))
spelled_bytes Spoilt h = first_and 0x9B (0x3A ∷ []) (omega arith) (one_ascii 0x3A (omega arith))
spelled_bytes (Text true) h = first_and 0x9D [] (omega arith) IsAscii-nil
spelled_bytes (Text false) h = first_and 0x90 [] (omega arith) IsAscii-nil

-- ---- events

-- an intermediate or none, and a final
sequence_ended : (marker : Option ℕ) (values : List ℕ) (inter : Option ℕ) (last : ℕ) → IfSome inter IsIntermediate
    → 0x40 ≤ last → last ≤ 0x7E
    → steps (with_values marker values Values) (option_to_list inter ++ last ∷ [])
    ≡ step_to Nothing (event.Sequence marker (record { items = values }) inter last ∷ [])
unfolding steps step_of class_of
sequence_ended marker values inter last h low high = grind (arith, nat_tests)

pub event_steps : (event : Event) → IsEvent event → steps Nothing (spell_event event) ≡ step_to Nothing (event ∷ [])
unfolding steps step_of class_of opens_string
event_steps (event.Sequence marker params inter last) h =
    let values = values_steps marker params.items false h.is_marker h.are_values (λ e. absurd cc) in
    let ended = sequence_ended marker params.items inter last h.is_intermediate h.low h.high in
    steps_append (opened_by 0x9B) (spell_values marker params.items false) (option_to_list inter ++ last ∷ [])
    ∙ rw (values, ended) refl
event_steps event h = grind (arith, nat_tests)

pub events_steps : (events : List Event) → All IsEvent events → steps Nothing (spell_events events)
    ≡ step_to Nothing events
unfolding steps
events_steps [] h = refl
events_steps (event ∷ events) h =
    rw (
      steps_append,
      event_steps event (All-head IsEvent event events h),
      events_steps events (All-tail IsEvent event events h),
    ) refl

pub plain_steps : (run : List ℕ) → All IsPlain run → steps Nothing run ≡ step_to Nothing (map event.Print run)
unfolding steps step_of opens_string
plain_steps [] h = refl
plain_steps (b ∷ run) h =
    let plain = All-head IsPlain b run h in
    let ih = plain_steps run (All-tail IsPlain b run h) in
    grind (arith, nat_tests)

-- ESC ends anything
pub escape_step : (held : Held) (more : List ℕ) → steps held (0x1B ∷ more) ≡ steps Nothing (0x1B ∷ more)
unfolding steps step_of class_of ends_string
escape_step held more = grind (arith, nat_tests)
