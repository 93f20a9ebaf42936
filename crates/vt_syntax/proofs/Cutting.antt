-- The split reads what one step after another does; so the laws of the syntax are laws of steps.
use Rattle.std.proofs.Common.{◌≤◌, ◌≡◌, ℕ, List, [], ◌∷◌, ◌++◌, Option, Some, None, false, refl, sym, ap, ◌∙◌, append_assoc}
use Rattle.std.proofs.Common.{append-nil, arith, flat_map, All, IfSome, option_to_list}
use Rattle.std.proofs.lemmas.Bool.Decides.{nat_tests}
use Rattle.std.proofs.lemmas.List.Concat.{flat_map-append}
use Rattle.std.proofs.lemmas.List.Elements.{All-head, All-same}
use Rattle.vt_syntax.specs.declared.event.Event.{Event}
use Rattle.vt_syntax.specs.declared.event.EventKind.{EventKind}
use Rattle.vt_syntax.specs.declared.held.Held.{Held}
use Rattle.vt_syntax.specs.declared.held.Held.TheVariants.{Nothing}
use Rattle.vt_syntax.specs.Class.{is_opener}
use Rattle.vt_syntax.specs.Event.{event_of, event_in}
use Rattle.vt_syntax.specs.Items.{Beginning, rest_bytes, IsRest}
use Rattle.vt_syntax.specs.Spelling.{IsEvent}
use Rattle.vt_syntax.specs.Split.{split_one, split_after, split_of}
use Rattle.vt_syntax.specs.Reading.{single_function, reading, rest_reading, events_of}
use Rattle.vt_syntax.specs.Held.{held_of, held_after, IsHeldPart, spell, events_from, held_from}
use Rattle.vt_syntax.specs.Steps.{Step, step_to, step_of, steps}
use Rattle.vt_syntax.proofs.Splits.{last_is_rest, split_only}
use Rattle.vt_syntax.proofs.Steps.{steps_append, steps_one, same_events}
use Rattle.vt_syntax.proofs.OneByte.{Matches, byte_matches}
use Rattle.vt_syntax.proofs.Ranges.{InRange, steps_range}
use Rattle.vt_syntax.proofs.Spelled.{spelled_steps, spelled_bytes, escape_step}

runs : (bytes : List ℕ) (rest : Option Beginning)
    → Matches (rest_reading rest) (split_after rest bytes) (steps (held_of rest) bytes)
unfolding split_after steps
runs [] rest = record { held = refl; events = sym (append-nil (rest_reading rest)) }
runs (b ∷ bytes) rest =
    let now = split_one rest b in
    let m = byte_matches rest b in
    let ih = runs bytes now.rest in
    rw (← m.held) (record {
      held = ih.held;
      events =
          rw (flat_map-append, append_assoc, ih.events)
          (rw (← append_assoc (flat_map reading now.items), m.events, append_assoc) refl);
    })

-- ---- bytes, as one step

pub read : (bytes : List ℕ) → step_to (held_after bytes) (events_of bytes) ≡ steps Nothing bytes
read bytes = let m = runs bytes None in rw (m.held, m.events) refl

-- the bytes of a rest
rest_steps : (rest : Option Beginning) → IsRest rest
    → steps Nothing (rest_bytes rest) ≡ step_to (held_of rest) (rest_reading rest)
rest_steps rest h =
    let split = split_only (rest_bytes rest) [] rest (record { joined = refl; each = h }) in
    sym (read (rest_bytes rest)) ∙ rw split refl

-- all that bytes ask for are events
pub are_events : (bytes : List ℕ) → All IsEvent (events_of bytes)
are_events bytes = rw (ap (λ (t : Step). t.events) (read bytes)) (steps_range bytes Nothing tt).events

pub is_event : (bytes : List ℕ) (event : Option Event) → option_to_list event ≡ events_of bytes → IfSome event IsEvent
is_event bytes None e = tt
is_event bytes (Some event) e = All-head IsEvent event [] (All-same IsEvent (event ∷ []) (events_of bytes) e (are_events bytes))

pub is_kind : (bytes : List ℕ) (kind : Option EventKind) (values : List ℕ) → event_in kind values ≡ events_of bytes
    → IfSome kind (λ k. IsEvent (event_of k values))
is_kind bytes None values e = tt
is_kind bytes (Some k) values e = is_event bytes (Some (event_of k values)) e

-- ---- bytes after what is held

part_range : (held : Held) → IsHeldPart held → InRange held
part_range held i =
    rw (← i.of_rest) (rw (rest_steps i.rest i.is_rest) at (steps_range (rest_bytes i.rest) Nothing tt)).held

-- its spelling consists of bytes
pub held_bytes : (held : Held) → IsHeldPart held → All (λ b. b ≤ 0xFF) (spell held)
held_bytes held i = spelled_bytes held (part_range held i)

pub read_from : (held : Held) (bytes : List ℕ) → IsHeldPart held
    → step_to (held_from held bytes) (events_from held bytes) ≡ steps held bytes
read_from held bytes i =
    read (spell held ++ bytes) ∙ rw (steps_append, spelled_steps held (part_range held i)) refl

-- one byte
pub read_step : (held : Held) (b : ℕ) → IsHeldPart held
    → step_to (held_from held (b ∷ [])) (events_from held (b ∷ [])) ≡ step_of held b
read_step held b i =
    read_from held (b ∷ []) i ∙ steps_one held b

-- bytes that give no event by steps have none
pub none_before : (held : Held) (bytes : List ℕ) (event : Option EventKind) → IsHeldPart held
    → IfSome event (λ kind. (steps held bytes).events ≡ []) → IfSome event (λ kind. events_from held bytes ≡ [])
none_before held bytes None part silent = tt
none_before held bytes (Some kind) part silent = same_events (read_from held bytes part) ∙ silent

-- what bytes leave is a held part
pub held_part : (bytes : List ℕ) → IsHeldPart (held_after bytes)
held_part bytes = record { rest = (split_of bytes).rest; is_rest = last_is_rest bytes; of_rest = refl }

-- ---- the laws

-- a spelled held part leaves it, and no bytes change nothing
pub spelled : (held : Held) → IsHeldPart held → step_to (held_after (spell held)) (events_of (spell held)) ≡ step_to held []
spelled held i = read (spell held) ∙ spelled_steps held (part_range held i)

pub nil : (held : Held) → IsHeldPart held → step_to (held_from held []) (events_from held []) ≡ step_to held []
unfolding steps
nil held i = read_from held [] i

-- whatever follows, a rest and the bytes that spell what is held of it go on alike
pub same : (rest : Option Beginning) (more : List ℕ) → IsRest rest
    → step_to (held_after (rest_bytes rest ++ more)) (events_of (rest_bytes rest ++ more))
    ≡ step_to (held_from (held_of rest) more) (rest_reading rest ++ events_from (held_of rest) more)
same rest more h =
    read (rest_bytes rest ++ more)
    ∙ rw (
      steps_append,
      rest_steps rest h,
      ← read_from (held_of rest) more (record { rest = rest; is_rest = h; of_rest = refl }),
    ) refl

-- bytes and more bytes
pub append : (held : Held) (first second : List ℕ)
    → step_to (held_from held (first ++ second)) (events_from held (first ++ second))
    ≡ step_to (held_from (held_from held first) second)
    (events_from held first ++ events_from (held_from held first) second)
append held first second =
    let bytes = spell held ++ first in
    rw (← append_assoc (spell held) first second) (read (bytes ++ second)
    ∙ rw (steps_append, ← read bytes, ← read_from (held_after bytes) second (held_part bytes)) refl)

-- bytes that ask for events and leave nothing, and then more
pub read_as : (bytes more : List ℕ) (events : List Event) → steps Nothing bytes ≡ step_to Nothing events
    → step_to (held_after (bytes ++ more)) (events_of (bytes ++ more))
    ≡ step_to (held_after more) (events ++ events_of more)
read_as bytes more events e =
    read (bytes ++ more) ∙ rw (steps_append, e, ← read more) refl

-- a byte between sequences that opens nothing
pub single : (b : ℕ) → is_opener b ≡ false
    → step_to (held_after (b ∷ [])) (events_of (b ∷ [])) ≡ step_to Nothing (single_function b)
unfolding step_of
single b e = read (b ∷ []) ∙ steps_one Nothing b ∙ grind (arith, nat_tests)

-- ESC after what is held
pub escape : (held : Held) (more : List ℕ) → IsHeldPart held
    → step_to (held_from held (0x1B ∷ more)) (events_from held (0x1B ∷ more))
    ≡ step_to (held_after (0x1B ∷ more)) (events_of (0x1B ∷ more))
escape held more i = read_from held (0x1B ∷ more) i ∙ escape_step held more ∙ sym (read (0x1B ∷ more))
