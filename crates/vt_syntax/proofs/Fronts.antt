-- Events that stand whole at the front of a piece: byte after byte, starting at the first.
use Rattle.std.proofs.Common.{◌≡◌, ℕ, ◌+◌, ◌-◌, ◌*◌, ◌<◌, ◌≤◌, false, List, [], ◌∷◌, ◌++◌, length, take, get_or, Option}
use Rattle.std.proofs.Common.{Some, None, arith, refl, sym, ◌∙◌}
use Rattle.std.proofs.lemmas.Bool.Decides.{nat_tests}
use Rattle.vt_syntax.specs.declared.event.Event.{Event}
use Rattle.vt_syntax.specs.declared.event.Event.TheVariants as event
use Rattle.vt_syntax.specs.declared.event.EventKind.{EventKind}
use Rattle.vt_syntax.specs.declared.held.Held.{Held}
use Rattle.vt_syntax.specs.declared.held.Held.TheVariants.{Nothing, Escape, Control}
use Rattle.vt_syntax.specs.declared.held.Inters.TheVariants.{Zero, One}
use Rattle.vt_syntax.specs.declared.held.Phase.TheVariants.{Values, Inter}
use Rattle.vt_syntax.specs.Class.{class_of, opens_string}
use Rattle.vt_syntax.specs.Event.{event_of}
use Rattle.vt_syntax.specs.Front.{IsFront}
use Rattle.vt_syntax.specs.Held.{IsEnding, ended_by}
use Rattle.vt_syntax.specs.Spelling.{IsGraphic}
use Rattle.vt_syntax.specs.Steps.{step_to, step_of, step_between, opened_by, steps}
use Rattle.vt_syntax.specs.Whole.{AreRead, marker_phase, begun}
use Rattle.vt_syntax.proofs.Cutting.{read as read_steps, is_event}
use Rattle.vt_syntax.proofs.Spelled.{early_marker}
use Rattle.vt_syntax.proofs.Steps.{same_held, same_events, steps_nil, steps_more, digit_step, separator_step}

-- bytes without an event, and one that ends them
front_at : (now : Held) (piece : List ℕ) (at bytes : ℕ) (event : Event) → bytes ≡ at + 1 → bytes ≤ length piece
    → steps Nothing (take at piece) ≡ step_to now []
    → step_of now (get_or piece at 0) ≡ step_to Nothing (event ∷ [])
    → IsFront piece bytes event
front_at now piece at bytes event next inside so_far ends =
    let back : at + 1 - 1 ≡ at = omega arith in
    let reads = read_steps (take (at + 1) piece) ∙ steps_more Nothing now piece at (omega arith) so_far ∙ ends in
    rw next (record {
      some = omega arith;
      within = omega arith;
      events = same_events reads;
      held = same_held reads;
      last = rw back (same_events (read_steps (take at piece) ∙ so_far));
      is_event = is_event (take (at + 1) piece) (Some event) (sym (same_events reads));
    })

-- ---- bytes by themselves

-- a control at the front
pub front_single : (piece : List ℕ) → 1 ≤ length piece
    → step_between (get_or piece 0 0) ≡ step_to Nothing (event.Control (get_or piece 0 0) ∷ [])
    → IsFront piece 1 (event.Control (get_or piece 0 0))
unfolding step_of
front_single piece some is = front_at Nothing piece 0 1 _ refl some (steps_nil Nothing) is

-- CR at the front
pub front_return : (piece : List ℕ) → 1 ≤ length piece → get_or piece 0 0 ≡ 0x0D
    → IsFront piece 1 (event.Control (get_or piece 0 0))
unfolding opens_string
front_return piece some is = front_single piece some (rw is refl)

-- a graphic byte at the front
pub front_graphic : (piece : List ℕ) → 1 ≤ length piece → IsGraphic (get_or piece 0 0)
    → IsFront piece 1 (event.Print (get_or piece 0 0))
unfolding step_of opens_string
front_graphic piece some is = front_at Nothing piece 0 1 _ refl some (steps_nil Nothing) (grind (arith, nat_tests))

-- ---- introducers

-- ESC at the front of a piece
steps_escape : (piece : List ℕ) → 1 ≤ length piece → get_or piece 0 0 ≡ 0x1B
    → steps Nothing (take 1 piece) ≡ step_to (Escape Zero) []
unfolding step_of
steps_escape piece long first = steps_more Nothing Nothing piece 0 (omega arith) (steps_nil Nothing) ∙ rw first refl

-- ESC and `[`
pub steps_introducer : (piece : List ℕ) → 2 ≤ length piece → get_or piece 0 0 ≡ 0x1B → get_or piece 1 0 ≡ 0x5B
    → steps Nothing (take 2 piece) ≡ step_to (opened_by 0x9B) []
unfolding step_of class_of
steps_introducer piece long first second =
    steps_more Nothing (Escape Zero) piece 1 (omega arith) (steps_escape piece (omega arith) first) ∙ rw second refl

-- CSI in its 8-bit form
pub steps_csi : (piece : List ℕ) → 1 ≤ length piece → get_or piece 0 0 ≡ 0x9B
    → steps Nothing (take 1 piece) ≡ step_to (opened_by 0x9B) []
unfolding step_of
steps_csi piece long first = steps_more Nothing Nothing piece 0 (omega arith) (steps_nil Nothing) ∙ rw first refl

pub ruleset front_events = (front_return, front_graphic, steps_csi, steps_introducer)

-- a marker after the introducer
pub steps_marker : (piece : List ℕ) (at : ℕ) → at < length piece → 0x3C ≤ get_or piece at 0 → get_or piece at 0 < 0x40
    → steps Nothing (take at piece) ≡ step_to (opened_by 0x9B) []
    → steps Nothing (take (at + 1) piece) ≡ step_to (begun (Some (get_or piece at 0))) []
unfolding step_of class_of
steps_marker piece at inside low high so_far =
    steps_more Nothing (opened_by 0x9B) piece at inside so_far ∙ grind (arith, nat_tests)

-- ---- values

-- no digit has come
pub read_none : (piece : List ℕ) (at : ℕ) (marker : Option ℕ) → at ≤ length piece
    → steps Nothing (take at piece) ≡ step_to (begun marker) []
    → AreRead piece at marker ([] ++ 0 ∷ [])
read_none piece at marker inside begins =
    record { within = inside; phase = marker_phase marker; early = early_marker marker; reads = begins }

-- one more digit of the last value
read_digit : (piece : List ℕ) (at next : ℕ) (marker : Option ℕ) (xs : List ℕ) (v w : ℕ)
    → AreRead piece at marker (xs ++ v ∷ [])
    → next ≡ at + 1 → next ≤ length piece
    → 48 ≤ get_or piece at 0 → get_or piece at 0 ≤ 57 → w ≡ v * 10 + (get_or piece at 0 - 48) → w ≤ 9999
    → AreRead piece next marker (xs ++ w ∷ [])
read_digit piece at next marker xs v w read follows inside low high is small =
    rw follows (record {
      within = omega arith;
      phase = Values;
      early = tt;
      reads = steps_more Nothing (Control marker (record { items = xs ++ v ∷ [] }) false read.phase) piece at
          (omega arith) read.reads
          ∙ digit_step marker xs v w read.phase (get_or piece at 0) read.early low high is small;
    })

-- one, two and three digits of a value
module _ (piece : List ℕ) (at : ℕ) (marker : Option ℕ) (xs : List ℕ) (a : ℕ)
    (read : AreRead piece at marker (xs ++ 0 ∷ [])) (room : at + 4 ≤ length piece)
    (low : 48 ≤ get_or piece at 0) (high : get_or piece at 0 ≤ 57) (digit : a ≡ get_or piece at 0 - 48) where
  pub read_one : AreRead piece (at + 1) marker (xs ++ a ∷ [])
  read_one = read_digit piece at (at + 1) marker xs 0 a read refl (omega arith) low high (omega arith) (omega arith)

  module _ (b : ℕ) (low2 : 48 ≤ get_or piece (at + 1) 0) (high2 : get_or piece (at + 1) 0 ≤ 57)
      (digit2 : b ≡ get_or piece (at + 1) 0 - 48) where
    pub read_two : AreRead piece (at + 2) marker (xs ++ (10 * a + b) ∷ [])
    read_two = read_digit piece (at + 1) (at + 2) marker xs a (10 * a + b) read_one (omega arith) (omega arith) low2
        high2 (omega arith) (omega arith)

    pub read_three : (c : ℕ) → 48 ≤ get_or piece (at + 2) 0 → get_or piece (at + 2) 0 ≤ 57
        → c ≡ get_or piece (at + 2) 0 - 48 → AreRead piece (at + 3) marker (xs ++ (100 * a + 10 * b + c) ∷ [])
    read_three c low3 high3 digit3 = read_digit piece (at + 2) (at + 3) marker xs (10 * a + b) (100 * a + 10 * b + c)
        read_two (omega arith) (omega arith) low3 high3 (omega arith) (omega arith)

pub ruleset digits = (read_one, read_two, read_three)

-- one more `;`
pub read_separator : (piece : List ℕ) (at : ℕ) (marker : Option ℕ) (xs : List ℕ) (v : ℕ)
    → AreRead piece at marker (xs ++ v ∷ [])
    → at < length piece → get_or piece at 0 ≡ 0x3B → length xs < 15
    → AreRead piece (at + 1) marker ((xs ++ v ∷ []) ++ 0 ∷ [])
read_separator piece at marker xs v read inside is few = record {
  within = omega arith;
  phase = Values;
  early = tt;
  reads = steps_more Nothing (Control marker (record { items = xs ++ v ∷ [] }) false read.phase) piece at inside
      read.reads ∙ rw is (separator_step marker xs v read.phase read.early few);
}

-- a value, after any values and a new one
abbrev ReadsValue : List ℕ → ℕ → ℕ → ℕ → Type 0
ReadsValue piece at next w = (marker : Option ℕ) (xs : List ℕ) → AreRead piece at marker (xs ++ 0 ∷ [])
    → AreRead piece next marker (xs ++ w ∷ [])

-- the value after the introducer
pub first_value : (piece : List ℕ) (next w : ℕ) → 2 ≤ length piece
    → (get_or piece 0 0 ≡ 0x1B) × (get_or piece 1 0 ≡ 0x5B)
    → ReadsValue piece 2 next w → AreRead piece next None (w ∷ [])
first_value piece next w long is reads =
    reads None [] (read_none piece 2 None long (steps_introducer piece long is.0 is.1))

-- the value after a `;`
pub next_value : (piece : List ℕ) (at next : ℕ) (xs : List ℕ) (v w : ℕ) → AreRead piece at None (xs ++ v ∷ [])
    → at < length piece → get_or piece at 0 ≡ 0x3B → length xs < 15 → ReadsValue piece (at + 1) next w
    → AreRead piece next None ((xs ++ v ∷ []) ++ w ∷ [])
next_value piece at next xs v w read inside is few reads =
    reads None (xs ++ v ∷ []) (read_separator piece at None xs v read inside is few)

-- ---- final bytes

-- a final byte after the values
pub front_control : (piece values : List ℕ) (marker : Option ℕ) (at : ℕ) → AreRead piece at marker values
    → at < length piece → 0x40 ≤ get_or piece at 0 → get_or piece at 0 ≤ 0x7E
    → IsFront piece (at + 1) (event.Sequence marker (record { items = values }) None (get_or piece at 0))
unfolding step_of class_of
front_control piece values marker at read inside low high =
    let early = read.early in
    front_at (Control marker (record { items = values }) false read.phase) piece at (at + 1) _ refl (omega arith)
    read.reads (grind (arith, nat_tests))

-- an intermediate and a final byte after the values
pub front_control_with : (piece values : List ℕ) (marker : Option ℕ) (at : ℕ) → AreRead piece at marker values
    → at + 2 ≤ length piece → 0x20 ≤ get_or piece at 0 → get_or piece at 0 < 0x30 → 0x40 ≤ get_or piece (at + 1) 0
    → get_or piece (at + 1) 0 < 0x7F
    → IsFront piece (at + 2)
    (event.Sequence marker (record { items = values }) (Some (get_or piece at 0)) (get_or piece (at + 1) 0))
unfolding step_of class_of
front_control_with piece values marker at read inside low high low2 high2 =
    let early = read.early in
    front_at (Control marker (record { items = values }) false (Inter (get_or piece at 0))) piece (at + 1) (at + 2) _
    (omega arith) inside
    (steps_more Nothing (Control marker (record { items = values }) false read.phase) piece at (omega arith) read.reads
    ∙ grind (arith, nat_tests)) (grind (arith, nat_tests))

-- ESC and a final byte
pub front_short : (piece : List ℕ) (kind : EventKind) (values : List ℕ) → 2 ≤ length piece → get_or piece 0 0 ≡ 0x1B
    → IsEnding (Escape Zero) (get_or piece 1 0)
    → ((values : List ℕ) → event_of kind values ≡ ended_by (Escape Zero) (get_or piece 1 0))
    → IsFront piece 2 (event_of kind values)
unfolding step_of class_of opens_string
front_short piece kind values long first ends is =
    front_at (Escape Zero) piece 1 2 _ refl long (steps_escape piece (omega arith) first)
    (rw (is values) (grind (arith, nat_tests)))

-- ESC, an intermediate and a final byte
pub front_with : (piece : List ℕ) → 3 ≤ length piece → get_or piece 0 0 ≡ 0x1B → 0x20 ≤ get_or piece 1 0
    → get_or piece 1 0 < 0x30
    → 0x30 ≤ get_or piece 2 0 → get_or piece 2 0 < 0x7F
    → IsFront piece 3 (event.Escape (Some (get_or piece 1 0)) (get_or piece 2 0))
unfolding step_of class_of
front_with piece long first low high low2 high2 =
    front_at (Escape (One (get_or piece 1 0))) piece 2 3 _ refl long
    (steps_more Nothing (Escape Zero) piece 1 (omega arith) (steps_escape piece (omega arith) first)
    ∙ grind (arith, nat_tests)) (grind (arith, nat_tests))
