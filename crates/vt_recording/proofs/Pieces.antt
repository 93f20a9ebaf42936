-- The whole pieces at the front of a recording by ttyrec.
use Rattle.std.proofs.Common.{◌≡◌, ℕ, ◌+◌, ◌-◌, ◌≤◌, ◌<◌, ◌++◌, ◌∷◌, map, List, [], length, take, drop, Option}
use Rattle.std.proofs.Common.{arith, refl, sym, ap, ◌∙◌, append_assoc, length-drop}
use Rattle.std.specs.List.{All, flat_map}
use Rattle.std.proofs.lemmas.List.{length-take, get_or-take, flat_map_more, map-append, length-take-le, take-append-drop}
use Rattle.std.proofs.lemmas.List.Elements.{All-append, All-from_recursion}
use Rattle.std.proofs.Math.Seq.{take-add}
use Rattle.vt_recording.specs.declared.timeline.Event as declared
use Rattle.vt_recording.specs.declared.timeline.EventKind.TheVariants.{Output}
use Rattle.vt_recording.specs.declared.timeline.Timeline as read
use Rattle.vt_recording.specs.Timeline.{Event, AreFrames, frame, in_recording}
use Rattle.vt_recording.specs.Seconds.{risen}
use Rattle.vt_recording.specs.Gathered.{AreGathered, IsRead}
use Rattle.vt_recording.specs.Ttyrec.{Piece, Frame, IsWhole, EndsBefore, number_at, spelled, time_of, size_of, frames_after}

-- the time after frames
unfoldable pub clock_after : (start clock : ℕ) → List Piece → ℕ
clock_after start clock [] = clock
clock_after start clock (p ∷ pieces) = clock_after start (risen clock (time_of p.header - start)) pieces

-- up to this place there are whole pieces, and this is the time after them
pub record Before (bytes : List ℕ) (at clock : ℕ) : Type 0 where
  pub pieces : List Piece
  pub taken : take at bytes ≡ flat_map (λ p. spelled p) pieces
  pub whole : All (λ p. IsWhole p) pieces
  pub clock_is : clock ≡ clock_after (time_of bytes) 0 pieces

abbrev frames_of : (bytes : List ℕ) → List Piece → List Frame
frames_of bytes pieces = frames_after (time_of bytes) 0 pieces

no_clock : (start : ℕ) → 0 ≡ clock_after start 0 []
unfolding clock_after
no_clock start = refl

abbrev before_first : (bytes : List ℕ) → Before bytes 0 0
before_first bytes = record {
  pieces = [];
  taken = refl;
  whole = All-from_recursion (λ p. IsWhole p) [] tt;
  clock_is = no_clock (time_of bytes);
}

-- a number within the front of some bytes
number_in_front : (at n : ℕ) (xs : List ℕ) → at + 3 < n → number_at at (take n xs) ≡ number_at at xs
number_in_front at n xs within =
    rw (
      get_or-take n xs at 0 (omega arith),
      get_or-take n xs (at + 1) 0 (omega arith),
      get_or-take n xs (at + 2) 0 (omega arith),
      get_or-take n xs (at + 3) 0 (omega arith),
    ) refl

time_in_front : (xs : List ℕ) → time_of (take 12 xs) ≡ time_of xs
time_in_front xs = rw (number_in_front 0 12 xs (omega arith), number_in_front 4 12 xs (omega arith)) refl

size_in_front : (xs : List ℕ) → size_of (take 12 xs) ≡ size_of xs
size_in_front xs = number_in_front 8 12 xs (omega arith)

-- of one piece
all_one : (p : Piece) → IsWhole p → All (λ q. IsWhole q) (p ∷ [])
all_one p is = All-from_recursion (λ q. IsWhole q) (p ∷ []) (is, tt)

module _ (start : ℕ) (p : Piece) where
  clock_more : (clock : ℕ) (pieces : List Piece)
      → clock_after start clock (pieces ++ p ∷ []) ≡ risen (clock_after start clock pieces) (time_of p.header - start)
  unfolding clock_after
  clock_more clock [] = refl
  clock_more clock (q ∷ pieces) = clock_more (risen clock (time_of q.header - start)) pieces

  frames_more : (clock : ℕ) (pieces : List Piece)
      → frames_after start clock (pieces ++ p ∷ [])
      ≡ frames_after start clock pieces
      ++ record { micros = risen (clock_after start clock pieces) (time_of p.header - start); bytes = p.bytes } ∷ []
  unfolding clock_after frames_after
  frames_more clock [] = refl
  frames_more clock (q ∷ pieces) =
      ap (λ (l : List Frame). record { micros = risen clock (time_of q.header - start); bytes = q.bytes } ∷ l)
      (frames_more (risen clock (time_of q.header - start)) pieces)

-- the piece that begins at a place
abbrev piece_at : (bytes : List ℕ) (at size : ℕ) → Piece
piece_at bytes at size = record { header = take 12 (drop at bytes); bytes = take size (drop (at + 12) bytes) }

module _ (bytes : List ℕ) (at size : ℕ) (fits : 12 + size ≤ length (drop at bytes)) where
  -- it stands there
  piece_stands : take (at + 12 + size) bytes ≡ take at bytes ++ spelled (piece_at bytes at size)
  piece_stands =
      take-add (at + 12) size bytes ∙ ap (λ (l : List ℕ). l ++ take size (drop (at + 12) bytes)) (take-add at 12 bytes)
      ∙ append_assoc (take at bytes) (take 12 (drop at bytes)) (take size (drop (at + 12) bytes))

  piece_is_whole : size ≡ size_of (drop at bytes) → IsWhole (piece_at bytes at size)
  piece_is_whole says =
      let room = simp length-drop at fits in
      let rest : size ≤ length (drop (at + 12) bytes) = rw length-drop (omega (arith, room)) in
      record {
        header = rw length-take (omega (arith, fits));
        bytes = rw (length-take, size_in_front (drop at bytes), ← says) (omega (arith, rest));
      }

  -- one piece more
  module _ (clock next : ℕ) (says : size ≡ size_of (drop at bytes))
      (rises : next ≡ risen clock (time_of (drop at bytes) - time_of bytes)) (before : Before bytes at clock) where
    later : next ≡ risen (clock_after (time_of bytes) 0 before.pieces) (time_of (take 12 (drop at bytes)) - time_of bytes)
    later = rw (time_in_front (drop at bytes), ← before.clock_is) rises

    abbrev before_more : Before bytes (at + 12 + size) next
    before_more = record {
      pieces = before.pieces ++ piece_at bytes at size ∷ [];
      taken =
          piece_stands ∙ ap (λ (l : List ℕ). l ++ spelled (piece_at bytes at size)) before.taken
          ∙ flat_map_more (λ p. spelled p) [] before.pieces (piece_at bytes at size);
      whole = All-append (λ p. IsWhole p) before.pieces _ before.whole
          (all_one (piece_at bytes at size) (piece_is_whole says));
      clock_is = later ∙ sym (clock_more (time_of bytes) (piece_at bytes at size) 0 before.pieces);
    }

    frames_are : frames_of bytes before_more.pieces
        ≡ frames_of bytes before.pieces ++ record { micros = next; bytes = take size (drop (at + 12) bytes) } ∷ []
    frames_are =
        frames_more (time_of bytes) (piece_at bytes at size) 0 before.pieces
        ∙ ap (λ (t : ℕ). frames_of bytes before.pieces ++ record { micros = t; bytes = take size (drop (at + 12) bytes) } ∷ []) (sym later)

-- these are the events of the pieces up to this place
pub record Framed (bytes : List ℕ) (at clock : ℕ) (marks : List declared.Event) (text : List ℕ) : Type 0 where
  pub before : Before bytes at clock
  pub are : AreGathered (map (λ f. frame f) (frames_of bytes before.pieces)) marks text

pub framed_first : (bytes : List ℕ) (marks : List declared.Event) (text : List ℕ) → AreGathered [] marks text
    → Framed bytes 0 0 marks text
unfolding frames_after
framed_first bytes marks text none = record { before = before_first bytes; are = none }

pub framed_more : (bytes : List ℕ) (at size clock next : ℕ) (marks more_marks : List declared.Event) (text more : List ℕ)
    → 12 + size ≤ length (drop at bytes) → size ≡ size_of (drop at bytes)
    → next ≡ risen clock (time_of (drop at bytes) - time_of bytes) → Framed bytes at clock marks text
    → ((front : List Event) → AreGathered front marks text
    → AreGathered (front ++ record { micros = next; kind = Output; text = take size (drop (at + 12) bytes) } ∷ []) more_marks more)
    → Framed bytes (at + 12 + size) next more_marks more
framed_more bytes at size clock next marks more_marks text more fits says rises front add = record {
  before = before_more bytes at size fits clock next says rises front.before;
  are = rw (frames_are bytes at size fits clock next says rises front.before, map-append) (add _ front.are);
}

pub framed_all : (bytes : List ℕ) (at clock : ℕ) (broken : Option ℕ) (t : read.Timeline) → at ≤ length bytes
    → EndsBefore at (drop at bytes) broken → t.broken ≡ in_recording broken
    → Framed bytes at clock t.events.items t.text.items → IsRead (λ x. AreFrames bytes x) t
framed_all bytes at clock broken t within ends breaks front =
    let place : length (flat_map (λ p. spelled p) front.before.pieces) ≡ at =
    ap (λ (l : List ℕ). length l) (sym front.before.taken) ∙ length-take-le at bytes within in
    record {
      events = map (λ f. frame f) (frames_of bytes front.before.pieces);
      is = record {
        pieces = front.before.pieces;
        rest = drop at bytes;
        at = broken;
        joined = sym (take-append-drop at bytes) ∙ ap (λ (l : List ℕ). l ++ drop at bytes) front.before.taken;
        whole = front.before.whole;
        ends = rw place ends;
        events_are = refl;
        breaks = breaks;
      };
      are = front.are;
    }
