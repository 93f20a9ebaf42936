-- The bytes that an output writes of chunks in turn.
use Rattle.std.proofs.Common.{◌≡◌, ℕ, Bool, ◌+◌, ◌-◌, ◌≤◌, ◌++◌, List, [], length, take, drop, arith, refl, sym, ap, subst, ◌∙◌}
use Rattle.std.proofs.Common.{Option, Result, true, inl, inr}
use Rattle.std.specs.Prelude.{Ok, Err}
use Rattle.std.proofs.Common.{append_assoc, append-nil, length-append, length-drop}
use Rattle.std.proofs.lemmas.List.{take-append-drop}
use Rattle.std.proofs.Math.Seq.{take-add, take-length}
use Rattle.vt_device.specs.Writing.{IsProperBeginning}
use Rattle.vt_device.specs.Runs.{Flags, Moves}
use Rattle.vt_device.specs.declared.fault.Fault.{Fault}
use Rattle.vt_device.specs.declared.fault.Fault.TheVariants.{Memory, Partial, Read, Write, TooLong, Broken, NoTimes}
use Rattle.vt_device.specs.Output.{IsAfter, IsCutBefore, IsCutAtEnd, IsCutOutput, OutputTable}
use Rattle.vt_device.specs.Output.{Translation, IsStopped, IsStoppedAtEnd, IsStoppedOutput, TranslatedTable}
use Rattle.vt_device.proofs.Steps.{behind}

abbrev pub Writes : Type 0
Writes = List ℕ → List ℕ

-- what is written at the end is there
abbrev pub Holds : Type 0
Holds = List ℕ → Bool

-- bytes, and then more of them
pub then_more : (written ending : Writes) (there : Holds) (b c : List ℕ) (middle middle_ending : Writes) (middle_there : Holds) (last last_ending : Writes) (last_there : Holds)
    → IsAfter written ending there b middle middle_ending middle_there → IsAfter middle middle_ending middle_there c last last_ending last_there
    → IsAfter written ending there (b ++ c) last last_ending last_there
then_more written ending there b c middle middle_ending middle_there last last_ending last_there first second = record {
  on = λ more. rw (append_assoc, first.on (c ++ more), second.on more, first.on c, append_assoc) refl;
  end_on = λ more. rw (append_assoc, first.end_on (c ++ more)) (second.end_on more);
  there_on = λ more. rw (append_assoc, first.there_on (c ++ more)) (second.there_on more);
  none = second.none;
}

-- the part of a chunk starting at a place, to its end
pub rest-of : (chunk : List ℕ) (at : ℕ) → take (length chunk - at) (drop at chunk) ≡ drop at chunk
rest-of chunk at =
    let e : length chunk - at ≡ length (drop at chunk) = sym (length-drop at chunk) in
    rw e (take-length (drop at chunk))

-- all of a chunk is taken
pub taken_all : (chunk : List ℕ) (at : ℕ) → at ≤ length chunk → length chunk ≤ at → take at chunk ≡ chunk
taken_all chunk at within all =
    let e : at ≡ length chunk = omega (arith, within, all) in
    rw e (take-length chunk)

-- one more turn of a chunk
pub next_turn : (written ending : Writes) (there : Holds) (chunk : List ℕ) (at n : ℕ) (middle middle_ending : Writes) (middle_there : Holds) (last last_ending : Writes) (last_there : Holds)
    → IsAfter written ending there (take at chunk) middle middle_ending middle_there
    → IsAfter middle middle_ending middle_there (take n (drop at chunk)) last last_ending last_there
    → IsAfter written ending there (take (at + n) chunk) last last_ending last_there
next_turn written ending there chunk at n middle middle_ending middle_there last last_ending last_there first second =
    rw (take-add at n chunk)
    (then_more written ending there (take at chunk) _ middle middle_ending middle_there last last_ending last_there first second)

pub turn_written : (written ending : Writes) (there : Holds) (chunk : List ℕ) (at n : ℕ) (middle middle_ending : Writes) (middle_there : Holds)
    → IsAfter written ending there (take at chunk) middle middle_ending middle_there
    → written (take at chunk) ++ middle (take n (drop at chunk)) ≡ written (take (at + n) chunk)
turn_written written ending there chunk at n middle middle_ending middle_there first =
    sym (ap written (take-add at n chunk) ∙ first.on (take n (drop at chunk)))

-- a write of a turn failed
pub turn_cut : (written ending : Writes) (there : Holds) (chunk part : List ℕ) (at n : ℕ) (middle middle_ending : Writes) (middle_there : Holds) (last last_ending : Writes) (last_there : Holds)
    → IsAfter written ending there (take at chunk) middle middle_ending middle_there
    → IsAfter middle middle_ending middle_there (take n (drop at chunk)) last last_ending last_there
    → IsProperBeginning part (middle (take n (drop at chunk)))
    → IsProperBeginning (written (take at chunk) ++ part) (written chunk)
turn_cut written ending there chunk part at n middle middle_ending middle_there last last_ending last_there first second p =
    let rest : List ℕ = last (drop n (drop at chunk)) in
    behind (written (take at chunk)) part _ _ _ refl
    (ap written (sym (take-append-drop at chunk)) ∙ first.on (drop at chunk))
    (record {
      more = p.more ++ rest;
      whole = ap middle (sym (take-append-drop n (drop at chunk))) ∙ second.on (drop n (drop at chunk))
          ∙ ap (λ (x : List ℕ). x ++ rest) p.whole ∙ append_assoc part p.more rest;
      missing = let long = length-append p.more rest in let some = p.missing in omega (arith, long, some);
    })

-- one more chunk is written
pub chunk_written : (written ending : Writes) (there : Holds) (b chunk w part : List ℕ) (middle middle_ending : Writes) (middle_there : Holds)
    → IsAfter written ending there b middle middle_ending middle_there → w ≡ written b → part ≡ middle chunk
    → w ++ part ≡ written (b ++ chunk)
chunk_written written ending there b chunk w part middle middle_ending middle_there first is then = rw (is, then, first.on chunk) refl

-- a host's bytes came, and what is written of the terminal's bytes for them is written
pub record HaveCome (Came Translates : Translation) (written ending : Writes) (there : Holds) (last last_ending : Writes) (last_there : Holds)
    (b w : List ℕ) : Type 0 where
  pub x : List ℕ
  pub came : Came b x
  pub translates : Translates b x
  pub all : w ≡ written x
  pub after : IsAfter written ending there x last last_ending last_there

-- nothing came, and nothing is written
pub none_come : (Came Translates : Translation) (written ending : Writes) (there : Holds) → Came [] [] → Translates [] []
    → written [] ≡ [] → HaveCome Came Translates written ending there written ending there [] []
none_come Came Translates written ending there came translates none = record {
  x = [];
  came = came;
  translates = translates;
  all = sym none;
  after = record {
    on = λ more. ap (λ (l : List ℕ). l ++ written more) (sym none);
    end_on = λ more. refl;
    there_on = λ more. refl;
    none = none;
  };
}

-- one more chunk came, and what is written of it is written
pub come_more : (Came Came_after Translates : Translation) (written ending : Writes) (there : Holds) (middle middle_ending : Writes) (middle_there : Holds)
    (last last_ending : Writes) (last_there : Holds) (b w chunk held part : List ℕ)
    → ((b x : List ℕ) → Came b x → Came_after (b ++ chunk) (x ++ held)) → ((b x : List ℕ) → Came_after b x → Translates b x)
    → HaveCome Came Translates written ending there middle middle_ending middle_there b w
    → IsAfter middle middle_ending middle_there held last last_ending last_there → part ≡ middle held
    → HaveCome Came_after Translates written ending there last last_ending last_there (b ++ chunk) (w ++ part)
come_more Came Came_after Translates written ending there middle middle_ending middle_there last last_ending last_there b w chunk held part on given h after is = record {
  x = h.x ++ held;
  came = on b h.x h.came;
  translates = given (b ++ chunk) (h.x ++ held) (on b h.x h.came);
  all = chunk_written written ending there h.x held w part middle middle_ending middle_there h.after h.all is;
  after = then_more written ending there h.x held middle middle_ending middle_there last last_ending last_there h.after after;
}

-- a write of a chunk failed
pub chunk_stopped : (Came Came_after Translates : Translation) (written ending : Writes) (there : Holds) (middle middle_ending : Writes) (middle_there : Holds)
    (piece : ℕ) (b w chunk held part : List ℕ)
    → ((b x : List ℕ) → Came b x → Came_after (b ++ chunk) (x ++ held)) → ((b x : List ℕ) → Came_after b x → Translates b x)
    → HaveCome Came Translates written ending there middle middle_ending middle_there b w → length chunk ≤ piece
    → IsProperBeginning part (middle held) → IsStopped Translates written piece (b ++ chunk) (w ++ part)
chunk_stopped Came Came_after Translates written ending there middle middle_ending middle_there piece b w chunk held part on given h short p = record {
  before = b;
  last = chunk;
  joined = refl;
  short = short;
  x = h.x;
  y = held;
  translates_before = h.translates;
  translates = given (b ++ chunk) (h.x ++ held) (on b h.x h.came);
  more = part;
  begins = ap (λ (x : List ℕ). x ++ part) h.all;
  part = behind (written h.x) part _ w _ h.all (h.after.on held) p;
}

-- what is left of the end
pub ends_so : (written ending : Writes) (there : Holds) (b : List ℕ) (last last_ending : Writes) (last_there : Holds)
    → IsAfter written ending there b last last_ending last_there → last_ending [] ≡ ending b
ends_so written ending there b last last_ending last_there after = sym (after.end_on []) ∙ ap ending (append-nil b)

-- whether what is written at the end is there
pub there_so : (written ending : Writes) (there : Holds) (b : List ℕ) (last last_ending : Writes) (last_there : Holds)
    → IsAfter written ending there b last last_ending last_there → there b ≡ last_there []
there_so written ending there b last last_ending last_there after = sym (ap there (append-nil b)) ∙ after.there_on []

-- ---- bytes that are translated in one way

module _ (Translates : Translation) (decoded : Writes) (only : (b x : List ℕ) → Translates b x → x ≡ decoded b)
    (written ending : Writes) (there : Holds) where
  stopped_so : (piece : ℕ) (b w : List ℕ) → IsStopped Translates written piece b w
      → IsCutBefore (λ bytes. written (decoded bytes)) piece b w
  stopped_so piece b w h = record {
    before = h.before;
    last = h.last;
    joined = h.joined;
    short = h.short;
    more = h.more;
    begins = h.begins ∙ ap (λ (x : List ℕ). written x ++ h.more) (only h.before h.x h.translates_before);
    part = subst (λ (x : List ℕ). IsProperBeginning w (written x)) (only b (h.x ++ h.y) h.translates) h.part;
  }

  at_end_so : (b w : List ℕ) → IsStoppedAtEnd Translates written ending there b w
      → (there (decoded b) ≡ true) × IsCutAtEnd (λ bytes. written (decoded bytes)) (λ bytes. ending (decoded bytes)) b w
  at_end_so b w h =
      let is = only b h.x h.translates in (
        ap there (sym is) ∙ h.is_there,
        record {
          more = h.cut.more;
          begins = h.cut.begins ∙ ap (λ (x : List ℕ). written x ++ h.cut.more) is;
          part = subst (λ (x : List ℕ). IsProperBeginning h.cut.more (ending x)) is h.cut.part;
        },
      )

  output_so : (piece : ℕ) (b w : List ℕ) (f : Flags) → IsStoppedOutput Translates written ending there piece b w f
      → IsCutOutput (λ bytes. written (decoded bytes)) (λ bytes. ending (decoded bytes)) (λ bytes. there (decoded bytes)) piece b w f
  output_so piece b w f (inl h) = inl (h.0, stopped_so piece b w h.1)
  output_so piece b w f (inr h) = inr (h.0, (at_end_so b w h.1).0, (at_end_so b w h.1).1)

  -- what each answer says is then what it says of the bytes that they are decoded to
  pub in_one_way : (result : Result (Unit {0}) Fault) (piece : ℕ) (b w : List ℕ) (f : Flags) (limit : ℕ)
      → TranslatedTable Translates written ending there result piece b w f limit
      → OutputTable (λ bytes. written (decoded bytes)) (λ bytes. ending (decoded bytes)) (λ bytes. there (decoded bytes)) result piece b w f limit
  in_one_way (Ok u) piece b w f limit h =
      let is = only b h.2.x h.2.translates in
      (h.0, h.1, ap there (sym is) ∙ h.2.holds, h.2.all ∙ ap (λ (x : List ℕ). written x ++ ending x) is)
  in_one_way (Err Memory) piece b w f limit h = h
  in_one_way (Err Partial) piece b w f limit h =
      let is = only b h.2.x h.2.translates in (h.0, h.1, ap there (sym is) ∙ h.2.holds, h.2.all ∙ ap written is)
  in_one_way (Err Read) piece b w f limit h = (h.0, h.1, h.2.all ∙ ap written (only b h.2.x h.2.translates))
  in_one_way (Err Write) piece b w f limit h = (output_so piece b w f h.0, h.1)
  in_one_way (Err TooLong) piece b w f limit h =
      (h.0, h.1, h.2.all ∙ ap written (only (take limit b) h.2.x h.2.translates))
  in_one_way (Err (Broken place)) piece b w f limit h = h
  in_one_way (Err NoTimes) piece b w f limit h = h

  pub moves_one_way : (left left_after held held_after : Option (List ℕ)) (result : Result (Unit {0}) Fault) (piece : ℕ) (f : Flags) (limit : ℕ)
      → Moves left left_after held held_after (λ b w. TranslatedTable Translates written ending there result piece b w f limit)
      → Moves left left_after held held_after (λ b w. OutputTable (λ bytes. written (decoded bytes)) (λ bytes. ending (decoded bytes)) (λ bytes. there (decoded bytes)) result piece b w f limit)
  moves_one_way left left_after held held_after result piece f limit m = record {
    b = m.b;
    w = m.w;
    taken = m.taken;
    given = m.given;
    holds = in_one_way result piece m.b m.w f limit m.holds;
  }
