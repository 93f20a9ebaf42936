-- The events that a tracer is told of. The observer of a trace, contracts of private functions and of `trace_as` cite this, and no other
-- public clause does.
use Rattle.std.specs.Prelude.{◌≡◌, ℕ, ◌+◌, ◌-◌, ◌*◌, ◌^◌, ◌<◌, ◌≤◌, List, [], ◌∷◌, ◌++◌, ⊤, length, take, if◌then◌else◌}
use Rattle.std.proofs.Common.{refl, sym, ap, ◌∙◌, subst, arith, append_assoc, append-nil, length-append}
use Rattle.vt_syntax.specs.declared.event.Event.{Event}
use Rattle.vt_syntax.specs.declared.held.Held.{Held}
use Rattle.vt_syntax.specs.Held.{events_from, held_from}
use Rattle.vt_term.specs.Happenings.{Happening}
use Rattle.vt_term.specs.Observing.{AreJoined}
use Rattle.vt_trace.specs.declared.tracing.Tracer.{Tracer}
use Rattle.vt_trace.specs.Lines.{Names}
use Rattle.vt_trace.specs.Trace.{item_place, is_nothing, is_string, item_first, code_after, skipped, goes_on, traced_at, tracer_at}

-- ---- bytes without their events

-- the tracer after a byte, if its event is left out
abbrev pub skim : Held → Tracer → ℕ → Tracer
skim h t b = record {
  place = t.place + 1;
  begin = item_place t h b;
  in_text = goes_on t h b;
  code = code_after t.code (is_string h) (held_from h (b ∷ [])) b;
  first = record { items = if is_nothing (held_from h (b ∷ [])) then [] else item_first t h b };
}

-- the tracer after bytes, if their events are left out
abbrev pub skimmed : Held → Tracer → List ℕ → Tracer
skimmed h t [] = t
skimmed h t (b ∷ bytes) = skimmed (held_from h (b ∷ [])) (skim h t b) bytes

-- the lines of the items without a function that the bytes cut off or end
abbrev pub skipped_all : Held → Tracer → List ℕ → List ℕ
skipped_all h t [] = []
skipped_all h t (b ∷ bytes) = skipped t h b ++ skipped_all (held_from h (b ∷ [])) (skim h t b) bytes

-- what is held after bytes, one after another
abbrev pub held_all : Held → List ℕ → Held
held_all h [] = h
held_all h (b ∷ bytes) = held_all (held_from h (b ∷ [])) bytes

-- bytes are read, but for their events
pub record AreRead (h k : Held) (t u : Tracer) (bytes old new : List ℕ) : Type 0 where
  pub lines : new ≡ old ++ skipped_all h t bytes
  pub tracer : u ≡ skimmed h t bytes
  pub held : k ≡ held_from h bytes

-- bytes up to a rest leave the same held part, and the rest gives what all of them gave
pub record ArePassed (h : Held) (t u : Tracer) (bytes rest : List ℕ) : Type 0 where
  pub lines : skipped_all h u rest ≡ skipped_all h t bytes
  pub tracer : skimmed h u rest ≡ skimmed h t bytes
  pub held : held_all h rest ≡ held_all h bytes

-- the bytes are this event, which the last of them completes
pub record Completes (h : Held) (bytes : List ℕ) (event : Event) : Type 0 where
  pub events : events_from h bytes ≡ event ∷ []
  pub silent : events_from h (take (length bytes - 1) bytes) ≡ []

-- ---- what the tracer was told

-- what is written of happenings
abbrev pub traced_told : Names → Tracer → List Happening → List ℕ
traced_told names t [] = []
traced_told names t (h ∷ hs) = traced_at names t h ++ traced_told names (tracer_at t h) hs

-- the tracer after happenings
abbrev pub tracer_told : Tracer → List Happening → Tracer
tracer_told t [] = t
tracer_told t (h ∷ hs) = tracer_told (tracer_at t h) hs

-- what is held after happenings
abbrev pub held_told : Held → List Happening → Held
held_told k [] = k
held_told k (h ∷ hs) = held_told (held_from k (h.byte ∷ [])) hs

-- k is held before the first happening, and before each later one what the byte of the one before left
abbrev pub Follow : Held → List Happening → Type 0
Follow k [] = ⊤
Follow k (h ∷ hs) = (k ≡ h.held) × Follow (held_from k (h.byte ∷ [])) hs

pub record IsTold (names : Names) (hs : List Happening) (h k : Held) (t u : Tracer) (old new : List ℕ) : Type 0 where
  pub held : k ≡ held_told h hs
  pub lines : new ≡ old ++ traced_told names t hs
  pub tracer : u ≡ tracer_told t hs

-- if the copy of what is held was right, it is right again, and the trace is written
abbrev pub Told : Names → List Happening → (h k : Held) → (t u : Tracer) → (old new : List ℕ) → Type 0
Told names hs h k t u old new = Follow h hs → IsTold names hs h k t u old new

-- so many happenings more are traced
pub record AreCounted (n from to len more room capacity : ℕ) : Type 0 where
  pub place : to ≡ from + n
  pub bounded : more ≤ len + 420 * n
  pub capacity_stays : room ≤ capacity

traced-append : (names : Names) (t : Tracer) (xs ys : List Happening)
    → traced_told names t (xs ++ ys) ≡ traced_told names t xs ++ traced_told names (tracer_told t xs) ys
traced-append names t [] ys = refl
traced-append names t (x ∷ xs) ys =
    ap (λ (l : List ℕ). traced_at names t x ++ l) (traced-append names (tracer_at t x) xs ys)
    ∙ sym (append_assoc (traced_at names t x) (traced_told names (tracer_at t x) xs)
    (traced_told names (tracer_told (tracer_at t x) xs) ys))

tracer-append : (t : Tracer) (xs ys : List Happening) → tracer_told t (xs ++ ys) ≡ tracer_told (tracer_told t xs) ys
tracer-append t [] ys = refl
tracer-append t (x ∷ xs) ys = tracer-append (tracer_at t x) xs ys

held-append : (k : Held) (xs ys : List Happening) → held_told k (xs ++ ys) ≡ held_told (held_told k xs) ys
held-append k [] ys = refl
held-append k (x ∷ xs) ys = held-append (held_from k (x.byte ∷ [])) xs ys

follow-front : (k : Held) (xs ys : List Happening) → Follow k (xs ++ ys) → Follow k xs
follow-front k [] ys follow = tt
follow-front k (x ∷ xs) ys follow = (follow.0, follow-front (held_from k (x.byte ∷ [])) xs ys follow.1)

follow-rest : (k : Held) (xs ys : List Happening) → Follow k (xs ++ ys) → Follow (held_told k xs) ys
follow-rest k [] ys follow = follow
follow-rest k (x ∷ xs) ys follow = follow-rest (held_from k (x.byte ∷ [])) xs ys follow.1

told-nothing : (names : Names) (h : Held) (t : Tracer) (xs : List ℕ) → Told names [] h h t t xs xs
told-nothing names h t xs = λ follow. record { held = refl; lines = sym (append-nil xs); tracer = refl }

told-more : (names : Names) (hs ks : List Happening) (h k m : Held) (t u v : Tracer) (xs ys zs : List ℕ)
    → Told names hs h k t u xs ys → Told names ks k m u v ys zs → Told names (hs ++ ks) h m t v xs zs
told-more names hs ks h k m t u v xs ys zs first second = λ follow.
    let one = first (follow-front h hs ks follow) in
    let two = second (subst (λ (l : Held). Follow l ks) (sym one.held) (follow-rest h hs ks follow)) in
    record {
      held = two.held ∙ ap (λ (l : Held). held_told l ks) one.held ∙ sym (held-append h hs ks);
      lines = two.lines ∙ ap (λ (l : List ℕ). l ++ traced_told names u ks) one.lines
          ∙ append_assoc xs (traced_told names t hs) (traced_told names u ks)
          ∙ ap (λ (w : Tracer). xs ++ (traced_told names t hs ++ traced_told names w ks)) one.tracer
          ∙ ap (λ (l : List ℕ). xs ++ l) (sym (traced-append names t hs ks));
      tracer = two.tracer ∙ ap (λ (w : Tracer). tracer_told w ks) one.tracer ∙ sym (tracer-append t hs ks);
    }

pub trace_joined : {O N M : Type 0} (names : Names) (one : O → N) (other : O → M) (held : O → Held) (tracer : O → Tracer)
    (lines : O → List ℕ) (len room : O → ℕ) → AreJoined {O = O}
    (λ o hs p. (one p ≡ one o) × (other p ≡ other o)
    × Told names hs (held o) (held p) (tracer o) (tracer p) (lines o) (lines p)
    × AreCounted (length hs) (tracer o).place (tracer p).place (len o) (len p) (room o) (room p))
    (λ o n. ((tracer o).place + n < 2 ^ 64) × (len o + 420 * n ≤ room o))
trace_joined names one other held tracer lines len room = record {
  nothing = λ o. (
    refl,
    refl,
    told-nothing names (held o) (tracer o) (lines o),
    record { place = omega arith; bounded = omega arith; capacity_stays = omega arith },
  );
  more = λ o p q xs ys first second.
      let long = length-append xs ys in
      let was = first.3 in
      let then_so = second.3 in (
        second.0 ∙ first.0,
        second.1 ∙ first.1,
        told-more names xs ys (held o) (held p) (held q) (tracer o) (tracer p) (tracer q) (lines o) (lines p) (lines q)
            first.2 second.2,
        record {
          place = omega (arith, long, was.place, then_so.place);
          bounded = omega (arith, long, was.bounded, then_so.bounded);
          capacity_stays = omega (arith, was.capacity_stays, then_so.capacity_stays);
        },
      );
  fewer = λ o m n few takes.
      let place = takes.0 in let fits = takes.1 in (omega (arith, few, place), omega (arith, few, fits));
  left = λ o p hs n saw takes.
      let was = saw.3 in
      let place = takes.0 in
      let fits = takes.1 in
      (omega (arith, was.place, place), omega (arith, was.bounded, was.capacity_stays, fits));
}
