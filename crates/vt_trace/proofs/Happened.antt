-- The trace of bytes is that of what happens at them.
use Rattle.std.proofs.Common.{◌-◌, take}
use Rattle.std.proofs.Common.{◌≡◌, ℕ, suc, ◌≤◌, List, [], ◌∷◌, ◌++◌, length, refl, sym, ap, ◌∙◌, subst, arith}
use Rattle.vt_syntax.specs.declared.event.Event.{Event}
use Rattle.vt_syntax.specs.declared.held.Held.{Held}
use Rattle.vt_syntax.specs.Held.{held_from, events_from, IsHeldPart}
use Rattle.vt_syntax.specs.Laws.{SplitLaw, SpellingLaw}
use Rattle.vt_term.specs.State.{State}
use Rattle.vt_term.specs.Names.{name_on}
use Rattle.vt_term.specs.Play.{play}
use Rattle.vt_term.specs.Happenings.{happenings, happenings_on}
use Rattle.vt_term.specs.Machines.{Machine, screens_after}
use Rattle.vt_trace.specs.declared.tracing.Tracer.{Tracer}
use Rattle.vt_trace.specs.Lines.{Names}
use Rattle.vt_trace.specs.Trace.{traced, tracer_after, trace, tracer_all}
use Rattle.vt_trace.specs.Observed.{AreRead, IsTold, Follow, held_all, traced_told, tracer_told, held_told}
use Rattle.vt_trace.proofs.Runs.{IsTraced, held_is, part_told}

pub trace-happened : (s : State) (t : Tracer) (bytes : List ℕ) → traced_told name_on t (happenings s bytes) ≡ trace s t bytes
unfolding trace traced tracer_after
trace-happened s t [] = refl
trace-happened s t (b ∷ bytes) =
    ap (λ (l : List ℕ). traced s t b ++ l) (trace-happened (play s (b ∷ [])).state (tracer_after s t b) bytes)

pub tracer-happened : (s : State) (t : Tracer) (bytes : List ℕ) → tracer_told t (happenings s bytes) ≡ tracer_all s t bytes
unfolding tracer_all tracer_after
tracer-happened s t [] = refl
tracer-happened s t (b ∷ bytes) = tracer-happened (play s (b ∷ [])).state (tracer_after s t b) bytes

held-all : (s : State) (k : Held) (bytes : List ℕ) → held_told k (happenings s bytes) ≡ held_all k bytes
held-all s k [] = refl
held-all s k (b ∷ bytes) = held-all (play s (b ∷ [])).state (held_from k (b ∷ [])) bytes

pub held-happened : SplitLaw → (s : State) (k : Held) (bytes : List ℕ) → IsHeldPart k
    → held_told k (happenings s bytes) ≡ held_from k bytes
held-happened split s k bytes part = held-all s k bytes ∙ held_is split k bytes part

-- the happenings of bytes follow one another
all-follow : (s : State) (bytes : List ℕ) → Follow s.held (happenings s bytes)
unfolding play
all-follow s [] = tt
all-follow s (b ∷ bytes) = (refl, all-follow (play s (b ∷ [])).state bytes)

pub copy-follows : (s : State) (k : Held) (bytes : List ℕ) → k ≡ s.held → Follow k (happenings s bytes)
copy-follows s k bytes is = subst (λ (h : Held). Follow h (happenings s bytes)) (sym is) (all-follow s bytes)

-- so do those of a machine
follow-on : {S : Type 0} (m : Machine S) (s : S) (held : Held) (bytes : List ℕ) → Follow held (happenings_on m s held bytes)
follow-on m s held [] = tt
follow-on m s held (b ∷ bytes) =
    (refl, follow-on m (screens_after m (events_from held (b ∷ [])) s) (held_from held (b ∷ [])) bytes)

pub length-on : {S : Type 0} (m : Machine S) (s : S) (held : Held) (bytes : List ℕ)
    → length (happenings_on m s held bytes) ≡ length bytes
length-on m s held [] = refl
length-on m s held (b ∷ bytes) =
    ap suc (length-on m (screens_after m (events_from held (b ∷ [])) s) (held_from held (b ∷ [])) bytes)

pub copy-follows-on : {S : Type 0} (m : Machine S) (s : S) (held k : Held) (bytes : List ℕ) → k ≡ held
    → Follow k (happenings_on m s held bytes)
copy-follows-on m s held k bytes is =
    subst (λ (h : Held). Follow h (happenings_on m s held bytes)) (sym is) (follow-on m s held bytes)

-- and the first one is in their state
pub first-follows : (s : State) (k : Held) (bytes : List ℕ) → 1 ≤ length bytes → Follow k (happenings s bytes) → k ≡ s.held
first-follows s k [] some follow = absurd (omega (arith, some))
first-follows s k (b ∷ bytes) some follow = follow.0

-- the trace of bytes is what the tracer was told
pub told-traced : SplitLaw → (names : Names) (s : State) (h k : Held) (t u : Tracer) (bytes old new : List ℕ) → IsHeldPart s.held
    → h ≡ s.held → IsTraced names s bytes k t u old new → IsTold names (happenings s bytes) h k t u old new
unfolding play
told-traced split names s h k t u bytes old new part is made = record {
  held = made.held ∙ sym (ap (λ (l : Held). held_told l (happenings s bytes)) is ∙ held-happened split s s.held bytes part);
  lines = made.lines;
  tracer = made.tracer;
}

-- bytes without an event
pub told-part : SpellingLaw → SplitLaw → (names : Names) (s : State) (h k : Held) (t u : Tracer) (bytes old new : List ℕ) → IsHeldPart s.held
    → IsHeldPart h → events_from s.held bytes ≡ [] → AreRead h k t u bytes old new → Follow h (happenings s bytes)
    → IsTold names (happenings s bytes) h k t u old new
told-part law split names s h k t u [] old new sound part none read follow = record {
  held = read.held ∙ split.held_nil h part;
  lines = read.lines;
  tracer = read.tracer;
}
told-part law split names s h k t u (b ∷ bytes) old new sound part none read follow =
    told-traced split names s h k t u (b ∷ bytes) old new sound follow.0
    (part_told law split names s h k t u (b ∷ bytes) old new none read follow.0)

-- ---- one byte

-- its event, as a copy of the parser reads it
pub one-event : (held k : Held) (b n : ℕ) (events : List Event) → k ≡ held → 1 ≤ n → n ≤ 1
    → events ≡ events_from k (take n (b ∷ [])) → events_from held (b ∷ []) ≡ events
one-event held k b n events is some within read =
    let one : 1 ≡ n = omega (arith, some, within) in
    ap (λ (h : Held). events_from h (b ∷ [])) (sym is) ∙ ap (λ (i : ℕ). events_from k (take i (b ∷ []))) one ∙ sym read

-- and none before it
pub one-silent : SplitLaw → (held : Held) (b : ℕ) → IsHeldPart held → events_from held (take (length (b ∷ []) - 1) (b ∷ [])) ≡ []
one-silent split held b part =
    let none : length (b ∷ []) - 1 ≡ 0 = omega arith in
    ap (λ (i : ℕ). events_from held (take i (b ∷ []))) none ∙ split.events_nil held part
