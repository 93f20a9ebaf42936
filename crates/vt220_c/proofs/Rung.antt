-- How often the bell rings: in an event, in graphic bytes, in bytes without a BEL, and in bytes that are played in parts.
use Rattle.std.proofs.Common.{◌≡◌, ◌≢◌, refl, ap, List, ℕ, zero, suc, [], ◌∷◌, ◌++◌, ◌+◌, ◌≤◌, ◌<◌, take, drop, arith}
use Rattle.std.proofs.Common.{All, get_or, length, map, ◌∙◌}
use Rattle.std.specs.Prelude.{count_by, cond}
use Rattle.std.proofs.Math.Seq.{take-add, take-length}
use Rattle.vt_glyph.specs.Invocation.{HasGlyph}
use Rattle.vt_syntax.specs.declared.event.Event.{Event}
use Rattle.vt_syntax.specs.declared.event.Event.TheVariants.{Print}
use Rattle.vt_syntax.specs.declared.held.Held.{Held}
use Rattle.vt_syntax.specs.declared.held.Held.TheVariants.{Nothing}
use Rattle.vt_syntax.specs.Event.{is_control}
use Rattle.vt_syntax.specs.Held.{events_from, held_from, spell, IsHeldPart}
use Rattle.vt_syntax.specs.Laws.{SplitLaw, SpellingLaw, ControlLaw}
use Rattle.vt_term.specs.State.{State}
use Rattle.vt_term.specs.Play.{play}
use Rattle.vt_term.specs.Happenings.{happenings, events_in}
use Rattle.vt_term.proofs.Bytes.{graphic-events}
use Rattle.vt220_c.specs.Bells.{bells}
use Rattle.vt220_c.specs.BellCuts.{Rang, bells-append, bells-nil}

-- bytes that ring so often
pub rings : (s : State) (bytes : List ℕ) (before after rung : ℕ) → events_in (happenings s bytes) ≡ events_from s.held bytes
    → length (happenings s bytes) ≡ length bytes → bells s.held bytes ≡ rung → rung ≤ length bytes → after ≡ before + rung
    → Rang (happenings s bytes) before after
rings s bytes before after rung events count all few then =
    let same : count_by (is_control 7) (events_in (happenings s bytes)) ≡ rung =
    ap (λ (es : List Event). count_by (is_control 7) es) events ∙ all in
    record { count = omega (arith, same, then); few = omega (arith, count, few, then) }

-- a count of bells, by the happenings of bytes
pub all-rang : (s : State) (bytes : List ℕ) (count : ℕ) → events_in (happenings s bytes) ≡ events_from s.held bytes
    → Rang (happenings s bytes) 0 count → count ≡ bells s.held bytes
all-rang s bytes count events rang =
    let same : count_by (is_control 7) (events_in (happenings s bytes)) ≡ bells s.held bytes =
    ap (λ (es : List Event). count_by (is_control 7) es) events in
    omega (arith, rang.count, same)

-- a feed that doesn't stop takes all of its bytes
pub all-taken : (n : ℕ) (piece : List ℕ) → n ≤ length piece → (n < length piece → ⊥) → take n piece ≡ piece
all-taken n piece within all =
    let e : n ≡ length piece = omega (arith, within, all) in rw e (take-length piece)

-- one event
pub one-rang : (s : State) (bytes : List ℕ) (event : Event) (before after rung : ℕ)
    → events_in (happenings s bytes) ≡ events_from s.held bytes → length (happenings s bytes) ≡ length bytes
    → 1 ≤ length bytes
    → events_from s.held bytes ≡ event ∷ [] → rung ≡ cond (is_control 7 event) 1 0 → rung ≤ 1 → after ≡ before + rung
    → Rang (happenings s bytes) before after
one-rang s bytes event before after rung events count some is one few then =
    let all : bells s.held bytes ≡ 0 + cond (is_control 7 event) 1 0 =
    ap (λ (events : List Event). count_by (is_control 7) events) is in
    rings s bytes before after rung events count (omega (arith, all, one)) (omega (arith, some, few)) then

-- no event
pub none-rang : (s : State) (bytes : List ℕ) (n : ℕ) → events_in (happenings s bytes) ≡ events_from s.held bytes
    → length (happenings s bytes) ≡ length bytes → events_from s.held bytes ≡ [] → Rang (happenings s bytes) n n
none-rang s bytes n events count none =
    rings s bytes n n 0 events count (ap (λ (events : List Event). count_by (is_control 7) events) none) (omega arith)
    (omega arith)

prints-quiet : (bytes : List ℕ) → count_by (is_control 7) (map Print bytes) ≡ 0
prints-quiet [] = refl
prints-quiet (b ∷ bytes) = prints-quiet bytes

-- graphic bytes
pub run-rang : SpellingLaw → (s : State) (bytes : List ℕ) (n : ℕ) → events_in (happenings s bytes) ≡ events_from s.held bytes
    → length (happenings s bytes) ≡ length bytes → s.held ≡ Nothing → All HasGlyph bytes → Rang (happenings s bytes) n n
run-rang spelling s bytes n events count between have =
    let all : bells s.held bytes ≡ 0 = rw (between, graphic-events spelling bytes have) (prints-quiet bytes) in
    rings s bytes n n 0 events count all (omega arith) (omega arith)

module _ (law : SplitLaw) where
  -- bytes of which none is a BEL
  pub quiet : ControlLaw → (n : ℕ) (held : Held) (bytes : List ℕ) → IsHeldPart held
      → ((i : ℕ) → i < n → get_or bytes i 0 ≢ 7) → bells held (take n bytes) ≡ 0
  quiet controls zero held bytes is none = bells-nil law held is
  quiet controls (suc n) held [] is none = bells-nil law held is
  quiet controls (suc n) held (b ∷ bytes) is none =
      let first : bells held (b ∷ []) ≡ 0 = controls.by_no_other held b 7 is (omega arith) (none 0 (omega arith)) in
      let next = held_from held (b ∷ []) in
      let others : bells next (take n bytes) ≡ 0 =
      quiet controls n next bytes (law.held_part (spell held ++ b ∷ [])) (λ i low. none (suc i) (omega (arith, low))) in
      let all : bells held (b ∷ take n bytes) ≡ bells held (b ∷ []) + bells next (take n bytes) =
      bells-append law held (b ∷ []) (take n bytes) in
      omega (arith, all, first, others)

  pub more-bells : (s t : State) (piece : List ℕ) (at n so_far rung : ℕ)
      → t ≡ (play s (take at piece)).state → so_far ≡ bells s.held (take at piece)
      → bells t.held (take n (drop at piece)) ≡ rung
      → so_far + rung ≡ bells s.held (take (at + n) piece)
  unfolding play
  more-bells s t piece at n so_far rung then before now =
      rw (take-add at n piece, bells-append law s.held (take at piece) (take n (drop at piece)), before, ← now, then) refl
