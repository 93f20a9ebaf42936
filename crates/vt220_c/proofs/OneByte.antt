-- A graphic byte between sequences, with nothing pending, is played under TERM=xterm as a VT220's.
use Rattle.std.proofs.Common.{◌≡◌, ◌∙◌, ap, refl, None, List, ℕ, zero, suc, [], ◌∷◌, ◌≤◌, ◌<◌, length, take, map, All, arith, if◌then◌else◌}
use Rattle.std.proofs.lemmas.List.Elements.{All-from_recursion}
use Rattle.vt_syntax.specs.Class.{IsPlain}
use Rattle.vt_syntax.specs.Held.{events_from, IsHeldPart}
use Rattle.vt_syntax.specs.Reading.{events_of}
use Rattle.vt_syntax.specs.declared.event.Event.TheVariants.{Print}
use Rattle.vt_syntax.specs.declared.held.Held.TheVariants.{Nothing}
use Rattle.vt_term.specs.State.{State}
use Rattle.vt_term.specs.Play.{play}
use Rattle.vt_term.specs.Scrolling.{scrolled_off}
use Rattle.vt_utf8.specs.Decoding.{pending_after}
use Rattle.vt_xterm.specs.Play.{Whole, WholePlayed, FrontState, behind, play_bytes, play_xterm}
use Rattle.vt_xterm.specs.Terminals.{AreTerminals, PlaysTerminals}
use Rattle.vt220_c.specs.Xterm.{xterm_played, xterm_front}

pub no-items : (xs : List ℕ) → length xs ≡ 0 → xs ≡ []
no-items [] none = refl
no-items (x ∷ xs) none = absurd (omega (arith, none))

one-all : (P : ℕ → Type 0) (b n : ℕ) → P b → n ≤ 1 → All P (take n (b ∷ []))
one-all P b zero is within = All-from_recursion P [] tt
one-all P b (suc zero) is within = All-from_recursion P (b ∷ []) (is, tt)
one-all P b (suc (suc n)) is within = absurd (omega (arith, within))

-- a graphic byte is printed
printed : ((run : List ℕ) → All IsPlain run → events_of run ≡ map Print run) → (s : State) (b n : ℕ) → s.held ≡ Nothing
    → IsPlain b → n ≤ 1 → events_from s.held (take n (b ∷ [])) ≡ map Print (take n (b ∷ []))
printed law s b n between plain within = rw between (law (take n (b ∷ [])) (one-all IsPlain b n plain within))

print-terminals : (b n : ℕ) → n ≤ 1 → AreTerminals (map Print (take n (b ∷ [])))
unfolding AreTerminals
print-terminals b zero within = tt
print-terminals b (suc zero) within = (λ s none. (refl, refl), tt)
print-terminals b (suc (suc n)) within = absurd (omega (arith, within))

module _ (ascii : (w : Whole) (bytes : List ℕ) → IsHeldPart w.state.held → All (λ b. b < 0x80) bytes → play_xterm w [] bytes ≡ play_bytes w bytes)
    (terminals : (w : Whole) (bytes : List ℕ) → w.pages.sides ≡ None → PlaysTerminals w.state bytes → play_bytes w bytes ≡ record {
      whole = record w { state = (play w.state bytes).state };
      reports = (play w.state bytes).reports;
      lines = if w.pages.alternate then [] else scrolled_off w.state bytes;
    })
    (plain-events : (run : List ℕ) → All IsPlain run → events_of run ≡ map Print run)
    (s : State) (front : FrontState) (b n : ℕ) (sound : IsHeldPart s.held) (none : front.pending ≡ [])
    (reset : front.pages.sides ≡ None) (between : s.held ≡ Nothing)
    (plain : IsPlain b) (within : n ≤ 1) where
  low : All (λ b. b < 0x80) (take n (b ∷ []))
  low = one-all (λ b. b < 0x80) b n (omega (arith, plain.0, plain.1)) within

  pub graphic-played : xterm_played s front (take n (b ∷ [])) ≡ record {
    whole = record { state = (play s (take n (b ∷ []))).state; pages = front.pages };
    reports = (play s (take n (b ∷ []))).reports;
    lines = if front.pages.alternate then [] else scrolled_off s (take n (b ∷ []));
  }
  graphic-played =
      let events = printed plain-events s b n between plain within in
      let terms : PlaysTerminals s (take n (b ∷ [])) = rw events (print-terminals b n within) in
      rw none (ascii (behind s front) (take n (b ∷ [])) sound low ∙ terminals (behind s front) (take n (b ∷ [])) reset terms)

  pub graphic-front : ((bytes : List ℕ) → All (λ b. b < 0x80) bytes → pending_after [] bytes ≡ [])
      → front ≡ xterm_front s front (take n (b ∷ []))
  graphic-front law =
      let pages : (xterm_played s front (take n (b ∷ []))).whole.pages ≡ front.pages =
      ap (λ (p : WholePlayed). p.whole.pages) graphic-played in
      let pending : pending_after front.pending (take n (b ∷ [])) ≡ front.pending = rw none (law (take n (b ∷ [])) low) in
      rw (pages, pending) refl
