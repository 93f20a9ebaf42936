-- The result of a player's turns, after what is in two buffers, and how often the bell rings in them.
use Rattle.std.proofs.Common.{◌≡◌, ◌∙◌, ap, refl, List, ℕ, zero, suc, [], ◌∷◌, ◌++◌, ◌+◌, ◌≤◌, length, take, drop}
use Rattle.std.proofs.Common.{get_or, arith, Bool, true, false, ◌<◌, ◌⊎◌, inl, inr}
use Rattle.std.proofs.Math.Seq.{take-add}
use Rattle.vt_term.specs.State.{State}
use Rattle.vt_term.specs.Sound.{IsSoundSized}
use Rattle.vt220_c.specs.Told.{WritesAt, Told, both, AreTold, lines_if, Rings, Plays}
use Rattle.vt220_c.proofs.Writing.{writes-nothing, writes-more}

no-lines : (logs : Bool) (lines : List ℕ) → WritesAt (lines_if logs []) lines 0 lines 0
no-lines true lines = writes-nothing lines 0 (omega arith)
no-lines false lines = writes-nothing lines 0 (omega arith)

lines-two : (logs : Bool) (x y : List ℕ) → lines_if logs (x ++ y) ≡ lines_if logs x ++ lines_if logs y
lines-two true x y = refl
lines-two false x y = refl

rings-two : (counts : Bool) (x y m n : ℕ) → Rings counts x m → Rings counts y n → Rings counts (x + y) (m + n)
rings-two counts x y m n first second = record {
  none = λ off. omega (arith, first.none off, second.none off);
  all = λ on. omega (arith, first.all on, second.all on);
}

module _ {P : Type 0} (told : State → P → List ℕ → Told P) where
  -- a turn of one byte, whose bells are counted
  pub one-rings : (s : State) (p : P) (piece : List ℕ) (rung : ℕ) → 1 ≤ length piece
      → rung ≡ (told s p (get_or piece 0 0 ∷ [])).rung → (n : ℕ) → 1 ≤ n → n ≤ 1
      → Rings true (told s p (take n piece)).rung rung
  one-rings s p [] rung some is n one within = absurd (omega (arith, some))
  one-rings s p (b ∷ piece) rung some is zero one within = absurd (omega (arith, one))
  one-rings s p (b ∷ piece) rung some is (suc zero) one within = record { none = λ off. absurd cc; all = λ on. is }
  one-rings s p (b ∷ piece) rung some is (suc (suc n)) one within = absurd (omega (arith, within))

  -- a turn whose bells aren't counted
  pub none-rings : (s : State) (p : P) (piece : List ℕ) (n : ℕ) → Rings false (told s p (take n piece)).rung 0
  none-rings s p piece n = record { none = λ off. refl; all = λ on. absurd cc }

module _ {P : Type 0} (told : State → P → List ℕ → Told P) (are : AreTold told) where
  pub plays-nothing : (logs counts : Bool) (s : State) (p : P) (out lines : List ℕ) → IsSoundSized s
      → Plays logs counts (told s p []) s p out 0 out lines 0 lines 0 0 0
  plays-nothing logs counts s p out lines sound = rw (are.nothing s p sound) (record {
    state = refl;
    kept = refl;
    sent = writes-nothing out 0 (omega arith);
    off = no-lines logs lines;
    rings = record { none = λ off. refl; all = λ on. refl };
  })

  -- no bytes scroll nothing off
  pub none-off : (s : State) (p : P) (piece before after : List ℕ) (n : ℕ) → IsSoundSized s → n ≡ 0 → before ≡ []
      → after ≡ before ++ (told s p (take n piece)).lines → length after ≡ 0
  none-off s p piece before after n sound none empty is =
      let bytes : (told s p (take n piece)).lines ≡ [] =
      ap (λ (k : ℕ). (told s p (take k piece)).lines) none ∙ ap (λ (t : Told P). t.lines) (are.nothing s p sound) in
      ap (λ (xs : List ℕ). length xs) (is ∙ ap (λ (b : List ℕ). b ++ (told s p (take n piece)).lines) empty ∙ bytes)

  told-two : (s t : State) (p q : P) (piece : List ℕ) (taken k : ℕ) → IsSoundSized s
      → t ≡ (told s p (take taken piece)).state → q ≡ (told s p (take taken piece)).kept
      → told s p (take (taken + k) piece) ≡ both (told s p (take taken piece)) (told t q (take k (drop taken piece)))
  told-two s t p q piece taken k sound state kept =
      ap (λ (bytes : List ℕ). told s p bytes) (take-add taken k piece)
      ∙ are.two s p (take taken piece) (take k (drop taken piece)) sound ∙ rw (state, kept) refl

  -- a turn after those before it
  pub plays-turn : (logs counts : Bool) (s t u : State) (p q r : P) (piece : List ℕ) (taken k : ℕ)
      (out out' out'' lines lines' lines'' : List ℕ) (m n lm ln b d : ℕ) → IsSoundSized s
      → Plays logs counts (told s p (take taken piece)) t q out 0 out' lines 0 lines' m lm b
      → Plays logs counts (told t q (take k (drop taken piece))) u r out' m out'' lines' lm lines'' n ln d
      → Plays logs counts (told s p (take (taken + k) piece)) u r out 0 out'' lines 0 lines'' (m + n) (lm + ln) (b + d)
  plays-turn logs counts s t u p q r piece taken k out out' out'' lines lines' lines'' m n lm ln b d sound first second =
      let x = told s p (take taken piece) in
      let y = told t q (take k (drop taken piece)) in
      let sent : 0 + m ≡ m = omega arith in
      let off : 0 + lm ≡ lm = omega arith in
      rw (told-two s t p q piece taken k sound first.state first.kept) (record {
        state = second.state;
        kept = second.kept;
        sent = writes-more x.reports y.reports out out' out'' 0 m n first.sent (rw sent second.sent);
        off = rw (lines-two logs x.lines y.lines) (writes-more (lines_if logs x.lines) (lines_if logs y.lines) lines lines'
            lines'' 0 lm ln first.off (rw off second.off));
        rings = rings-two counts x.rung y.rung b d first.rings second.rings;
      })

-- what stopped it early isn't there
pub some-taken : (n len cap room was off most need : ℕ) → (n < len → (room < off + need) ⊎ (was + most < off + need))
    → (n ≡ 0 → off ≡ 0) → 1 ≤ len → need ≤ cap → cap ≤ room → need ≤ most → 1 ≤ n
some-taken zero len cap room was off most need stop none some enough more free = by (none refl) (stop (omega (arith, some)))
  where
    by : off ≡ 0 → (room < off + need) ⊎ (was + most < off + need) → 1 ≤ zero
    by empty (inl full) = absurd (omega (arith, full, empty, enough, more))
    by empty (inr full) = absurd (omega (arith, full, empty, free))
some-taken (suc n) len cap room was off most need stop none some enough more free = omega arith
