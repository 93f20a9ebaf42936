use Rattle.std.proofs.Common.{arith, ◌≡◌, ℕ, ◌+◌, ◌-◌, ◌<◌, ◌≤◌, ◌++◌, List, length, take, drop, sym, ◌∙◌, Bool, true, false, length-drop}
use Rattle.std.specs.Prelude.{◌==◌, ◌&&◌, ◌||◌, nat_lt}
use Rattle.std.proofs.Math.Seq.{take-add, take-length}
use Rattle.std.proofs.lemmas.List.{take-append-drop, take_all}
use Rattle.std.proofs.KnownBytes.{Appends-trans, Appends-kept}
use Rattle.std.proofs.lemmas.Grind.{common_steps}
use Rattle.vt_device.specs.Writing.{IsProperBeginning}
use Rattle.vt_device.proofs.writing.write_whole.Goals as goal

-- the part of p starting at `at`, to its end
rest-is : (p : List ℕ) (at : ℕ) → take (length p - at) (drop at p) ≡ drop at p
rest-is p at = let e : length p - at ≡ length (drop at p) = sym (length-drop at p) in rw e (take-length (drop at p))

took-more : (p : List ℕ) (at n : ℕ) → take at p ++ take n (take (length p - at) (drop at p)) ≡ take (at + n) p
took-more p at n = rw rest-is (sym (take-add at n p))

-- so many more of the rest are still within p
more-within : (p : List ℕ) (at n : ℕ) → at ≤ length p → n ≤ length (take (length p - at) (drop at p)) → at + n ≤ length p
more-within p at n within bound =
    let rest : n ≤ length (drop at p) = rw rest-is at bound in let fits = simp length-drop at rest in omega (arith, fits)

is-proper : (p : List ℕ) (n : ℕ) → n < length p → IsProperBeginning (take n p) p
is-proper p n less = record {
  more = drop n p;
  whole = sym (take-append-drop n p);
  missing = rw length-drop (omega arith);
}

-- a write of no byte of the rest, which isn't empty, sets the flag
is-failed : (p : List ℕ) (at n : ℕ) (old : Bool) → at < length p → n ≡ 0 → old ≡ false →
    (old || ((n == 0) && nat_lt 0 (length (take (length p - at) (drop at p))))) ≡ true
is-failed p at n old less none works = rw (rest-is p at) (rw length-drop (grind arith))

pub overflow_add-at : goal.overflow_add-at
overflow_add-at g c =
    let within = more-within _ _ _ c.loop-at.invariant.within c.in-Ok.ensures.bound in omega (arith, within)

pub loop-at-smaller : goal.loop-at-smaller
loop-at-smaller g c =
    let within = more-within _ _ _ c.loop-at.invariant.within c.in-Ok.ensures.bound in
    omega (arith, within, c.in-Ok.n-test)

pub loop-at-preserved : goal.loop-at-preserved
loop-at-preserved g c = record {
  within = more-within _ _ _ c.loop-at.invariant.within c.in-Ok.ensures.bound;
  given = rw (← took-more c.args.piece.now c.loop-at.at c.in-Ok.n)
      (Appends-trans _ _ _ _ _ c.loop-at.invariant.given c.in-Ok.ensures.bytes);
  failed = grind (arith, common_steps, c.in-Ok.n-test, c.in-Ok.ensures);
  ended = c.in-Ok.ensures.ended ∙ c.loop-at.invariant.ended;
}

pub returns-in-Ok-eq0-clause-gives : goal.returns-in-Ok-eq0-clause-gives
returns-in-Ok-eq0-clause-gives g c = record {
  w = take (c.loop-at.at + c.in-Ok-eq0.field-0) c.args.piece.now;
  given = rw (← took-more c.args.piece.now c.loop-at.at c.in-Ok-eq0.field-0)
      (Appends-trans _ _ _ _ _ c.loop-at.invariant.given c.in-Ok-eq0.ensures.bytes);
  holds = (
    c.in-Ok-eq0.ensures.failed
        ∙ is-failed _ _ _ _ c.loop-at-test.true c.in-Ok-eq0.field-0-test c.loop-at.invariant.failed,
    is-proper _ _ (omega (arith, c.in-Ok-eq0.field-0-test)),
  );
}

pub returns-in-Err-clause-gives : goal.returns-in-Err-clause-gives
returns-in-Err-clause-gives g c = record {
  w = take c.loop-at.at c.args.piece.now;
  given = Appends-kept _ _ _ _ c.loop-at.invariant.given c.in-Err.ensures.bytes;
  holds = (grind (arith, common_steps, c.in-Err.ensures), is-proper _ _ c.loop-at-test.true);
}

pub returns-clause-gives : goal.returns-clause-gives
returns-clause-gives g c = record {
  w = take c.loop-at.at c.args.piece.now;
  given = c.loop-at.invariant.given;
  holds = (c.loop-at.invariant.failed, take_all _ _ c.loop-at-test.false);
}
