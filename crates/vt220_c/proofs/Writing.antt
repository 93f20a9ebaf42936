-- Bytes that are written one after another, after what is in a buffer.
use Rattle.std.proofs.Common.{◌≡◌, ◌∙◌, ap, sym, refl, List, ℕ, [], ◌++◌, ◌+◌, ◌-◌, ◌≤◌, length, take, drop}
use Rattle.std.proofs.Common.{append_assoc, length-append, length-drop, arith}
use Rattle.std.proofs.Math.Seq.{take-append_seam, drop-append_seam}
use Rattle.std.proofs.lemmas.List.{drop-drop, length-take-le, take-append-drop}
use Rattle.vt220_c.specs.Written.{written_over}
use Rattle.vt220_c.specs.Told.{WritesAt}

-- nothing was written
pub writes-nothing : (before : List ℕ) (at : ℕ) → at ≤ length before → WritesAt [] before at before 0
writes-nothing before at within = record {
  count = refl;
  over = sym (take-append-drop at before);
  fits = omega (arith, within);
}

same-length : (xs before middle : List ℕ) (at m : ℕ) → WritesAt xs before at middle m → length middle ≡ length before
same-length xs before middle at m w =
    let front = length-take-le at before (omega (arith, w.fits)) in
    let all : length middle ≡ length (take at before) + (length xs + (length (drop at before) - length xs)) =
    ap (λ (t : List ℕ). length t) w.over ∙ length-append (take at before) (written_over xs (drop at before))
    ∙ ap (λ (n : ℕ). length (take at before) + n) (length-append xs (drop (length xs) (drop at before))
    ∙ ap (λ (n : ℕ). length xs + n) (length-drop (length xs) (drop at before))) in
    let rest = length-drop at before in
    omega (arith, all, front, rest, w.fits, w.count)

-- writing after what was written
pub writes-more : (xs ys before middle after : List ℕ) (at m n : ℕ) → WritesAt xs before at middle m
    → WritesAt ys middle (at + m) after n → WritesAt (xs ++ ys) before at after (m + n)
writes-more xs ys before middle after at m n first second =
    let front = take at before in
    let rest = drop at before in
    let len : length front ≡ at = length-take-le at before (omega (arith, first.fits)) in
    let seam : at + m ≡ length (front ++ xs) = omega (arith, len, first.count, length-append front xs) in
    let was : middle ≡ (front ++ xs) ++ drop (length xs) rest =
    first.over ∙ sym (append_assoc front xs (drop (length xs) rest)) in
    let taken : take (at + m) middle ≡ front ++ xs =
    rw (seam, was) (take-append_seam (front ++ xs) (drop (length xs) rest)) in
    let dropped : drop (at + m) middle ≡ drop (length xs) rest =
    rw (seam, was) (drop-append_seam (front ++ xs) (drop (length xs) rest)) in
    let sum : length xs + length ys ≡ length (xs ++ ys) = sym (length-append xs ys) in
    let total : length middle ≡ length before = same-length xs before middle at m first in
    record {
      count = omega (arith, first.count, second.count, sum);
      over = second.over ∙ rw (taken, dropped) (ap (λ (t : List ℕ). (front ++ xs) ++ (ys ++ t))
          (drop-drop (length ys) (length xs) rest) ∙ rw sum (append_assoc front xs (ys ++ drop (length (xs ++ ys)) rest)
          ∙ ap (λ (t : List ℕ). front ++ t) (sym (append_assoc xs ys (drop (length (xs ++ ys)) rest)))));
      fits = omega (arith, second.fits, total);
    }
