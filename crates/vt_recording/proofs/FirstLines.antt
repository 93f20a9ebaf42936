-- The lines of a text by its first one, and the text after a byte order mark and white space.
use Rattle.std.proofs.Common.{◌≡◌, ◌+◌, ◌-◌, ◌≤◌, ◌∷◌, [], ℕ, suc, List, length, take, drop, Bool, true, false, Option, Some, None, cond, refl, ap, arith, length-drop, nat_eq, nat_le, nat_lt}
use Rattle.std.specs.List.{position_or_len}
use Rattle.std.proofs.lemmas.List.{drop_all, drop-drop}
use Rattle.std.proofs.lemmas.Bool.Decides.{nat_tests}
use Rattle.vt_recording.specs.Lines.{lines_of, put_before}
use Rattle.vt_recording.specs.Asciicast.{trimmed, json_text, start_of}

-- the place of the first LF, or the length
abbrev pub feed_at : List ℕ → ℕ
feed_at xs = position_or_len (λ b. nat_eq b 0x0A) xs

-- the first line and those after it
abbrev pub cut_at : Option ℕ → List ℕ → List (List ℕ)
cut_at None xs = xs ∷ []
cut_at (Some n) xs = take n xs ∷ lines_of (drop (n + 1) xs)

abbrev pub place : (n most : ℕ) → Option ℕ
place n most = cond (nat_lt n most) (Some n) None

put_one : (x : ℕ) (xs : List ℕ) (n most : ℕ) (is : Bool) → nat_lt n most ≡ is
    → put_before x false (cut_at (place n most) xs) ≡ cut_at (place (1 + n) (suc most)) (x ∷ xs)
put_one x xs n most true is =
    let f : 1 + n ≡ suc n = omega arith in
    let more : nat_lt (suc n) (suc most) ≡ true = grind (arith, nat_tests, is) in
    let g : suc n + 1 ≡ suc (n + 1) = omega arith in
    rw (f, is, more, g) refl
put_one x xs n most false is =
    let f : 1 + n ≡ suc n = omega arith in
    let more : nat_lt (suc n) (suc most) ≡ false = grind (arith, nat_tests, is) in
    rw (f, is, more) refl

by_byte : (x : ℕ) (xs : List ℕ) (ends : Bool) → nat_eq x 0x0A ≡ ends
    → lines_of xs ≡ cut_at (place (feed_at xs) (length xs)) xs
    → put_before x ends (lines_of xs) ≡ cut_at (place (feed_at (x ∷ xs)) (length (x ∷ xs))) (x ∷ xs)
by_byte x xs true is more =
    let some : nat_lt 0 (suc (length xs)) ≡ true = grind (arith, nat_tests) in
    rw (is, some) refl
by_byte x xs false is more = rw (is, more) (put_one x xs (feed_at xs) (length xs) _ refl)

pub lines_cut : (xs : List ℕ) → lines_of xs ≡ cut_at (place (feed_at xs) (length xs)) xs
unfolding lines_of
lines_cut [] = refl
lines_cut (x ∷ xs) = by_byte x xs (nat_eq x 0x0A) refl (lines_cut xs)

-- an end of a list, by its length
end_at : (count : ℕ) (xs : List ℕ) (is : Bool) → nat_le count (length xs) ≡ is
    → drop (length xs - length (drop count xs)) xs ≡ drop count xs
end_at count xs true is =
    let small : count ≤ length xs = grind (arith, nat_tests, is) in
    let same : length xs - (length xs - count) ≡ count = omega (arith, small) in
    let whole : length (drop count xs) ≡ length xs - count = length-drop count xs in
    rw whole (ap (λ n. drop n xs) same)
end_at count xs false is =
    let great : length xs ≤ count = grind (arith, nat_tests, is) in
    let none : drop count xs ≡ [] = drop_all count xs great in
    rw none (drop_all (length xs - 0) xs (omega arith))

end_by : (xs end : List ℕ) (count : ℕ) → end ≡ drop count xs → drop (length xs - length end) xs ≡ end
end_by xs end count e = rw e (end_at count xs _ refl)

text_after : (mark : Bool) (bytes : List ℕ)
    → drop (length bytes - length (trimmed (cond mark (drop 3 bytes) bytes))) bytes ≡ trimmed (cond mark (drop 3 bytes) bytes)
text_after false bytes = end_by bytes (trimmed bytes) _ refl
text_after true bytes = end_by bytes (trimmed (drop 3 bytes)) _ (drop-drop _ 3 bytes)

pub text_at : (bytes : List ℕ) → drop (start_of bytes) bytes ≡ json_text bytes
text_at bytes = text_after _ bytes
