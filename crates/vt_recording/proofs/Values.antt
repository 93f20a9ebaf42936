-- The value of a fact in the first line of a timing file that has it.
use Rattle.std.proofs.Common.{◌≡◌, ◌+◌, ◌≤◌, ◌∙◌, [], ℕ, List, length, drop, Bool, true, false, Option, Some, None, refl, sym, ap, arith, nat_lt}
use Rattle.std.specs.Option.{option_or}
use Rattle.std.proofs.lemmas.List.{length-take-le, drop_all, drop-drop}
use Rattle.std.proofs.lemmas.Bool.Decides.{nat_tests}
use Rattle.vt_recording.specs.Lines.{lines_of, front_by, front_line}
use Rattle.vt_recording.specs.Timing.{value_in, value_of}
use Rattle.vt_recording.proofs.FirstLines.{feed_at, cut_at, place, lines_cut}

option_or-None : (value : Option (List ℕ)) → option_or value None ≡ value
option_or-None None = refl
option_or-None (Some x) = refl

module _ (name : List ℕ) where
  -- the first line and then the others
  abbrev of_line : (line xs : List ℕ) → Option (List ℕ)
  of_line line xs = option_or (value_in name line) (value_of name (lines_of (drop (length line + 1) xs)))

  none_left : value_of name (lines_of []) ≡ None
  unfolding value_of lines_of
  none_left = refl

  cut_front : (xs : List ℕ) (n : ℕ) (is : Bool) → nat_lt n (length xs) ≡ is
      → value_of name (cut_at (place n (length xs)) xs) ≡ of_line (front_by (place n (length xs)) xs) xs
  unfolding value_of
  cut_front xs n false is =
      let all : drop (length xs + 1) xs ≡ [] = drop_all (length xs + 1) xs (omega arith) in
      rw (is, all, none_left) refl
  cut_front xs n true is =
      let small : n ≤ length xs = grind (arith, nat_tests, is) in
      rw (is, length-take-le n xs small) refl

  of_front : (xs : List ℕ) → value_of name (lines_of xs) ≡ of_line (front_line xs) xs
  of_front xs = ap (value_of name) (lines_cut xs) ∙ cut_front xs (feed_at xs) _ refl

  module _ (text : List ℕ) (at : ℕ) (whole : Option (List ℕ))
      (ahead : whole ≡ value_of name (lines_of (drop at text))) where
    at_line : (line : List ℕ) (value : Option (List ℕ)) → line ≡ front_line (drop at text)
        → value ≡ value_in name line
        → whole ≡ option_or value (value_of name (lines_of (drop (at + (length line + 1)) text)))
    at_line line value e is =
        rw (is, e) (ahead ∙ of_front (drop at text)
        ∙ ap (λ (l : List ℕ). option_or (value_in name (front_line (drop at text))) (value_of name (lines_of l)))
        (drop-drop (length (front_line (drop at text)) + 1) at text))

    pub none_here : (line : List ℕ) → line ≡ front_line (drop at text) → None ≡ value_in name line
        → whole ≡ value_of name (lines_of (drop (at + (length line + 1)) text))
    none_here line e is = at_line line None e is

    pub one_here : (line value : List ℕ) → line ≡ front_line (drop at text) → Some value ≡ value_in name line
        → Some value ≡ whole
    one_here line value e is = sym (at_line line (Some value) e is)

    pub none_at_end : length text ≤ at → None ≡ whole
    none_at_end h =
        sym (ahead ∙ ap (λ (l : List ℕ). value_of name (lines_of l)) (drop_all at text h) ∙ none_left)
