-- The last place that has words.
use Rattle.std.proofs.Common.{◌≡◌, ◌+◌, ◌<◌, ◌∙◌, [], ◌∷◌, ℕ, zero, suc, List, Option, Some, None, true, false, refl, sym, ap, arith, length, drop}
use Rattle.std.specs.Option.{option_or}
use Rattle.std.proofs.lemmas.List.{at_drop_more, drop_all}
use Rattle.vt_recording.specs.Script.{begins_with, stripped}
use Rattle.vt_recording.specs.Heading.{after_last}

module _ (words : List ℕ) where
  one_more : (text : List ℕ) (at : ℕ) → at < length text
      → after_last words (drop at text) ≡ option_or (after_last words (drop (at + 1) text)) (stripped words (drop at text))
  unfolding after_last
  one_more text at within =
      at_drop_more (after_last words) text at 0 within
      ∙ ap (option_or (after_last words (drop (at + 1) text))) (sym (at_drop_more (stripped words) text at 0 within))

  -- a later place is the last one of the whole text, too
  in_whole : (at : ℕ) (text rest : List ℕ) → after_last words (drop at text) ≡ Some rest
      → after_last words text ≡ Some rest
  unfolding after_last
  in_whole zero text rest e = e
  in_whole (suc at) [] rest e = e
  in_whole (suc at) (byte ∷ text) rest e = rw (in_whole at text rest e) refl

  pub none_at_end : (text : List ℕ) → after_last words (drop (length text) text) ≡ None
  unfolding after_last
  none_at_end text = ap (after_last words) (drop_all (length text) text (omega arith))

  module _ (text : List ℕ) (at next : ℕ) (is : next ≡ at + 1) (within : at < length text)
      (later : after_last words (drop next text) ≡ None) where
    of_here : after_last words (drop at text) ≡ stripped words (drop at text)
    of_here =
        one_more text at within
        ∙ ap (λ (o : Option (List ℕ)). option_or o (stripped words (drop at text))) (rw is at later)

    pub last_here : (rest : List ℕ) → begins_with words (drop at text) ≡ true → rest ≡ drop (length words) (drop at text)
        → Some rest ≡ after_last words text
    last_here rest begins e =
        let here : stripped words (drop at text) ≡ Some rest = rw (begins, e) refl in
        sym (in_whole at text rest (of_here ∙ here))

    pub none_here : begins_with words (drop at text) ≡ false → after_last words (drop at text) ≡ None
    none_here begins =
        let here : stripped words (drop at text) ≡ None = rw begins refl in
        of_here ∙ here
