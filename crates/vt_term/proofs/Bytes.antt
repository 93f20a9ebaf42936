-- The bytes at the front of a chunk, and their events.
use Rattle.std.proofs.Common.{◌≡◌, ℕ, List, [], ◌∷◌, None, ◌≤◌, inl, inr, All, get_or, arith, map, refl, sym, ap}
use Rattle.std.proofs.Common.{◌∙◌, ◌+◌, ◌-◌, take, drop, length, length-drop, length-take}
use Rattle.std.specs.Prelude.{slice_index}
use Rattle.std.proofs.Math.Seq.{take-length, take-take}
use Rattle.std.proofs.lemmas.List.{drop-drop, get_or-drop}
use Rattle.std.proofs.lemmas.List.Elements.{All-map}
use Rattle.vt_syntax.specs.declared.event.Event.TheVariants.{Print, Control}
use Rattle.vt_syntax.specs.declared.held.Held.TheVariants.{Nothing}
use Rattle.vt_syntax.specs.Front.{IsFront}
use Rattle.vt_syntax.specs.Class.{opens_string, IsPlain}
use Rattle.vt_syntax.specs.Held.{held_after, IsHeldPart}
use Rattle.vt_syntax.specs.Reading.{events_of}
use Rattle.vt_syntax.specs.Laws.{SpellingLaw}
use Rattle.vt_syntax.specs.Spelling.{IsEvent, IsGraphic, spell_events}
use Rattle.vt_syntax.proofs.Fronts.{front_single, front_graphic}
use Rattle.vt_glyph.specs.Invocation.{HasGlyph}

-- nothing is a held part
pub nothing-held : IsHeldPart Nothing
nothing-held = record { rest = None; is_rest = tt; of_rest = refl }

-- ---- parts of a piece

-- starting at a place, to its end
pub rest-of : (piece : List ℕ) (at : ℕ) → take (length piece - at) (drop at piece) ≡ drop at piece
rest-of piece at = let e : length piece - at ≡ length (drop at piece) = sym (length-drop at piece) in
    rw e (take-length (drop at piece))

-- all but the last of the bytes at the front
pub but-last : (n : ℕ) (xs : List ℕ) → 1 ≤ n → n ≤ length xs → take (length (take n xs) - 1) (take n xs) ≡ take (n - 1) xs
but-last n xs some within =
    let len : length (take n xs) ≡ n = length-take n xs ∙ omega (arith, within) in
    ap (λ k. take (k - 1) (take n xs)) len ∙ take-take (n - 1) n xs (omega arith)

-- how many bytes of a piece are taken where this rest is left
abbrev pub taken : List ℕ → List ℕ → ℕ
taken piece rest = length piece - length rest

-- what is left of a rest after so many bytes
abbrev pub behind : ℕ → List ℕ → List ℕ
behind n rest = take (length rest - n) (drop n rest)

module _ (piece rest : List ℕ) (n : ℕ) (within : length rest ≤ length piece) (fits : n ≤ length rest) where
  pub taken-more : taken piece (behind n rest) ≡ taken piece rest + n
  taken-more = rw (rest-of rest n) (omega (arith, length-drop n rest))

  pub behind-more : rest ≡ drop (taken piece rest) piece → behind n rest ≡ drop (taken piece (behind n rest)) piece
  behind-more is =
      rest-of rest n ∙ ap (λ (xs : List ℕ). drop n xs) is ∙ drop-drop n (taken piece rest) piece
      ∙ ap (λ (at : ℕ). drop at piece) (sym taken-more)

-- ---- graphic bytes are printed

prints-spelled : (bytes : List ℕ) → spell_events (map Print bytes) ≡ bytes
prints-spelled [] = refl
prints-spelled (b ∷ bytes) = ap (λ (rest : List ℕ). b ∷ rest) (prints-spelled bytes)

pub graphic : (b : ℕ) → HasGlyph b → IsGraphic b
graphic b (inl h) = inl h
graphic b (inr h) = inr (omega arith)

-- plain bytes are graphic
pub plain-have : (bytes : List ℕ) → All IsPlain bytes → All HasGlyph bytes
plain-have bytes plain = λ i x h. inl (plain i x h)

module _ (spelling : SpellingLaw) (bytes : List ℕ) (have : All HasGlyph bytes) where
  prints-are : All IsEvent (map Print bytes)
  prints-are = All-map IsEvent Print bytes (λ k d h. graphic (get_or bytes k d) (have k d h))

  pub graphic-events : events_of bytes ≡ map Print bytes
  graphic-events = ap events_of (sym (prints-spelled bytes)) ∙ spelling.all_events (map Print bytes) prints-are

  pub graphic-held : held_after bytes ≡ Nothing
  graphic-held = ap held_after (sym (prints-spelled bytes)) ∙ spelling.all_held (map Print bytes) prints-are

-- ---- an event of one byte at the front of a piece, between sequences

module _ (piece : List ℕ) (some : 1 ≤ length piece) where
  pub graphic-front : IsGraphic (slice_index piece 0) → IsFront piece 1 (Print (slice_index piece 0))
  graphic-front is = front_graphic piece some is

  pub return-front : slice_index piece 0 ≡ 0x0D → IsFront piece 1 (Control 0x0D)
  unfolding opens_string
  return-front is = rw is at (front_single piece some (rw is refl))

  pub feed-front : slice_index piece 0 ≡ 0x0A → IsFront piece 1 (Control 0x0A)
  unfolding opens_string
  feed-front is = rw is at (front_single piece some (rw is refl))

-- LF after the first byte
pub feed-behind : (piece : List ℕ) → 2 ≤ length piece → slice_index piece 1 ≡ 0x0A
    → IsFront (take (length piece - 1) (drop 1 piece)) 1 (Control 0x0A)
feed-behind piece some is =
    rw (rest-of piece 1) (feed-front (drop 1 piece) (omega (arith, some, length-drop 1 piece)) (get_or-drop 1 piece 0 0 ∙ is))
