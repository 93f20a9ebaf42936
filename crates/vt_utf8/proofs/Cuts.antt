-- UTF-8 may be cut anywhere, and ASCII is played as it is.
use Rattle.std.proofs.Common.{◌≡◌, ℕ, suc, ◌<◌, true, List, [], ◌∷◌, ◌++◌, All, refl, sym, ap, ◌∙◌, arith, append_assoc, append-nil}
use Rattle.std.specs.Prelude.{nat_lt}
use Rattle.std.proofs.lemmas.Bool.Decides.{nat_tests}
use Rattle.vt_term.specs.State.{State}
use Rattle.vt_screen.specs.declared.size.Size.{Size}
use Rattle.vt_term.specs.Sound.{IsSoundAt}
use Rattle.vt_term.specs.Play.{Played, play, both, joined}
use Rattle.vt_utf8.specs.Decoding.{is_begun, read, characters, pending_after}
use Rattle.vt_utf8.specs.Translation.{translation}
use Rattle.vt_utf8.specs.Play.{translated_all, translated, play_utf8, play_utf8_all}

-- ---- decoding

pub pending-append : (pending a b : List ℕ) → pending_after pending (a ++ b) ≡ pending_after (pending_after pending a) b
pending-append pending [] b = refl
pending-append pending (x ∷ a) b = pending-append (read pending x).pending a b

pub characters-append : (pending a b : List ℕ)
    → characters pending (a ++ b) ≡ characters pending a ++ characters (pending_after pending a) b
characters-append pending [] b = refl
characters-append pending (x ∷ a) b =
    let first = (read pending x).characters in
    let left = (read pending x).pending in
    ap (λ (t : List ℕ). first ++ t) (characters-append left a b)
    ∙ sym (append_assoc first (characters left a) (characters (pending_after left a) b))

-- ---- translating

module _ {size : Size} (none : (s : State) → IsSoundAt size s → play s [] ≡ record { state = s; reports = [] })
    (two : (s : State) (a b : List ℕ) → play s (a ++ b) ≡ both (play s a) (play (play s a).state b))
    (keeps : (s : State) (bytes : List ℕ) → IsSoundAt size s → IsSoundAt size (play s bytes).state) where
  -- the state after two lists of bytes
  state-append : (s : State) (a b : List ℕ) → (play s (a ++ b)).state ≡ (play (play s a).state b).state
  state-append s a b = ap (λ (p : Played). p.state) (two s a b)

  pub translated-append : (s : State) (xs ys : List ℕ) → IsSoundAt size s → translated_all s (xs ++ ys)
      ≡ translated_all s xs ++ translated_all (play s (translated_all s xs)).state ys
  translated-append s [] ys sound = rw (none s sound) refl
  translated-append s (x ∷ xs) ys sound =
      let own = translation s x in
      let t = (play s own).state in
      ap (λ (bytes : List ℕ). own ++ bytes) (translated-append t xs ys (keeps s own sound))
      ∙ sym (append_assoc own (translated_all t xs) (translated_all (play t (translated_all t xs)).state ys))
      ∙ ap (λ (u : State). (own ++ translated_all t xs) ++ translated_all u ys)
      (sym (state-append s own (translated_all t xs)))

  pub translated-parts : (s : State) (pending a b : List ℕ) → IsSoundAt size s → translated s pending (a ++ b)
      ≡ translated s pending a ++ translated (play_utf8 s pending a).state (pending_after pending a) b
  unfolding play_utf8 translated
  translated-parts s pending a b sound =
      ap (λ (cs : List ℕ). translated_all s cs) (characters-append pending a b)
      ∙ translated-append s (characters pending a) (characters (pending_after pending a) b) sound

  pub translated-byte : (s : State) (pending : List ℕ) (b : ℕ) (xs ys : List ℕ) → IsSoundAt size s
      → xs ++ ys ≡ (read pending b).characters
      → translated s pending (b ∷ []) ≡ translated_all s xs ++ translated_all (play s (translated_all s xs)).state ys
  unfolding translated
  translated-byte s pending b xs ys sound are =
      ap (λ (cs : List ℕ). translated_all s cs) (append-nil (read pending b).characters ∙ sym are)
      ∙ translated-append s xs ys sound

  pub utf8-nothing : (s : State) (pending : List ℕ) → IsSoundAt size s
      → play_utf8 s pending [] ≡ record { state = s; reports = [] }
  unfolding play_utf8 translated
  utf8-nothing s pending sound = none s sound

  pub utf8-append : (s : State) (pending a b : List ℕ) → IsSoundAt size s → play_utf8 s pending (a ++ b)
      ≡ both (play_utf8 s pending a) (play_utf8 (play_utf8 s pending a).state (pending_after pending a) b)
  unfolding play_utf8 translated
  utf8-append s pending a b sound =
      let first = characters pending a in
      let second = characters (pending_after pending a) b in
      ap (λ (cs : List ℕ). play s (translated_all s cs)) (characters-append pending a b)
      ∙ ap (λ (bytes : List ℕ). play s bytes) (translated-append s first second sound)
      ∙ two s (translated_all s first) (translated_all (play s (translated_all s first)).state second)

  pub utf8-sound : (s : State) (pending bytes : List ℕ) → IsSoundAt size s → IsSoundAt size (play_utf8 s pending bytes).state
  unfolding play_utf8
  utf8-sound s pending bytes sound = keeps s (translated s pending bytes) sound

  pub utf8-joined : (s : State) (pending : List ℕ) (pieces : List (List ℕ)) → IsSoundAt size s
      → play_utf8_all s pending pieces ≡ play_utf8 s pending (joined pieces)
  utf8-joined s pending [] sound = sym (utf8-nothing s pending sound)
  utf8-joined s pending (piece ∷ pieces) sound =
      ap (λ (p : Played). both (play_utf8 s pending piece) p)
      (utf8-joined (play_utf8 s pending piece).state (pending_after pending piece) pieces
      (utf8-sound s pending piece sound))
      ∙ sym (utf8-append s pending piece (joined pieces) sound)

-- ---- ASCII

pub read-ascii : (b : ℕ) → b < 0x80 → read [] b ≡ record { characters = b ∷ []; pending = [] }
unfolding read is_begun
read-ascii b low = let is : nat_lt b 0x80 ≡ true = grind (arith, nat_tests) in rw is refl

pub translation-ascii : (s : State) (c : ℕ) → c < 0x80 → translation s c ≡ c ∷ []
unfolding translation
translation-ascii s c low = let is : nat_lt c 0x80 ≡ true = grind (arith, nat_tests) in rw is refl

first-of : (b : ℕ) (bytes : List ℕ) → All (λ b. b < 0x80) (b ∷ bytes) → b < 0x80
first-of b bytes all = all 0 0 (omega arith)

rest-of : (b : ℕ) (bytes : List ℕ) → All (λ b. b < 0x80) (b ∷ bytes) → All (λ b. b < 0x80) bytes
rest-of b bytes all = λ k d less. all (suc k) d (omega (arith, less))

pub ascii-pending : (bytes : List ℕ) → All (λ b. b < 0x80) bytes → pending_after [] bytes ≡ []
ascii-pending [] all = refl
ascii-pending (b ∷ bytes) all = rw (read-ascii b (first-of b bytes all)) (ascii-pending bytes (rest-of b bytes all))

pub ascii-characters : (bytes : List ℕ) → All (λ b. b < 0x80) bytes → characters [] bytes ≡ bytes
ascii-characters [] all = refl
ascii-characters (b ∷ bytes) all =
    rw (read-ascii b (first-of b bytes all))
    (ap (λ (t : List ℕ). b ∷ t) (ascii-characters bytes (rest-of b bytes all)))

pub ascii-all : (s : State) (bytes : List ℕ) → All (λ b. b < 0x80) bytes → translated_all s bytes ≡ bytes
ascii-all s [] all = refl
ascii-all s (b ∷ bytes) all =
    rw (translation-ascii s b (first-of b bytes all))
    (ap (λ (t : List ℕ). b ∷ t) (ascii-all (play s (b ∷ [])).state bytes (rest-of b bytes all)))

pub ascii-translated : (s : State) (bytes : List ℕ) → All (λ b. b < 0x80) bytes → translated s [] bytes ≡ bytes
unfolding translated
ascii-translated s bytes all = rw (ascii-characters bytes all) (ascii-all s bytes all)

pub ascii-played : (s : State) (bytes : List ℕ) → All (λ b. b < 0x80) bytes → play_utf8 s [] bytes ≡ play s bytes
unfolding play_utf8
ascii-played s bytes all = ap (λ (t : List ℕ). play s t) (ascii-translated s bytes all)
