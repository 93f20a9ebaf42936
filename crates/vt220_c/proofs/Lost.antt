-- How often a byte of UTF-8 rings: as often as its ASCII character, whatever was pending.
use Rattle.std.proofs.Common.{◌≡◌, ◌≢◌, ◌∙◌, ap, sym, refl, List, ℕ, [], ◌∷◌, ◌++◌, ◌+◌, ◌≤◌, ◌<◌, length, arith}
use Rattle.std.proofs.Common.{◌==◌, Bool, true, false, inl, inr, Option, Some, None, All, get_or, append-nil}
use Rattle.std.specs.Prelude.{nat_lt, IfSome, if◌then◌else◌}
use Rattle.std.specs.Option.{option_to_list}
use Rattle.std.proofs.lemmas.List.{take_all}
use Rattle.std.proofs.lemmas.Bool.Decides.{nat_tests}
use Rattle.bstr.specs.Utf8.{replacement}
use Rattle.unicode_width.proofs.Computing.{unicode_width}
use Rattle.vt_syntax.specs.declared.held.Held.{Held}
use Rattle.vt_syntax.specs.declared.held.Held.TheVariants.{Nothing, Escape, Control, Spoilt, Text}
use Rattle.vt_syntax.specs.declared.event.Event.TheVariants as event
use Rattle.vt_syntax.specs.Class.{opens_string}
use Rattle.vt_syntax.specs.Held.{held_from, IsHeldPart}
use Rattle.vt_syntax.specs.Laws.{SplitLaw, SpellingLaw, ControlLaw}
use Rattle.vt_term.specs.State.{State}
use Rattle.vt_screen.specs.declared.size.Size.{Size}
use Rattle.vt_term.specs.Sound.{IsSoundAt}
use Rattle.vt_term.specs.Play.{play}
use Rattle.vt_term.proofs.Bytes.{nothing-held}
use Rattle.vt_utf8.specs.Cells.{cells}
use Rattle.vt_utf8.specs.Translation.{translation, put, IsPlain}
use Rattle.vt_utf8.specs.Decoding.{read}
use Rattle.vt_utf8.specs.Play.{translated_all, translated}
use Rattle.vt220_c.specs.Bells.{bells}
use Rattle.vt220_c.specs.BellCuts.{bells-append, bells-nil, rung_by_character}
use Rattle.vt220_c.proofs.Rung.{quiet}

abbrev is_text : Held → Bool
is_text Nothing = false
is_text (Escape inters) = false
is_text (Control marker params full phase) = false
is_text Spoilt = false
is_text (Text osc) = true

-- a byte rings once if it is BEL and no control string is held
abbrev rings_by : Bool → Bool → ℕ
rings_by false text = 0
rings_by true false = 1
rings_by true true = 0

plain-not-bell : (b : ℕ) → IsPlain b → b ≢ 7
plain-not-bell b (inl e) = omega (arith, e)
plain-not-bell b (inr (low, high)) = omega (arith, low)

translation-ascii : (s : State) (c : ℕ) → c < 0x80 → translation s c ≡ c ∷ []
unfolding translation
translation-ascii s c low = let is : nat_lt c 0x80 ≡ true = grind (arith, nat_tests) in rw is refl

module _ (size : Size) (split : SplitLaw) (controls : ControlLaw) (spelling : SpellingLaw)
    (sounds : (s : State) (bytes : List ℕ) → IsSoundAt size s → IsSoundAt size (play s bytes).state)
    (plain : (s : State) (c : ℕ) → 0x80 ≤ c → All IsPlain (translation s c))
    (writes : (s : State) (c : ℕ) → IsSoundAt size s → s.held ≡ Nothing → 0x80 ≤ c → cells c ≡ 1
    → (play s (translation s c)).state.held ≡ s.held) where
  one-byte : (held : Held) (b : ℕ) → IsHeldPart held → bells held (b ∷ []) ≡ rings_by (b == 7) (is_text held)
  one-byte held b is = by (b == 7) refl
    where
      bell : (held : Held) → IsHeldPart held → bells held (7 ∷ []) ≡ rings_by true (is_text held)
      bell Nothing is = controls.carried_out Nothing 7 is (omega arith) (λ osc e. cc)
      bell (Escape inters) is = controls.carried_out (Escape inters) 7 is (omega arith) (λ osc e. cc)
      bell (Control marker params full phase) is =
          controls.carried_out (Control marker params full phase) 7 is (omega arith) (λ osc e. cc)
      bell Spoilt is = controls.carried_out Spoilt 7 is (omega arith) (λ osc e. cc)
      bell (Text osc) is = controls.in_string osc 7 is (omega arith)

      by : (t : Bool) → (b == 7) ≡ t → bells held (b ∷ []) ≡ rings_by t (is_text held)
      by true h = let e : b ≡ 7 = grind (arith, nat_tests) in rw e (bell held is)
      by false h = let e : b ≢ 7 = grind (arith, nat_tests) in controls.by_no_other held b 7 is (omega arith) e

  -- a character beyond ASCII rings no bell
  beyond-quiet : (s : State) (c : ℕ) → IsSoundAt size s → 0x80 ≤ c → bells s.held (translation s c) ≡ 0
  beyond-quiet s c sound beyond =
      let bytes = translation s c in
      let none = quiet split controls (length bytes) s.held bytes sound.held
      (λ i low. plain-not-bell (get_or bytes i 0) (plain s c beyond i 0 low)) in
      ap (λ (xs : List ℕ). bells s.held xs) (sym (take_all (length bytes) bytes (omega arith))) ∙ none

  -- what is held before it
  cut : (s : State) (c : ℕ) → IsSoundAt size s → 0x80 ≤ c → cells c ≡ 1
      → held_from s.held (0x1B ∷ 0x5C ∷ put c s.display) ≡ Nothing
  unfolding play translation opens_string
  cut s c sound beyond one =
      let bytes = put c s.display in
      let between : State = record s { held = Nothing } in
      let is : nat_lt c 0x80 ≡ false = grind (arith, nat_tests) in
      let after : held_from Nothing bytes ≡ Nothing =
      rw is at (writes between c (record { display = sound.display; held = nothing-held }) refl beyond one) in
      spelling.escape_held s.held (0x5C ∷ bytes) sound.held
      ∙ spelling.event_held (event.Control 0x9C) bytes (inr (omega arith, omega arith, refl))
      ∙ after

  lost-held : (s : State) (c : ℕ) → IsSoundAt size s → 0x80 ≤ c → cells c ≡ 1
      → is_text (play s (translation s c)).state.held ≡ is_text s.held
  unfolding play translation
  lost-held s c sound beyond one = by s.held refl
    where
      is : nat_lt c 0x80 ≡ false
      is = grind (arith, nat_tests)

      by : (held : Held) → s.held ≡ held → is_text (play s (translation s c)).state.held ≡ is_text s.held
      by Nothing e = ap is_text (writes s c sound e beyond one)
      by (Escape inters) e = rw (is, e) (ap is_text (rw e at (cut s c sound beyond one)))
      by (Control marker params full phase) e = rw (is, e) (ap is_text (rw e at (cut s c sound beyond one)))
      by Spoilt e = rw (is, e) (ap is_text (rw e at (cut s c sound beyond one)))
      by (Text osc) e = rw (is, e) (ap is_text (split.held_nil (Text osc) (rw e at sound.held)))

  character-rings : (s t : State) (character : Option ℕ) → IsSoundAt size s → IsSoundAt size t → is_text t.held ≡ is_text s.held
      → bells t.held (translated_all t (option_to_list character)) ≡ rung_by_character s.held character
  character-rings s t None sound sound' same = bells-nil split t.held sound'.held
  character-rings s t (Some c) sound sound' same =
      ap (λ (xs : List ℕ). bells t.held xs) (append-nil (translation t c)) ∙ by (nat_lt c 0x80) refl
    where
      by : (low : Bool) → nat_lt c 0x80 ≡ low
          → bells t.held (translation t c) ≡ (if low then bells s.held (c ∷ []) else 0)
      by true h =
          ap (λ (xs : List ℕ). bells t.held xs) (translation-ascii t c (grind (arith, nat_tests)))
          ∙ one-byte t.held c sound'.held
          ∙ ap (λ (text : Bool). rings_by (c == 7) text) same
          ∙ sym (one-byte s.held c sound.held)
      by false h = beyond-quiet t c sound' (grind (arith, nat_tests))

  -- a byte, by what `Decoder::push` returns
  pub utf8-rings : ((s : State) (pending : List ℕ) (b : ℕ) (xs ys : List ℕ) → IsSoundAt size s
      → xs ++ ys ≡ (read pending b).characters
      → translated s pending (b ∷ []) ≡ translated_all s xs ++ translated_all (play s (translated_all s xs)).state ys)
      → cells replacement ≡ 1
      → (s : State) (pending : List ℕ) (b : ℕ) (lost character : Option ℕ) → IsSoundAt size s
      → IfSome lost (λ c. c ≡ replacement)
      → option_to_list lost ++ option_to_list character ≡ (read pending b).characters
      → bells s.held (translated s pending (b ∷ [])) ≡ rung_by_character s.held character
  unfolding play
  utf8-rings parts one s pending b lost character sound is are =
      let first = translated_all s (option_to_list lost) in
      let t = (play s first).state in
      ap (λ (xs : List ℕ). bells s.held xs) (parts s pending b (option_to_list lost) (option_to_list character) sound are)
      ∙ bells-append split s.held first (translated_all t (option_to_list character))
      ∙ by lost is
    where
      by : (lost : Option ℕ) → IfSome lost (λ c. c ≡ replacement)
          → bells s.held (translated_all s (option_to_list lost))
          + bells (play s (translated_all s (option_to_list lost))).state.held
          (translated_all (play s (translated_all s (option_to_list lost))).state (option_to_list character))
          ≡ rung_by_character s.held character
      by None is =
          let t = (play s []).state in
          let same : is_text t.held ≡ is_text s.held = ap is_text (split.held_nil s.held sound.held) in
          let none = bells-nil split s.held sound.held in
          let rest = character-rings s t character sound (sounds s [] sound) same in
          omega (arith, none, rest)
      by (Some c) is =
          let beyond : 0x80 ≤ c = omega (arith, is) in
          let cell : cells c ≡ 1 = ap cells is ∙ one in
          let whole = append-nil (translation s c) in
          let t = (play s (translated_all s (c ∷ []))).state in
          let same : is_text t.held ≡ is_text s.held =
          ap (λ (xs : List ℕ). is_text (play s xs).state.held) whole ∙ lost-held s c sound beyond cell in
          let none : bells s.held (translated_all s (c ∷ [])) ≡ 0 =
          ap (λ (xs : List ℕ). bells s.held xs) whole ∙ beyond-quiet s c sound beyond in
          let rest = character-rings s t character sound (sounds s (translated_all s (c ∷ [])) sound) same in
          omega (arith, none, rest)

pub one_cell : cells replacement ≡ 1
unfolding cells unicode_width
one_cell = refl
