-- A whole character at the front of a piece.
use Rattle.std.proofs.Common.{◌≡◌, ℕ, ◌≤◌, List, [], ◌∷◌, length, Some, None, Bool, true, false, refl, arith, subst, sym, ap, ◌∙◌}
use Rattle.std.specs.Option.{SomeIff}
use Rattle.std.specs.Prelude.{Option, IfSome, slice_index, ◌==◌, nat_lt, cond}
use Rattle.std.proofs.lemmas.Bool.Decides.{nat_tests}
use Rattle.bstr.specs.Utf8.{Decoded, decoded, bad, good, second, continues, code_of_2, code_of_3, code_of_4}
use Rattle.vt_utf8.specs.Decoding.{is_begun, read}
use Rattle.vt_utf8.specs.Decoding.{IsWhole}
use Rattle.vt_utf8.proofs.Reading.{when-begun, when-whole}

-- ---- bytes of a character, the first of which is one of several

module _ (b : ℕ) (low : nat_lt b 0xC2 ≡ false) (high : nat_lt 0xF4 b ≡ false) where
  ascii-not : nat_lt b 0x80 ≡ false
  ascii-not = grind (arith, nat_tests)

  below-five : nat_lt b 0xF5 ≡ true
  below-five = grind (arith, nat_tests)

  one-begun : is_begun (b ∷ []) ≡ true
  unfolding is_begun
  one-begun = grind (arith, nat_tests)

  first-read : read [] b ≡ record { characters = []; pending = b ∷ [] }
  first-read = when-begun [] b (b ∷ []) refl one-begun

  module _ (x : ℕ) (is : second b x ≡ true) where
    two-whole : nat_lt b 0xE0 ≡ true → is_begun (b ∷ x ∷ []) ≡ false
    unfolding is_begun
    two-whole short = rw (ascii-not, low, high, is, short) refl

    two-found : nat_lt b 0xE0 ≡ true → (decoded (b ∷ x ∷ [])).char ≡ Some (code_of_2 b x)
    two-found short = rw (ascii-not, low, high, is, short) refl

    two-last : nat_lt b 0xE0 ≡ true → read (b ∷ []) x ≡ record { characters = code_of_2 b x ∷ []; pending = [] }
    two-last short = when-whole (b ∷ []) x (b ∷ x ∷ []) refl (code_of_2 b x) (two-whole short) (two-found short)

    two-left : nat_lt b 0xE0 ≡ true → (read (read [] b).pending x).pending ≡ []
    two-left short = rw (first-read, two-last short) refl

    two : (rest : List ℕ) → nat_lt b 0xE0 ≡ true → IsWhole (b ∷ x ∷ rest) (code_of_2 b x) 2
    two rest short = record {
      some = omega arith;
      within = omega arith;
      characters = rw (first-read, two-last short) refl;
      pending = two-left short;
    }

    module _ (long : nat_lt b 0xE0 ≡ false) where
      two-begun : is_begun (b ∷ x ∷ []) ≡ true
      unfolding is_begun
      two-begun = rw (ascii-not, low, high, is, long) (grind (arith, nat_tests))

      second-read : read (b ∷ []) x ≡ record { characters = []; pending = b ∷ x ∷ [] }
      second-read = when-begun (b ∷ []) x (b ∷ x ∷ []) refl two-begun

      module _ (d : ℕ) (on : continues d ≡ true) where
        three-whole : nat_lt b 0xF0 ≡ true → is_begun (b ∷ x ∷ d ∷ []) ≡ false
        unfolding is_begun
        three-whole short = rw (ascii-not, low, high, is, long, on, short) refl

        three-found : nat_lt b 0xF0 ≡ true → (decoded (b ∷ x ∷ d ∷ [])).char ≡ Some (code_of_3 b x d)
        three-found short = rw (ascii-not, low, high, is, long, on, short) refl

        three-last : nat_lt b 0xF0 ≡ true
            → read (b ∷ x ∷ []) d ≡ record { characters = code_of_3 b x d ∷ []; pending = [] }
        three-last short =
            when-whole (b ∷ x ∷ []) d (b ∷ x ∷ d ∷ []) refl (code_of_3 b x d) (three-whole short) (three-found short)

        three-left : nat_lt b 0xF0 ≡ true → (read (read (read [] b).pending x).pending d).pending ≡ []
        three-left short = rw (first-read, second-read, three-last short) refl

        three : (rest : List ℕ) → nat_lt b 0xF0 ≡ true → IsWhole (b ∷ x ∷ d ∷ rest) (code_of_3 b x d) 3
        three rest short = record {
          some = omega arith;
          within = omega arith;
          characters = rw (first-read, second-read, three-last short) refl;
          pending = three-left short;
        }

        module _ (longer : nat_lt b 0xF0 ≡ false) where
          three-begun : is_begun (b ∷ x ∷ d ∷ []) ≡ true
          unfolding is_begun
          three-begun = rw (ascii-not, low, high, is, long, on, longer, below-five) refl

          third-read : read (b ∷ x ∷ []) d ≡ record { characters = []; pending = b ∷ x ∷ d ∷ [] }
          third-read = when-begun (b ∷ x ∷ []) d (b ∷ x ∷ d ∷ []) refl three-begun

          module _ (e : ℕ) (last : continues e ≡ true) where
            four-whole : is_begun (b ∷ x ∷ d ∷ e ∷ []) ≡ false
            unfolding is_begun
            four-whole = rw (ascii-not, low, high, is, long, on, longer, last, below-five) refl

            four-found : (decoded (b ∷ x ∷ d ∷ e ∷ [])).char ≡ Some (code_of_4 b x d e)
            four-found = rw (ascii-not, low, high, is, long, on, longer, last) refl

            four-last : read (b ∷ x ∷ d ∷ []) e ≡ record { characters = code_of_4 b x d e ∷ []; pending = [] }
            four-last = when-whole (b ∷ x ∷ d ∷ []) e (b ∷ x ∷ d ∷ e ∷ []) refl (code_of_4 b x d e) four-whole four-found

            four-left : (read (read (read (read [] b).pending x).pending d).pending e).pending ≡ []
            four-left = rw (first-read, second-read, third-read, four-last) refl

            four : (rest : List ℕ) → IsWhole (b ∷ x ∷ d ∷ e ∷ rest) (code_of_4 b x d e) 4
            four rest = record {
              some = omega arith;
              within = omega arith;
              characters = rw (first-read, second-read, third-read, four-last) refl;
              pending = four-left;
            }

-- no first byte from E1 to EC narrows the second
any-second : (b x : ℕ) → 0xE1 ≤ b → b ≤ 0xEC → continues x ≡ true → second b x ≡ true
any-second b x low high on =
    let e : (b == 0xE0) ≡ false = grind (arith, nat_tests) in
    let f : (b == 0xED) ≡ false = grind (arith, nat_tests) in
    let g : (b == 0xF0) ≡ false = grind (arith, nat_tests) in
    let h : (b == 0xF4) ≡ false = grind (arith, nat_tests) in
    rw (e, f, g, h) on

-- ---- what decodes beyond ASCII is whole

-- bytes after the fourth make no difference
decoded-four : (b x d e : ℕ) (rest : List ℕ) → decoded (b ∷ x ∷ d ∷ e ∷ rest) ≡ decoded (b ∷ x ∷ d ∷ e ∷ [])
decoded-four b x d e rest =
    let n = length (b ∷ x ∷ d ∷ e ∷ rest) in
    let some : (n == 0) ≡ false = grind (arith, nat_tests) in
    let two : nat_lt n 2 ≡ false = grind (arith, nat_tests) in
    let three : nat_lt n 3 ≡ false = grind (arith, nat_tests) in
    let four : nat_lt n 4 ≡ false = grind (arith, nat_tests) in
    rw (some, two, three, four) refl

some-same : (a b : ℕ) → Some a ≡ Some b → a ≡ b
some-same a b h = cc

module _ (c n : ℕ) where
  good-char : (a m : ℕ) → good a m ≡ good c n → a ≡ c
  good-char a m h = some-same a c (ap (λ (d : Decoded). d.char) h)

  given : (piece : List ℕ) (a m : ℕ) → IsWhole piece a m → good a m ≡ good c n → IsWhole piece c n
  given piece a m is h =
      subst (λ (k : ℕ). IsWhole piece k n) (good-char a m h)
      (subst (λ (k : ℕ). IsWhole piece a k) (ap (λ (d : Decoded). d.size) h) is)

  module _ (P : Type 0) where
    never : (k : ℕ) → bad k ≡ good c n → P
    never k h = let none : None ≡ Some c = ap (λ (d : Decoded). d.char) h in absurd cc

    on : (t : Bool) (x y : Decoded) → cond t x y ≡ good c n → (t ≡ true → x ≡ good c n → P)
        → (t ≡ false → y ≡ good c n → P) → P
    on true x y h f g = f refl h
    on false x y h f g = g refl h

    led : (b : ℕ) (y : Decoded) → 0x80 ≤ c
        → cond (nat_lt b 0x80) (good b 1) (cond (nat_lt b 0xC2) (bad 1) (cond (nat_lt 0xF4 b) (bad 1) y)) ≡ good c n
        → (nat_lt b 0xC2 ≡ false → nat_lt 0xF4 b ≡ false → y ≡ good c n → P) → P
    led b y beyond h f =
        on (nat_lt b 0x80) _ _ h
        (λ low e. let same = good-char b 1 e in absurd (grind (arith, nat_tests)))
        (λ _ h. on (nat_lt b 0xC2) _ _ h (λ _ e. never 1 e)
        (λ low h. on (nat_lt 0xF4 b) _ _ h (λ _ e. never 1 e) (λ high h. f low high h)))

  pub whole : (piece : List ℕ) → decoded piece ≡ good c n → 0x80 ≤ c → IsWhole piece c n
  whole [] h beyond = never _ 0 h
  whole (b ∷ []) h beyond = led _ b (bad 1) beyond h (λ low high h. never _ 1 h)
  whole (b ∷ x ∷ []) h beyond =
      led _ b _ beyond h (λ low high h.
      on _ (second b x) _ _ h (λ is h.
      on _ (nat_lt b 0xE0) _ _ h (λ short e. given (b ∷ x ∷ []) _ _ (two b low high x is [] short) e) (λ _ e. never _ 2 e))
      (λ _ e. never _ 1 e))
  whole (b ∷ x ∷ d ∷ []) h beyond =
      led _ b _ beyond h (λ low high h.
      on _ (second b x) _ _ h (λ is h.
      on _ (nat_lt b 0xE0) _ _ h (λ short e. given (b ∷ x ∷ d ∷ []) _ _ (two b low high x is (d ∷ []) short) e) (λ long h.
      on _ (continues d) _ _ h (λ next h.
      on _ (nat_lt b 0xF0) _ _ h (λ short e. given (b ∷ x ∷ d ∷ []) _ _ (three b low high x is long d next [] short) e)
      (λ _ e. never _ 3 e))
      (λ _ e. never _ 2 e)))
      (λ _ e. never _ 1 e))
  whole (b ∷ x ∷ d ∷ y ∷ rest) h beyond =
      led _ b _ beyond (sym (decoded-four b x d y rest) ∙ h) (λ low high h.
      on _ (second b x) _ _ h (λ is h.
      on _ (nat_lt b 0xE0) _ _ h
      (λ short e. given (b ∷ x ∷ d ∷ y ∷ rest) _ _ (two b low high x is (d ∷ y ∷ rest) short) e) (λ long h.
      on _ (continues d) _ _ h (λ next h.
      on _ (nat_lt b 0xF0) _ _ h
      (λ short e. given (b ∷ x ∷ d ∷ y ∷ rest) _ _ (three b low high x is long d next (y ∷ rest) short) e) (λ longer h.
      on _ (continues y) _ _ h
      (λ last e. given (b ∷ x ∷ d ∷ y ∷ rest) _ _ (four b low high x is long d next longer y last rest) e)
      (λ _ e. never _ 3 e)))
      (λ _ e. never _ 2 e)))
      (λ _ e. never _ 1 e))

pub decoded-whole : (piece : List ℕ) (c n : ℕ) → (decoded piece).char ≡ Some c → n ≡ (decoded piece).size → 0x80 ≤ c
    → IsWhole piece c n
decoded-whole piece c n char size beyond =
    whole c n piece
    (ap (λ (o : Option ℕ). record { char = o; size = (decoded piece).size }) char
    ∙ ap (λ (m : ℕ). record { char = Some c; size = m }) (sym size)) beyond

-- three bytes, the first of which is none of those that narrow the second
three-whole-by : (piece : List ℕ) (c : ℕ) → 3 ≤ length piece → 0xE1 ≤ slice_index piece 0
    → slice_index piece 0 ≤ 0xEC → continues (slice_index piece 1) ≡ true → continues (slice_index piece 2) ≡ true
    → code_of_3 (slice_index piece 0) (slice_index piece 1) (slice_index piece 2) ≡ c → (0x80 ≤ c) × IsWhole piece c 3
three-whole-by [] c long low high second-on third-on is = absurd (omega (arith, long))
three-whole-by (b ∷ []) c long low high second-on third-on is = absurd (omega (arith, long))
three-whole-by (b ∷ x ∷ []) c long low high second-on third-on is = absurd (omega (arith, long))
three-whole-by (b ∷ x ∷ d ∷ rest) c long low high second-on third-on is =
    let no_first : nat_lt b 0xC2 ≡ false = grind (arith, nat_tests) in
    let no_last : nat_lt 0xF4 b ≡ false = grind (arith, nat_tests) in
    let no_two : nat_lt b 0xE0 ≡ false = grind (arith, nat_tests) in
    let is_three : nat_lt b 0xF0 ≡ true = grind (arith, nat_tests) in
    let any : second b x ≡ true = any-second b x low high second-on in
    let large : 0x80 ≤ code_of_3 b x d = omega (arith, low) in
    subst (λ (k : ℕ). (0x80 ≤ k) × IsWhole (b ∷ x ∷ d ∷ rest) k 3) is
    (large, three b no_first no_last x any no_two d third-on rest is_three)

pub three-made : (r : Option ℕ) (P : Type 0) (piece : List ℕ)
    → SomeIff r P (code_of_3 (slice_index piece 0) (slice_index piece 1) (slice_index piece 2)) → 3 ≤ length piece
    → 0xE1 ≤ slice_index piece 0 → slice_index piece 0 ≤ 0xEC → continues (slice_index piece 1) ≡ true
    → continues (slice_index piece 2) ≡ true → IfSome r (λ c. (0x80 ≤ c) × IsWhole piece c 3)
three-made None P piece made long low high second-on third-on = tt
three-made (Some c) P piece made long low high second-on third-on =
    three-whole-by piece c long low high second-on third-on (sym made.1)

-- no first byte of two bytes narrows the second
low-second : (b x : ℕ) → b ≤ 0xDF → continues x ≡ true → second b x ≡ true
low-second b x high on =
    let e : (b == 0xE0) ≡ false = grind (arith, nat_tests) in
    let f : (b == 0xED) ≡ false = grind (arith, nat_tests) in
    let g : (b == 0xF0) ≡ false = grind (arith, nat_tests) in
    let h : (b == 0xF4) ≡ false = grind (arith, nat_tests) in
    rw (e, f, g, h) on

two-whole-by : (piece : List ℕ) (c : ℕ) → 2 ≤ length piece → 0xC2 ≤ slice_index piece 0 → slice_index piece 0 ≤ 0xDF
    → continues (slice_index piece 1) ≡ true → code_of_2 (slice_index piece 0) (slice_index piece 1) ≡ c
    → (0x80 ≤ c) × IsWhole piece c 2
two-whole-by [] c long low high second-on is = absurd (omega (arith, long))
two-whole-by (b ∷ []) c long low high second-on is = absurd (omega (arith, long))
two-whole-by (b ∷ x ∷ rest) c long low high second-on is =
    let no_first : nat_lt b 0xC2 ≡ false = grind (arith, nat_tests) in
    let no_last : nat_lt 0xF4 b ≡ false = grind (arith, nat_tests) in
    let is_two : nat_lt b 0xE0 ≡ true = grind (arith, nat_tests) in
    let any : second b x ≡ true = low-second b x high second-on in
    let large : 0x80 ≤ code_of_2 b x = omega (arith, low) in
    subst (λ (k : ℕ). (0x80 ≤ k) × IsWhole (b ∷ x ∷ rest) k 2) is (large, two b no_first no_last x any rest is_two)

pub two-made : (r : Option ℕ) (P : Type 0) (piece : List ℕ)
    → SomeIff r P (code_of_2 (slice_index piece 0) (slice_index piece 1)) → 2 ≤ length piece → 0xC2 ≤ slice_index piece 0
    → slice_index piece 0 ≤ 0xDF → continues (slice_index piece 1) ≡ true → IfSome r (λ c. (0x80 ≤ c) × IsWhole piece c 2)
two-made None P piece made long low high second-on = tt
two-made (Some c) P piece made long low high second-on =
    two-whole-by piece c long low high second-on (sym made.1)
