-- The bytes of SGR, one part after another.
use Rattle.std.proofs.Common.{◌≡◌, ℕ, ◌+◌, ◌≤◌, Bool, true, false, List, [], ◌∷◌, ◌++◌, map, refl, sym, ap, ◌∙◌, arith, append-nil, append_assoc, decimal}
use Rattle.std.specs.Fmt.{digits}
use Rattle.std.specs.List.{join_with_byte, flat_map}
use Rattle.std.specs.Prelude.{nat_lt}
use Rattle.std.proofs.lemmas.Bool.Decides.{nat_tests}
use Rattle.vt_syntax.specs.Spelling.{spell_event}
use Rattle.vt_screen.specs.Same.{when}
use Rattle.vt_term.specs.Functions.{byte}
use Rattle.vt_paint.specs.Controls.{sequence_of}
use Rattle.vt_xterm_cell.specs.declared.look.Attributes.{Attributes}
use Rattle.vt_xterm_cell.specs.declared.look.Colour.TheVariants.{Indexed, Rgb}
use Rattle.vt_xterm_repaint.specs.Looks.{attribute_values, colour_values}

-- ---- a control sequence of values

-- the values after the first one, each after `;`
abbrev after_first : List ℕ → List ℕ
after_first values = flat_map (λ v. 0x3B ∷ decimal v) values

joined-values : (v : ℕ) (vs : List ℕ) → join_with_byte 0x3B (map decimal (v ∷ vs)) ≡ decimal v ++ after_first vs
joined-values v [] = sym (append-nil (decimal v))
joined-values v (w ∷ vs) = ap (λ (t : List ℕ). decimal v ++ 0x3B ∷ t) (joined-values w vs)

sequence-bytes : (values : List ℕ) (last : ℕ)
    → spell_event (sequence_of values last) ≡ 0x1B ∷ 0x5B ∷ (join_with_byte 0x3B (map decimal values) ++ last ∷ [])
sequence-bytes values last =
    ap (λ (t : List ℕ). 0x1B ∷ 0x5B ∷ (t ++ last ∷ [])) (append-nil (join_with_byte 0x3B (map decimal values)))

-- ---- attributes

one-more : (on : Bool) (n : ℕ) (vs bytes : List ℕ) → after_first vs ≡ bytes
    → after_first (when on (n ∷ []) ++ vs) ≡ when on (0x3B ∷ decimal n) ++ bytes
one-more true n vs bytes is = ap (λ (t : List ℕ). 0x3B ∷ (decimal n ++ t)) is
one-more false n vs bytes is = is

last-one : (on : Bool) (n : ℕ) → after_first (when on (n ∷ [])) ≡ when on (0x3B ∷ decimal n)
last-one true n = append-nil (0x3B ∷ decimal n)
last-one false n = refl

module _ (a : Attributes) where
  abbrev attribute_bytes : List ℕ
  attribute_bytes =
      when a.bold (0x3B ∷ 0x31 ∷ [])
      ++ (when a.faint (0x3B ∷ 0x32 ∷ [])
      ++ (when a.italic (0x3B ∷ 0x33 ∷ [])
      ++ (when a.underlined (0x3B ∷ 0x34 ∷ [])
      ++ (when a.doubly_underlined (0x3B ∷ 0x32 ∷ 0x31 ∷ [])
      ++ (when a.blinking (0x3B ∷ 0x35 ∷ [])
      ++ (when a.reverse (0x3B ∷ 0x37 ∷ [])
      ++ (when a.invisible (0x3B ∷ 0x38 ∷ [])
      ++ when a.crossed_out (0x3B ∷ 0x39 ∷ []))))))))

  attributes-joined : join_with_byte 0x3B (map decimal (attribute_values a)) ≡ 0x30 ∷ attribute_bytes
  unfolding digits
  attributes-joined =
      joined-values 0 _
      ∙ ap (λ (t : List ℕ). 0x30 ∷ t)
      (one-more a.bold 1 _ _ (one-more a.faint 2 _ _ (one-more a.italic 3 _ _ (one-more a.underlined 4 _ _
      (one-more a.doubly_underlined 21 _ _ (one-more a.blinking 5 _ _ (one-more a.reverse 7 _ _ (one-more a.invisible 8 _ _
      (last-one a.crossed_out 9)))))))))

  pub attributes-pushed : (old : List ℕ)
      → ((((((((((old ++ 0x1B ∷ 0x5B ∷ 0x30 ∷ []) ++ when a.bold (0x3B ∷ 0x31 ∷ [])) ++ when a.faint (0x3B ∷ 0x32 ∷ []))
      ++ when a.italic (0x3B ∷ 0x33 ∷ [])) ++ when a.underlined (0x3B ∷ 0x34 ∷ [])) ++ when a.doubly_underlined (0x3B ∷ 0x32 ∷ 0x31 ∷ []))
      ++ when a.blinking (0x3B ∷ 0x35 ∷ [])) ++ when a.reverse (0x3B ∷ 0x37 ∷ [])) ++ when a.invisible (0x3B ∷ 0x38 ∷ []))
      ++ when a.crossed_out (0x3B ∷ 0x39 ∷ [])) ++ 0x6D ∷ []
      ≡ old ++ spell_event (sequence_of (attribute_values a) (byte "m"))
  attributes-pushed old = rw (sequence-bytes (attribute_values a) (byte "m"), attributes-joined) (simp append_assoc refl)

-- ---- colours

at-least : (n i : ℕ) → n ≤ i → nat_lt i n ≡ false
at-least n i is = grind (arith, nat_tests)

pub indexed-pushed : (eight i : ℕ) (old one two all : List ℕ) → 16 ≤ i → one ≡ old ++ decimal (eight + 8)
    → two ≡ one ++ 0x3B ∷ 0x35 ∷ 0x3B ∷ [] → all ≡ two ++ decimal i
    → all ≡ old ++ join_with_byte 0x3B (map decimal (colour_values eight (Indexed i)))
unfolding digits
indexed-pushed eight i old one two all long a b c =
    rw (at-least 8 i (omega arith), at-least 16 i long, c, b, a) (simp append_assoc refl)

pub mixed-pushed : (eight r g b : ℕ) (old one two three four five six all : List ℕ) → one ≡ old ++ decimal (eight + 8)
    → two ≡ one ++ 0x3B ∷ 0x32 ∷ 0x3B ∷ [] → three ≡ two ++ decimal r → four ≡ three ++ 0x3B ∷ [] → five ≡ four ++ decimal g
    → six ≡ five ++ 0x3B ∷ [] → all ≡ six ++ decimal b
    → all ≡ old ++ join_with_byte 0x3B (map decimal (colour_values eight (Rgb r g b)))
unfolding digits
mixed-pushed eight r g b old one two three four five six all h i j k l m n = rw (n, m, l, k, j, i, h) (simp append_assoc refl)
