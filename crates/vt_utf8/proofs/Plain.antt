-- The bytes for a character beyond ASCII are ESC and ASCII with a glyph.
use Rattle.std.proofs.Common.{◌≡◌, ℕ, ◌≤◌, Bool, true, false, not, List, [], ◌∷◌, ◌++◌, All, inl, inr, refl, arith}
use Rattle.std.specs.Prelude.{nat_lt, ◌==◌, if◌then◌else◌}
use Rattle.std.proofs.lemmas.Bool.Decides.{nat_tests}
use Rattle.std.proofs.lemmas.List.Elements.{All-append, All-from_recursion}
use Rattle.vt_syntax.specs.declared.held.Held.{Held}
use Rattle.vt_syntax.specs.declared.held.Held.TheVariants as held
use Rattle.vt_glyph.specs.declared.set.Set.{Set}
use Rattle.vt_glyph.specs.declared.set.Set.TheVariants.{Ascii, Special, Supplemental}
use Rattle.vt_glyph.specs.declared.glyph.Spelling.{Spelling}
use Rattle.vt_glyph.specs.declared.glyph.Spelling.TheVariants.{Plain, Second, Third}
use Rattle.vt_glyph.specs.Tables.{IsGlyph, space}
use Rattle.vt_glyph.specs.Designation.{final_of}
use Rattle.vt_glyph.specs.GraphicSets.{GraphicSets}
use Rattle.vt_glyph.specs.Invocation.{set_at}
use Rattle.vt_glyph.specs.Spell.{spelling_of, code_of}
use Rattle.vt_glyph.specs.Laws.{GlyphLaws, SpellingLaws}
use Rattle.vt_term.specs.State.{Display, State}
use Rattle.vt_utf8.specs.Similar.{shown}
use Rattle.vt_utf8.specs.Cells.{cells}
use Rattle.vt_utf8.specs.Translation.{shifted, designation, while_designated, reads_ascii, spelled_in, written}
use Rattle.vt_utf8.specs.Translation.{both_halves, is_at_end, written_wide, put, beyond_ascii, translation, IsPlain}
use Rattle.vt_utf8.proofs.Silence.{final, shown-glyph}

plain-if : (b : Bool) (x y : List ℕ) → All IsPlain x → All IsPlain y → All IsPlain (if b then x else y)
plain-if true x y first second = first
plain-if false x y first second = second

none : All IsPlain []
none = All-from_recursion IsPlain [] tt

two : (b : ℕ) → 0x20 ≤ b → b ≤ 0x7E → All IsPlain (0x1B ∷ b ∷ [])
two b low high = All-from_recursion IsPlain (0x1B ∷ b ∷ []) (inl refl, (inr (low, high), tt))

three : (a b : ℕ) → 0x20 ≤ a → a ≤ 0x7E → 0x20 ≤ b → b ≤ 0x7E → All IsPlain (0x1B ∷ a ∷ b ∷ [])
three a b low high low_b high_b =
    All-from_recursion IsPlain (0x1B ∷ a ∷ b ∷ []) (inl refl, (inr (low, high), (inr (low_b, high_b), tt)))

plain-designation : (inter : ℕ) (set : Set) → 0x20 ≤ inter → inter ≤ 0x7E → All IsPlain (designation inter set)
plain-designation inter set low high =
    let last = final set in
    let first = last.0 in
    three inter (final_of set) low high (omega (arith, first)) last.1

plain-while : (inter : ℕ) (set before : Set) (bytes : List ℕ) → 0x20 ≤ inter → inter ≤ 0x7E → All IsPlain bytes
    → All IsPlain (while_designated inter set before bytes)
plain-while inter set before bytes low high plain =
    plain-if (final_of before == final_of set) _ _ plain
    (All-append IsPlain (designation inter set) (bytes ++ designation inter before) (plain-designation inter set low high)
    (All-append IsPlain bytes (designation inter before) plain (plain-designation inter before low high)))

plain-spelled : (sets : GraphicSets) (s : Spelling) → 0x20 ≤ code_of s → code_of s ≤ 0x7E → All IsPlain (spelled_in sets s)
plain-spelled sets (Plain code) low high =
    plain-if (reads_ascii sets) _ _ (All-from_recursion IsPlain (code ∷ []) (inr (low, high), tt))
    (plain-while 0x2A Ascii (set_at sets 2) (shifted 0x4E code) (omega arith) (omega arith)
    (three 0x4E code (omega arith) (omega arith) low high))
plain-spelled sets (Second code) low high =
    plain-while 0x2A Supplemental (set_at sets 2) (shifted 0x4E code) (omega arith) (omega arith)
    (three 0x4E code (omega arith) (omega arith) low high)
plain-spelled sets (Third code) low high =
    plain-while 0x2B Special (set_at sets 3) (shifted 0x4F code) (omega arith) (omega arith)
    (three 0x4F code (omega arith) (omega arith) low high)

plain-beyond : (h : Held) (bytes : List ℕ) → All IsPlain bytes → All IsPlain (beyond_ascii h bytes)
plain-beyond held.Nothing bytes plain = plain
plain-beyond (held.Escape inters) bytes plain =
    All-append IsPlain (0x1B ∷ 0x5C ∷ []) bytes (two 0x5C (omega arith) (omega arith)) plain
plain-beyond (held.Control marker params full phase) bytes plain =
    All-append IsPlain (0x1B ∷ 0x5C ∷ []) bytes (two 0x5C (omega arith) (omega arith)) plain
plain-beyond held.Spoilt bytes plain =
    All-append IsPlain (0x1B ∷ 0x5C ∷ []) bytes (two 0x5C (omega arith) (omega arith)) plain
plain-beyond (held.Text osc) bytes plain = none

module _ (glyphs : GlyphLaws) (spelling : SpellingLaws) where
  plain-written : (glyph : ℕ) (sets : GraphicSets) → IsGlyph glyph → All IsPlain (written glyph sets)
  plain-written glyph sets is =
      let code = spelling.code glyph is in
      plain-spelled sets (spelling_of glyph) code.0 code.1

  plain-both : (glyph : ℕ) (sets : GraphicSets) → IsGlyph glyph → All IsPlain (both_halves glyph sets)
  plain-both glyph sets is =
      All-append IsPlain (written glyph sets) (written space sets) (plain-written glyph sets is)
      (plain-written space sets glyphs.space)

  plain-wide : (glyph : ℕ) (s : Display) → IsGlyph glyph → All IsPlain (written_wide glyph s)
  plain-wide glyph s is =
      plain-if (not (is_at_end s)) _ _ (plain-both glyph s.sets is)
      (plain-if s.modes.decawm _ _
      (All-append IsPlain (0x1B ∷ 0x45 ∷ []) (both_halves glyph s.sets) (two 0x45 (omega arith) (omega arith))
      (plain-both glyph s.sets is)) none)

  plain-put : (c : ℕ) (s : Display) → All IsPlain (put c s)
  plain-put c s =
      let is = shown-glyph glyphs c in
      plain-if (cells c == 0) _ _ none
      (plain-if (cells c == 1) _ _ (plain-written (shown c) s.sets is) (plain-wide (shown c) s is))

  pub plain-translation : (s : State) (c : ℕ) → 0x80 ≤ c → All IsPlain (translation s c)
  unfolding translation
  plain-translation s c beyond =
      let is : nat_lt c 0x80 ≡ false = grind (arith, nat_tests) in
      rw is (plain-beyond s.held (put c s.display) (plain-put c s.display))
