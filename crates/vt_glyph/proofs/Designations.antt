-- Sets by their final bytes, and the equality of designations and shifts.
use Rattle.std.proofs.Common.{◌≡◌, ℕ, List, [], ◌∷◌, map, Option, Some, None, arith, refl, sym, ap, ◌∙◌}
use Rattle.std.specs.Prelude.{nat_eq}
use Rattle.std.specs.Bool.{Decides}
use Rattle.std.specs.Cmp.Lexicographic.{pointwise, bytes_decides}
use Rattle.std.proofs.lemmas.Bool.Decides.{Decides-like}
use Rattle.vt_glyph.specs.declared.set.Set.{Set}
use Rattle.vt_glyph.specs.Designation.{set_of_final, final_of}
use Rattle.vt_glyph.specs.GraphicSets.{GraphicSets, pending_number, parts}
use Rattle.vt_glyph.proofs.EachSet.{same_for}

-- a set's final byte designates it
pub set_of_final-final_of : (set : Set) → set_of_final (final_of set) ≡ Some set
set_of_final-final_of = same_for (λ set. set_of_final (final_of set)) (λ set. Some set) refl

final_of_injective : (a b : Set) → final_of a ≡ final_of b → a ≡ b
final_of_injective a b e =
    let h : Some a ≡ Some b = sym (set_of_final-final_of a) ∙ (ap set_of_final e ∙ set_of_final-final_of b) in cc

finals_injective : (xs ys : List Set) → map final_of xs ≡ map final_of ys → xs ≡ ys
finals_injective [] [] e = refl
finals_injective [] (b ∷ ys) e = absurd cc
finals_injective (a ∷ xs) [] e = absurd cc
finals_injective (a ∷ xs) (b ∷ ys) e =
    let head : final_of a ≡ final_of b = cc in
    let tail : map final_of xs ≡ map final_of ys = cc in
    ap (λ s. s ∷ xs) (final_of_injective a b head) ∙ ap (λ ss. b ∷ ss) (finals_injective xs ys tail)

pending_injective : (p q : Option ℕ) → pending_number p ≡ pending_number q → p ≡ q
pending_injective None None e = refl
pending_injective None (Some b) e = absurd (omega arith)
pending_injective (Some a) None e = absurd (omega arith)
pending_injective (Some a) (Some b) e = let h : a ≡ b = omega arith in ap Some h

parts_injective : (a b : GraphicSets) → parts a ≡ parts b → a ≡ b
parts_injective a b e =
    let make : List Set → ℕ → ℕ → Option ℕ → GraphicSets =
    λ g l r p. record { g = g; left = l; right = r; pending = p } in
    let left : a.left ≡ b.left = cc in
    let right : a.right ≡ b.right = cc in
    let number : pending_number a.pending ≡ pending_number b.pending = cc in
    let finals : map final_of a.g ≡ map final_of b.g = cc in
    ap (λ g. make g a.left a.right a.pending) (finals_injective a.g b.g finals)
    ∙ ap (λ l. make b.g l a.right a.pending) left
    ∙ ap (λ r. make b.g b.left r a.pending) right
    ∙ ap (λ p. make b.g b.left b.right p) (pending_injective a.pending b.pending number)

-- equal parts are equal sets
pub Decides-parts : (a b : GraphicSets) → Decides (pointwise nat_eq (parts a) (parts b)) (a ≡ b)
Decides-parts a b = Decides-like _ (parts_injective a b) (ap parts) (bytes_decides (parts a) (parts b))
