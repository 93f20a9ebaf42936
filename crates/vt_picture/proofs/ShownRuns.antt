-- What is written of cells with their attributes, a cell at a time.
use Rattle.std.proofs.Common.{◌≡◌, ℕ, ◌+◌, ◌<◌, List, ◌∷◌, ◌++◌, true, false, length, get_or, drop, refl, sym, ap, ◌∙◌}
use Rattle.std.proofs.Common.{append_assoc}
use Rattle.std.proofs.lemmas.List.{drop_more}
use Rattle.std.specs.Prelude.{encode_utf8}
use Rattle.vt_screen.specs.declared.cell.Rendition.{Rendition}
use Rattle.vt_screen.specs.declared.cell.Cell.{Cell}
use Rattle.vt_screen.specs.Same.{same_rendition}
use Rattle.vt_paint.proofs.Equality.{same_rendition-is}
use Rattle.vt_picture.specs.Show.{rendition_sequence, shown_behind}

-- a cell of the same attributes, and others after it
same-look : (out line next : List ℕ) (look : Rendition) (cell : Cell) (rest : List Cell)
    → same_rendition look cell.rendition ≡ true → next ≡ line ++ encode_utf8 cell.glyph
    → (out ++ next) ++ shown_behind look rest ≡ (out ++ line) ++ shown_behind look (cell ∷ rest)
same-look out line next look cell rest same is =
    let left : List ℕ = shown_behind look rest in
    ap (λ (t : List ℕ). (out ++ t) ++ left) is
    ∙ ap (λ (t : List ℕ). t ++ left) (sym (append_assoc out line (encode_utf8 cell.glyph)))
    ∙ append_assoc (out ++ line) (encode_utf8 cell.glyph) left
    ∙ ap (λ (t : List ℕ). (out ++ line) ++ t)
    (rw same (ap (λ (r : Rendition). encode_utf8 cell.glyph ++ shown_behind r rest) (same_rendition-is look cell.rendition same)))

-- a cell of other attributes, after what was appended of the line
other-look : (out line shorter kept first next : List ℕ) (look : Rendition) (cell : Cell) (rest : List Cell)
    → same_rendition look cell.rendition ≡ false → shorter ++ kept ≡ out ++ line
    → first ≡ kept ++ rendition_sequence cell.rendition → next ≡ first ++ encode_utf8 cell.glyph
    → (shorter ++ next) ++ shown_behind cell.rendition rest ≡ (out ++ line) ++ shown_behind look (cell ∷ rest)
other-look out line shorter kept first next look cell rest other was sgr is =
    let left : List ℕ = shown_behind cell.rendition rest in
    let seq : List ℕ = rendition_sequence cell.rendition in
    let char : List ℕ = encode_utf8 cell.glyph in
    ap (λ (t : List ℕ). (shorter ++ t) ++ left) (is ∙ ap (λ (t : List ℕ). t ++ char) sgr ∙ append_assoc kept seq char)
    ∙ ap (λ (t : List ℕ). t ++ left) (sym (append_assoc shorter kept (seq ++ char)))
    ∙ append_assoc (shorter ++ kept) (seq ++ char) left
    ∙ ap (λ (t : List ℕ). t ++ ((seq ++ char) ++ left)) was
    ∙ ap (λ (t : List ℕ). (out ++ line) ++ t) (rw other refl)

module _ (cells : List Cell) (i : ℕ) (cell : Cell) (below : i < length cells) (is : cell ≡ get_or cells i cell)
    (out line whole : List ℕ) (look : Rendition) (before : (out ++ line) ++ shown_behind look (drop i cells) ≡ whole) where
  at-cell : (out ++ line) ++ shown_behind look (cell ∷ drop (i + 1) cells) ≡ whole
  at-cell =
      ap (λ (t : List Cell). (out ++ line) ++ shown_behind look t)
      (sym (drop_more cells i cell below ∙ ap (λ (x : Cell). x ∷ drop (i + 1) cells) (sym is)))
      ∙ before

  -- one more cell of the same attributes is written
  pub one-more : (next : List ℕ) → same_rendition look cell.rendition ≡ true → next ≡ line ++ encode_utf8 cell.glyph
      → (out ++ next) ++ shown_behind look (drop (i + 1) cells) ≡ whole
  one-more next same written = same-look out line next look cell (drop (i + 1) cells) same written ∙ at-cell

  -- a cell of other attributes is written
  pub one-other : (shorter kept first next : List ℕ) (new : Rendition) → new ≡ cell.rendition
      → same_rendition look cell.rendition ≡ false → shorter ++ kept ≡ out ++ line
      → first ≡ kept ++ rendition_sequence new → next ≡ first ++ encode_utf8 cell.glyph
      → (shorter ++ next) ++ shown_behind new (drop (i + 1) cells) ≡ whole
  one-other shorter kept first next new own other was sgr written =
      ap (λ (r : Rendition). (shorter ++ next) ++ shown_behind r (drop (i + 1) cells)) own
      ∙ other-look out line shorter kept first next look cell (drop (i + 1) cells) other was
      (sgr ∙ ap (λ (r : Rendition). kept ++ rendition_sequence r) own) written
      ∙ at-cell
