use Rattle.std.proofs.Common.{◌≡◌, ◌∙◌, ◌++◌, ◌∷◌, [], List, ℕ, All, ap, arith, append_assoc, length, subst, sym, take}
use Rattle.std.proofs.Math.Seq.{take-length}
use Rattle.std.proofs.lemmas.List.{length-take-le}
use Rattle.std.specs.Prelude.{encode_utf8_all}
use Rattle.vt_syntax.specs.Class.{IsPlain}
use Rattle.vt_term.specs.Text.{glyphs_of}
use Rattle.vt_term.proofs.RowTexts.{plain-line, trimmed-glyphs}
use Rattle.vt_term.proofs.line.push_line.Goals as goal

-- a front that is the whole list
all-plain : (xs : List ℕ) (n : ℕ) → n ≡ length xs → All IsPlain (take n xs) → All IsPlain xs
all-plain xs n is plain = subst (All IsPlain) (ap (λ k. take k xs) is ∙ take-length xs) plain

pub returns-then-plain_run-end-clause-items : goal.returns-then-plain_run-end-clause-items
returns-then-plain_run-end-clause-items c =
    let codes : List ℕ = c.put_codes.new.codes in
    let end : ℕ = c.end_of_text-end.result in
    let long : length codes ≡ 256 = c.put_codes.array_long in
    let within = c.end_of_text-end.ensures.within in
    let short : length (take (length c.args.cells.now) codes) ≡ length c.args.cells.now =
    length-take-le (length c.args.cells.now) codes (omega (arith, long, c.requires.few)) in
    let inside : length (take end codes) ≡ end =
    length-take-le end codes (omega (arith, long, short, within, c.requires.few)) in
    let plain : All IsPlain (take end codes) =
    all-plain (take end codes) c.plain_run.result (c.if-plain_run-end.true ∙ sym inside) c.plain_run.ensures.plain in
    rw c.unwrap.ensures at c.extend_from_slice.ensures.items
    ∙ ap (λ (t : List ℕ). c.args.out.now.items ++ t)
    (plain-line c.args.cells.now codes end (omega (arith, long, c.requires.few)) (omega (arith, short, within))
    c.put_codes.ensures.glyphs c.put_codes.ensures.codes c.end_of_text-end.ensures.text plain)

pub returns-else-plain_run-end-clause-items : goal.returns-else-plain_run-end-clause-items
returns-else-plain_run-end-clause-items c =
    let long = c.put_codes.array_long in
    let shown = encode_utf8_all (glyphs_of (take c.end_of_text-end.result c.args.cells.now)) in
    rw c.unwrap-else-plain_run-end.ensures at c.extend_from_slice-else-plain_run-end.ensures.items
    ∙ ap (λ (t : List ℕ). c.args.out.now.items ++ t)
    (c.as_slice.ensures.value ∙ c.push.ensures.items ∙ ap (λ (t : List ℕ). t ++ 0x0A ∷ []) c.push_characters.ensures.items
    ∙ ap (λ (t : List ℕ). (t ++ shown) ++ 0x0A ∷ []) c.new-text.ensures
    ∙ ap (λ (t : List ℕ). encode_utf8_all t ++ 0x0A ∷ [])
    (trimmed-glyphs c.args.cells.now c.put_codes.new.codes c.end_of_text-end.result (omega (arith, long, c.requires.few))
    c.put_codes.ensures.glyphs c.put_codes.ensures.codes c.end_of_text-end.ensures.text))
