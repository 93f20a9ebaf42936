use Rattle.std.proofs.Common.{◌∙◌, ◌++◌, ◌+◌, ◌-◌, drop, take, length, List, ℕ, ap, arith, sym, append_assoc, length-drop, take_all}
use Rattle.std.specs.Prelude.{encode_utf8_all}
use Rattle.vt_screen.specs.declared.cell.Cell.{Cell}
use Rattle.vt_term.specs.Text.{glyphs_of}
use Rattle.vt_term.proofs.RowTexts.{encoded-parts}
use Rattle.vt_term.proofs.line.push_characters.Goals as goal

pub loop-at-preserved : goal.loop-at-preserved
loop-at-preserved c =
    let cells = c.args.cells.now in
    let at : ℕ = c.loop-at.at in
    let n : ℕ = c.push_next-at.result in
    let front : List ℕ = encode_utf8_all (glyphs_of (take n (drop at cells))) in
    let rest : List ℕ = encode_utf8_all (glyphs_of (drop (at + n) cells)) in
    record {
      within = omega (arith, c.push_next-at.ensures.within, c.requires.long, c.loop-at.invariant.within);
      shown = ap (λ (t : List ℕ). t ++ rest)
          (c.push_next-at.ensures.items
          ∙ ap (λ (t : List Cell). c.loop-at.text.items ++ encode_utf8_all (glyphs_of (take n t)))
          (take_all (length cells - at) (drop at cells) (omega (arith, length-drop at cells))))
          ∙ append_assoc c.loop-at.text.items front rest
          ∙ ap (λ (t : List ℕ). c.loop-at.text.items ++ t) (sym (encoded-parts cells at n))
          ∙ c.loop-at.invariant.shown;
      bounded = omega (arith, c.push_next-at.ensures.bounded, c.loop-at.invariant.bounded);
    }
