use Rattle.std.proofs.Common.{◌≡◌, ◌∙◌, ◌-◌, ◌+◌, ◌<◌, ℕ, List, true, false, length, get_or, take, ap, arith, sym}
use Rattle.vt_screen.specs.declared.cell.Cell.{Cell}
use Rattle.vt_picture.specs.Looks.{is_blank, trimmed}
use Rattle.vt_picture.proofs.Trimming.{trimmed-take-blank, trimmed-take-shown}
use Rattle.vt_picture.proofs.looks.without_blank_end.Goals as goal
use Rattle.vt_picture.proofs.looks.without_blank_end.Goals.{then-loop-end-test+else-is_blank, else-loop-end-test}

pub loop-end-preserved : goal.loop-end-preserved
loop-end-preserved c =
    let cells : List Cell = c.args.cells.now in
    let last : ℕ = c.loop-end.end - 1 in
    let end : last + 1 ≡ c.loop-end.end = omega arith in
    let below : last < length cells = omega (arith, c.loop-end.invariant.within) in
    let cell : Cell = c.index-cells-end.result in
    let blank : is_blank (get_or cells last cell) ≡ true =
    ap is_blank (sym c.index-cells-end.is) ∙ sym c.is_blank.ensures ∙ c.if-is_blank.true in
    record {
      within = omega (arith, c.loop-end.invariant.within);
      same = c.loop-end.invariant.same ∙ ap (λ n. trimmed (take n cells)) (sym end)
          ∙ trimmed-take-blank cells last cell below blank;
    }

pub returns-clause-value : goal.returns-clause-value
returns-clause-value c =
    let cells : List Cell = c.args.cells.now in
    elim c.loop-end-test.branch [
      | then-loop-end-test+else-is_blank w ↦
          let last : ℕ = c.loop-end.end - 1 in
          let end : last + 1 ≡ c.loop-end.end = omega arith in
          let below : last < length cells = omega (arith, c.loop-end.invariant.within) in
          let cell : Cell = w.index-cells-end.result in
          let shown : is_blank (get_or cells last cell) ≡ false =
          ap is_blank (sym w.index-cells-end.is) ∙ sym w.is_blank.ensures ∙ w.if-is_blank.false in
          sym (c.loop-end.invariant.same ∙ ap (λ n. trimmed (take n cells)) (sym end)
          ∙ trimmed-take-shown cells last cell below shown ∙ ap (λ n. take n cells) end)
      | else-loop-end-test w ↦
          let none : c.loop-end.end ≡ 0 = omega (arith, w.loop-end-test.false) in
          ap (λ n. take n cells) none ∙ sym (c.loop-end.invariant.same ∙ ap (λ n. trimmed (take n cells)) none)
    ]
