use Rattle.std.proofs.Common.{arith, ◌∙◌}
use Rattle.vt_xterm_cell.proofs.Numbers.{bool_bit}
use Rattle.vt_xterm_cell.proofs.Writable.{alone, character_columns, wide_text, character_first}
use Rattle.vt_xterm_cell.proofs.cell.XtermCell.with_character.Goals as goal

pub invariant_of-result : goal.invariant_of-result
invariant_of-result c =
    rw c.cells-width.ensures.value (
      wide_text c.args.c _ _ (omega (arith, c.ranges.c.1.1)) (bool_bit _)
          (alone c.args.c _ (character_columns c.args.c c.ranges.c.0 (λ none. c.if-width-eq0.false (c.cells-width.ensures.value ∙ none)))),
      c.self.invariant.1,
    )

pub returns-clause-first : goal.returns-clause-first
returns-clause-first c =
    character_first c.args.c _ (omega (arith, c.ranges.c.1.1)) (λ none. c.if-width-eq0.false (c.cells-width.ensures.value ∙ none))
