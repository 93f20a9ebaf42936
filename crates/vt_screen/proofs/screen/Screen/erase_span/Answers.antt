use Rattle.std.proofs.Common.{rules, arith, ◌≡◌, ◌+◌, ◌&&◌, ap, sym, ◌∙◌}
use Rattle.std.proofs.lemmas.Bool.Decides.{nat_tests}
use Rattle.std.specs.Prelude.{nat_lt}
use Rattle.vt_screen.specs.Grid.{GridOf, changed_any, span_of, columns_of}
use Rattle.vt_screen.specs.Kinds.{erased_any}
use Rattle.vt_screen.proofs.Spans.{changed-same, changed-none, changed-more, span-more}
use Rattle.vt_screen.proofs.screen.Screen.erase_span.Goals.{then-each-row, else-each-row, then-each-to_row, else-each-to_row}
use Rattle.vt_screen.proofs.screen.Screen.erase_span.Goals as goal

pub loop-each-init : goal.loop-each-init
loop-each-init g c = record {
  erased = sym (changed-none g.C.Cells.cells.blank (erased_any g.C.Cells.cells c.args.selective c.args.empty) c.args.self.now
      (λ r k. span_of c.args.row c.args.column c.args.to_row c.args.to_column r k && nat_lt r c.args.row)
      c.width-width.ensures.grid.cells (λ r k r1 r24 k1 kw. grind (arith, nat_tests)));
  sound = c.width-width.ensures.sound;
}

pub loop-each-preserved : goal.loop-each-preserved
loop-each-preserved g c =
    let a = c.args in
    let each = c.loop-each.each in
    let change = erased_any g.C.Cells.cells a.selective a.empty in
    let first : (each ≡ a.row → c.if-each-row.from ≡ a.column) × ((each ≡ a.row → ⊥) → c.if-each-row.from ≡ 1) =
    elim c.if-each-row.branch [ then-each-row w ↦ search rules | else-each-row w ↦ search rules ] in
    let last : (each ≡ a.to_row → c.if-each-to_row.to ≡ a.to_column) × ((each ≡ a.to_row → ⊥) → c.if-each-to_row.to ≡ a.self.now.width) =
    elim c.if-each-to_row.branch [ then-each-to_row w ↦ search rules | else-each-to_row w ↦ search rules ] in
    record {
      erased = c.erase_with.ensures.grid
          ∙ ap (λ (d : GridOf g.row.C.Denot). changed_any g.C.Cells.cells.blank change d (columns_of each c.if-each-row.from c.if-each-to_row.to))
          c.loop-each.invariant.erased
          ∙ changed-more g.C.Cells.cells.blank change a.self.now
          (λ r k. span_of a.row a.column a.to_row a.to_column r k && nat_lt r each) (columns_of each c.if-each-row.from c.if-each-to_row.to)
          (λ r k. span_of a.row a.column a.to_row a.to_column r k && nat_lt r (each + 1))
          (λ r k r1 r24 k1 kw. span-more a.row a.column a.to_row a.to_column each c.if-each-row.from c.if-each-to_row.to
          a.self.now.width r k c.loop-each.auto.each (omega (arith, c.loop-each-test.true)) first last k1 kw);
      sound = c.erase_with.ensures.sound;
    }

pub returns-clause-grid : goal.returns-clause-grid
returns-clause-grid g c =
    let a = c.args in
    c.loop-each.invariant.erased
    ∙ changed-same g.C.Cells.cells.blank (erased_any g.C.Cells.cells a.selective a.empty) a.self.now _
    (span_of a.row a.column a.to_row a.to_column) (λ r k r1 r24 k1 kw. grind (arith, nat_tests, c.loop-each-test.false))
