use Rattle.std.proofs.Common.{◌≡◌, ◌&&◌}
use Rattle.std.specs.Prelude.{nat_lt}
use Rattle.vt_screen.specs.Grid.{IsSoundGridOf, changed_any, span_of}
use Rattle.vt_screen.specs.Kinds.{erased_any}
use Rattle.vt_screen.proofs.screen.Screen.erase_span.Given as goal

-- the rows of the span before this one are erased
abbrev pub invariant-loop-each : goal.invariant-loop-each
invariant-loop-each g l = record {
  erased : l.self ≡ changed_any g.C.Cells.cells.blank (erased_any g.C.Cells.cells l.selective l.empty) l.fn.self
      (λ r c. span_of l.row l.column l.to_row l.to_column r c && nat_lt r l.each);
  sound : IsSoundGridOf g.C.Cells.cells.shown l.self;
}
