use Rattle.std.proofs.Common.{◌≡◌, ◌+◌, false, true, length, arith, refl, sym, ap, ◌∙◌}
use Rattle.vt_screen.specs.Cells.{brush_of}
use Rattle.vt_screen.specs.Grid.{Grid, row_of, cell_at}
use Rattle.vt_paint.specs.Same.{is_blank}
use Rattle.vt_paint.specs.Private.HeaderParts.{brush_number}
use Rattle.vt_paint.specs.Pieces.{glyph_events}
use Rattle.vt_paint.proofs.Pushing.{cell-is}
use Rattle.vt_paint.proofs.RowRuns.{goes_on, first_fresh, blank_fresh, run_fresh, none_written, first_written}
use Rattle.vt_paint.proofs.RowRuns.{behind_all, more_written, goes_on-shows, goes_on-brush}
use Rattle.vt_paint.proofs.RowLimits.{some-cells}
use Rattle.vt_paint.proofs.cells.put_row.Goals as goal

pub push_many-at-requires-clause-room : goal.push_many-at-requires-clause-room
push_many-at-requires-clause-room c =
    let fits = some-cells c.args.row c.loop-i.i (length c.args.cells.now) c.loop-i.invariant.within in
    omega (arith, c.loop-i.invariant.bounded, c.loop-i.invariant.capacity, c.requires.room, fits)

pub returns-clause-bounded : goal.returns-clause-bounded
returns-clause-bounded c =
    let fits = some-cells c.args.row c.loop-i.i (length c.args.cells.now) c.loop-i.invariant.within in
    omega (arith, c.loop-i.invariant.bounded, fits)

pub loop-i-init : goal.loop-i-init
loop-i-init c = record {
  items = λ g e. refl;
  fresh = λ g e l. first_fresh g c.args.row;
  within = omega arith;
  fits = omega arith;
  bounded = omega arith;
  capacity = omega arith;
}

-- a blank cell
pub loop-i-preserved : goal.loop-i-preserved
loop-i-preserved c =
    let r = c.args.row in
    let i = c.loop-i.i in
    let cell_is =
    λ (g : Grid) (e : c.args.cells.now ≡ row_of g r). cell-is g r i
    c.args.cells.now c.index-cells-i.result e (omega arith) c.index-cells-i.is in
    let shown : is_blank c.index-cells-i.result ≡ true = sym c.is_blank.ensures ∙ c.if-not-is_blank.false in
    record {
      items = λ g e. none_written g r i _ _ (ap (λ x. is_blank x) (sym (cell_is g e)) ∙ shown)
          (c.loop-i.invariant.items g e);
      fresh = λ g e l. blank_fresh g r (i + 1) (omega arith) (ap (λ x. is_blank x) (sym (cell_is g e)) ∙ shown);
      within = omega arith;
      fits = c.loop-i.invariant.fits;
      bounded = omega (arith, c.loop-i.invariant.bounded);
      capacity = c.loop-i.invariant.capacity;
    }

-- the first cell of a run
pub loop-i-then-not-is_blank-init : goal.loop-i-then-not-is_blank-init
unfolding glyph_events
loop-i-then-not-is_blank-init c =
    let r = c.args.row in
    let i = c.loop-i.i in
    let cell = c.index-cells-i.result in
    let cell_is =
    λ (g : Grid) (e : c.args.cells.now ≡ row_of g r). cell-is g r i
    c.args.cells.now cell e (omega arith) c.index-cells-i.is in
    let shown : is_blank cell ≡ false = sym c.is_blank.ensures ∙ c.if-not-is_blank.true in
    record {
      items = λ g e. first_written g r i cell _ _ _ _ _ (cell_is g e) (c.loop-i.invariant.fresh g e (omega arith)) shown
          refl
          (c.push_many-at.ensures.items ∙ c.loop-i.invariant.items g e)
          (behind_all _ _ _ _ (c.put_header-at.ensures.items (brush_of cell) c.of-run.ensures)) (behind_all _ _ _ _ c.put_glyph-at.ensures.items);
      left = λ g e. (
        ap (λ x. is_blank x) (sym (cell_is g e)) ∙ shown,
        c.of-run.ensures ∙ ap (λ x. brush_number (brush_of x)) (cell_is g e),
      );
      on = (omega arith, omega arith);
      within = omega arith;
      fits = omega (
        arith,
        c.push_many-at.ensures.few,
        c.put_header-at.ensures.few,
        c.put_glyph-at.ensures.bounded,
      );
      capacity = omega (arith, c.loop-i.invariant.capacity, c.push_many-at.ensures.capacity);
      bounded = omega (
        arith,
        c.loop-i.invariant.bounded,
        c.push_many-at.ensures.bounded,
        c.put_header-at.ensures.bounded,
        c.put_glyph-at.ensures.bounded,
      );
    }

-- the cell after a run
pub loop-i-preserved-else-goes_on : goal.loop-i-preserved-else-goes_on
loop-i-preserved-else-goes_on c =
    let r = c.args.row in
    let run = c.loop-i-then-not-is_blank in
    let next = c.index-cells-i-in-loop-i-then-not-is_blank in
    record {
      items = run.invariant.items;
      fresh = λ g e l.
          let here = cell-is g r run.i c.args.cells.now next.result e
          (omega arith) next.is in
          let on = c.goes_on.ensures (brush_of (cell_at g r run.i)) (run.invariant.left g e).1 in
          run_fresh g r run.i run.invariant.on.0 (ap (λ x. goes_on (cell_at g r run.i) x) (sym here) ∙ sym on
          ∙ c.if-goes_on.false);
      within = run.invariant.within;
      fits = omega (arith, run.invariant.fits, run.invariant.within, c.requires.len);
      bounded = run.invariant.bounded;
      capacity = run.invariant.capacity;
    }

-- one more cell of a run
pub loop-i-then-not-is_blank-preserved : goal.loop-i-then-not-is_blank-preserved
unfolding glyph_events
loop-i-then-not-is_blank-preserved c =
    let r = c.args.row in
    let run = c.loop-i-then-not-is_blank in
    let cell = c.index-cells-i-in-loop-i-then-not-is_blank in
    let same = c.index-cells-i-in-loop-i-then-not-is_blank-2 in
    let written = c.put_next-at.ensures in
    let cell_is =
    λ (g : Grid) (e : c.args.cells.now ≡ row_of g r). cell-is g r run.i
    c.args.cells.now cell.result e (omega arith) cell.is in
    let same_is =
    λ (g : Grid) (e : c.args.cells.now ≡ row_of g r). cell-is g r run.i
    c.args.cells.now same.result e (omega arith) same.is in
    let on = λ (g : Grid) (e : c.args.cells.now ≡ row_of g r). sym
    (c.goes_on.ensures (brush_of (cell_at g r run.i)) (run.invariant.left g e).1) ∙ c.if-goes_on.true in
    record {
      items = λ g e. more_written g r run.i same.result _ _ _ (same_is g e) run.invariant.on.0 (run.invariant.left g e).0
          (ap (λ x. goes_on (cell_at g r run.i) x) (same_is g e ∙ sym (cell_is g e)) ∙ on g e) (run.invariant.items g e)
          (behind_all _ _ _ _
          (written.items));
      left = λ g e. (
        ap (λ x. is_blank x) (sym (cell_is g e)) ∙ goes_on-shows (cell_at g r run.i) cell.result (on g e),
        (run.invariant.left g e).1
            ∙ ap (λ b. brush_number b) (goes_on-brush (cell_at g r run.i) cell.result (on g e)
            ∙ ap (λ x. brush_of x) (cell_is g e)),
      );
      on = (omega arith, omega (arith, run.invariant.on.1));
      within = omega arith;
      fits = omega (arith, run.invariant.fits, written.bounded);
      bounded = omega (arith, run.invariant.bounded, written.bounded);
      capacity = run.invariant.capacity;
    }
