use Rattle.std.proofs.Common.{arith, sym, ap, ◌∙◌, length, length-append, length-drop, List, ℕ}
use Rattle.vt220_c.proofs.Pieces.{more-state, more-reports, more-lines, write-more, rest-of, kept-by}
use Rattle.vt220_c.proofs.Rung.{more-bells}
use Rattle.vt220_c.proofs.inner.Inner.feed_log.Goals as goal

pub loop-taken-preserved : goal.loop-taken-preserved
loop-taken-preserved c =
    let rest = rest-of c.args.piece.now c.loop-taken.taken in
    let front = rw rest at c.feed_log_front-front.ensures in
    let inside = simp length-drop at front.within in
    let before = c.loop-taken.invariant in
    let n = c.feed_log_front-front.result.taken in
    let reports = more-reports c.sized_cuts.ensures.two _ _ _ _ n before.state in
    let lines = more-lines c.sized_log_cuts.ensures.two _ _ _ _ n before.state in
    record {
      within = omega (arith, inside);
      state = more-state c.sized_cuts.ensures.two _ _ _ _ n before.state _ front.state;
      written = rw (before.written, front.written) (sym (length-append _ _) ∙ ap (λ (xs : List ℕ). length xs) reports);
      out = write-more _ _ _ _ _ _ _ reports before.written before.out front.out;
      fits = omega (arith, front.fits, c.loop-taken.auto.out);
      lines_written = rw (before.lines_written, front.lines_written) (sym (length-append _ _)
          ∙ ap (λ (xs : List ℕ). length xs) lines);
      lines = write-more _ _ _ _ _ _ _ lines before.lines_written before.lines front.lines;
      lines_fit = omega (arith, front.lines_fit, c.loop-taken.auto.lines);
      capacity = omega (arith, before.capacity, front.capacity);
      few = omega (arith, before.few, front.few_bells);
      few_reports = omega (arith, before.few_reports, front.few);
      size = kept-by _ _ c.feed_log_front-front.result.taken _ front.state ∙ before.size;
      bells = more-bells c.one_split.ensures _ _ _ _ n _ _ before.state before.bells (sym front.bells);
    }
