use Rattle.std.proofs.Common.{[], refl, arith}
use Rattle.std.specs.Prelude.{slice_index}
use Rattle.vt_syntax.specs.declared.event.Event.TheVariants.{Print}
use Rattle.vt_term.specs.Scrolling.{line_off, scrolls_off}
use Rattle.vt_term.proofs.Scrolled.{run-line, logs-one, line-fits, print-off}
use Rattle.vt_term.proofs.scrolling.LinesObserver.run.Goals as goal

pub returns : goal.returns
returns g c = λ s sound same between.
    let few = c.push_line_off.ensures.bounded in
    let bytes = c.args.bytes.now in (
      (
        refl,
        refl,
        refl,
        logs-one c.one_split.ensures c.args.self.now.limit s bytes c.args.self.now.lines.now.items c.push_line_off.new.lines.items
            (line_off (Print (slice_index bytes 0)) s.display) sound c.requires.some
            (run-line c.spelled.ensures s bytes between c.requires.graphic c.requires.some (rw same c.requires.fits.0.0))
            (rw same (c.push_line_off.ensures.lines [])) (omega (arith, few)),
        c.push_line_off.ensures.capacity,
        λ fits. line-fits c.args.self.now.limit (scrolls_off (Print (slice_index bytes 0)) c.args.terminal.now.display) _ _ _ fits
            c.push_line_off.ensures.bounded
            (λ off. (c.requires.fits.0.1 c.requires.some (print-off (slice_index bytes 0) c.args.terminal.now.display off)).1)
            (c.push_line_off.ensures.none []),
      ),
      c.run.ensures s sound same between,
    )
