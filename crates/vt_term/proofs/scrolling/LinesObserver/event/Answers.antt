use Rattle.std.proofs.Common.{refl, arith}
use Rattle.vt_syntax.specs.Event.{event_of}
use Rattle.vt_term.specs.Scrolling.{line_off, scrolls_off}
use Rattle.vt_term.proofs.Scrolled.{one-line, logs-one, line-fits}
use Rattle.vt_term.proofs.scrolling.LinesObserver.event.Goals as goal

pub returns : goal.returns
returns g c = λ s sound same is last.
    let few = c.push_line_off.ensures.bounded in
    let event = event_of c.args.kind c.args.values.now in (
      (
        refl,
        refl,
        refl,
        logs-one c.one_split.ensures c.args.self.now.limit s c.args.bytes.now c.args.self.now.lines.now.items
            c.push_line_off.new.lines.items (line_off event s.display) sound c.requires.some (one-line s c.args.bytes.now event is)
            (rw same (c.push_line_off.ensures.lines c.args.values.now)) (omega (arith, few)),
        c.push_line_off.ensures.capacity,
        λ fits. line-fits c.args.self.now.limit (scrolls_off event c.args.terminal.now.display) _ _ _ fits c.push_line_off.ensures.bounded
            (λ off. (c.requires.lets.0 off).1) (c.push_line_off.ensures.none c.args.values.now),
      ),
      c.event.ensures s sound same is last,
    )
