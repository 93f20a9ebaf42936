use Rattle.std.proofs.Common.{◌≡◌, ◌∙◌, ◌-◌, ap, arith, refl}
use Rattle.vt_term.specs.State.{State}
use Rattle.vt_xterm.proofs.Times.{writing-step, step-fits, writing-end}
use Rattle.vt_xterm.proofs.bounded.write_times.Goals as goal

pub loop-init : goal.loop-init
loop-init c =
    let all : c.args.n - 0 ≡ c.args.n = omega arith in
    record { rest = rw all refl; held = refl; fits = c.requires }

pub loop-preserved : goal.loop-preserved
loop-preserved c =
    let next = c.write_glyph-after in record {
      rest = writing-step c.args.n c.loop.counter c.args.glyph c.loop.after next.result c.loop.terminal next.new.terminal
          c.loop.pages c.set_sides.new.self (omega arith) next.ensures.terminal next.ensures.sides c.set_sides.ensures
          ∙ c.loop.invariant.rest;
      held = ap (λ (s : State). s.held) next.ensures.terminal ∙ c.loop.invariant.held;
      fits = step-fits c.args.glyph c.loop.after next.result c.loop.terminal next.new.terminal next.ensures.terminal
          next.ensures.sides c.loop.invariant.fits;
    }

pub returns-clause-terminal : goal.returns-clause-terminal
returns-clause-terminal c =
    (writing-end c.args.glyph c.loop.counter c.args.sides c.loop.after c.args.terminal.now c.loop.terminal c.args.pages.now
    c.loop.pages c.args.n (omega arith) c.loop.invariant.rest c.loop.invariant.held).0

pub returns-clause-pages : goal.returns-clause-pages
returns-clause-pages c =
    (writing-end c.args.glyph c.loop.counter c.args.sides c.loop.after c.args.terminal.now c.loop.terminal c.args.pages.now
    c.loop.pages c.args.n (omega arith) c.loop.invariant.rest c.loop.invariant.held).1

pub write_glyph-after-requires : goal.write_glyph-after-requires
write_glyph-after-requires c = record { fits = c.loop.invariant.fits }
