use Rattle.std.proofs.Common.{◌≡◌, ◌∙◌, ap, refl, rules, arith}
use Rattle.vt_screen.specs.declared.size.Size.{Size}
use Rattle.vt_xterm_repaint.specs.Limits.{repaint_limit}
use Rattle.vt_xterm_update.specs.Updates.{Updates}
use Rattle.vt_xterm_update.proofs.Turns.{updates-none, updates-then, updates-appended, appended_then}
use Rattle.vt_xterm_update.proofs.updating.send_steps.Goals as goal

pub loop-init : goal.loop-init
loop-init c =
    let limit : c.repaint_limit-limit.result ≡ repaint_limit c.args.to.now.screen.shown.grid.size =
    c.repaint_limit-limit.ensures ∙ ap (λ (z : Size). repaint_limit z) c.size.ensures.size in
    record {
      led = updates-none _ _;
      size = refl;
      limit = limit;
      end = omega arith;
      room = omega (arith, limit, c.requires);
      bounded = omega arith;
      capacity = omega arith;
    }

pub loop-preserved : goal.loop-preserved
loop-preserved c =
    let before = c.loop.invariant in
    let step : Updates c.loop.shown c.send_step.new.shown c.loop.out.items c.send_step.new.out.items =
    search (rules, c.send_step.ensures.led, c.if-not-send_step.false) in
    record {
      led = updates-then _ _ _ _ _ _ before.led step;
      size = c.send_step.ensures.size ∙ before.size;
      limit = before.limit;
      end = before.end;
      room = before.room;
      bounded = omega (arith, before.bounded, c.send_step.ensures.bounded);
      capacity = omega (arith, before.capacity, c.send_step.ensures.capacity);
    }

pub returns-then-not-send_step-clause-appended : goal.returns-then-not-send_step-clause-appended
returns-then-not-send_step-clause-appended c =
    appended_then _ _ _ (updates-appended _ _ _ _ c.loop.invariant.led) c.send_step.ensures.appended
