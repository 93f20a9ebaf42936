use Rattle.std.proofs.Common.{◌≡◌, rules, subst}
use Rattle.vt_xterm_display.specs.Session.{Session}
use Rattle.vt_xterm_update.specs.Updates.{Updates}
use Rattle.vt_xterm_update.proofs.updating.send_choice.Goals as goal

pub returns-clause-leads : goal.returns-clause-leads
returns-clause-leads c =
    let led : Updates c.args.shown.now c.send_steps.new.shown c.args.out.now.items c.send_steps.new.out.items =
    search (rules, c.send_steps.ensures.led, c.if-not-send_steps.false) in
    let same : c.send_steps.new.shown ≡ c.args.to.now = c.same.ensures.0 (search (rules, c.if-not-same.false)) in
    subst (λ (u : Session). Updates c.args.shown.now u c.args.out.now.items c.send_steps.new.out.items) same led
